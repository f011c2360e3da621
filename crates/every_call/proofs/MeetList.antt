-- The merge of a list only appends; on good used words its answer is a type at most 32 deep; and it keeps what calls keep. Assumes nothing.
use mathlib.Core.Path.{◌≡◌}
use mathlib.Core.Bool.{true}
use mathlib.Core.List.{List, [], ◌∷◌}
use Prim.Native.Nat.{ℕ, suc, max}
use native.Mathlib.Omega.{arith}
use lib.Dec.{ltb}
use lib.ListN.{length}
use Rattle.words.proofs.Extend.{Extends, ext_same, ext_then}
use Rattle.wellformed.specs.Form.{well_formed, used_words}
use Rattle.call.specs.Handles.{types_rows}
use Rattle.call.specs.Keep.{Keeps}
use Rattle.call.proofs.Keep.{call_keeps}
use Rattle.call.proofs.Sound.{adds_none}
use Rattle.kept.proofs.Rows.{then_off}
use Rattle.parts.specs.Parts.{Good, All}
use Rattle.parts.proofs.Parts.{all_map}
use Rattle.parts.proofs.Good.{good_long, part_weak, top_part, well_good, good_adds}
use Rattle.meet.specs.Meet.{meet_of}
use Rattle.meet.proofs.Grows.{meet_grows}
use Rattle.join.proofs.Adds.{TypeIn, Given, after, later, met}
use Rattle.every_call.specs.MeetList.{merge_from, meet_list_of, longest_list, meet_list_rows, meet_list_call}
use Rattle.every_call.proofs.Parts.{types_parts}

pub merge_grows : (t : ℕ) (types u : List ℕ) → Extends u (merge_from t types u).words
unfolding merge_from
merge_grows t [] u = ext_same u
merge_grows t (h ∷ types) u =
    let m = meet_of u t h in
    ext_then u m.words _ (meet_grows (suc (max t h)) u t h) (merge_grows m.handle types m.words)

pub merge_given : (t : ℕ) (types u : List ℕ) → Good u → TypeIn u t → All (TypeIn u) types → Given u (merge_from t types u)
unfolding merge_from
merge_given t [] u g p ps = record { adds = adds_none u t g.sound; part = p }
merge_given t (h ∷ types) u g p ps =
    let m = meet_of u t h in
    let r = met u t h g p ps.0 in
    after m (merge_from m.handle types m.words) r (merge_given m.handle types m.words (good_adds g r.adds) r.part (all_map (λ k. later k g r) types ps.1))

-- Top, where the merge starts
pub top_in : (u : List ℕ) → Good u → TypeIn u 6
top_in u g = part_weak (length u) 33 (good_long g) (omega arith) (top_part g 33 (omega arith))

-- the handles of a list that no row turns back
pub list_parts : (types u : List ℕ) → Good u → meet_list_rows types u ≡ 0 → All (TypeIn u) types
unfolding meet_list_rows
list_parts types u g q = types_parts types u g (then_off 12 (ltb longest_list (length types)) (types_rows types u) q).1

pub meet_list_given : (types u : List ℕ) → Good u → meet_list_rows types u ≡ 0 → Given u (meet_list_of types u)
meet_list_given types u g q = merge_given 6 types u g (top_in u g) (list_parts types u g q)

pub meet_list_keeps : (types ws : List ℕ) → well_formed ws ≡ true → Keeps ws (meet_list_call types ws)
meet_list_keeps types ws ok = call_keeps (meet_list_rows types) (meet_list_of types) ws ok (λ s q. (meet_list_given types (used_words ws) (well_good ws ok) q).adds)
