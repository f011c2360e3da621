-- What stays right while words grow: handles that start entries, their heads, and the handle of an entry that was made. Assumes nothing.
use mathlib.Core.Path.{◌≡◌, refl, sym, ◌∙◌}
use mathlib.Core.Bool.{Bool, true}
use mathlib.Core.List.{List, [], ◌∷◌}
use Prim.Native.Nat.{ℕ, ◌*◌}
use native.Mathlib.Omega.{arith}
use lib.ListN.{length, get_or-append}
use Rattle.words.specs.Words.{kind_of}
use Rattle.words.specs.Table.{Row, entries, starts}
use Rattle.words.specs.Made.{Grown, make}
use Rattle.words.proofs.Kept.{make_in}
use Rattle.wellformed.specs.Entry.{is_name, all, deepest}
use Rattle.wellformed.proofs.Bools.{and_left, and_right, and_both}
use Rattle.words.specs.Columns.{word}
use Rattle.call.specs.Adds.{Sound, Adds}
use Rattle.call.proofs.Sound.{start_used}
use Rattle.words.proofs.Handles.{at_more, row_starts}
use Rattle.parts.proofs.Spot.{entry_head}
use Rattle.names.specs.Name.{name_entry}
use Rattle.names.proofs.NameEntry.{head_word, name_sized}
use Rattle.kept.proofs.Heads.{Agree, agree}
use Rattle.kept.proofs.Fits.{Right}

-- what holds wherever another test does
pub all_more : (t s : ℕ → Bool) → ((h : ℕ) → t h ≡ true → s h ≡ true) → (hs : List ℕ) → all t hs ≡ true → all s hs ≡ true
unfolding all
all_more t s more [] a = refl
all_more t s more (h ∷ hs) a = and_both (s h) (all s hs) (more h (and_left (t h) (all t hs) a)) (all_more t s more hs (and_right (t h) (all t hs) a))

-- ---- words that grew

module _ (u : List ℕ) (g : Grown) (s : Sound u) (a : Adds u g) where
  later_starts : (h : ℕ) → starts u h ≡ true → starts g.words h ≡ true
  later_starts h e = rw a.rows (at_more (entries u) a.extra h e)

  later_word : (h : ℕ) → starts u h ≡ true → word g.words h ≡ word u h
  later_word h e = rw a.is (get_or-append u a.more 0 h (start_used u s.low h e).1)

  later_heads : (hs : List ℕ) → all (starts u) hs ≡ true → Agree (word g.words) (word u) hs
  later_heads = agree (word g.words) (word u) (starts u) later_word

  pub later_right : (p : ℕ → Bool) (hs : List ℕ) → Right u p hs → Right g.words p hs
  later_right p hs r = record {
    start = all_more (starts u) (starts g.words) later_starts hs r.start;
    kinds = (later_heads hs r.start p).0 ∙ r.kinds;
  }

  pub later_deepest : (hs : List ℕ) → all (starts u) hs ≡ true → deepest (word g.words) hs ≡ deepest (word u) hs
  later_deepest hs e = (later_heads hs e is_name).1

-- the handle of a name that was made
pub name_right : (u bs : List ℕ) → Sound u → Right (make u (name_entry bs)).words is_name ((make u (name_entry bs)).handle ∷ [])
unfolding all
name_right u bs s =
    let g = make u (name_entry bs) in
    let m = make_in u (name_entry bs) s.low s.full (name_sized bs) in
    let r : Row = record { at = g.handle; words = name_entry bs } in
    let head : word g.words g.handle ≡ 65536 * length bs = entry_head g.words r m ∙ head_word bs in
    let k : kind_of (word g.words g.handle) ≡ 0 = omega arith in
    record { start = and_both (starts g.words g.handle) true (row_starts (entries g.words) r m) refl; kinds = rw k }
