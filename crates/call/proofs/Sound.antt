-- Operations keep the used words sound: making an entry that row 1 accepts, and one operation after another. Assumes nothing.
use mathlib.Core.Path.{◌≡◌, refl, sym, ◌∙◌}
use mathlib.Core.Bool.{true}
use mathlib.Core.Logic.{⊎_elim}
use mathlib.Core.List.Memᴰ
use mathlib.Core.List.{List, [], ◌∷◌, ◌++◌, append-nil, append_assoc}
use Prim.Native.Nat.{ℕ, ◌≤◌, ◌<◌}
use native.Mathlib.Omega.{arith}
use lib.ListN.{length, drop, get_or, length-drop, get_or-append}
use Rattle.words.specs.Table.{Row, entries, starts, RowIn, find_in}
use Rattle.words.specs.Made.{Grown, make}
use Rattle.std.specs.Prelude.{Option, Some, None}
use Rattle.words.proofs.Placed.{make_there, make_new}
use Rattle.words.proofs.Kept.{entries_append, make_appends}
use Rattle.words.proofs.Extend.{ext_length}
use Rattle.bitset.specs.Bitset.{nowhere}
use Rattle.wellformed.specs.Entry.{ok_entry}
use Rattle.wellformed.specs.Form.{heads_at, ok_rows}
use Rattle.call.specs.Keep.{Ends}
use Rattle.call.specs.Adds.{Sound, Fitting, Adds}
use Rattle.words.proofs.Handles.{rows_bound, at_row}
use Rattle.call.proofs.Agree.{heads_same, rows_same, rows_behind, starts_only}

-- a row of the used words stands in them, past word 0
pub in_used : (u : List ℕ) → 1 ≤ length u → (r : Row) → RowIn r (entries u) → (1 ≤ r.at) × (r.at < length u)
unfolding entries
in_used u low r m = let b = rows_bound 1 0 (drop 1 u) r m in (b.0, omega (arith, b.1, length-drop 1 u))

-- so does a handle that starts an entry
pub start_used : (u : List ℕ) → 1 ≤ length u → (h : ℕ) → starts u h ≡ true → (1 ≤ h) × (h < length u)
start_used u low h e =
    let r = at_row (entries u) h e in
    let b = in_used u low r.0 r.1 in
    (omega (arith, b.0, r.2), omega (arith, b.1, r.2))

module _ (u e : List ℕ) (s : Sound u) (f : Fitting u e) where
  still : (h : ℕ) → h < length u → get_or (u ++ e) h 0 ≡ get_or u h 0
  still h l = get_or-append u e 0 h l

  right_behind : ok_rows (u ++ e) nowhere (entries (u ++ e)) ≡ true
  unfolding ok_rows nowhere
  right_behind =
      let old : ok_rows (u ++ e) nowhere (entries u) ≡ true =
      rows_same (u ++ e) u (entries u) nowhere (λ h z. let no : ◌≡◌ {A = ℕ} 0 1 = cc in absurd (omega arith)) (λ r m. still r.at (in_used u s.low r m).1) ∙ s.right in
      let new : ok_entry (heads_at (starts u) (u ++ e)) e ≡ true =
      rw (heads_same (u ++ e) u (starts u) (λ h z. still h (start_used u s.low h z).1)) f.ok in
      rw (entries_append u e s.low s.full f.sized, rows_behind (u ++ e) (entries u) (record { at = length u; words = e } ∷ []) nowhere, old, starts_only (entries u), new)

  ends_behind : Ends (entries u) → Ends (entries (u ++ e))
  ends_behind n r m =
      let new : Row = record { at = length u; words = e } in
      let i : RowIn r (entries u ++ (new ∷ [])) = rw (entries_append u e s.low s.full f.sized) at m in
      ⊎_elim (λ (old : RowIn r (entries u)). n r old) (λ (j : RowIn r (new ∷ [])). rw (Memᴰ.eq_of_singleton j) (f.ends n)) (Memᴰ.append_cases (entries u) i)

  pub make_adds : Adds u (make u e)
  make_adds =
      let k = make_appends u e s.low s.full f.sized in
      record {
        sound = record { low = omega (arith, ext_length u (make u e).words k.ext, s.low); full = k.full; right = go (find_in u e) refl };
        more = k.ext.more;
        is = k.ext.is;
        extra = k.extra;
        rows = k.rows;
        own = k.own;
        ends = λ n. still_ends n (find_in u e) refl;
      }
    where
      go : (t : Option ℕ) → find_in u e ≡ t → ok_rows (make u e).words nowhere (entries (make u e).words) ≡ true
      go (Some h) q = rw (make_there u e h q) s.right
      go None q = rw (make_new u e q) right_behind

      still_ends : Ends (entries u) → (t : Option ℕ) → find_in u e ≡ t → Ends (entries (make u e).words)
      still_ends n (Some h) q = rw (make_there u e h q) n
      still_ends n None q = rw (make_new u e q) (ends_behind n)

-- an operation that makes nothing
pub adds_none : (u : List ℕ) (h : ℕ) → Sound u → Adds u (record { words = u; handle = h })
adds_none u h s = record { sound = s; more = []; is = sym (append-nil u); extra = []; rows = sym (append-nil (entries u)); own = λ o. o; ends = λ n. n }

-- one operation after another
pub adds_then : (u : List ℕ) (g g₂ : Grown) → Adds u g → Adds g.words g₂ → Adds u g₂
adds_then u g g₂ a b = record {
  sound = b.sound;
  more = a.more ++ b.more;
  is = b.is ∙ rw a.is (append_assoc u a.more b.more);
  extra = a.extra ++ b.extra;
  rows = b.rows ∙ rw a.rows (append_assoc (entries u) a.extra b.extra);
  own = λ o. b.own (a.own o);
  ends = λ n. b.ends (a.ends n);
}
