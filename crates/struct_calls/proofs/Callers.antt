-- What is known of a handle where no row of a call on one entry applies. Assumes nothing.
use mathlib.Core.Path.{◌≡◌}
use mathlib.Core.Bool.{Bool, true, ◌&&◌}
use mathlib.Core.List.{List, [], ◌∷◌}
use Prim.Native.Nat.{ℕ, ◌≤◌, ◌<◌}
use native.Mathlib.Omega.{arith}
use borrow.Author.Tests.{not-false}
use lib.ListN.{length, take}
use Rattle.words.specs.Table.{starts}
use Rattle.words.specs.Columns.{word, kind_on}
use Rattle.wellformed.specs.Entry.{kind_at, all}
use Rattle.wellformed.proofs.Bools.{and_left}
use Rattle.call.specs.Handles.{no_entry, wrong_kind}
use Rattle.kept.proofs.Rows.{two_off}
use Rattle.parts.specs.Parts.{Good}
use Rattle.of_types.specs.OfTypes.{kind_rows}
use Rattle.of_structs.proofs.Callers.{handle_used}
use Rattle.every_call.specs.Cleared.{Cleared}

pub kind_passed : (p : ℕ → Bool) (h : ℕ) (u : List ℕ) → kind_rows p h u ≡ 0 → (starts u h ≡ true) × (p (kind_on u h) ≡ true)
unfolding kind_rows all
kind_passed p h u q =
    let x = two_off 1 2 (no_entry u (h ∷ [])) (wrong_kind u p (h ∷ [])) q in
    let s : (starts u h && true) ≡ true = not-false _ x.0 in
    let k : (kind_at (word u) p h && true) ≡ true = not-false _ x.1 in
    (and_left (starts u h) true s, and_left (kind_at (word u) p h) true k)

module _ {rows : List ℕ → ℕ} {ws : List ℕ} {used : ℕ} (c : Cleared rows [] ws used) where
  pub within : used ≤ length ws
  within = omega (arith, c.within)

  pub few_words : length ws ≤ 1048576
  few_words = omega (arith, c.small)

-- a handle that is an entry's stands in the used words
pub kind_used : (p : ℕ → Bool) (h : ℕ) {ws : List ℕ} {used : ℕ} → Cleared (kind_rows p h) [] ws used → h < used
kind_used p h {ws} {used} c = handle_used ws used (within c) c.good h (kind_passed p h (take used ws) c.passed).0
