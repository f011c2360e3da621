-- The Ints at two handles, read from their words, meet in the Int that the definition says. Assumes nothing.
use mathlib.Core.Path.{◌≡◌}
use mathlib.Core.List.{List}
use Prim.Native.Nat.{ℕ, ◌+◌}
use lib.ListN.{get_or}
use Rattle.words.specs.Made.{make}
use Rattle.words.specs.Ran.{Ran}
use Rattle.std.specs.Prelude.{Option}
use Rattle.words.specs.declared.Interned.{Interned}
use Rattle.type_integer.specs.Signed.{smaller, larger}
use Rattle.words.specs.Columns.{word}
use Rattle.makers.specs.Entries.{int_entry}

pub met_int : (u : List ℕ) (a b kept : ℕ) (ws ws' : List ℕ) (r : Option Interned)
    → (x y min : ℕ) → x ≡ get_or u (a + 1) 0 → y ≡ get_or u (b + 1) 0 → min ≡ smaller x y
    → (z w max : ℕ) → z ≡ get_or u (a + 2) 0 → w ≡ get_or u (b + 2) 0 → max ≡ larger z w
    → Ran kept (make u (int_entry min max)) ws ws' r
    → Ran kept (make u (int_entry (smaller (word u (a + 1)) (word u (b + 1))) (larger (word u (a + 2)) (word u (b + 2))))) ws ws' r
met_int u a b kept ws ws' r x y min ex ey em z w max ez ew en t = rw (← ex, ← ey, ← ez, ← ew, ← em, ← en) t
