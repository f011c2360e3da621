-- Document 01, "The other calls": non_zero, "as the Rust". `u` is the used words, t a type.
use Rattle.std.specs.Prelude.{List, ℕ, ◌-◌, ◌^◌, eqb}
use Rattle.words.specs.Kinds.{Int, MemPtr}
use Rattle.words.specs.Columns.{kind_on, min_on, max_on}
use Rattle.words.specs.Made.{Grown, make, there}
use Rattle.wellformed.specs.FreshHandles.{ptr_void}
use Rattle.makers.specs.Entries.{int_entry}
use Rattle.type_integer.specs.Signed.{less, larger}
use Rattle.rules.specs.Column.{◌⇒◌∣◌}
use Rattle.walk_rules.specs.declared.Walk.TheVariants.{Glb}
use Rattle.walk.specs.Walk.{walk_of}

-- the word of -1
abbrev pub minus_one : ℕ
minus_one = 2 ^ 64 - 1

-- a range that begins or ends with 0 is cut there; "`non_zero` of 0..0 is 1..1"; a high range, and any other, is itself
abbrev pub non_zero_int : ℕ → ℕ → ℕ → List ℕ → Grown
non_zero_int t min max u =
    less max min ⇒ there u t ∣
    eqb min 0 ⇒ make u (int_entry 1 (larger max 1)) ∣
    eqb max 0 ⇒ make u (int_entry min minus_one) ∣
    there u t

-- a pointer is "void"; all else its glb
unfoldable pub non_zero_of : List ℕ → ℕ → Grown
non_zero_of u t =
    eqb (kind_on u t) Int ⇒ non_zero_int t (min_on u t) (max_on u t) u ∣
    eqb (kind_on u t) MemPtr ⇒ there u ptr_void ∣
    walk_of Glb u t
