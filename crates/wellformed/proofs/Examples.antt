-- Row 1's pieces on a few words, computed. Assumes nothing.
use mathlib.Core.Path.{◌≡◌, refl}
use mathlib.Core.Bool.{Bool, true, false}
use mathlib.Core.List.{List, [], ◌∷◌}
use Prim.Native.Nat.{ℕ}
use Rattle.words.specs.Kinds.{Name, Struct, MemPtr}
use Rattle.words.specs.Words.{head_of}
use Rattle.words.specs.Columns.{every}
use Rattle.bitset.specs.Bitset.{nowhere, also}
use Rattle.wellformed.specs.Entry.{no_head, is_name, is_type, is_struct, names_in, types_in, float_ok, zero_filled}
use Rattle.wellformed.specs.Form.{heads_at}

-- 255 is no kind: a handle that starts no earlier entry is no name, no type and no struct
pub no_kind : (is_name no_head ≡ false) × (is_type no_head ≡ false) × (is_struct no_head ≡ false)
no_kind = (refl, refl, refl)

-- the first words of a store: entries start at 1 and 3. The head at 3 is the word there; at 2, within the first entry, and at 5, which is not among them, it is 255
pub heads : let ws : List ℕ = 94 ∷ 262144 ∷ 1347376164 ∷ 262144 ∷ 1414480420 ∷ 257 ∷ [] in let start : ℕ → Bool = also 3 (also 1 nowhere) in
    (heads_at start ws 3 ≡ 262144) × (heads_at start ws 2 ≡ no_head) × (heads_at start ws 5 ≡ no_head)
unfolding heads_at also nowhere
heads = (refl, refl, refl)

-- the names and types within a struct of one field: the name 1, and the field named 3 of the type 9; within a pointer to 18; and within a name, none
pub parts : (names_in (head_of Struct 2 1 ∷ 1 ∷ 3 ∷ 9 ∷ 0 ∷ []) ≡ 1 ∷ 3 ∷ []) × (types_in (head_of Struct 2 1 ∷ 1 ∷ 3 ∷ 9 ∷ 0 ∷ []) ≡ 9 ∷ [])
    × (types_in (head_of MemPtr 2 0 ∷ 18 ∷ 1 ∷ []) ≡ 18 ∷ []) × (types_in (head_of Name 0 1 ∷ 35 ∷ []) ≡ [])
unfolding names_in types_in every
parts = (refl, refl, refl, refl)

-- "zero fill": the name "#" is the byte 35, with nothing behind it; a second byte behind the one that the head counts; eight bytes fill the word, whatever they are
pub filled : (zero_filled (head_of Name 0 1 ∷ 35 ∷ []) ≡ true) × (zero_filled (head_of Name 0 1 ∷ 8995 ∷ []) ≡ false) × (zero_filled (head_of Name 0 8 ∷ 18446744073709551615 ∷ []) ≡ true)
unfolding zero_filled
filled = (refl, refl, refl)

-- the stored sizes 0, 32, 64, 96, 128 without bits, and 64 with any; not 32 with bits, 16, or 160
pub sizes : (float_ok 0 0 ≡ true) × (float_ok 32 0 ≡ true) × (float_ok 64 0 ≡ true) × (float_ok 96 0 ≡ true) × (float_ok 128 0 ≡ true) × (float_ok 64 7 ≡ true)
    × (float_ok 32 7 ≡ false) × (float_ok 16 0 ≡ false) × (float_ok 160 0 ≡ false)
unfolding float_ok
sizes = (refl, refl, refl, refl, refl, refl, refl, refl, refl)
