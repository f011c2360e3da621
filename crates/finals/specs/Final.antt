-- Document 01, "is_final follows pointers and fields down to the last struct; forward references and other types are final". `u` is the
-- used words, a is the type. A final field is one whose flags say so.
use Rattle.std.specs.Prelude.{Bool, true, cond, ◌&&◌, List, [], ◌∷◌, ℕ, zero, suc, eqb}
use Rattle.words.specs.Kinds.{Struct, MemPtr}
use Rattle.words.specs.Columns.{kind_on, field_types_on, flags_on, final_in, target_on}

-- fields: each is final, and so is its type; over the fields' flags and types
unfoldable pub all_final : (List ℕ → ℕ → Bool) → List ℕ → List ℕ → List ℕ → Bool
all_final isFinal u [] ts = true
-- not come to: each field has both
all_final isFinal u (v ∷ vs) [] = true
all_final isFinal u (v ∷ vs) (t ∷ ts) = eqb (final_in v) 1 && isFinal u t && all_final isFinal u vs ts

abbrev pub fields_final : (List ℕ → ℕ → Bool) → List ℕ → ℕ → Bool
fields_final isFinal u a = all_final isFinal u (flags_on u a) (field_types_on u a)

-- The parts of an entry stand before it: n is above the handle, and falls with it; 0 is not come to. Every n above the handle gives the same (`final_any`, proofs/Any.antt).
unfoldable pub is_final_within : ℕ → List ℕ → ℕ → Bool
is_final_within zero u a = true
is_final_within (suc n) u a =
    -- a pointer: its struct or forward reference
    cond (eqb (kind_on u a) MemPtr) (is_final_within n u (target_on u a))
    -- a struct: its fields
    (cond (eqb (kind_on u a) Struct) (fields_final (is_final_within n) u a)
    -- "forward references and other types are final"
    true)

-- is_final of a type: at the least n above it
abbrev pub is_final_of : List ℕ → ℕ → Bool
is_final_of u a = is_final_within (suc a) u a
