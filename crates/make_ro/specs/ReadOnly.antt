-- Document 01, "make_ro: as the Rust": every field of a struct becomes final, and the type of a field that was not final is made read-only too, through pointers; the type of a field that
-- was final stays. `u` is the used words, without any limit of room; a is the operand. "Parts are made first, left to right."
use Rattle.std.specs.Prelude.{cond, not, ◌&&◌, List, [], ◌∷◌, ℕ, zero, suc, eqb, length, replicate}
use Rattle.words.specs.Kinds.{Struct, MemPtr}
use Rattle.words.specs.Made.{Grown, there}
use Rattle.words.specs.Columns.{kind_on, field_types_on, flags_on, final_in, target_on, nil_on}
use Rattle.rules.specs.Column.{◌⇒◌∣◌}
use Rattle.structs.specs.Remade.{remake}
use Rattle.meet.specs.Meet.{Many, led, pointer_of}
use Rattle.walk.specs.Walk.{Op₁}
use Rattle.finals.specs.Final.{is_final_of}

-- of a field with these flags and the type t: "make_ro keeps a final field's inner type"
abbrev pub field_type : Op₁ → List ℕ → ℕ → ℕ → Grown
field_type op u flags t = cond (eqb (final_in flags) 1) (there u t) (op u t)

-- the field types one after another, beside the fields' flags
unfoldable pub read_only_each : Op₁ → List ℕ → List ℕ → List ℕ → Many
read_only_each op u [] ts = record { words = u; handles = [] }
-- not come to: each field has both
read_only_each op u (v ∷ vs) [] = record { words = u; handles = [] }
read_only_each op u (v ∷ vs) (t ∷ ts) = led (field_type op u v t).handle (read_only_each op (field_type op u v t).words vs ts)

abbrev pub read_only_field_types : Op₁ → List ℕ → ℕ → Many
read_only_field_types op u a = read_only_each op u (flags_on u a) (field_types_on u a)

-- the struct with these types, every field final
abbrev pub read_only_struct_of : ℕ → Many → Grown
read_only_struct_of a m = remake a m.handles (replicate (length m.handles) 1) m.words

-- a pointer stays where its struct stays; else one to the new struct, with the same nil
abbrev pub pointer_to : List ℕ → ℕ → Grown → Grown
pointer_to u a s = cond (eqb s.handle (target_on u a)) (there s.words a) (pointer_of (nil_on u a) s)

-- The parts of an entry stand before it: n is above the handle, and falls with it; 0 is not come to. Every n above the handle gives the same (`make_ro_any`, proofs/Any.antt).
unfoldable pub make_ro_within : ℕ → Op₁
make_ro_within zero u a = there u a
make_ro_within (suc n) u a =
    eqb (kind_on u a) MemPtr ⇒ pointer_to u a (make_ro_within n u (target_on u a)) ∣
    -- a struct that is not final: one of its fields is not, or one that they lead to
    eqb (kind_on u a) Struct && not (is_final_of u a) ⇒ read_only_struct_of a (read_only_field_types (make_ro_within n) u a) ∣
    -- all other types: themselves
    there u a

-- the read-only form of a type: at the least n above it
abbrev pub make_ro_of : Op₁
make_ro_of u a = make_ro_within (suc a) u a
