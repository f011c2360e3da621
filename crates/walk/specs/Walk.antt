-- Document 01, "dual, join" and "glb, lub, is_final, make_ro": dual, glb and lub, as one walk of a type. `u` is the used words, without any limit of room; a is the
-- operand. Which form an answer has, and what the three differ in, stands in walk_rules/specs/Tables.antt. "Parts are made first, left to right."
use Rattle.std.specs.Prelude.{List, [], ◌∷◌, ℕ, zero, suc}
use Rattle.words.specs.Made.{Grown, there}
use Rattle.words.specs.Columns.{kind_on, elements_on, field_types_on, target_on, nil_on, alias_on, inner_on}
use Rattle.wellformed.specs.FreshHandles.{bot}
use Rattle.meet.specs.Meet.{Many, led, tuple_of, pointer_of, memory_of}
use Rattle.walk_rules.specs.Tables.{form_for, int_of, float_of, nil_of, walk_fields}
use Rattle.walk_rules.specs.declared.Walk.{Walk}
use Rattle.walk_rules.specs.declared.Walk.TheVariants.{Dual}
use Rattle.walk_rules.specs.declared.Form.{Form}
use Rattle.walk_rules.specs.declared.Form.TheVariants.{Is, AnInt, AFloat, ATuple, AStruct, APointer, AMemory}

-- an operation on a handle
abbrev pub Op₁ : Type 0
Op₁ = List ℕ → ℕ → Grown

-- parts, one after another: the used words then, and the handles
unfoldable pub walk_each : Op₁ → List ℕ → List ℕ → Many
walk_each op u [] = record { words = u; handles = [] }
walk_each op u (x ∷ xs) = led (op u x).handle (walk_each op (op u x).words xs)

-- "parts are dualled", "parts likewise": a tuple's elements, a struct's field types
abbrev pub walk_elements : Op₁ → List ℕ → ℕ → Many
walk_elements op u a = walk_each op u (elements_on u a)

abbrev pub walk_field_types : Op₁ → List ℕ → ℕ → Many
walk_field_types op u a = walk_each op u (field_types_on u a)

abbrev pub walk_struct_of : Walk → ℕ → Many → Grown
walk_struct_of walk a m = walk_fields walk a m.handles m.words

unfoldable pub follow_form : Walk → Op₁ → List ℕ → ℕ → Form → Grown
follow_form walk op u a (Is h) = there u h
follow_form walk op u a AnInt = int_of walk a u
follow_form walk op u a AFloat = float_of walk a u
follow_form walk op u a ATuple = tuple_of (walk_elements op u a)
follow_form walk op u a AStruct = walk_struct_of walk a (walk_field_types op u a)
follow_form walk op u a APointer = pointer_of (nil_of walk (nil_on u a)) (op u (target_on u a))
-- "aliases .. stay"
follow_form walk op u a AMemory = memory_of (alias_on u a) (op u (inner_on u a))

-- The parts of an entry stand before it: n is above the handle, and falls with it; 0 is not come to. Every n above the handle gives the same (`walk_any`, proofs/Any.antt).
unfoldable pub walk_within : Walk → ℕ → Op₁
walk_within walk zero u a = there u bot
walk_within walk (suc n) u a = follow_form walk (walk_within walk n) u a (form_for walk a (kind_on u a))

-- the walk of a type: at the least n above it
abbrev pub walk_of : Walk → Op₁
walk_of walk u a = walk_within walk (suc a) u a

-- join is made with it
abbrev pub dual_of : Op₁
dual_of = walk_of Dual
