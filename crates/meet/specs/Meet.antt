-- Document 01, "meet, isa". `u` is the used words, without any limit of room; a and b are the operands. Which rule decides stands in
-- meet_rules/specs/Rules.antt; here is what each rule answers. "Parts are made first, left to right."
use Rattle.std.specs.Prelude.{Bool, List, [], ◌∷◌, ℕ, zero, suc, max, eqb}
use Rattle.words.specs.Made.{Grown, there, make}
use Rattle.words.specs.Columns.{min_on, max_on, elements_on, field_types_on, target_on, nil_on, alias_on, inner_on}
use Rattle.type_integer.specs.Signed.{smaller, larger}
use Rattle.float_meet.specs.FloatRule.{float_rule}
use Rattle.makers.specs.Entries.{int_entry, tuple_entry, pointer_entry, memory_entry}
use Rattle.wellformed.specs.FreshHandles.{bot, struct_bot}
use Rattle.meet_rules.specs.Rules.{type_rule, struct_rule, reading_on, float_handle, shared_alias}
use Rattle.meet_rules.specs.declared.Rule.{Rule}
use Rattle.meet_rules.specs.declared.Rule.TheVariants.{First, Second, Bottom, Ints, Floats, Tuples, Structs, Pointers, Memories}
use Rattle.meet_rules.specs.declared.StructRule.{StructRule}
use Rattle.meet_rules.specs.declared.StructRule.TheVariants.{Former, Latter, Lowest, Fields}
use Rattle.meet_fields.specs.Fields.{meet_fields}

-- an operation on two handles
abbrev pub Op : Type 0
Op = List ℕ → ℕ → ℕ → Grown

-- ---- parts, one after another: the used words then, and the handles

pub record Many : Type 0 where
  pub words : List ℕ
  pub handles : List ℕ

abbrev pub led : ℕ → Many → Many
led h m = record { words = m.words; handles = h ∷ m.handles }

-- the meets of two lists of handles, which have one length where a rule comes here
unfoldable pub meet_each : Op → List ℕ → List ℕ → List ℕ → Many
meet_each meet u [] ys = record { words = u; handles = [] }
-- not come to
meet_each meet u (x ∷ xs) [] = record { words = u; handles = [] }
meet_each meet u (x ∷ xs) (y ∷ ys) = led (meet u x y).handle (meet_each meet (meet u x y).words xs ys)

-- ---- Ints: "smaller min, larger max"

abbrev pub meet_int : Op
meet_int u a b = make u (int_entry (smaller (min_on u a) (min_on u b)) (larger (max_on u a) (max_on u b)))

-- ---- Tuples: "by element"

abbrev pub meet_elements : Op → List ℕ → ℕ → ℕ → Many
meet_elements meet u a b = meet_each meet u (elements_on u a) (elements_on u b)

abbrev pub tuple_of : Many → Grown
tuple_of m = make m.words (tuple_entry m.handles m.words)

-- ---- Structs: "types meet, finals are or-ed"

abbrev pub meet_field_types : Op → List ℕ → ℕ → ℕ → Many
meet_field_types meet u a b = meet_each meet u (field_types_on u a) (field_types_on u b)

abbrev pub meet_struct_of : ℕ → ℕ → Many → Grown
meet_struct_of a b m = meet_fields a b m.handles m.words

unfoldable pub follow_struct : Op → List ℕ → ℕ → ℕ → StructRule → Grown
follow_struct meet u a b Former = there u a
follow_struct meet u a b Latter = there u b
follow_struct meet u a b Lowest = there u struct_bot
follow_struct meet u a b Fields = meet_struct_of a b (meet_field_types meet u a b)

unfoldable pub meet_struct : Op → Op
meet_struct meet u a b = follow_struct meet u a b (struct_rule u a b)

-- ---- Pointers: "structs meet, nils or-ed"

abbrev pub either_nil : List ℕ → ℕ → ℕ → ℕ
either_nil u a b = max (nil_on u a) (nil_on u b)

abbrev pub pointer_of : ℕ → Grown → Grown
pointer_of nil s = make s.words (pointer_entry s.handle nil s.words)

-- ---- Mem: "the shared alias or 4,294,967,295, and types meet"

abbrev pub memory_of : ℕ → Grown → Grown
memory_of alias t = make t.words (memory_entry alias t.handle t.words)

-- ---- types

unfoldable pub follow : Op → List ℕ → ℕ → ℕ → Rule → Grown
follow meet u a b First = there u a
follow meet u a b Second = there u b
follow meet u a b Bottom = there u bot
follow meet u a b Ints = meet_int u a b
follow meet u a b Floats = there u (float_handle a b (float_rule (reading_on u a) (reading_on u b)))
follow meet u a b Tuples = tuple_of (meet_elements meet u a b)
follow meet u a b Structs = meet_struct meet u a b
follow meet u a b Pointers = pointer_of (either_nil u a b) (meet_struct meet u (target_on u a) (target_on u b))
follow meet u a b Memories = memory_of (shared_alias (alias_on u a) (alias_on u b)) (meet u (inner_on u a) (inner_on u b))

-- The parts of an entry stand before it: n is above both handles, and falls with them; 0 is not come to. Every n above both gives the same (`meet_any`, proofs/Any.antt).
unfoldable pub meet_within : ℕ → Op
meet_within zero u a b = there u bot
meet_within (suc n) u a b = follow (meet_within n) u a b (type_rule u a b)

-- the meet of two types: at the least n above both
abbrev pub meet_of : Op
meet_of u a b = meet_within (suc (max a b)) u a b

-- "isa is yes if meet would hand back the second handle"
abbrev pub isa_of : List ℕ → ℕ → ℕ → Bool
isa_of u a b = eqb (meet_of u a b).handle b
