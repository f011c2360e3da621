-- meet only ever appends to the used words. Assumes nothing.
use mathlib.Core.List.{List, [], ◌∷◌}
use Prim.Native.Nat.{ℕ, zero, suc, ◌+◌}
use Rattle.words.specs.Made.{Grown}
use Rattle.words.proofs.Extend.{Extends, ext_same, ext_then}
use Rattle.words.proofs.Placed.{make_extends}
use Rattle.words.specs.Columns.{word}
use Rattle.makers.specs.Entries.{tuple_entry, pointer_entry, memory_entry}
use Rattle.meet_rules.specs.Rules.{type_rule, struct_rule, shared_alias}
use Rattle.meet_rules.specs.declared.Rule.{Rule}
use Rattle.meet_rules.specs.declared.Rule.TheVariants.{First, Second, Bottom, Ints, Floats, Tuples, Structs, Pointers, Memories}
use Rattle.meet_rules.specs.declared.StructRule.{StructRule}
use Rattle.meet_rules.specs.declared.StructRule.TheVariants.{Former, Latter, Lowest, Fields}
use Rattle.structs.specs.Remade.{remake}
use Rattle.meet_fields.specs.Fields.{meet_fields}
use Rattle.meet.specs.Meet.{Op, Many, meet_each, meet_elements, tuple_of, meet_field_types, meet_struct_of, follow_struct, meet_struct, either_nil, pointer_of, memory_of, follow, meet_within}

abbrev pub Grows : Op → Type 0
Grows op = (u : List ℕ) (a b : ℕ) → Extends u (op u a b).words

pub tuple_grows : (m : Many) → Extends m.words (tuple_of m).words
tuple_grows m = make_extends m.words (tuple_entry m.handles m.words)

pub struct_grows : (a b : ℕ) (m : Many) → Extends m.words (meet_struct_of a b m).words
unfolding meet_fields remake
struct_grows a b m = make_extends m.words _

pub pointer_grows : (nil : ℕ) (s : Grown) → Extends s.words (pointer_of nil s).words
pointer_grows nil s = make_extends s.words (pointer_entry s.handle nil s.words)

pub memory_grows : (alias : ℕ) (t : Grown) → Extends t.words (memory_of alias t).words
memory_grows alias t = make_extends t.words (memory_entry alias t.handle t.words)

module _ (op : Op) (grows : Grows op) where
  pub each_grows : (u xs ys : List ℕ) → Extends u (meet_each op u xs ys).words
  unfolding meet_each
  each_grows u [] ys = ext_same u
  each_grows u (x ∷ xs) [] = ext_same u
  each_grows u (x ∷ xs) (y ∷ ys) = ext_then u (op u x y).words _ (grows u x y) (each_grows (op u x y).words xs ys)

  struct_by : (u : List ℕ) (a b : ℕ) (r : StructRule) → Extends u (follow_struct op u a b r).words
  unfolding follow_struct
  struct_by u a b Former = ext_same u
  struct_by u a b Latter = ext_same u
  struct_by u a b Lowest = ext_same u
  struct_by u a b Fields = ext_then u (meet_field_types op u a b).words _ (each_grows u _ _) (struct_grows a b (meet_field_types op u a b))

  pub structs_grow : Grows (meet_struct op)
  unfolding meet_struct
  structs_grow u a b = struct_by u a b (struct_rule u a b)

  follow_grows : (u : List ℕ) (a b : ℕ) (r : Rule) → Extends u (follow op u a b r).words
  unfolding follow
  follow_grows u a b First = ext_same u
  follow_grows u a b Second = ext_same u
  follow_grows u a b Bottom = ext_same u
  follow_grows u a b Ints = make_extends u _
  follow_grows u a b Floats = ext_same u
  follow_grows u a b Tuples = ext_then u (meet_elements op u a b).words _ (each_grows u _ _) (tuple_grows (meet_elements op u a b))
  follow_grows u a b Structs = structs_grow u a b
  follow_grows u a b Pointers =
      let s = meet_struct op u (word u (a + 1)) (word u (b + 1)) in
      ext_then u s.words _ (structs_grow u (word u (a + 1)) (word u (b + 1))) (pointer_grows (either_nil u a b) s)
  follow_grows u a b Memories =
      let t = op u (word u (a + 2)) (word u (b + 2)) in
      ext_then u t.words _ (grows u (word u (a + 2)) (word u (b + 2))) (memory_grows (shared_alias (word u (a + 1)) (word u (b + 1))) t)

pub meet_grows : (n : ℕ) → Grows (meet_within n)
unfolding meet_within
meet_grows zero u a b = ext_same u
meet_grows (suc n) u a b = follow_grows (meet_within n) (meet_grows n) u a b (type_rule u a b)
