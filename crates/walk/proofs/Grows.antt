-- A walk only ever appends to the used words. Assumes nothing.
use mathlib.Core.Bool.{Bool, true, false, cond}
use mathlib.Core.List.{List, [], ◌∷◌}
use Prim.Native.Nat.{ℕ, zero, suc, ◌+◌, ◌-◌}
use lib.Dec.{eqb}
use Rattle.words.specs.Made.{there, make}
use Rattle.words.proofs.Extend.{Extends, ext_same, ext_then}
use Rattle.words.proofs.Placed.{make_extends}
use Rattle.words.specs.Columns.{word, kind_on}
use Rattle.makers.specs.Entries.{int_entry, float_entry}
use Rattle.structs.specs.Remade.{remake}
use Rattle.meet.specs.Meet.{Many}
use Rattle.meet.proofs.Grows.{tuple_grows, pointer_grows, memory_grows}
use Rattle.walk_rules.specs.Tables.{form_for, int_of, float_of, nil_of, walk_fields}
use Rattle.walk_rules.specs.declared.Walk.{Walk}
use Rattle.walk_rules.specs.declared.Walk.TheVariants.{Dual, Glb, Lub}
use Rattle.walk_rules.specs.declared.Form.{Form}
use Rattle.walk_rules.specs.declared.Form.TheVariants.{Is, AnInt, AFloat, ATuple, AStruct, APointer, AMemory}
use Rattle.walk.specs.Walk.{Op₁, walk_each, walk_elements, walk_field_types, walk_struct_of, follow_form, walk_within}

abbrev pub Grows₁ : Op₁ → Type 0
Grows₁ op = (u : List ℕ) (a : ℕ) → Extends u (op u a).words

pub int_grows : (w : Walk) (a : ℕ) (u : List ℕ) → Extends u (int_of w a u).words
int_grows Dual a u = make_extends u (int_entry (word u (a + 2)) (word u (a + 1)))
int_grows Glb a u = ext_same u
int_grows Lub a u = ext_same u

pub float_grows : (w : Walk) (a : ℕ) (u : List ℕ) → Extends u (float_of w a u).words
float_grows Dual a u = go (eqb (word u (a + 1)) 64)
  where
    go : (t : Bool) → Extends u (cond t (there u a) (make u (float_entry (128 - word u (a + 1)) 0))).words
    go true = ext_same u
    go false = make_extends u (float_entry (128 - word u (a + 1)) 0)
float_grows Glb a u = ext_same u
float_grows Lub a u = ext_same u

pub struct_grows : (w : Walk) (a : ℕ) (m : Many) → Extends m.words (walk_struct_of w a m).words
unfolding walk_fields remake
struct_grows w a m = make_extends m.words _

module _ (w : Walk) (op : Op₁) (grows : Grows₁ op) where
  pub each_grows : (u xs : List ℕ) → Extends u (walk_each op u xs).words
  unfolding walk_each
  each_grows u [] = ext_same u
  each_grows u (x ∷ xs) = ext_then u (op u x).words _ (grows u x) (each_grows (op u x).words xs)

  follow_grows : (u : List ℕ) (a : ℕ) (f : Form) → Extends u (follow_form w op u a f).words
  unfolding follow_form
  follow_grows u a (Is h) = ext_same u
  follow_grows u a AnInt = int_grows w a u
  follow_grows u a AFloat = float_grows w a u
  follow_grows u a ATuple = ext_then u (walk_elements op u a).words _ (each_grows u _) (tuple_grows (walk_elements op u a))
  follow_grows u a AStruct = ext_then u (walk_field_types op u a).words _ (each_grows u _) (struct_grows w a (walk_field_types op u a))
  follow_grows u a APointer =
      let s = op u (word u (a + 1)) in
      ext_then u s.words _ (grows u (word u (a + 1))) (pointer_grows (nil_of w (word u (a + 2))) s)
  follow_grows u a AMemory =
      let t = op u (word u (a + 2)) in
      ext_then u t.words _ (grows u (word u (a + 2))) (memory_grows (word u (a + 1)) t)

pub walk_grows : (w : Walk) (n : ℕ) → Grows₁ (walk_within w n)
unfolding walk_within
walk_grows w zero u a = ext_same u
walk_grows w (suc n) u a = follow_grows w (walk_within w n) (walk_grows w n) u a (form_for w a (kind_on u a))
