-- make_ro only ever appends to the used words. Assumes nothing.
use mathlib.Core.Bool.{Bool, true, false, cond, not, ◌&&◌}
use mathlib.Core.List.{List, [], ◌∷◌}
use Prim.Native.Nat.{ℕ, zero, suc, ◌+◌, ◌%◌}
use lib.Dec.{eqb}
use Rattle.words.specs.Made.{Grown, there}
use Rattle.words.proofs.Extend.{Extends, ext_same, ext_then}
use Rattle.words.proofs.Placed.{make_extends}
use Rattle.words.specs.Columns.{word, kind_on}
use Rattle.structs.specs.Remade.{remake}
use Rattle.rules.specs.Column.{◌⇒◌∣◌}
use Rattle.meet.specs.Meet.{Many, pointer_of}
use Rattle.meet.proofs.Grows.{pointer_grows}
use Rattle.walk.specs.Walk.{Op₁}
use Rattle.walk.proofs.Grows.{Grows₁}
use Rattle.finals.specs.Final.{is_final_of}
use Rattle.make_ro.specs.ReadOnly.{field_type, read_only_each, read_only_field_types, read_only_struct_of, pointer_to, make_ro_within}

pub struct_grows : (a : ℕ) (m : Many) → Extends m.words (read_only_struct_of a m).words
unfolding remake
struct_grows a m = make_extends m.words _

pub pointer_to_grows : (u : List ℕ) (a : ℕ) (s : Grown) → Extends s.words (pointer_to u a s).words
pointer_to_grows u a s = go (eqb s.handle (word u (a + 1)))
  where
    go : (t : Bool) → Extends s.words (cond t (there s.words a) (pointer_of (word u (a + 2)) s)).words
    go true = ext_same s.words
    go false = pointer_grows (word u (a + 2)) s

module _ (op : Op₁) (grows : Grows₁ op) where
  pub field_grows : (u : List ℕ) (v t : ℕ) → Extends u (field_type op u v t).words
  field_grows u v t = go (eqb (v % 2) 1)
    where
      go : (f : Bool) → Extends u (cond f (there u t) (op u t)).words
      go true = ext_same u
      go false = grows u t

  pub each_grows : (u vs ts : List ℕ) → Extends u (read_only_each op u vs ts).words
  unfolding read_only_each
  each_grows u [] ts = ext_same u
  each_grows u (v ∷ vs) [] = ext_same u
  each_grows u (v ∷ vs) (t ∷ ts) = ext_then u (field_type op u v t).words _ (field_grows u v t) (each_grows (field_type op u v t).words vs ts)

  step_grows : (u : List ℕ) (a : ℕ) (p s : Bool) → Extends u (p ⇒ pointer_to u a (op u (word u (a + 1))) ∣ s ⇒ read_only_struct_of a (read_only_field_types op u a) ∣ there u a).words
  step_grows u a true s = let g = op u (word u (a + 1)) in ext_then u g.words _ (grows u (word u (a + 1))) (pointer_to_grows u a g)
  step_grows u a false true = ext_then u (read_only_field_types op u a).words _ (each_grows u _ _) (struct_grows a (read_only_field_types op u a))
  step_grows u a false false = ext_same u

pub make_ro_grows : (n : ℕ) → Grows₁ (make_ro_within n)
unfolding make_ro_within
make_ro_grows zero u a = ext_same u
make_ro_grows (suc n) u a = step_grows (make_ro_within n) (make_ro_grows n) u a (eqb (kind_on u a) 10) (eqb (kind_on u a) 8 && not (is_final_of u a))
