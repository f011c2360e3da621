-- The answers that walk no parts: an Int and a Float. Assumes nothing.
use mathlib.Core.Path.{◌≡◌, refl, sym, ap, ◌∙◌}
use mathlib.Core.Bool.{true}
use mathlib.Core.List.{List, ◌++◌}
use Prim.Native.Nat.{ℕ, ◌+◌, ◌-◌, ◌≤◌}
use native.Mathlib.Omega.{arith}
use borrow.Author.Tests.{eq-eqb, ne_eqb}
use lib.IntN.{ℤ}
use lib.ListN.{length, take, get_or, length-append, take-append-drop}
use lib.Seq.{length-take-le}
use Rattle.words.specs.Made.{make}
use Rattle.words.specs.Ran.{Segments, Ran}
use Rattle.std.specs.Prelude.{Option}
use Rattle.words.specs.Ran.{interned}
use Rattle.words.specs.declared.Interned.{Interned}
use Rattle.words.proofs.Room.{fit}
use Rattle.type_float.specs.Float.{size_from, word_of, is_size_word, is_size}
use Rattle.type_float.proofs.Size.{each_word, word_size, size_ok}
use Rattle.words.specs.Columns.{word}
use Rattle.makers.specs.Entries.{int_entry, float_entry}
use Rattle.walk_rules.specs.Tables.{int_of, float_of}
use Rattle.walk_rules.specs.declared.Walk.{Walk}
use Rattle.walk_rules.specs.declared.Walk.TheVariants.{Dual, Glb, Lub}

-- an answer that is there already
pub there-ran : (old new : List ℕ) (used : ℕ) → Segments old new used → (h : ℕ) → Ran used (record { words = take used (old ++ new); handle = h }) (old ++ new) (old ++ new) (interned h used)
there-ran old new used seg h =
    let ws = old ++ new in
    let room : used ≤ length ws = omega (arith, length-append old new, seg.high) in
    let long : length (take used ws) ≡ used = length-take-le used ws room in
    fit used _ ws ws h used (record { handle = refl; end = sym long; room = omega (arith, long, room); words = rw long (sym (take-append-drop used ws)) })

-- ---- Ints and Floats

pub int_dual : (w : Walk) (u : List ℕ) (a kept : ℕ) (ws ws' : List ℕ) (r : Option Interned) → w ≡ Dual → (x y : ℕ) → x ≡ get_or u (a + 2) 0 → y ≡ get_or u (a + 1) 0
    → Ran kept (make u (int_entry x y)) ws ws' r → Ran kept (int_of w a u) ws ws' r
int_dual w u a kept ws ws' r e x y ex ey t = rw (e, ← ex, ← ey) t

module _ (w : Walk) (old new : List ℕ) (used a : ℕ) (seg : Segments old new used) where
  pub int_glb : w ≡ Glb → Ran used (int_of w a (take used (old ++ new))) (old ++ new) (old ++ new) (interned 25 used)
  int_glb e = rw e (there-ran old new used seg 25)

  pub int_lub : w ≡ Lub → Ran used (int_of w a (take used (old ++ new))) (old ++ new) (old ++ new) (interned 22 used)
  int_lub e = rw e (there-ran old new used seg 22)

  pub float_glb : w ≡ Glb → Ran used (float_of w a (take used (old ++ new))) (old ++ new) (old ++ new) (interned 61 used)
  float_glb e = rw e (there-ran old new used seg 61)

  pub float_lub : w ≡ Lub → Ran used (float_of w a (take used (old ++ new))) (old ++ new) (old ++ new) (interned 49 used)
  float_lub e = rw e (there-ran old new used seg 49)

-- a constant
pub float_stays : (old new : List ℕ) (used a : ℕ) → Segments old new used → (size : ℕ) → size ≡ get_or (take used (old ++ new)) (a + 1) 0 → size ≡ 64 → Ran used (float_of Dual a (take used (old ++ new))) (old ++ new) (old ++ new) (interned a used)
float_stays old new used a seg size is e = rw (← is, eq-eqb size 64 e) (there-ran old new used seg a)

pub float_dual : (w : Walk) (u : List ℕ) (a kept : ℕ) (ws ws' : List ℕ) (r : Option Interned) → w ≡ Dual → Ran kept (float_of Dual a u) ws ws' r → Ran kept (float_of w a u) ws ws' r
float_dual w u a kept ws ws' r e t = rw e t

-- a size with the other sign
module _ (u : List ℕ) (a size : ℕ) (is : size ≡ get_or u (a + 1) 0) (ok : is_size_word (word u (a + 1)) ≡ true) where
  known : is_size_word size ≡ true
  known = rw is ok

  pub size_most : size ≤ 128
  size_most = each_word (λ w. w ≤ 128) (omega arith) (omega arith) (omega arith) (omega arith) (omega arith) size known

  pub other_known : is_size_word (128 - size) ≡ true
  other_known = each_word (λ w. is_size_word (128 - w) ≡ true) refl refl refl refl refl size known

  pub other_fits : (z : ℤ) → z ≡ size_from (128 - size) → is_size z ≡ true
  other_fits z e = rw e (size_ok (128 - size) other_known)

  pub other_sign : (size ≡ 64 → ⊥) → (z : ℤ) → z ≡ size_from (128 - size) → (kept : ℕ) (ws ws' : List ℕ) (r : Option Interned) → Ran kept (make u (float_entry (word_of z) 0)) ws ws' r → Ran kept (float_of Dual a u) ws ws' r
  other_sign n z e kept ws ws' r t =
      let q : word_of z ≡ 128 - size = ap word_of e ∙ word_size (128 - size) other_known in
      rw (← is, ne_eqb size 64 n) (rw q at t)
