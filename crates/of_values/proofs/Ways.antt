-- Each way through the functions gives the line of the definition that it stands for. Assumes nothing.
use mathlib.Core.Path.{◌≡◌, sym, ◌∙◌}
use mathlib.Core.Bool.{Bool, true, false, cond}
use mathlib.Core.List.{List}
use Prim.Native.Nat.{ℕ}
use borrow.Author.Tests.{eq-eqb, ne_eqb}
use lib.Dec.{eqb}
use lib.IntN.{ℤ, nat_abs}
use lib.Ieee.{Float as F64, binary64, of_bits}
use mir.Syntax.{w8, w64}
use mir.Val.{SFits, to_z, of_z}
use mir.Facts.{to_z-of_z, sfits_widen}
use Rattle.words.specs.Columns.{min_on, max_on, size_on, bits_on}
use Rattle.call.specs.Call.{Reply, number, signed_number, absent, constant_bits, size_alone}
use Rattle.type_float.specs.declared.Float.{Float}
use Rattle.type_float.specs.declared.Reading.{Reading}
use Rattle.type_float.specs.declared.Reading.TheVariants.{Constant, Sized}
use Rattle.type_float.specs.Float.{size_from, is_size_word, reading_of}
use Rattle.type_float.specs.Single.{is_single}
use Rattle.meet_rules.specs.Rules.{reading_on}
use Rattle.mask.specs.Mask.{mask_of}
use Rattle.of_values.specs.OfValues.{int_value, mask_on, sz_on, reading_is, float_reading, value_is, float_value}
use Rattle.of_values.specs.Read.{ReadFrom}

module _ (u : List ℕ) (t : ℕ) where
  -- ---- of an Int

  module _ (min max : ℕ) (a : min ≡ min_on u t) (b : max ≡ max_on u t) where
    pub one_value : min ≡ max → signed_number min ≡ int_value u t
    unfolding int_value
    one_value e = rw (← a, ← b, eq-eqb min max e)

    pub no_value : (min ≡ max → ⊥) → absent ≡ int_value u t
    unfolding int_value
    no_value n = rw (← a, ← b, ne_eqb min max n)

    pub masked : (x : ℕ) → x ≡ mask_of min max → x ≡ mask_on u t
    masked x q = q ∙ rw (a, b)

  -- ---- of a Float

  pub sized_word : (w : ℕ) → w ≡ size_on u t → is_size_word (size_on u t) ≡ true → is_size_word w ≡ true
  sized_word w is e = rw is e

  pub single_word : (w : ℕ) → w ≡ bits_on u t → (b : Bool) → b ≡ is_single w → b ≡ is_single (bits_on u t)
  single_word w is b q = q ∙ rw is

  module _ (f : Float) where
    pub read_words : (size bits : ℕ) → size ≡ size_on u t → bits ≡ bits_on u t → (f.sz ≡ size_from size) × (f.con ≡ of_bits binary64 bits) → (f.sz ≡ size_from (size_on u t)) × (f.con ≡ of_bits binary64 (bits_on u t))
    read_words size bits a b q = (q.0 ∙ rw a, q.1 ∙ rw b)

    module _ (q : (f.sz ≡ size_from (size_on u t)) × (f.con ≡ of_bits binary64 (bits_on u t))) where
      pub read_reading : (r : Reading) → r ≡ reading_of f → r ≡ reading_on u t
      read_reading r e = e ∙ rw (q.0, q.1)

      pub read_size : SFits w8 f.sz → (x : ℕ) → x ≡ of_z w64 (to_z w64 (of_z w64 (to_z w8 (of_z w8 f.sz)))) → x ≡ sz_on u t
      read_size s x e = e ∙ rw (to_z-of_z s, to_z-of_z (sfits_widen {w = w8} {w' = w64} tt s), q.0)

pub wide : (z : ℤ) → SFits w8 z → SFits w64 (to_z w8 (of_z w8 z))
wide z s = rw (to_z-of_z s) (sfits_widen {w = w8} {w' = w64} tt s)

-- a reading that is known, as an answer
module _ (bits : ℕ) (r : Reading) where
  pub is_constant_is : (x : F64) → r ≡ Constant x → (b : ℕ) → b ≡ bits → constant_bits b ≡ reading_is bits r
  is_constant_is x e b q = rw (e, q)

  pub is_size_is : (z : ℤ) → SFits w8 z → r ≡ Sized z → (w : ℕ) → w ≡ of_z w64 (to_z w64 (of_z w64 (to_z w8 (of_z w8 z)))) → size_alone w ≡ reading_is bits r
  is_size_is z s e w q = rw (e, q, to_z-of_z s, to_z-of_z (sfits_widen {w = w8} {w' = w64} tt s))

  pub is_value : (x : F64) → r ≡ Constant x → (b : ℕ) → b ≡ bits → number b ≡ value_is bits r
  is_value x e b q = rw (e, q)

  pub is_none : (z : ℤ) → r ≡ Sized z → absent ≡ value_is bits r
  is_none z e = rw e

module _ (u : List ℕ) (t : ℕ) (r : Reading) (bits : ℕ) (e : r ≡ reading_on u t) (b : bits ≡ bits_on u t) (x : Reply) where
  pub told_reading : x ≡ reading_is bits r → x ≡ float_reading u t
  told_reading q = q ∙ rw (e, b)

  pub told_value : x ≡ value_is bits r → x ≡ float_value u t
  told_value q = q ∙ rw (e, b)

-- a constant that was read is the float's
pub read_from : (u : List ℕ) (t : ℕ) (r : Reading) (bits : ℕ) → r ≡ reading_on u t → bits ≡ bits_on u t → ReadFrom bits r
read_from u t r bits e b x q = go (eqb (nat_abs (size_from (size_on u t))) 0) (sym q ∙ e) ∙ rw b
  where
    got : {x y : F64} → Constant x ≡ Constant y → x ≡ y
    got e = cc

    go : (z : Bool) → Constant x ≡ cond z (Constant (of_bits binary64 (bits_on u t))) (Sized (size_from (size_on u t))) → x ≡ of_bits binary64 (bits_on u t)
    go true e = got e
    go false e = cc
