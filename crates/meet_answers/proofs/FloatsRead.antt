-- The floats at two handles, read from their words, meet in the handle that the definition says. Assumes nothing.
use mathlib.Core.Path.{◌≡◌, ◌∙◌}
use mathlib.Core.Bool.{true}
use mathlib.Core.List.{List}
use Prim.Native.Nat.{ℕ, ◌+◌}
use lib.Ieee.{binary64, of_bits}
use Rattle.type_float.specs.Float.{size_from, is_size_word, reading_of}
use Rattle.type_float.specs.declared.Float.{Float}
use Rattle.float_meet.specs.FloatRule.{float_rule}
use Rattle.float_meet.specs.declared.FloatMeet.{FloatMeet}
use Rattle.words.specs.Columns.{word}
use Rattle.meet_rules.specs.Rules.{reading_on, float_handle}

-- the word of a size, as it was read
pub size_read : (u : List ℕ) (p w : ℕ) → w ≡ word u p → is_size_word (word u p) ≡ true → is_size_word w ≡ true
size_read u p w is ok = rw is ok

-- the reading of the float f that is made of the two words after a head
pub float_read : (u : List ℕ) (h w v : ℕ) (f : Float) → w ≡ word u (h + 1) → v ≡ word u (h + 2) → (f.sz ≡ size_from w) × (f.con ≡ of_bits binary64 v) → reading_of f ≡ reading_on u h
float_read u h w v f p q is = rw (is.0, is.1, p, q)

pub floats_met : (u : List ℕ) (a b : ℕ) (f g : Float) → reading_of f ≡ reading_on u a → reading_of g ≡ reading_on u b → (m : FloatMeet) → m ≡ float_rule (reading_of f) (reading_of g)
    → (r : ℕ) → r ≡ float_handle a b m → r ≡ float_handle a b (float_rule (reading_on u a) (reading_on u b))
floats_met u a b f g p q m met r is = is ∙ rw (met, p, q)
