-- The meet of any two floats, as one table. Assumes nothing.
use mathlib.Core.Path.{◌≡◌}
use mathlib.Core.Bool.{true, false}
use mathlib.Core.List.{List, [], ◌∷◌, map}
use lib.IntN.{pos, neg_ℤ}
use lib.Ieee.{Float as F64}
use Rattle.type_float.specs.Single.{holds_single}
use Rattle.type_float.specs.declared.Reading.{Reading}
use Rattle.type_float.specs.declared.Reading.TheVariants.{Constant, Sized}
use Rattle.float_meet.specs.declared.FloatMeet.{FloatMeet}
-- the answers, of one width here: the first or second operand, size 32, size 64
use Rattle.float_meet.specs.declared.FloatMeet.TheVariants.{First as 1st, Second as 2nd, Single as f32, Double as f64}
use Rattle.float_meet.specs.FloatRule.{float_rule}

-- the six sorts of operand: -64, -32, a single constant, one that is not, 32, 64
abbrev pub six : F64 → F64 → List Reading
six single other = Sized (neg_ℤ (pos 64)) ∷ Sized (neg_ℤ (pos 32)) ∷ Constant single ∷ Constant other ∷ Sized (pos 32) ∷ Sized (pos 64) ∷ []

-- a row for each first operand, and in it an answer for each second operand
abbrev pub table_of : List Reading → List Reading → List (List FloatMeet)
table_of firsts seconds = map (λ r. map (float_rule r) seconds) firsts

-- "64 with any is 64; -64 yields; 32 with a constant not single is 64, with all else 32; -32 with a single constant is the constant, with
-- another 64; two constants are 32 if both single, else 64." Not said there, -64 with -64 and -32 with -32: "two floats of one negative
-- size give the first handle". The constants x and y are any that are single, v and w any that are not.
pub float_table : (x y v w : F64)
    → holds_single x ≡ true
    → holds_single y ≡ true
    → holds_single v ≡ false
    → holds_single w ≡ false
    → table_of (six x v) (six y w)
    -- -64   -32   y     w     32    64
    ≡ (1st ∷ 2nd ∷ 2nd ∷ 2nd ∷ 2nd ∷ f64 ∷ [])  -- -64
    ∷ (1st ∷ 1st ∷ 2nd ∷ f64 ∷ f32 ∷ f64 ∷ [])  -- -32
    ∷ (1st ∷ 1st ∷ f32 ∷ f64 ∷ f32 ∷ f64 ∷ [])  -- x, single
    ∷ (1st ∷ f64 ∷ f64 ∷ f64 ∷ f64 ∷ f64 ∷ [])  -- v, not single
    ∷ (1st ∷ f32 ∷ f32 ∷ f64 ∷ f32 ∷ f64 ∷ [])  -- 32
    ∷ (f64 ∷ f64 ∷ f64 ∷ f64 ∷ f64 ∷ f64 ∷ [])  -- 64
    ∷ []
unfolding float_rule
float_table x y v w xs ys vn wn = rw (xs, ys, vn, wn)
