-- Document 01, "meet, isa", its sentence on floats: which float two readings meet in. All pairs in one table: proofs/Table.antt.
use Rattle.std.specs.Prelude.{Bool, false, not, ◌&&◌, ℕ, suc, ℤ, pos, negsuc, eqb}
use Rattle.rules.specs.Column.{◌⇒◌∣◌}
use Rattle.type_float.specs.Single.{holds_single}
use Rattle.type_float.specs.declared.Reading.{Reading}
use Rattle.type_float.specs.declared.Reading.TheVariants.{Constant, Sized}
use Rattle.float_meet.specs.declared.FloatMeet.{FloatMeet}
use Rattle.float_meet.specs.declared.FloatMeet.TheVariants.{First, Second, Single, Double}

-- the number is n; the number is -n
abbrev pub is_plus : ℕ → ℤ → Bool
is_plus n (pos m) = eqb m n
is_plus n (negsuc m) = false

abbrev pub is_minus : ℕ → ℤ → Bool
is_minus n (pos m) = false
is_minus n (negsuc m) = eqb (suc m) n

-- a size alone, and it is 64
abbrev pub is64 : Reading → Bool
is64 (Constant x) = false
is64 (Sized sz) = is_plus 64 sz

-- a size alone, and it is 32
abbrev pub is32 : Reading → Bool
is32 (Constant x) = false
is32 (Sized sz) = is_plus 32 sz

-- a size alone, and it is -32
abbrev pub is_minus32 : Reading → Bool
is_minus32 (Constant x) = false
is_minus32 (Sized sz) = is_minus 32 sz

-- a size alone, and it is -64
abbrev pub is_minus64 : Reading → Bool
is_minus64 (Constant x) = false
is_minus64 (Sized sz) = is_minus 64 sz

-- a constant that is single precision
abbrev pub is_single_constant : Reading → Bool
is_single_constant (Constant x) = holds_single x
is_single_constant (Sized sz) = false

-- a constant that is not single precision
abbrev pub is_constant_not_single : Reading → Bool
is_constant_not_single (Constant x) = not (holds_single x)
is_constant_not_single (Sized sz) = false

-- the answers: an operand itself (First, Second), size 32 (Single) or size 64 (Double)
unfoldable pub float_rule : Reading → Reading → FloatMeet
float_rule r s =
    -- "64 with any is 64"
    is64 r ⇒ Double ∣
    is64 s ⇒ Double ∣
    -- "-64 yields"; "two floats of one negative size give the first handle"
    is_minus64 s ⇒ First ∣
    is_minus64 r ⇒ Second ∣
    -- "32 with a constant not single is 64, with all else 32"
    is32 r && is_constant_not_single s ⇒ Double ∣
    is_constant_not_single r && is32 s ⇒ Double ∣
    is32 r ⇒ Single ∣
    is32 s ⇒ Single ∣
    -- "two floats of one negative size give the first handle"
    is_minus32 r && is_minus32 s ⇒ First ∣
    -- "-32 with a single constant is the constant, with another 64"
    is_minus32 r && is_single_constant s ⇒ Second ∣
    is_single_constant r && is_minus32 s ⇒ First ∣
    is_minus32 r ⇒ Double ∣
    is_minus32 s ⇒ Double ∣
    -- "two constants are 32 if both single, else 64"
    is_single_constant r && is_single_constant s ⇒ Single ∣
    Double
