-- What is told of the types of the fresh store, computed. Assumes nothing.
use mathlib.Core.Path.{◌≡◌, refl}
use mathlib.Core.List.{List, [], ◌∷◌, map}
use Prim.Native.Nat.{ℕ}
use lib.Count.{count_trailing_zeros}
use lib.Ieee.{fits, is_nan, of_bits, of_fields, odd}
use Rattle.wellformed.specs.Fresh.{fresh_words}
use Rattle.type_float.specs.Single.{is_single}
use Rattle.of_types.specs.declared.Side.TheVariants.{High, Constant, Low}
use Rattle.of_types.specs.OfTypes.{side_of, zero_of, make_zero_of, make_init_of, int_log_size, float_log_size, log_size}

abbrev fresh : List ℕ
fresh = 94 ∷ fresh_words

-- Bot, Top, Ctrl, XCtrl; 0..0, 0..1, top and bot; the Floats -64, -32, 0.0, 32, 64; a tuple, $TOP, Mem of Top; the four pointers
pub sides : map (side_of fresh) (5 ∷ 6 ∷ 7 ∷ 8 ∷ 9 ∷ 15 ∷ 22 ∷ 25 ∷ 49 ∷ 52 ∷ 55 ∷ 58 ∷ 61 ∷ 64 ∷ 18 ∷ 76 ∷ 82 ∷ 85 ∷ 88 ∷ 91 ∷ [])
    ≡ (Low ∷ High ∷ Low ∷ High ∷ Constant ∷ Low ∷ High ∷ Low ∷ High ∷ High ∷ Constant ∷ Low ∷ Low ∷ Low ∷ Low ∷ Low ∷ Low ∷ High ∷ Constant ∷ Low ∷ [])
unfolding side_of fresh_words
sides = refl

-- bool, i8, u8; i16, u16; i32, u32; bot; top, and the constant 2..2; the Floats -64, -32, 0.0, 32, 64; a pointer; Bot, a tuple, $TOP and Mem of Top have none
pub log_sizes : map (log_size fresh) (15 ∷ 31 ∷ 40 ∷ 34 ∷ 43 ∷ 37 ∷ 46 ∷ 25 ∷ 22 ∷ 28 ∷ 49 ∷ 52 ∷ 55 ∷ 58 ∷ 61 ∷ 91 ∷ 5 ∷ 64 ∷ 18 ∷ 76 ∷ [])
    ≡ (0 ∷ 0 ∷ 0 ∷ 1 ∷ 1 ∷ 2 ∷ 2 ∷ 3 ∷ 0 ∷ 0 ∷ 3 ∷ 2 ∷ 2 ∷ 2 ∷ 3 ∷ 2 ∷ 4 ∷ 4 ∷ 4 ∷ 4 ∷ [])
unfolding log_size int_log_size float_log_size is_single of_bits of_fields odd fits is_nan count_trailing_zeros fresh_words
log_sizes = refl

-- an Int, a Float, a pointer with nil, one without, Bot and a tuple
pub inits : map (make_init_of fresh) (25 ∷ 61 ∷ 82 ∷ 91 ∷ 5 ∷ 64 ∷ []) ≡ (9 ∷ 55 ∷ 88 ∷ 6 ∷ 5 ∷ 64 ∷ [])
unfolding make_init_of zero_of fresh_words
inits = refl

pub zeros : map (make_zero_of fresh) (25 ∷ 61 ∷ 82 ∷ 91 ∷ []) ≡ (9 ∷ 55 ∷ 88 ∷ 88 ∷ [])
unfolding zero_of fresh_words
zeros = refl
