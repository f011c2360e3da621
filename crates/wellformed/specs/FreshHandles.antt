-- The types of the fresh store that a rule or an answer names, by the Rust's names: "A type of the fresh store named in a rule or an answer
-- is the entry at its handle there, and an equal copy in a damaged store is another type."
use Rattle.std.specs.Prelude.{ℕ}

abbrev pub bot : ℕ
bot = 5

abbrev pub top : ℕ
top = 6

abbrev pub ctrl : ℕ
ctrl = 7

abbrev pub xctrl : ℕ
xctrl = 8

-- the Ints 0..0 and 1..1
abbrev pub int_zero : ℕ
int_zero = 9

abbrev pub int_one : ℕ
int_one = 12

-- the Int 0..1
abbrev pub int_bool : ℕ
int_bool = 15

-- "$BOT and $TOP are handles 20 and 18"
abbrev pub struct_top : ℕ
struct_top = 18

abbrev pub struct_bot : ℕ
struct_bot = 20

-- "Ints 22 top (largest..smallest), 25 bot (smallest..largest)"
abbrev pub int_top : ℕ
int_top = 22

abbrev pub int_bot : ℕ
int_bot = 25

-- "31 i8, 34 i16, 37 i32, 40 u8, 43 u16, 46 u32"
abbrev pub int_i8 : ℕ
int_i8 = 31

abbrev pub int_i16 : ℕ
int_i16 = 34

abbrev pub int_i32 : ℕ
int_i32 = 37

abbrev pub int_u8 : ℕ
int_u8 = 40

abbrev pub int_u16 : ℕ
int_u16 = 43

abbrev pub int_u32 : ℕ
int_u32 = 46

-- the Float of size -64
abbrev pub float_top : ℕ
float_top = 49

-- the constant 0.0
abbrev pub float_zero : ℕ
float_zero = 55

-- "answers 64 and 32 are handles 61 and 58"
abbrev pub float_b32 : ℕ
float_b32 = 58

abbrev pub float_bot : ℕ
float_bot = 61

abbrev pub mem_top : ℕ
mem_top = 76

abbrev pub mem_bot : ℕ
mem_bot = 79

-- "85 ($TOP, not nil), 88 ($TOP, nil) "null", 91 ($BOT, not nil) "void""
abbrev pub ptr_top : ℕ
ptr_top = 85

abbrev pub ptr_null : ℕ
ptr_null = 88

abbrev pub ptr_void : ℕ
ptr_void = 91
