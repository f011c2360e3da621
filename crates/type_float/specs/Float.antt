-- A float's size and constant: "A float's size and constant travel as a struct holding the float".
use Rattle.std.specs.Prelude.{ℕ, Bool, cond, ◌||◌, ℤ, pos, nat_abs, ◌+ℤ◌, ◌-ℤ◌, eqb}
use Rattle.type_float.specs.declared.Float.{Float}
use Rattle.type_float.specs.declared.Reading.{Reading}
use Rattle.type_float.specs.declared.Reading.TheVariants.{Constant, Sized}

-- an entry keeps "sz + 64": the word that size 0 is kept as
abbrev pub stored_zero : ℕ
stored_zero = 64

-- the size that a stored word stands for
abbrev pub size_from : ℕ → ℤ
size_from w = pos w -ℤ pos stored_zero

-- for the functions alone: the word that is stored for a size
abbrev pub word_of : ℤ → ℕ
word_of sz = nat_abs (sz +ℤ pos stored_zero)

-- for the functions alone: the words of the five sizes, each sz + 64
abbrev pub is_size_word : ℕ → Bool
is_size_word w = eqb w 0 || eqb w 32 || eqb w 64 || eqb w 96 || eqb w 128

-- for the functions alone: the sizes 0, ±32, ±64
abbrev pub is_size : ℤ → Bool
is_size sz = eqb (nat_abs sz) 0 || eqb (nat_abs sz) 32 || eqb (nat_abs sz) 64

-- "A reading of a float is a constant with its value, or a size alone"; a constant has size 0
abbrev pub reading_of : Float → Reading
reading_of f = cond (eqb (nat_abs f.sz) 0) (Constant f.con) (Sized f.sz)
