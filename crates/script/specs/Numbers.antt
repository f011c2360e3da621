-- What a word of a script says as a number: decimal, a negative one as its two's complement word, or 0x hex.
-- A word is the list of its bytes.
use Rattle.std.specs.Prelude.{Bool, true, cond, ◌&&◌, List, [], ◌∷◌, ℕ, ◌+◌, ◌-◌, ◌*◌, ◌%◌, ◌^◌, eqb, leb, ltb, length, get_or, drop, Option, Some, None}

-- a byte lies between two, these included
abbrev pub between : ℕ → ℕ → ℕ → Bool
between low high b = leb low b && leb b high

-- the bytes that numbers are written with
abbrev pub digit0 : ℕ
digit0 = 48

abbrev pub digit9 : ℕ
digit9 = 57

abbrev pub large_a : ℕ
large_a = 65

abbrev pub large_f : ℕ
large_f = 70

abbrev pub small_a : ℕ
small_a = 97

abbrev pub small_f : ℕ
small_f = 102

abbrev pub dash : ℕ
dash = 45

abbrev pub small_x : ℕ
small_x = 120

-- what a byte says as a digit: `0` to `9`, then `A` to `F` and `a` to `f`, of which `A` and `a` say 10; 16 where it is none
unfoldable pub digit_of : ℕ → ℕ
digit_of b =
    cond (between digit0 digit9 b) (b - digit0)
    (cond (between large_a large_f b) (b - (large_a - 10))
    (cond (between small_a small_f b) (b - (small_a - 10)) 16))

-- each byte is a digit of the base
unfoldable pub all_digits : ℕ → List ℕ → Bool
all_digits base [] = true
all_digits base (b ∷ bs) = ltb (digit_of b) base && all_digits base bs

-- the value of digits in a base, behind others whose value is `sum`
unfoldable pub value_from : ℕ → ℕ → List ℕ → ℕ
value_from base sum [] = sum
value_from base sum (b ∷ bs) = value_from base (sum * base + digit_of b) bs

-- that value, where all bytes are digits and 64 bits hold it
unfoldable pub summed : ℕ → ℕ → List ℕ → Option ℕ
summed base sum bs =
    cond (all_digits base bs && ltb (value_from base sum bs) (2 ^ 64)) (Some (value_from base sum bs)) None

-- one to `most` digits in a base
unfoldable pub unsigned_of : ℕ → ℕ → List ℕ → Option ℕ
unsigned_of base most bs = cond (between 1 most (length bs)) (summed base 0 bs) None

-- the two's complement of a magnitude of at most 2^63
unfoldable pub negative_of : Option ℕ → Option ℕ
negative_of (Some m) = cond (leb m (2 ^ 63)) (Some ((2 ^ 64 - m) % 2 ^ 64)) None
negative_of None = None

-- `-` and a magnitude; `0x` and 1 to 16 hex digits; else 1 to 20 decimal digits
unfoldable pub number_of : List ℕ → Option ℕ
number_of word =
    cond (eqb (get_or word 0 0) dash) (negative_of (unsigned_of 10 20 (drop 1 word)))
    (cond (eqb (get_or word 0 0) digit0 && eqb (get_or word 1 0) small_x) (unsigned_of 16 16 (drop 2 word))
    (unsigned_of 10 20 word))
