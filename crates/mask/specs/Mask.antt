-- Document 01: "`mask`: bit k is 1 exactly if some number of the range has bit k; high ranges 0." That the mask defined here is so, bit by bit,
-- is the theorem `mask_bit` of proofs/Bits.antt.
use Rattle.std.specs.Prelude.{ℕ, zero, suc, ◌+◌, ◌*◌, ◌/◌, ◌%◌, ◌^◌, Bool, cond, not, ◌&&◌, ◌==◌}
use Rattle.type_integer.specs.Signed.{less}

-- the bits of two numbers of n bits above the highest bit in which they differ, and ones from there down; where they do not differ, the number
unfoldable pub agreed : ℕ → ℕ → ℕ → ℕ
agreed zero a b = a
agreed (suc n) a b = cond (a == b) a (1 + 2 * agreed n (a / 2) (b / 2))

-- the mask of the range from min to max, words of two's complement; "high ranges 0": those whose max is below their min
abbrev pub mask_of : ℕ → ℕ → ℕ
mask_of min max = cond (less max min) 0 (agreed 64 min max)

-- what the rule speaks of: whether a word has bit k
abbrev pub bit : ℕ → ℕ → Bool
bit k w = w / 2 ^ k % 2 == 1

-- and whether a word's number is of the range: not below min, and max not below it
abbrev pub in_range : ℕ → ℕ → ℕ → Bool
in_range min max w = not (less w min) && not (less max w)
