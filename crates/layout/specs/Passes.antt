-- What the two passes over the fields know of each log. Not needed to believe a definition: the layout does not speak of it.
use Rattle.std.specs.Prelude.{◌≡◌, cond, List, ℕ, ◌+◌, ◌*◌, ◌≤◌, eqb, get_or}
use Rattle.layout.specs.Layout.{width, widest, most_fields, bytes_of, bytes_wider}

-- all fields have at most these bytes
abbrev pub most_bytes : ℕ
most_bytes = 8 * most_fields

-- a field's bytes were added to the word of its log k
abbrev pub Added : ℕ → List ℕ → List ℕ → Type 0
Added k sums sums' = (j : ℕ) → get_or sums' j 0 ≡ get_or sums j 0 + cond (eqb j k) (width k) 0

-- word k of `sums` is the bytes of the fields of log k
abbrev pub Sums : List ℕ → List ℕ → Type 0
Sums logs sums = (k : ℕ) → get_or sums k 0 ≡ bytes_of k logs

-- word k of `next` is where the fields of log k start: behind all that are wider
abbrev pub Starts : List ℕ → List ℕ → Type 0
Starts logs next = (k : ℕ) → k ≤ widest → get_or next k 0 ≡ bytes_wider k logs
