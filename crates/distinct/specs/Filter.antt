-- For the functions alone: a hash of an entry, what is noted of it in a set of bits, and what a pass over the entries gives.
use Rattle.std.specs.Prelude.{◌≡◌, ℕ, ◌+◌, ◌*◌, ◌/◌, ◌%◌, ◌^◌, ◌<◌, ◌≤◌, Bool, true, false, ◌&&◌, List, [], ◌∷◌, length, take, ◌≢◌, Result, Ok, Err}
use Rattle.words.specs.Words.{eqs}
use Rattle.words.specs.Table.{Row, RowIn, entries}
use Rattle.bitset.specs.Bitset.{word_bits, bit_at, also}
use Rattle.distinct.specs.Distinct.{own}
use Rattle.distinct.specs.declared.Stop.{Stop}
use Rattle.distinct.specs.declared.Stop.TheVariants.{Equal}

-- ---- a hash of an entry's words, in 64 bits. Nothing but speed depends on it

abbrev pub half : ℕ
half = 4294967296

abbrev pub lower_factor : ℕ
lower_factor = 2654435761

abbrev pub upper_factor : ℕ
upper_factor = 2246822519

unfoldable pub mixed : ℕ → ℕ → ℕ
mixed h w = ((h + w) % 2 ^ 64 % half * lower_factor + (h + w) % 2 ^ 64 / half * upper_factor) % 2 ^ 64

unfoldable pub hash_from : ℕ → List ℕ → ℕ
hash_from h [] = h
hash_from h (w ∷ ws) = hash_from (mixed h w) ws

unfoldable pub hash_of : List ℕ → ℕ
hash_of e = mixed (hash_from 0 e) (length e)

-- the entries are dealt into shares, by the hash's lowest bits
abbrev pub shares : ℕ
shares = 16

abbrev pub share : List ℕ → ℕ
share e = hash_of e % shares

-- four numbers are noted of a hash: what is left of it from bit 4, 19, 34 and 44 on, modulo the size of the set
abbrev pub first : ℕ
first = 16

abbrev pub second : ℕ
second = 524288

abbrev pub third : ℕ
third = 17179869184

abbrev pub fourth : ℕ
fourth = 17592186044416

-- a set of numbers below m holds the four of a hash
unfoldable pub set_in : (ℕ → Bool) → ℕ → ℕ → Bool
set_in b m h = b (h / first % m) && b (h / second % m) && b (h / third % m) && b (h / fourth % m)

-- the set with the four
unfoldable pub noted : (ℕ → Bool) → ℕ → ℕ → ℕ → Bool
noted b m h = also (h / fourth % m) (also (h / third % m) (also (h / second % m) (also (h / first % m) b)))

-- ---- entries with the same words

-- an entry before `to`, and not the one at `at`, has the words e
abbrev pub Copy : List ℕ → ℕ → ℕ → ℕ → List ℕ → Type 0
Copy ws used to at e = (q : Row) × (RowIn q (entries (take used ws))) × (q.at < to) × (q.at ≢ at) × (eqs q.words e ≡ true)

-- none has
abbrev pub Unlike : List ℕ → ℕ → ℕ → ℕ → List ℕ → Type 0
Unlike ws used to at e = (q : Row) → RowIn q (entries (take used ws)) → q.at < to → (q.at ≢ at) → eqs q.words e ≡ false

pub record Copied (ws : List ℕ) (used to at : ℕ) (e : List ℕ) (r : Bool) : Type 0 where
  pub yes_copy : r ≡ true → Copy ws used to at e
  pub no_copy : r ≡ false → Unlike ws used to at e

-- no entry before `at` has the words e
abbrev pub First : List ℕ → ℕ → ℕ → List ℕ → Type 0
First ws used at e = (q : Row) → RowIn q (entries (take used ws)) → q.at < at → eqs q.words e ≡ false

-- ---- a pass

-- the bits hold the hash of each entry before `at` whose share is from low to high
abbrev pub Noted : List ℕ → ℕ → ℕ → ℕ → ℕ → List ℕ → Type 0
Noted ws used low high at bits = (q : Row) → RowIn q (entries (take used ws)) → q.at < at → low ≤ share q.words → share q.words < high → set_in (bit_at bits) (word_bits * length bits) (hash_of q.words) ≡ true

-- what a step of a pass gives for the entry e at `at`
pub record Stepped (ws : List ℕ) (used low high at : ℕ) (e bits bits' : List ℕ) (r : Result ℕ Stop) : Type 0 where
  pub equal : r ≡ Err Equal → Copy ws used at at e
  pub like_none : (k : ℕ) → r ≡ Ok k → low ≤ share e → share e < high → First ws used at e
  pub note : (k : ℕ) → r ≡ Ok k → low ≤ share e → share e < high → set_in (bit_at bits') (word_bits * length bits) (hash_of e) ≡ true
  pub kept_notes : (g : ℕ) → set_in (bit_at bits) (word_bits * length bits) g ≡ true → set_in (bit_at bits') (word_bits * length bits) g ≡ true

-- each entry of a range of shares is like none before it
abbrev pub Clean : List ℕ → ℕ → ℕ → ℕ → ℕ → Type 0
Clean ws used low high at = (r : Row) → RowIn r (entries (take used ws)) → r.at < at → low ≤ share r.words → share r.words < high → First ws used r.at r.words

pub record Swept (ws : List ℕ) (used low high : ℕ) (r : Result ℕ Stop) : Type 0 where
  pub clean : (k : ℕ) → r ≡ Ok k → Clean ws used low high used
  pub not_own : r ≡ Err Equal → own (entries (take used ws)) ≡ false

-- what all passes tell: no two entries are equal, or two are, or neither
pub record Passed (rs : List Row) (r : Result (Unit {0}) Stop) : Type 0 where
  pub no_two : r ≡ Ok tt → own rs ≡ true
  pub not_own : r ≡ Err Equal → own rs ≡ false
