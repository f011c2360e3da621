-- A memory of answers: one word a line, key × 2 to the 20 + answer. A word of 0 is an empty line, a key of 0 is none. Which line a key gets is the code's
-- business: what a memory is right for does not depend on it.
use Rattle.std.specs.Prelude.{◌≡◌, ◌⊎◌, List, ℕ, ◌+◌, ◌*◌, ◌<◌, get_or}
use Rattle.std.specs.Prelude.{Option, Some, None}
use Rattle.words.specs.Ran.{interned}
use Rattle.words.specs.declared.Interned.{Interned}

-- an answer is a handle, below 2 to the 20: no store has more words
abbrev pub answers : ℕ
answers = 1048576

-- line i has this key and this answer
pub record Line (memo : List ℕ) (i key answer : ℕ) : Type 0 where
  pub some : (key ≡ 0 → ⊥)
  pub fits : answer < answers
  pub word : get_or memo i 0 ≡ key * answers + answer

-- P holds of every line that has a key
pub record Lines (P : ℕ → ℕ → Type 0) (memo : List ℕ) : Type 0 where
  pub line : (i key answer : ℕ) → Line memo i key answer → P key answer

-- an answer that is recalled stands in a line, with its key
pub record Tells (memo : List ℕ) (key : ℕ) (r : Option ℕ) : Type 0 where
  pub line : (h : ℕ) → r ≡ Some h → (i : ℕ) × Line memo i key h

-- each line is as it was, or has the key and the answer
pub record Noted (memo : List ℕ) (key answer : ℕ) (memo' : List ℕ) : Type 0 where
  pub line : (i : ℕ) → (get_or memo' i 0 ≡ get_or memo i 0) ⊎ Line memo' i key answer

-- the handle that an operation answered is noted; of an operation that had no room nothing is
pub record Learned (memo : List ℕ) (key : ℕ) (r : Option Interned) (memo' : List ℕ) : Type 0 where
  pub at : (h v : ℕ) → r ≡ interned h v → Noted memo key h memo'
  pub full : r ≡ None → memo' ≡ memo
