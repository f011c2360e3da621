-- A reply for callers in C or Rust: the number that a function returns, and what the words that are lent for the answer hold afterwards.
use Rattle.std.specs.Prelude.{◌≡◌, cond, List, ℕ}
use Rattle.call.specs.Call.{Reply, handle, number, flag, accepted, refused, signed_number, absent, constant_bits, size_alone, Outcome}
use Rattle.opened.specs.OpenStore.{OpenStore}

-- ---- the tables

-- what is returned: a refusal's number, and 0 where the call is not refused
abbrev pub status : Reply → ℕ
status (handle h) = 0
status (number n) = 0
status (flag b) = 0
status accepted = 0
status (refused n) = n
status (signed_number x) = 0
status absent = 0
status (constant_bits bits) = 0
status (size_alone x) = 0

-- what the answer's word holds afterwards, where it held w: a handle or number is itself, yes is 1 and no is 0, a signed number and a size are their two's complement
-- words, a constant is its bits. Where there is no answer the word keeps: the call is refused, it only accepts, or it tells that there is none
abbrev pub answer_after : Reply → ℕ → ℕ
answer_after (handle h) w = h
answer_after (number n) w = n
answer_after (flag b) w = cond b 1 0
answer_after accepted w = w
answer_after (refused n) w = w
answer_after (signed_number x) w = x
answer_after absent w = w
answer_after (constant_bits bits) w = bits
answer_after (size_alone x) w = x

-- of calls that answer in one of two ways, what the word that tells which holds afterwards, where it held w: 0 of "absent" and of a size alone, 1 of any other answer.
-- It keeps where the call is refused, or only accepts
abbrev pub which_after : Reply → ℕ → ℕ
which_after (handle h) w = 1
which_after (number n) w = 1
which_after (flag b) w = 1
which_after accepted w = w
which_after (refused n) w = w
which_after (signed_number x) w = 1
which_after absent w = 0
which_after (constant_bits bits) w = 1
which_after (size_alone x) w = 0

-- ---- what a function does, given the outcome of its call: r is returned, ws are the words that it leaves

-- a function with no lent word for an answer
pub record CodedDone (o : Outcome) (r : ℕ) (ws : List ℕ) : Type 0 where
  pub returned : r ≡ status o.reply
  pub words : ws ≡ o.words

-- a function whose answer's word held answer, and then answer'
pub record Coded (o : Outcome) (r : ℕ) (ws : List ℕ) (answer answer' : ℕ) : Type 0 where
  pub returned : r ≡ status o.reply
  pub words : ws ≡ o.words
  pub told : answer' ≡ answer_after o.reply answer

-- a function with two lent words
pub record CodedWhich (o : Outcome) (r : ℕ) (ws : List ℕ) (which which' answer answer' : ℕ) : Type 0 where
  pub returned : r ≡ status o.reply
  pub words : ws ≡ o.words
  pub chosen : which' ≡ which_after o.reply which
  pub told : answer' ≡ answer_after o.reply answer

-- an opening that returns 0 leaves an opened store; any other changes no word
pub record CodedOpening (ws index memory index' memory' : List ℕ) (r : ℕ) : Type 0 where
  pub opens : r ≡ 0 → OpenStore ws index' memory'
  pub kept : (r ≡ 0 → ⊥) → (index' ≡ index) × (memory' ≡ memory)
