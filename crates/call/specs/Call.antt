-- Document 01, "Calls turned back": the shape that every call on a store has.
use Rattle.std.specs.Prelude.{Bool, true, false, not, List, ◌++◌, ℕ, zero, suc, length, drop, set, ltb, ⊤, Result, Ok, Err}
use Rattle.words.specs.Made.{Grown}
use Rattle.wellformed.specs.Form.{well_formed, used_words}
use Rattle.call.specs.declared.Answer.{Answer}
use Rattle.call.specs.declared.Answer.TheVariants as Answer-variants
use Rattle.call.specs.declared.Refusal.{Refusal}
use Rattle.call.specs.Refusals.{number_of}

-- ---- what a call answers, and what it leaves

pub data Reply : Type 0 where
  handle : ℕ → Reply
  number : ℕ → Reply
  flag : Bool → Reply
  accepted : Reply
  refused : ℕ → Reply
  -- a signed number, as its two's complement word
  signed_number : ℕ → Reply
  -- "first match, or absent"
  absent : Reply
  -- "a constant with its value, or a size alone": the constant's bits, the size as a signed number
  constant_bits : ℕ → Reply
  size_alone : ℕ → Reply

pub record Outcome : Type 0 where
  pub reply : Reply
  pub words : List ℕ

abbrev pub left : Reply → List ℕ → Outcome
left r ws = record { reply = r; words = ws }

-- the reply that each answer of a function stands for
abbrev pub made : Result ℕ Refusal → Reply
made (Ok h) = handle h
made (Err e) = refused (number_of e)

abbrev pub answered : Answer → Reply
answered (Answer-variants.Handle h) = handle h
answered (Answer-variants.Number n) = number n
answered (Answer-variants.Flag b) = flag b
answered (Answer-variants.Signed w) = signed_number w
answered Answer-variants.Absent = absent
answered (Answer-variants.Constant bits) = constant_bits bits
answered (Answer-variants.Size w) = size_alone w

abbrev pub told : Result Answer Refusal → Reply
told (Ok a) = answered a
told (Err e) = refused (number_of e)

abbrev pub done : Result ⊤ Refusal → Reply
done (Ok u) = accepted
done (Err e) = refused (number_of e)

-- ---- rows of refusals: "The lowest number that applies is given, and only then." A number of document 02 is "tested where its slip says". 0 is no refusal.

-- a row: its number, where its condition holds
infix 25 ◌when◌
abbrev pub ◌when◌ : ℕ → Bool → ℕ
n when true = n
n when false = 0

-- the first row that applies
infixr 20 ◌otherwise◌
abbrev pub ◌otherwise◌ : ℕ → ℕ → ℕ
zero otherwise rest = rest
suc n otherwise rest = suc n

-- ---- a call that makes entries

-- the words of a store once the used words have grown: behind them is what was there, and word 0 counts them
abbrev pub stored : Grown → List ℕ → List ℕ
stored g ws = set (g.words ++ drop (length g.words) ws) 0 (length g.words)

-- "The answer is the number alone; store and outputs keep every word."
abbrev pub settle : ℕ → Grown → List ℕ → Outcome
settle zero g ws = left (handle g.handle) (stored g ws)
settle (suc n) g ws = left (refused (suc n)) ws

-- row 1; the call's own rows, read off the used words; then row 12, "the entries to append do not fit"
unfoldable pub call : (List ℕ → ℕ) → (List ℕ → Grown) → List ℕ → Outcome
call rows op ws =
    settle
    (1 when not (well_formed ws)
    otherwise rows (used_words ws)
    otherwise 12 when ltb (length ws) (length (op (used_words ws)).words))
    (op (used_words ws)) ws

-- ---- a call that only reads

abbrev pub reply_after : ℕ → Reply → Reply
reply_after zero r = r
reply_after (suc n) r = refused (suc n)

-- row 1, and the call's own rows
unfoldable pub ask : (List ℕ → ℕ) → (List ℕ → Reply) → List ℕ → Outcome
ask rows answer ws = left (reply_after (1 when not (well_formed ws) otherwise rows (used_words ws)) (answer (used_words ws))) ws

-- ---- a call that fills a lent output

-- row 11: "output shorter than the answer", where the output has n words
abbrev pub output_rows : (List ℕ → ℕ) → (List ℕ → List ℕ) → ℕ → List ℕ → ℕ
output_rows rows answer n u = rows u otherwise 11 when ltb n (length (answer u))

-- it answers how many words it fills
abbrev pub fill : (List ℕ → ℕ) → (List ℕ → List ℕ) → ℕ → List ℕ → Outcome
fill rows answer n = ask (output_rows rows answer n) (λ u. number (length (answer u)))

-- "Words of an output past its answer keep", and "store and outputs keep every word" where the call is refused
abbrev pub output_after : ℕ → List ℕ → List ℕ → List ℕ
output_after zero answer out = answer ++ drop (length answer) out
output_after (suc n) answer out = out

-- what the output holds afterwards
unfoldable pub filled_output : (List ℕ → ℕ) → (List ℕ → List ℕ) → List ℕ → List ℕ → List ℕ
filled_output rows answer ws out = output_after (1 when not (well_formed ws) otherwise output_rows rows answer (length out) (used_words ws)) (answer (used_words ws)) out
