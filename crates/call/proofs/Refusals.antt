-- The number of a refusal is not 0, so that the rows behind it are not read. Assumes nothing.
use mathlib.Core.Path.{◌≡◌, refl, sym, ap, ◌∙◌}
use Prim.Native.Nat.{ℕ, suc}
use Prim.Native.Nat.{pred}
use Rattle.std.proofs.Common.{Result, Ok, Err}
use Rattle.std.specs.Result.{IsErrAnd}
use Rattle.call.specs.declared.Refusal.{Refusal}
use Rattle.call.specs.declared.Refusal.TheVariants.{NoStore, NoEntry, WrongKind, WrongValue, TooMany, TooDeep, NoFields, PastFields, NoLogSize, NeverNil, ShortOutput, NoRoom, LongList, NoTrailer, WrongWords}
use Rattle.call.specs.Refusals.{number_of, row_of}
use Rattle.call.specs.Call.{◌otherwise◌}

pub numbered : (e : Refusal) → number_of e ≡ suc (pred (number_of e))
numbered NoStore = refl
numbered NoEntry = refl
numbered WrongKind = refl
numbered WrongValue = refl
numbered TooMany = refl
numbered TooDeep = refl
numbered NoFields = refl
numbered PastFields = refl
numbered NoLogSize = refl
numbered NeverNil = refl
numbered ShortOutput = refl
numbered NoRoom = refl
numbered LongList = refl
numbered NoTrailer = refl
numbered WrongWords = refl

-- the rows behind a refusal's
pub stays : (e : Refusal) (n : ℕ) → (number_of e otherwise n) ≡ number_of e
stays e n = rw (numbered e)

-- a row that turned a call back
pub row_turned : {T : Type 0} (r : Result T Refusal) (e : Refusal) (n : ℕ) → r ≡ Err e → row_of r ≡ n → n ≡ number_of e
row_turned r e n is q = sym q ∙ ap row_of is

-- what a `?` hands up
pub handed_up : {T : Type 0} (r : Result T Refusal) (e : Refusal) → IsErrAnd r (λ x. x ≡ e) → r ≡ Err e
handed_up (Ok x) e h = absurd h
handed_up (Err x) e h = ap Err h

-- rows before others: where they turn the call back by a `?`, and where they do not
pub first_rows : {T U : Type 0} (r : Result T Refusal) (s : Result U Refusal) (e : Refusal) (a b : ℕ) → row_of r ≡ a → r ≡ Err e → IsErrAnd s (λ x. x ≡ e) → row_of s ≡ (a otherwise b)
first_rows r s e a b is q h = rw (handed_up s e h) (sym (ap (λ (n : ℕ). n otherwise b) (row_turned r e a q is) ∙ stays e b))

pub no_row : {T : Type 0} (r : Result T Refusal) (x : T) (a : ℕ) → row_of r ≡ a → r ≡ Ok x → a ≡ 0
no_row r x a is q = sym is ∙ ap row_of q
