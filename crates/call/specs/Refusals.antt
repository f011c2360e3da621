-- The numbers of the rows of refusals: document 01, "Calls turned back", and document 02, Slips 1 and 3.
use Rattle.std.specs.Prelude.{ℕ, Result, Ok, Err}
use Rattle.call.specs.declared.Refusal.{Refusal}
use Rattle.call.specs.declared.Refusal.TheVariants.{NoStore, NoEntry, WrongKind, WrongValue, TooMany, TooDeep, NoFields, PastFields, NoLogSize, NeverNil, ShortOutput, NoRoom, LongList, NoTrailer, WrongWords}

abbrev pub number_of : Refusal → ℕ
number_of NoStore = 1
number_of NoEntry = 2
number_of WrongKind = 3
number_of WrongValue = 4
number_of TooMany = 5
number_of TooDeep = 6
number_of NoFields = 7
number_of PastFields = 8
number_of NoLogSize = 9
number_of NeverNil = 10
number_of ShortOutput = 11
number_of NoRoom = 12
number_of LongList = 13
number_of NoTrailer = 14
number_of WrongWords = 15

-- the number of the row that turned a call back, 0 where none did
abbrev pub row_of : {T : Type 0} → Result T Refusal → ℕ
row_of (Ok x) = 0
row_of (Err e) = number_of e
