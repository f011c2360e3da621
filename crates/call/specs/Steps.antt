-- What the steps of a call give, in its functions.
use Rattle.std.specs.Prelude.{◌≡◌, cond, List, ◌++◌, ℕ, ◌-◌, ◌≤◌, length, take, set, replicate, Result, Ok, Err}
use Rattle.words.specs.Table.{starts}
use Rattle.std.specs.Prelude.{Option, Some, None}
use Rattle.words.specs.declared.Interned.{Interned}
use Rattle.bitset.specs.Bitset.{bit_at}
use Rattle.wellformed.specs.Form.{well_formed, used_count}
use Rattle.call.specs.declared.Refusal.{Refusal}
use Rattle.call.specs.declared.Refusal.TheVariants.{NoStore}
use Rattle.call.specs.Call.{Outcome, left, handle, refused}

-- row 1: the number of used words of a well-formed store
unfoldable pub row_1 : List ℕ → Result ℕ Refusal
row_1 ws = cond (well_formed ws) (Ok (used_count ws)) (Err NoStore)

-- a store that row 1 has passed, with the bits that mark where its entries start
pub record Marked (ws bits : List ℕ) (used : ℕ) : Type 0 where
  pub within : used ≤ length ws
  pub marks : bit_at bits ≡ starts (take used ws)

-- `r` is the answer of row 1, with the bits of a store that it passes
pub record Beginning (ws bits : List ℕ) (r : Result ℕ Refusal) : Type 0 where
  pub is : r ≡ row_1 ws
  pub ready : (used : ℕ) → r ≡ Ok used → Marked ws bits used

-- the end of a call, in the words that its operation left: word 0, or the way back
unfoldable pub finish_in : ℕ → Option Interned → List ℕ → Outcome
finish_in used (Some m) ws = left (handle m.handle) (set ws 0 m.used)
finish_in used None ws = left (refused 12) (take used ws ++ replicate (length ws - used) 0)
