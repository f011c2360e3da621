-- What an operation adds to the used words `u`, and what row 1 says of them alone. Not needed to believe what a call keeps (Keep.antt): the laws of the operations are said with it.
use Rattle.std.specs.Prelude.{◌≡◌, true, List, ◌++◌, ℕ, ◌≤◌, length, drop}
use Rattle.words.specs.Words.{fills}
use Rattle.words.specs.Table.{Row, entries, starts, Own}
use Rattle.words.specs.Made.{Grown}
use Rattle.words.specs.Ran.{HasSize}
use Rattle.bitset.specs.Bitset.{nowhere}
use Rattle.wellformed.specs.Entry.{ok_entry}
use Rattle.wellformed.specs.Form.{heads_at, ok_rows}
use Rattle.call.specs.Keep.{EndsOf, Ends}

-- row 1's words on entries, for the used words alone
pub record Sound (u : List ℕ) : Type 0 where
  pub low : 1 ≤ length u
  pub full : fills 0 (drop 1 u) ≡ true
  pub right : ok_rows u nowhere (entries u) ≡ true

-- an entry that row 1 accepts behind the used words; where their Ints have 64-bit ends, so has it
pub record Fitting (u e : List ℕ) : Type 0 where
  pub sized : HasSize e
  pub ok : ok_entry (heads_at (starts u) u) e ≡ true
  pub ends : Ends (entries u) → EndsOf e

-- an operation only adds entries, no second of its kind, and no Int whose ends are not 64-bit words
pub record Adds (u : List ℕ) (g : Grown) : Type 0 where
  pub sound : Sound g.words
  pub more : List ℕ
  pub is : g.words ≡ u ++ more
  pub extra : List Row
  pub rows : entries g.words ≡ entries u ++ extra
  pub own : Own (entries u) → Own (entries g.words)
  pub ends : Ends (entries u) → Ends (entries g.words)
