-- What the functions below the calls require of a store's words and leave of them. Not needed to believe a definition: a call's answer does not speak of it.
use Rattle.std.specs.Prelude.{◌≡◌, Bool, true, false, cond, List, [], ◌∷◌, ◌++◌, ℕ, ◌+◌, ◌≤◌, ◌<◌, length, take, drop, eqb, leb}
use Rattle.std.proofs.Math.Seq.{slice}
use Rattle.words.specs.Words.{size_of, fills}
use Rattle.words.specs.Columns.{word}
use Rattle.words.specs.Table.{Row, rows}
use Rattle.words.specs.Made.{Grown}
use Rattle.std.specs.Prelude.{Option, Some, None}
use Rattle.words.specs.declared.Interned.{Interned}

-- an entry has as many words as its head says
abbrev pub HasSize : List ℕ → Type 0
HasSize e = length e ≡ size_of (word e 0)

-- the words of a store in two segments, of which `used` are used: entries fill them from word 1 on, and `old` ends between two
pub record Segments (old new : List ℕ) (used : ℕ) : Type 0 where
  pub low : 1 ≤ used
  pub over : length old ≤ used
  pub high : used ≤ length old + length new
  pub cut : fills 0 (drop 1 old) ≡ true
  pub full : fills 0 (drop 1 (take used (old ++ new))) ≡ true

-- entries fill the used words u from position `from` on, and `old`, where it reaches so far
pub record Tail (old u : List ℕ) (from : ℕ) : Type 0 where
  pub within : from ≤ length u
  pub cut : from < length old → fills 0 (drop from old) ≡ true
  pub full : fills 0 (drop from u) ≡ true

-- the rows from the first with this head on: what is left once those before it are passed over
unfoldable pub from_head : ℕ → List Row → List Row
from_head head [] = []
from_head head (r ∷ rs) = cond (eqb (word r.words 0) head) (r ∷ rs) (from_head head rs)

-- r is where the first entry with this head stands among those of `ws` from `from` to `to`, or their end where there is none; `base` is the position of the first word
pub record PassedOver (ws : List ℕ) (from to head r : ℕ) : Type 0 where
  pub onward : from ≤ r
  pub filled : fills 0 (slice r to ws) ≡ true
  pub here : r < to → word ws r ≡ head
  pub left : (base : ℕ) → rows (base + r) 0 (slice r to ws) ≡ from_head head (rows (base + from) 0 (slice from to ws))

-- an entry at handle h, with so many words used
abbrev pub interned : ℕ → ℕ → Option Interned
interned h used = Some (record { handle = h; used = used })

-- the answer where there are n words in all
abbrev answer : Bool → Grown → Option Interned
answer true g = interned g.handle (length g.words)
answer false g = None

unfoldable pub answer_in : ℕ → Grown → Option Interned
answer_in n g = answer (leb (length g.words) n) g

-- r and ws' are what is left of the operation g on the words ws. Where the grown words fit, they stand at the front, and behind them is
-- what was there. Where they do not, only the first `kept` words are as they were.
pub record Ran (kept : ℕ) (g : Grown) (ws ws' : List ℕ) (r : Option Interned) : Type 0 where
  pub answer : r ≡ answer_in (length ws) g
  pub fits : length g.words ≤ length ws → ws' ≡ g.words ++ drop (length g.words) ws
  pub full : length ws < length g.words → take kept ws' ≡ take kept ws

-- the same for two segments: `op` is the operation on the used words, and `new'` what it leaves of the second segment
abbrev pub Runs : (List ℕ → Grown) → List ℕ → List ℕ → ℕ → List ℕ → Option Interned → Type 0
Runs op old new used new' r = Ran used (op (take used (old ++ new))) (old ++ new) (old ++ new') r
