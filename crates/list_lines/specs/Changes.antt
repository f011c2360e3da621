-- What the lines about the list are, and what they leave of it, and of the list that is remembered.
use Rattle.std.specs.Prelude.{◌≡◌, ◌≤◌, List, ℕ, Bool, Option, Some, replicate, set}
use Rattle.words.specs.Words.{eqs}
use Rattle.makers.specs.Makers.{fresh_call}
use Rattle.replies.specs.declared.Reply.{Reply}
use Rattle.replies.specs.Told.{told}
use Rattle.list_lines.specs.declared.Order.{Order}
use Rattle.list_lines.specs.declared.Order.TheVariants as Order-variants
use Rattle.list_lines.specs.declared.Closing.{Closing}
use Rattle.list_lines.specs.declared.Closing.TheVariants as Closing-variants
use Rattle.list_lines.specs.declared.Reading.{Reading}
use Rattle.list_lines.specs.declared.Reading.TheVariants as Reading-variants

-- a line that reads has k numbers: an entry that is looked for has a head at least
abbrev pub ReadsBy : Reading → ℕ → Type 0
ReadsBy (Reading-variants.Peek i) k = k ≡ 1
ReadsBy Reading-variants.Dump k = k ≡ 0
ReadsBy Reading-variants.DumpAll k = k ≡ 0
ReadsBy Reading-variants.Check k = k ≡ 0
ReadsBy Reading-variants.Keep k = k ≡ 0
ReadsBy Reading-variants.Kept k = k ≡ 0
ReadsBy Reading-variants.FindEntry k = 1 ≤ k

-- so has one that closes it
abbrev pub ClosesBy : Closing → ℕ → Type 0
ClosesBy (Closing-variants.List n value) k = (1 ≤ k) × (k ≤ 2)
ClosesBy Closing-variants.Fresh k = k ≡ 0
ClosesBy (Closing-variants.FreshIn n) k = k ≡ 1
ClosesBy (Closing-variants.Poke i value) k = k ≡ 2
ClosesBy Closing-variants.Close k = k ≡ 0

-- so has any line about the list; of another line nothing is said
abbrev pub IsBy : Order → ℕ → Type 0
IsBy (Order-variants.Close closing) k = ClosesBy closing k
IsBy (Order-variants.Read reading) k = ReadsBy reading k
IsBy Order-variants.Open k = k ≡ 0
IsBy Order-variants.Call k = Unit

-- the list, once a line that closes it was accepted
abbrev pub changed : Closing → List ℕ → List ℕ
changed (Closing-variants.List n value) ws = replicate n value
changed Closing-variants.Fresh ws = (fresh_call ws).words
changed (Closing-variants.FreshIn n) ws = (fresh_call (replicate n 0)).words
changed (Closing-variants.Poke i value) ws = set ws i value
changed Closing-variants.Close ws = ws

-- the list that is remembered, once a line that reads was accepted
abbrev pub remembered : Reading → List ℕ → List ℕ → List ℕ
remembered Reading-variants.Keep ws kept = ws
remembered (Reading-variants.Peek i) ws kept = kept
remembered Reading-variants.Dump ws kept = kept
remembered Reading-variants.DumpAll ws kept = kept
remembered Reading-variants.Check ws kept = kept
remembered Reading-variants.Kept ws kept = kept
remembered Reading-variants.FindEntry ws kept = kept

-- whether the list that is remembered is this one
abbrev pub remembers : List ℕ → List ℕ → Bool
remembers kept ws = eqs ws kept

-- a line that asks whether the list is as it was tells just that; of what another line that reads answers nothing is said
abbrev pub Tells : Reading → List ℕ → List ℕ → Option Reply → Type 0
Tells Reading-variants.Kept ws kept answer = answer ≡ Some (told (remembers kept ws))
Tells (Reading-variants.Peek i) ws kept answer = Unit
Tells Reading-variants.Dump ws kept answer = Unit
Tells Reading-variants.DumpAll ws kept answer = Unit
Tells Reading-variants.Check ws kept answer = Unit
Tells Reading-variants.Keep ws kept answer = Unit
Tells Reading-variants.FindEntry ws kept answer = Unit
