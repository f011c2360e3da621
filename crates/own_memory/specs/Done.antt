-- What an operation requires and what it leaves, for each of its cases.
use Rattle.std.specs.Prelude.{◌≡◌, List, ◌++◌, ℕ, take}
use Rattle.words.specs.Ran.{Runs}
use Rattle.std.specs.Prelude.{Option}
use Rattle.words.specs.Ran.{interned}
use Rattle.words.specs.declared.Interned.{Interned}
use Rattle.parts.specs.Parts.{Ready, ReadyOne}
use Rattle.meet.specs.Met.{Met}
use Rattle.walk.specs.Walked.{Walked}
use Rattle.make_ro.specs.MadeRo.{MadeRo}
use Rattle.join.specs.Join.{join_of}
use Rattle.finals.specs.Known.{Knows}
use Rattle.own_memory.specs.declared.Operation.{Operation}
use Rattle.own_memory.specs.declared.Operation.TheVariants.{Meet, Walk, MakeRo, Join}
use Rattle.words.specs.Kinds.{Bot, last_kind}

abbrev pub Asked : Operation → List ℕ → List ℕ → ℕ → ℕ → Type 0
Asked (Meet b) old new used a = Ready old new used Bot last_kind a b
Asked (Walk walk) old new used a = ReadyOne old new used a
Asked MakeRo old new used a = ReadyOne old new used a
Asked (Join b) old new used a = Ready old new used Bot last_kind a b

abbrev pub Done : Operation → List ℕ → List ℕ → ℕ → ℕ → List ℕ → Option Interned → Type 0
Done (Meet b) old new used a new' r = Met old new used a b new' r
Done (Walk walk) old new used a new' r = Walked walk old new used a new' r
Done MakeRo old new used a new' r = MadeRo old new used a new' r
Done (Join b) old new used a new' r = Runs (λ u. join_of u a b) old new used new' r

-- what make_ro leaves of the set of final types, where its answer fitted; the others do not ask it
abbrev pub KnowsAfter : Operation → List ℕ → List ℕ → Option Interned → List ℕ → Type 0
KnowsAfter (Meet b) old new' r known' = Unit {0}
KnowsAfter (Walk walk) old new' r known' = Unit {0}
KnowsAfter MakeRo old new' r known' = (h v : ℕ) → r ≡ interned h v → Knows (take v (old ++ new')) known'
KnowsAfter (Join b) old new' r known' = Unit {0}
