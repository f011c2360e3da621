-- A lent memory in which the answers of all operations live on. It is one list in six equal parts, one for each kind of answer; words behind the sixth
-- part, at most five, are not asked. `u` is the used words.
use Rattle.std.specs.Prelude.{◌≡◌, List, ◌++◌, ℕ, ◌*◌, ◌/◌, length, take, drop}
use Rattle.std.specs.Prelude.{Option}
use Rattle.words.specs.Ran.{interned}
use Rattle.words.specs.declared.Interned.{Interned}
use Rattle.memo.specs.Memo.{Lines}
use Rattle.meet_types.specs.Remembered.{Remembers as RemembersMeets}
use Rattle.walk_rules.specs.declared.Walk.TheVariants.{Dual, Glb, Lub}
use Rattle.walk.specs.Remembered.{Remembers as RemembersWalks}
use Rattle.finals.specs.Known.{Knows}
use Rattle.make_ro.specs.Remembered.{Settled as SettledRo}

-- the i-th of six equal parts
abbrev pub part_size : List ℕ → ℕ
part_size memory = length memory / 6

unfoldable pub part : ℕ → List ℕ → List ℕ
part i memory = take (part_size memory) (drop (i * part_size memory) memory)

-- each part is right for what it is kept for: the first five have settled answers, the last a set of types that are known to be final
pub record Right (u memory : List ℕ) : Type 0 where
  pub duals : RemembersWalks Dual u (part 0 memory)
  pub meets : RemembersMeets u (part 1 memory)
  pub glbs : RemembersWalks Glb u (part 2 memory)
  pub lubs : RemembersWalks Lub u (part 3 memory)
  pub ros : Lines (SettledRo u) (part 4 memory)
  pub finals : Knows u (part 5 memory)

-- what an operation leaves of a memory: where its answer fitted, one that is right for the used words as they are then; where the store was full, nothing
-- is promised
pub record RightThen (old new' : List ℕ) (r : Option Interned) (memory' : List ℕ) : Type 0 where
  pub is : (h v : ℕ) → r ≡ interned h v → Right (take v (old ++ new')) memory'
