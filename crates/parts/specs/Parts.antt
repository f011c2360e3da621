-- What functions on the entries of a store require: that row 1 has passed it, so that the parts of each entry are earlier entries of the
-- right kinds, and less deep. `u` is the used words.
use Rattle.std.specs.Prelude.{◌≡◌, true, List, [], ◌∷◌, ◌++◌, ℕ, suc, ◌+◌, ◌≤◌, ◌<◌, length, take, drop}
use Rattle.words.specs.Kinds.{Name, Bot, last_kind}
use Rattle.words.specs.Words.{fills}
use Rattle.words.specs.Columns.{kind_on, depth_on}
use Rattle.words.specs.Table.{starts}
use Rattle.wellformed.specs.Fresh.{fresh_words}
use Rattle.wellformed.specs.Entry.{deepest_allowed}
use Rattle.wellformed.specs.Form.{longest_allowed, first_entries}
use Rattle.call.specs.Adds.{Sound}

-- row 1's words on the used words alone: entries, and the fresh ones among them
pub record Good (u : List ℕ) : Type 0 where
  pub sound : Sound u
  pub fresh : first_entries u ≡ fresh_words

-- h is the handle of an entry before `top`, of a kind from low to high, and less than `deep` deep
pub record Part (u : List ℕ) (top deep low high h : ℕ) : Type 0 where
  pub entry : starts u h ≡ true
  pub earlier : h < top
  pub least : low ≤ kind_on u h
  pub most : kind_on u h ≤ high
  pub shallow : depth_on u h < deep

-- h is the handle of a name before `top`
pub record NameAt (u : List ℕ) (top h : ℕ) : Type 0 where
  pub entry : starts u h ≡ true
  pub earlier : h < top
  pub kind : kind_on u h ≡ Name

abbrev pub All : (ℕ → Type 0) → List ℕ → Type 0
All P [] = Unit {0}
All P (x ∷ xs) = P x × All P xs

-- what no entry's depth comes to
abbrev pub past_deepest : ℕ
past_deepest = suc deepest_allowed

-- a store in two segments, of which `used` words are used, and two of its types, of the kinds from low to high
pub record Ready (old new : List ℕ) (used low high a b : ℕ) : Type 0 where
  pub over : length old ≤ used
  pub within : used ≤ length old + length new
  pub small : length old + length new ≤ longest_allowed
  pub cut : fills 0 (drop 1 old) ≡ true
  pub near : a < used
  pub next : b < used
  pub good : Good (take used (old ++ new))
  pub first : Part (take used (old ++ new)) used past_deepest low high a
  pub second : Part (take used (old ++ new)) used past_deepest low high b

-- the same with one type
pub record ReadyOne (old new : List ℕ) (used a : ℕ) : Type 0 where
  pub over : length old ≤ used
  pub within : used ≤ length old + length new
  pub small : length old + length new ≤ longest_allowed
  pub cut : fills 0 (drop 1 old) ≡ true
  pub near : a < used
  pub good : Good (take used (old ++ new))
  pub first : Part (take used (old ++ new)) used past_deepest Bot last_kind a
