-- The tests that calls make on handles. `u` is the used words.
use Rattle.std.specs.Prelude.{Bool, not, List, ℕ, ◌+◌, ltb}
use Rattle.words.specs.Words.{head_of}
use Rattle.words.specs.Columns.{word}
use Rattle.words.specs.Table.{starts}
use Rattle.wellformed.specs.Entry.{is_type, kind_at, all, deepest, deepest_allowed}
use Rattle.call.specs.Call.{◌when◌, ◌otherwise◌}

-- row 2: "handle starts no entry"
abbrev pub no_entry : List ℕ → List ℕ → Bool
no_entry u hs = not (all (starts u) hs)

-- row 3: "entry of a kind the call does not take"
abbrev pub wrong_kind : List ℕ → (ℕ → Bool) → List ℕ → Bool
wrong_kind u p hs = not (all (kind_at (word u) p) hs)

-- the rows of a call on types: "Calls on types take kinds 1 to 11, unless said otherwise."
unfoldable pub types_rows : List ℕ → List ℕ → ℕ
types_rows types u =
    2 when no_entry u types
    otherwise 3 when wrong_kind u is_type types

-- row 6: "depth over 32", of an entry around these types
abbrev pub too_deep : List ℕ → List ℕ → Bool
too_deep u types = ltb deepest_allowed (1 + deepest (word u) types)

-- the head of an entry of kind k around these types
abbrev pub head_around : List ℕ → ℕ → ℕ → List ℕ → ℕ
head_around u k n types = head_of k (1 + deepest (word u) types) n
