-- Document 02, Slip 1, the merge of a whole list: "Take a lent list of up to 4,096 handles and merge it left to right, starting at Top." `u` is the used words, `types` the list.
use Rattle.std.specs.Prelude.{List, [], ◌∷◌, ℕ, ltb, length}
use Rattle.words.specs.Made.{Grown, there}
use Rattle.wellformed.specs.FreshHandles.{top}
use Rattle.call.specs.Call.{Outcome, call, ◌when◌, ◌otherwise◌}
use Rattle.call.specs.Handles.{types_rows}
use Rattle.meet.specs.Meet.{meet_of}

-- t merged with the types from left to right: each meet is the one that the contract of `ty::meet` cites, on the words that the one before it left
unfoldable pub merge_from : ℕ → List ℕ → List ℕ → Grown
merge_from t [] u = there u t
merge_from t (h ∷ types) u = merge_from (meet_of u t h).handle types (meet_of u t h).words

-- "starting at Top"; "An empty list gives Top."
abbrev pub meet_list_of : List ℕ → List ℕ → Grown
meet_list_of types = merge_from top types

-- the most handles that a list may have
abbrev pub longest_list : ℕ
longest_list = 4096

-- "13, list over 4,096, tested after 1 and before 2." "All its handles are tested first, on the store as it comes."
unfoldable pub meet_list_rows : List ℕ → List ℕ → ℕ
meet_list_rows types u =
    13 when ltb longest_list (length types)
    otherwise types_rows types u

-- "A refusal anywhere leaves the store as before the first": row 12 is about all entries together, those on the way too
abbrev pub meet_list_call : List ℕ → List ℕ → Outcome
meet_list_call types = call (meet_list_rows types) (meet_list_of types)
