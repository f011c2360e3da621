-- Document 02, Slip 2: the search for an entry that is given by its words e, in a list ws of any words whatever. It is no call: its row 1 is document 01's, and it has no other.
use Rattle.std.specs.Prelude.{Bool, true, false, List, ℕ, Option, Some, None, Result, Ok, Err}
use Rattle.words.specs.Table.{entries, find_in}
use Rattle.words.specs.Search.{not_passed_over}
use Rattle.wellformed.specs.Form.{well_formed, used_words}
use Rattle.call.specs.declared.Refusal.{Refusal}
use Rattle.call.specs.declared.Refusal.TheVariants.{NoStore}
use Rattle.entry_search.specs.declared.EntrySearch.{EntrySearch}

-- the answer, and the number beside it
abbrev pub shown : Option ℕ → ℕ → EntrySearch
shown (Some h) n = record { found = Some h; count = n }
shown None n = record { found = None; count = n }

-- row 1, where the words are not well formed
abbrev pub once_well_formed : Bool → EntrySearch → Result EntrySearch Refusal
once_well_formed true s = Ok s
once_well_formed false s = Err NoStore

-- row 1; then the "lowest equal entry", and "the number of entries not passed over"
unfoldable pub entry_search : List ℕ → List ℕ → Result EntrySearch Refusal
entry_search ws e = once_well_formed (well_formed ws) (shown (find_in (used_words ws) e) (not_passed_over (entries (used_words ws)) e))
