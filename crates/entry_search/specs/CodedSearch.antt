-- The search for an entry as callers in C and Rust are told it: the number that the function returns, and what its three lent words hold afterwards.
use Rattle.std.specs.Prelude.{◌≡◌, ℕ, Option, Some, None, Result, Ok, Err}
use Rattle.call.specs.declared.Refusal.{Refusal}
use Rattle.call.specs.Refusals.{row_of}
use Rattle.entry_search.specs.declared.EntrySearch.{EntrySearch}

-- whether there is such an entry, 1 or 0; and its handle, or where there is none what the word held
abbrev pub there : Option ℕ → ℕ
there (Some h) = 1
there None = 0

abbrev pub handle_after : Option ℕ → ℕ → ℕ
handle_after (Some h) w = h
handle_after None w = w

-- each word where it held w: whether there is such an entry
abbrev pub which_after : Result EntrySearch Refusal → ℕ → ℕ
which_after (Ok s) w = there s.found
which_after (Err e) w = w

-- the number of entries not passed over
abbrev pub count_after : Result EntrySearch Refusal → ℕ → ℕ
count_after (Ok s) w = s.count
count_after (Err e) w = w

-- its handle
abbrev pub answer_after : Result EntrySearch Refusal → ℕ → ℕ
answer_after (Ok s) w = handle_after s.found w
answer_after (Err e) w = w

-- r is returned, a refusal's number, else 0; each lent word held the first and then the second
pub record CodedSearch (s : Result EntrySearch Refusal) (r which which' count count' answer answer' : ℕ) : Type 0 where
  pub returned : r ≡ row_of s
  pub chosen : which' ≡ which_after s which
  pub counted : count' ≡ count_after s count
  pub told : answer' ≡ answer_after s answer
