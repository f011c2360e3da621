-- What `find_entry` tells. Assumes nothing.
use mathlib.Core.Path.{◌≡◌, sym, ◌∙◌}
use mathlib.Core.Bool.{Bool, true, false, not}
use mathlib.Core.List.{List, []}
use Prim.Native.Nat.{ℕ, ◌<◌}
use native.Mathlib.Omega.{arith}
use borrow.Author.Tests.{not-true, not-false}
use lib.ListN.{length, take, drop, get_or}
use Rattle.words.specs.Table.{rows, entries, find_in}
use Rattle.words.specs.Search.{Searched}
use Rattle.words.specs.Ran.{Segments, Tail}
use Rattle.std.specs.Prelude.{Option}
use Rattle.words.proofs.Two.{from_one}
use Rattle.wellformed.specs.Form.{well_formed}
use Rattle.wellformed.proofs.Before.{tests, well_segments}
use Rattle.entry_search.specs.EntrySearch.{entry_search}
use Rattle.entry_search.specs.declared.EntrySearch.{EntrySearch}
use Rattle.std.proofs.Common.{Some, None, Result, Ok, Err}
use Rattle.call.specs.declared.Refusal.{Refusal}
use Rattle.call.specs.declared.Refusal.TheVariants.{NoStore}
use Rattle.entry_search.specs.CodedSearch.{CodedSearch}

module _ (ws e : List ℕ) (t : Bool) (is : t ≡ well_formed ws) where
  pub turned_back : not t ≡ true → Err NoStore ≡ entry_search ws e
  unfolding entry_search
  turned_back n = rw (sym is ∙ not-true t n)

  module _ (y : not t ≡ false) where
    good : well_formed ws ≡ true
    good = sym is ∙ not-false t y

    -- word 0 may be read
    pub first_word : 0 < length ws
    first_word = omega (arith, (tests ws good).least)

    pub to_find : Segments [] ws (get_or ws 0 0) × Tail [] (take (get_or ws 0 0) ws) 1
    to_find = let s = well_segments ws good in (s, from_one [] ws (get_or ws 0 0) s)

    module _ (f : Option ℕ) (n : ℕ) (s : Searched (rows 1 0 (drop 1 (take (get_or ws 0 0) ws))) e f n) where
      pub found_there : (h : ℕ) → f ≡ Some h → Ok (record { found = Some h; count = n }) ≡ entry_search ws e
      unfolding entry_search find_in entries
      found_there h at = sym (rw (good, sym s.answer ∙ at, sym s.number))

      pub found_nowhere : f ≡ None → Ok (record { found = None; count = n }) ≡ entry_search ws e
      unfolding entry_search find_in entries
      found_nowhere none = sym (rw (good, sym s.answer ∙ none, sym s.number))

-- ---- as callers in C and Rust are told it

pub told_same : (s t : Result EntrySearch Refusal) (r w w' k k' a a' : ℕ) → s ≡ t → CodedSearch s r w w' k k' a a' → CodedSearch t r w w' k k' a a'
told_same s t r w w' k k' a a' is c = rw is at c
