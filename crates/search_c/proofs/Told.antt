-- What the functions for the benchmark hand on. Assumes nothing.
use Rattle.std.proofs.Common.{◌≡◌, true, false, Bool, not, ℕ, ◌≤◌, ◌<◌, List, length, take, drop, get_or, sym, ◌∙◌, arith}
use Rattle.std.specs.Prelude.{Option}
use borrow.Author.Tests.{not-false}
use Rattle.words.specs.Words.{fills}
use Rattle.words.specs.Made.{make}
use Rattle.words.specs.Ran.{Ran}
use Rattle.words.specs.declared.Interned.{Interned}
use Rattle.names.specs.Name.{name_entry, wrapped}
use Rattle.wellformed.specs.Form.{well_formed}
use Rattle.wellformed.proofs.Before.{tests}
use Rattle.search_c.specs.Handle.{of_interned, Left}

-- what row 1 says of words that `open` is given
pub to_open : (ws : List ℕ) (t : Bool) → t ≡ well_formed ws → not t ≡ false → (0 < length ws) × (1 ≤ get_or ws 0 0) × (get_or ws 0 0 ≤ length ws) × (fills 0 (drop 1 (take (get_or ws 0 0) ws)) ≡ true)
to_open ws t is y =
    let k = tests ws (sym is ∙ not-false t y) in
    (omega (arith, k.least), omega (arith, k.enough), k.within, k.filled)

-- a name that stands in no brackets
pub left_name : (used : ℕ) (u name ws ws' : List ℕ) (i : Option Interned) (r : ℕ) → Ran used (make u (name_entry (wrapped false name))) ws ws' i → r ≡ of_interned i
    → Left used (make u (name_entry name)) ws ws' r
unfolding wrapped
left_name used u name ws ws' i r ran e = record { answer = i; ran = ran; told = e }
