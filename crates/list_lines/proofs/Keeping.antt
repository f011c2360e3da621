-- What a script sees of a list that is remembered. Assumes nothing.
use Rattle.std.proofs.Common.{◌≡◌, List, [], ℕ, refl}
use Rattle.words.specs.Words.{eqs}
use Rattle.list_lines.specs.declared.Reading.TheVariants.{Keep}
use Rattle.list_lines.specs.Changes.{remembered, remembers}

-- what is remembered is exactly the list that was kept
pub tells : (kept ws vs : List ℕ) → remembers (remembered Keep ws kept) vs ≡ eqs vs ws
tells kept ws vs = refl

-- and before the first that is kept the empty one
pub at_first : (vs : List ℕ) → remembers [] vs ≡ eqs vs []
at_first vs = refl
