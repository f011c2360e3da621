-- A list that may be an opened store: a flag says whether it is.
use Rattle.std.specs.Prelude.{Bool, true, false, List, ℕ}
use Rattle.opened.specs.OpenStore.{OpenStore}

-- a fact that holds where the flag is set
abbrev pub When : Bool → Type 0 → Type 0
When true p = p
When false p = Unit

pub record OpenIf (flag : Bool) (ws index memory : List ℕ) : Type 0 where
  pub store : When flag (OpenStore ws index memory)
