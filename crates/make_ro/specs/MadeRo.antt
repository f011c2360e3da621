-- What the functions of make_ro leave. Not needed to believe what make_ro is (ReadOnly.antt).
use Rattle.std.specs.Prelude.{List, ℕ, ◌<◌}
use Rattle.words.specs.Ran.{Runs}
use Rattle.std.specs.Prelude.{Option}
use Rattle.words.specs.declared.Interned.{Interned}
use Rattle.make_ro.specs.ReadOnly.{field_type, make_ro_within}

-- of a type, and of a field's type: at every n above the handle, what the definition gives, where it fits
pub record MadeRo (old new : List ℕ) (used a : ℕ) (new' : List ℕ) (r : Option Interned) : Type 0 where
  pub is : (n : ℕ) → a < n → Runs (λ u. make_ro_within n u a) old new used new' r

pub record FieldRo (old new : List ℕ) (used v t : ℕ) (new' : List ℕ) (r : Option Interned) : Type 0 where
  pub is : (n : ℕ) → t < n → Runs (λ u. field_type (make_ro_within n) u v t) old new used new' r
