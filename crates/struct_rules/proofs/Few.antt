-- What the struct or forward reference at h has: few fields, and names that stand in a store's words. `u` is the used words. Assumes nothing.
use mathlib.Core.Path.{◌≡◌}
use mathlib.Core.List.{List}
use Prim.Native.Nat.{ℕ, ◌+◌, ◌/◌, ◌≤◌}
use lib.ListN.{get_or}
use Rattle.words.specs.Columns.{every}
use Rattle.same_names.proofs.Alike.{Low}
use Rattle.struct_rules.specs.Below.{NamesBelow}

module _ (u : List ℕ) (h : ℕ) (b : NamesBelow u h) (f : ℕ) (e : f ≡ get_or u h 0) where
  pub few_fields : f / 65536 ≤ 255
  few_fields = rw e b.few

  pub names_low : Low (every 3 (f / 65536) (h + 2) u)
  names_low = rw e b.fields

  -- as many as another has
  pub names_low_too : (g : ℕ) → g / 65536 ≡ f / 65536 → Low (every 3 (g / 65536) (h + 2) u)
  names_low_too g q = rw q names_low
