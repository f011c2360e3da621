-- Arrays by their second field's name: what the tests say. `u` is the used words. Assumes nothing.
use mathlib.Core.Path.{◌≡◌, refl}
use mathlib.Core.Bool.{Bool, false}
use mathlib.Core.List.{List}
use Prim.Native.Nat.{ℕ, ◌+◌, ◌/◌, ◌≤◌, ◌<◌}
use native.Mathlib.Omega.{arith}
use native.Mathlib.Decide.{dec_lt}
use borrow.Author.Tests.{eq-eqb, ne_eqb}
use lib.Dec.{eqb}
use lib.ListN.{length, take, get_or-eq_default}
use lib.Seq.{length-take-le}
use Rattle.words.specs.Columns.{word, kind_on}
use Rattle.source.specs.Packed.{of_bytes, packed}
use Rattle.names.specs.Name.{name_entry}
use Rattle.makers.specs.Makers.{body_name}
use Rattle.of_structs.specs.OfStructs.{is_body_name, is_ary, is_array}

-- past the used words there are zeros alone
pub some_inside : (ws : List ℕ) (used p w : ℕ) → used ≤ length ws → w ≡ word (take used ws) p → 0 < w → p < used
some_inside ws used p w within is some = go (dec_lt p used)
  where
    go : Dec (p < used) → p < used
    go (yes h) = h
    go (no h) =
        let out : length (take used ws) ≤ p = omega (arith, length-take-le used ws within) in
        let z : word (take used ws) p ≡ 0 = get_or-eq_default (take used ws) 0 out in
        absurd (omega (arith, z))

-- the entry of the name "[]"
pub body_head : word (name_entry body_name) 0 ≡ 131072
unfolding name_entry packed of_bytes
body_head = refl

pub body_bytes : word (name_entry body_name) 1 ≡ 23899
unfolding name_entry packed of_bytes
body_bytes = refl

module _ (u : List ℕ) (h w : ℕ) (is : w ≡ word u h) where
  pub no_body : (w ≡ 131072 → ⊥) → false ≡ is_body_name u h
  no_body n = rw (← is, body_head, ne_eqb _ _ n)

  pub body_if : w ≡ 131072 → (v : ℕ) → v ≡ word u (h + 1) → eqb v 23899 ≡ is_body_name u h
  body_if e v iv = rw (← is, ← iv, body_head, body_bytes, eq-eqb _ _ e)

module _ (u : List ℕ) (s w : ℕ) (is : w ≡ word u s) where
  pub no_pair : (w / 65536 ≡ 2 → ⊥) → false ≡ is_ary u s
  unfolding is_ary
  no_pair n = rw (← is, ne_eqb _ _ n)

  pub pair_if : w / 65536 ≡ 2 → (v : ℕ) → v ≡ word u (s + 5) → (t : Bool) → t ≡ is_body_name u v → t ≡ is_ary u s
  unfolding is_ary
  pair_if e v iv t it =
      let q : s + 2 + 3 ≡ s + 5 = omega arith in
      rw (← is, eq-eqb _ _ e, q, ← iv) it

module _ (u : List ℕ) (s k : ℕ) (is : k ≡ kind_on u s) where
  pub no_struct : (k ≡ 8 → ⊥) → false ≡ is_array u s
  no_struct n = rw (← is, ne_eqb _ _ n)

  pub struct_if : k ≡ 8 → (t : Bool) → t ≡ is_ary u s → t ≡ is_array u s
  struct_if e t it = rw (← is, eq-eqb _ _ e) it
