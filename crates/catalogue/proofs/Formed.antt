-- The loader's test of the words. Assumes nothing.
use mathlib.Core.Path.{◌≡◌, sym, ap, ◌∙◌}
use mathlib.Core.Bool.{Bool, true, false, not}
use mathlib.Core.List.{List, ◌∷◌, ◌++◌}
use Prim.Native.Nat.{ℕ, ◌+◌, ◌/◌, ◌≤◌}
use native.Mathlib.Omega.{arith}
use borrow.Author.Tests.{not-true, not-false}
use lib.ListN.{length, take, get_or}
use lib.Seq.{take_all}
use Rattle.words.specs.Table.{entries}
use Rattle.source.specs.Source.{unpacked, stored}
use Rattle.source.proofs.Packing.{length_packed}
use Rattle.wellformed.specs.Fresh.{fresh_words}
use Rattle.wellformed.specs.Form.{well_formed, behind_fresh}
use Rattle.wellformed.specs.Scan.{Verified}
use Rattle.wellformed.proofs.Before.{tests}
use Rattle.wellformed.proofs.Tail.{tail_length, behind_used, first_stored}
use Rattle.distinct.specs.Distinct.{own, Store}
use Rattle.catalogue.specs.Catalogue.{forms_store}

module _ (bs bits : List ℕ) (r : Bool) (o : Verified (behind_fresh (unpacked bs)) bits r) where
  pub not_formed : not r ≡ true → false ≡ forms_store (unpacked bs)
  unfolding forms_store
  not_formed n = rw (sym o.is ∙ not-true r n)

  module _ (y : not r ≡ false) where
    formed : well_formed (behind_fresh (unpacked bs)) ≡ true
    formed = sym o.is ∙ not-false r y

    pub few : 94 + length bs / 8 ≤ 1048576
    few = omega (arith, (tests (behind_fresh (unpacked bs)) formed).most, tail_length bs)

    module _ (f d : List ℕ) (is : f ≡ ((94 + length bs / 8) ∷ fresh_words) ++ d) (none : length d ≡ 0) where
      whole : stored f bs ≡ behind_fresh (unpacked bs)
      whole = first_stored bs (omega (arith, few)) f d is none

      pub a_store : Store (stored f bs) (94 + length bs / 8)
      a_store =
          let t = tests (behind_fresh (unpacked bs)) formed in
          let u : get_or (behind_fresh (unpacked bs)) 0 0 ≡ 94 + length bs / 8 = behind_used (unpacked bs) ∙ ap (λ (k : ℕ). 94 + k) (length_packed (length bs / 8) bs) in
          rw whole (record { low = omega arith; high = omega (arith, tail_length bs); full = rw (← u) t.filled })

      pub told : (q : Bool) → q ≡ own (entries (take (94 + length bs / 8) (stored f bs))) → q ≡ forms_store (unpacked bs)
      unfolding forms_store
      told q it =
          let h : length (behind_fresh (unpacked bs)) ≤ 94 + length bs / 8 = omega (arith, tail_length bs) in
          it ∙ rw (whole, take_all (94 + length bs / 8) (behind_fresh (unpacked bs)) h, formed)
