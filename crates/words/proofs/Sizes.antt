-- How many words an entry of a kind has. Assumes nothing.
use mathlib.Core.Path.{◌≡◌, refl}
use mathlib.Core.Bool.{Bool, true, false, cond}
use Prim.Native.Nat.{ℕ, ◌+◌, ◌*◌, ◌/◌, ◌%◌, ◌≤◌, ◌<◌}
use native.Mathlib.Omega.{arith}
use borrow.Author.Tests.{ne_eqb, le-leb, lt-leb}
use lib.Dec.{leb}
use Rattle.words.specs.Words.{words_after, size_of}

either : (t : Bool) (n : ℕ) → cond t n n ≡ n
either true n = refl
either false n = refl

module _ (w : ℕ) where
  pub name_size : w % 256 ≡ 0 → size_of w ≡ 1 + (w / 65536 + 7) / 8
  unfolding size_of words_after
  name_size e = rw e

  pub tuple_size : w % 256 ≡ 7 → size_of w ≡ 1 + w / 65536
  unfolding size_of words_after
  tuple_size e = rw e

  pub struct_size_is : w % 256 ≡ 8 → size_of w ≡ 2 + 3 * (w / 65536)
  unfolding size_of words_after
  struct_size_is e = rw e (omega arith)

  pub fref_size : w % 256 ≡ 9 → size_of w ≡ 2
  unfolding size_of words_after
  fref_size e = rw e

  module _ (k0 : w % 256 ≡ 0 → ⊥) where
    pub plain_size : w % 256 < 5 → size_of w ≡ 1
    unfolding size_of words_after
    plain_size h = let l : w % 256 ≤ 4 = omega arith in rw (ne_eqb _ _ k0, le-leb _ _ l)

    module _ (k7 : w % 256 ≡ 7 → ⊥) (k8 : w % 256 ≡ 8 → ⊥) (k9 : w % 256 ≡ 9 → ⊥) where
      pub pair_size : 5 ≤ w % 256 → w % 256 ≤ 11 → size_of w ≡ 3
      unfolding size_of words_after
      pair_size l h =
          let g : 4 < w % 256 = omega arith in
          rw (ne_eqb _ _ k0, lt-leb _ _ g, ne_eqb _ _ k7, ne_eqb _ _ k8, ne_eqb _ _ k9, le-leb _ _ h, either (leb (w % 256) 6) 2)

-- the size of an entry is the least of its kind where n is 0
pub no_count : (w r : ℕ) → w < 65536 → r ≡ 1 + words_after (w % 256) 0 → r ≡ size_of w
unfolding size_of
no_count w r h is = let z : w / 65536 ≡ 0 = omega arith in rw z is
