-- A word more of a hash, and the last; and the slot of a hash. Assumes nothing.
use mathlib.Core.Path.{◌≡◌, refl}
use mathlib.Core.Bool.{Bool, true, false}
use mathlib.Core.List.{List}
use Prim.Native.Nat.{ℕ, ◌+◌, ◌*◌, ◌/◌, ◌%◌, ◌≤◌, ◌<◌}
use native.Mathlib.Nat.{mod-lt, mul-lt-mul_of_pos_right, div-lt_iff_lt-mul}
use native.Mathlib.Omega.{arith}
use native.Mathlib.Numerals.{add-one}
use borrow.Author.Tests.{ltb-true, ltb-false, lt-ltb, le-ltb}
use lib.Dec.{ltb}
use lib.Bits.{bit_xor}
use lib.ListN.{length, drop, get_or, drop_of_length-le}
use lib.Seq.{drop-cons}
use Rattle.index.specs.Digest.{stirred, hash_from, slot_of}

pub hash_word : (e : List ℕ) (h i : ℕ) → i < length e → hash_from h (drop i e) ≡ hash_from (stirred (bit_xor h (get_or e i 0))) (drop (i + 1) e)
unfolding hash_from
hash_word e h i more = rw (drop-cons e i 0 more, add-one)

pub hash_all : (e : List ℕ) (h i : ℕ) → length e ≤ i → hash_from h (drop i e) ≡ h
unfolding hash_from
hash_all e h i out = rw (drop_of_length-le e out)

-- ---- the slot of a hash

module _ (n h : ℕ) (z : 0 < n) where
  fraction_below : h % 4294967296 * n / 4294967296 < n
  fraction_below =
      let m : h % 4294967296 * n < 4294967296 * n = mul-lt-mul_of_pos_right (mod-lt h (omega arith)) z in
      (div-lt_iff_lt-mul {k = 4294967296} (omega arith)).1 (omega arith)

  pub slot_fraction : n < 4294967296 → (h % 4294967296 * n / 4294967296 ≡ slot_of n h) × (h % 4294967296 * n / 4294967296 < n)
  unfolding slot_of
  slot_fraction few = (rw (lt-ltb _ _ few), fraction_below)

  pub slot_rest : 4294967296 ≤ n → (h % n ≡ slot_of n h) × (h % n < n)
  unfolding slot_of
  slot_rest many = (rw (le-ltb _ _ many), mod-lt h z)

  pub slot_below : slot_of n h < n
  slot_below = go (ltb n 4294967296) refl
    where
      go : (t : Bool) → ltb n 4294967296 ≡ t → slot_of n h < n
      go true q = let p = slot_fraction (ltb-true n 4294967296 q) in omega (arith, p.0, p.1)
      go false q = let p = slot_rest (ltb-false n 4294967296 q) in omega (arith, p.0, p.1)
