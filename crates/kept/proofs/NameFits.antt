-- A name's entry is one that row 1 accepts. Assumes nothing.
use mathlib.Core.Path.{◌≡◌, refl, sym}
use mathlib.Core.Bool.{Bool, true, false, ◌||◌}
use mathlib.Core.List.{List}
use Prim.Native.Nat.{ℕ, suc, ◌+◌, ◌-◌, ◌*◌, ◌/◌, ◌%◌, ◌^◌, ◌≤◌, ◌<◌}
use native.Mathlib.Omega.{arith}
use native.Mathlib.Nat.{div-eq_of_lt}
use borrow.Author.Tests.{le-leb, eqb-false}
use lib.ListN.{length, take, drop, get_or, length-drop}
use lib.Seq.{take_all, get_or-drop}
use lib.Dec.{eqb}
use Rattle.words.specs.Table.{starts}
use Rattle.wellformed.specs.Entry.{kind, count, depth, most_of, names_in, types_in, all, values_ok, zero_filled, ok_entry}
use Rattle.wellformed.specs.Form.{heads_at}
use Rattle.call.specs.Adds.{Fitting}
use Rattle.source.specs.Packed.{of_bytes}
use Rattle.names.specs.Name.{name_entry}
use Rattle.source.proofs.Number.{number_below}
use Rattle.names.proofs.NameEntry.{name_length, head_word, later_word, name_sized}

module _ (bs : List ℕ) where
  -- the head: kind, depth and number of bytes
  head : get_or (name_entry bs) 0 0 ≡ 65536 * length bs
  head = head_word bs

  is_name : kind (name_entry bs) ≡ 0
  is_name = omega (arith, head)

  is_flat : depth (name_entry bs) ≡ 0
  is_flat = omega (arith, head)

  counts : count (name_entry bs) ≡ length bs
  counts = omega (arith, head)

  module _ (small : (i : ℕ) → get_or bs i 0 < 256) where
    -- the last word has the bytes that are left over, if there are any, and nothing above them
    last_low : (length bs % 8 ≡ 0 → ⊥) → get_or (name_entry bs) (length (name_entry bs) - 1) 0 < 2 ^ (8 * (length bs % 8))
    last_low some =
        let n = length bs in
        let p = 8 * (n / 8) in
        let i = length (name_entry bs) - 1 in
        let k : i ≡ suc (n / 8) = omega (arith, name_length bs) in
        let ne : (i ≡ 0 → ⊥) = λ z. absurd (omega arith) in
        let in-it : i < length (name_entry bs) = omega (arith, name_length bs) in
        let m : 8 * (i - 1) ≡ p = omega arith in
        let r : length (drop p bs) ≡ n % 8 = omega (arith, length-drop p bs) in
        let le : length (drop p bs) ≤ 8 = omega arith in
        let w : of_bytes (drop p bs) ≡ of_bytes (take 8 (drop (8 * (i - 1)) bs)) = rw (m, take_all 8 (drop p bs) le) in
        rw (later_word bs i ne in-it, sym w, sym r)
        (number_below (drop p bs) (λ j. rw (get_or-drop p bs j 0) (small (p + j))))

    filled : zero_filled (name_entry bs) ≡ true
    unfolding zero_filled
    filled = go (eqb (8 * (length bs % 8)) 0) refl
      where
        go : (t : Bool) → eqb (8 * (length bs % 8)) 0 ≡ t
            → (eqb (8 * (count (name_entry bs) % 8)) 0 || eqb (get_or (name_entry bs) (length (name_entry bs) - 1) 0 / 2 ^ (8 * (count (name_entry bs) % 8))) 0) ≡ true
        go true q = rw (counts, q)
        go false q =
            let ne : (length bs % 8 ≡ 0 → ⊥) = λ z. eqb-false (8 * (length bs % 8)) 0 q (omega arith) in
            rw (counts, q, div-eq_of_lt (last_low ne))

pub name_fits : (heads : ℕ → ℕ) (bs : List ℕ) → length bs ≤ 255 → ((i : ℕ) → get_or bs i 0 < 256) → ok_entry heads (name_entry bs) ≡ true
unfolding ok_entry most_of names_in types_in all values_ok
name_fits heads bs few small = rw (is_name bs, is_flat bs, counts bs, le-leb _ 255 few, filled bs small)

pub name_fitting : (u bs : List ℕ) → length bs ≤ 255 → ((i : ℕ) → get_or bs i 0 < 256) → Fitting u (name_entry bs)
name_fitting u bs few small = record { sized = name_sized bs; ok = name_fits (heads_at (starts u) u) bs few small; ends = λ _ is. absurd (omega (arith, is_name bs)) }
