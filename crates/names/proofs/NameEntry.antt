-- The words of a name's entry. Assumes nothing.
use mathlib.Core.Path.{◌≡◌, refl, sym, ap, ◌∙◌}
use mathlib.Core.Bool.{Bool}
use mathlib.Core.List.{List}
use Prim.Native.Nat.{ℕ, zero, suc, ◌+◌, ◌-◌, ◌*◌, ◌/◌, ◌%◌, ◌≤◌, ◌<◌}
use native.Mathlib.Omega.{arith}
use lib.ListN.{length, take, drop, get_or}
use Rattle.words.specs.Ran.{HasSize}
use Rattle.words.proofs.Sizes.{name_size}
use Rattle.source.specs.Packed.{of_bytes}
use Rattle.source.proofs.Packing.{length_packed, packed_word}
use Rattle.names.specs.Name.{name_entry, wrapped}
use Rattle.names.proofs.Bytes.{length_most}

pub name_length : (bs : List ℕ) → length (name_entry bs) ≡ 1 + (length bs + 7) / 8
unfolding name_entry
name_length bs = ap suc (length_packed ((length bs + 7) / 8) bs) ∙ omega arith

-- the longest text that is lent, in brackets, has 65,537 bytes
pub name_most : (wrap : Bool) (text : List ℕ) → length text ≤ 65535 → length (name_entry (wrapped wrap text)) ≤ 8194
name_most wrap text h = omega (arith, name_length (wrapped wrap text), length_most text wrap)

-- its words
pub head_word : (bs : List ℕ) → get_or (name_entry bs) 0 0 ≡ 65536 * length bs
unfolding name_entry
head_word bs = omega arith

pub later_word : (bs : List ℕ) (i : ℕ) → (i ≡ 0 → ⊥) → i < length (name_entry bs) → get_or (name_entry bs) i 0 ≡ of_bytes (take 8 (drop (8 * (i - 1)) bs))
unfolding name_entry
later_word bs zero ne h = absurd (ne refl)
later_word bs (suc i) ne h =
    let k : suc i - 1 ≡ i = omega arith in
    let m : i < (length bs + 7) / 8 = omega (arith, length_packed ((length bs + 7) / 8) bs) in
    packed_word ((length bs + 7) / 8) i bs m ∙ ap (λ (n : ℕ). of_bytes (take 8 (drop (8 * n) bs))) (sym k)

-- an entry of a name has as many words as its head says
pub name_sized : (bs : List ℕ) → HasSize (name_entry bs)
name_sized bs =
    let w = get_or (name_entry bs) 0 0 in
    let e : w ≡ 65536 * length bs = head_word bs in
    let k : w % 256 ≡ 0 = omega arith in
    let n : w / 65536 ≡ length bs = omega arith in
    name_length bs ∙ sym (name_size w k ∙ rw n)
