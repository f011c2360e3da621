-- Masks of ranges, computed: three of document 01's cases, an unsigned byte, all numbers, a constant, and two ranges below 0.
use Rattle.std.proofs.Common.{◌≡◌, ◌-◌, ◌^◌, refl}
use Rattle.mask.specs.Mask.{agreed, mask_of}

pub examples : (mask_of 16 18 ≡ 19)
    × (mask_of 5 3 ≡ 0)
    × (mask_of (2 ^ 64 - 1) 0 ≡ 2 ^ 64 - 1)
    × (mask_of 0 255 ≡ 255)
    × (mask_of (2 ^ 63) (2 ^ 63 - 1) ≡ 2 ^ 64 - 1)
    × (mask_of 300 300 ≡ 300)
    × (mask_of (2 ^ 64 - 4) (2 ^ 64 - 2) ≡ 2 ^ 64 - 1)
    × (mask_of (2 ^ 64 - 8) (2 ^ 64 - 5) ≡ 2 ^ 64 - 5)
unfolding agreed
examples = (refl, refl, refl, refl, refl, refl, refl, refl)
