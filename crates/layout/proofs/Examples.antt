-- The offsets of a few structs, computed. Assumes nothing.
use mathlib.Core.Path.{◌≡◌, refl}
use mathlib.Core.List.{[], ◌∷◌}
use Rattle.layout.specs.Layout.{bytes_where, offsets_from, offsets}

-- document 01: "fields u8, Int 25, u16, 88: offsets 14, 0, 12, 8, 16"
pub document : offsets (0 ∷ 3 ∷ 1 ∷ 2 ∷ []) ≡ 14 ∷ 0 ∷ 12 ∷ 8 ∷ 16 ∷ []
unfolding offsets offsets_from bytes_where
document = refl

-- no fields: the end alone
pub no_fields : offsets [] ≡ 0 ∷ []
unfolding offsets offsets_from bytes_where
no_fields = refl

-- a byte: 7 bytes of padding
pub one_byte : offsets (0 ∷ []) ≡ 0 ∷ 8 ∷ []
unfolding offsets offsets_from bytes_where
one_byte = refl

-- fields of one width keep their order; two 4-byte fields end at 8, three at 12, rounded up to 16
pub in_field_order : (offsets (2 ∷ 2 ∷ []) ≡ 0 ∷ 4 ∷ 8 ∷ []) × (offsets (2 ∷ 2 ∷ 2 ∷ []) ≡ 0 ∷ 4 ∷ 8 ∷ 16 ∷ [])
unfolding offsets offsets_from bytes_where
in_field_order = (refl, refl)

-- the narrow fields first, the wide ones last: laid out the other way round
pub widest_first : offsets (0 ∷ 0 ∷ 1 ∷ 2 ∷ 3 ∷ 3 ∷ []) ≡ 22 ∷ 23 ∷ 20 ∷ 16 ∷ 0 ∷ 8 ∷ 24 ∷ []
unfolding offsets offsets_from bytes_where
widest_first = refl
