-- Two names' entries, as words: those of the fresh store's first name, and of an array type's name. Assumes nothing.
use mathlib.Core.Path.{◌≡◌, refl}
use mathlib.Core.Bool.{true, false}
use mathlib.Core.List.{[], ◌∷◌}
use Rattle.source.specs.Packed.{of_bytes, packed}
use Rattle.names.specs.Name.{name_entry, wrapped}

-- "$TOP"
pub top_name : name_entry (wrapped false (36 ∷ 84 ∷ 79 ∷ 80 ∷ [])) ≡ 262144 ∷ 1347376164 ∷ []
unfolding of_bytes packed name_entry wrapped
top_name = refl

-- "u8" in brackets
pub array_name : name_entry (wrapped true (117 ∷ 56 ∷ [])) ≡ 262144 ∷ 1563981147 ∷ []
unfolding of_bytes packed name_entry wrapped
array_name = refl
