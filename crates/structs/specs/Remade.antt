-- A struct made again: the name, the field names and the aliases of one that is there, with other types and finals. `u` is the used words.
use Rattle.std.specs.Prelude.{List, [], ◌∷◌, ℕ}
use Rattle.words.specs.Made.{Grown, make}
use Rattle.words.specs.Columns.{name_on, first_field, next_field, field_name_at, flags_at, alias_in}
use Rattle.makers.specs.Entries.{struct_entry}

-- "A field is lent as name, type, alias, final": of the fields whose words stand from p on ("field name, type, 2 × alias + final"), with
-- these types and finals
unfoldable pub fields_with : List ℕ → ℕ → List ℕ → List ℕ → List ℕ
fields_with u p [] finals = []
-- not come to: there are as many finals as types
fields_with u p (t ∷ types) [] = []
fields_with u p (t ∷ types) (f ∷ finals) = field_name_at u p ∷ t ∷ alias_in (flags_at u p) ∷ f ∷ fields_with u (next_field p) types finals

-- the struct at a, with these types and finals
unfoldable pub remake : ℕ → List ℕ → List ℕ → List ℕ → Grown
remake a types finals u = make u (struct_entry (name_on u a) (fields_with u (first_field a) types finals) u)
