-- When two names are the same, and when the fields of two structs have the same names and aliases. `u` is the used words.
use Rattle.std.specs.Prelude.{Bool, true, ◌&&◌, List, ℕ, zero, suc, ◌+◌, eqb}
use Rattle.words.specs.Words.{size_of}
use Rattle.words.specs.Columns.{word, next_field, field_name_at, flags_at, alias_in}

-- n words from p on, and n from q on
unfoldable pub same_words : List ℕ → ℕ → ℕ → ℕ → Bool
same_words u zero p q = true
same_words u (suc n) p q = eqb (word u p) (word u q) && same_words u n (p + 1) (q + 1)

-- "Two names are the same where their bytes are": the head counts them, the words after it hold them, and the rest of the last is 0
abbrev pub same_name : List ℕ → ℕ → ℕ → Bool
same_name u p q = same_words u (size_of (word u p)) p q

-- "names and aliases must match": n fields from p on, and n from q on, each "field name, type, 2 × alias + final"
unfoldable pub same_fields : List ℕ → ℕ → ℕ → ℕ → Bool
same_fields u zero p q = true
same_fields u (suc n) p q =
    same_name u (field_name_at u p) (field_name_at u q)
    && eqb (alias_in (flags_at u p)) (alias_in (flags_at u q))
    && same_fields u n (next_field p) (next_field q)
