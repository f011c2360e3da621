-- Document 01, "The store": the entry of a name, from the name's bytes.
use Rattle.std.specs.Prelude.{Bool, true, false, List, [], ◌∷◌, ◌++◌, ℕ, length}
use Rattle.words.specs.Kinds.{Name}
use Rattle.words.specs.Words.{head_of, name_words}
use Rattle.source.specs.Packed.{packed}

-- a name's entry: the head, and "n bytes, eight a word"
unfoldable pub name_entry : List ℕ → List ℕ
name_entry bs = head_of Name 0 (length bs) ∷ packed (name_words (length bs)) bs

-- for the functions alone, no definition uses it: what they take at most, so that no sum runs over; a name has at most 255 bytes where one is made
abbrev pub longest_text : ℕ
longest_text = 65535

-- the bytes of "[" and "]"
abbrev pub open_bracket : ℕ
open_bracket = 91

abbrev pub close_bracket : ℕ
close_bracket = 93

-- the name that a lent text stands for: the text, or, for an array type's name, the text in brackets
unfoldable pub wrapped : Bool → List ℕ → List ℕ
wrapped true text = open_bracket ∷ (text ++ (close_bracket ∷ []))
wrapped false text = text
