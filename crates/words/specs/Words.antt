-- Document 01, "The store": an entry's head word, how many words an entry has, when two entries are equal, and when entries fill a list
-- of words.
use Rattle.std.specs.Prelude.{Bool, true, false, cond, ◌&&◌, List, [], ◌∷◌, ℕ, zero, suc, pred, ◌+◌, ◌*◌, ◌/◌, ◌%◌, eqb, leb}
use Rattle.words.specs.Kinds.{Name, XCtrl, Float, Tuple, Struct, Fref, last_kind}

-- "The head word is kind + 256 × depth + 65,536 × n"
abbrev pub head_of : ℕ → ℕ → ℕ → ℕ
head_of kind depth n = kind + 256 * depth + 65536 * n

abbrev pub kind_of : ℕ → ℕ
kind_of head = head % 256

abbrev pub depth_of : ℕ → ℕ
depth_of head = head / 256 % 256

abbrev pub count_of : ℕ → ℕ
count_of head = head / 65536

-- the words that n bytes of a name take, "eight a word"
abbrev pub name_words : ℕ → ℕ
name_words n = (n + 7) / 8

-- the words that a field takes: "field name, type, 2 × alias + final"
abbrev pub field_size : ℕ
field_size = 3

-- the table's column "words after the head", for kind k and the head's n
unfoldable pub words_after : ℕ → ℕ → ℕ
words_after k n =
    -- n bytes, eight a word
    cond (eqb k Name) (name_words n)
    -- Bot, Top, Ctrl, XCtrl: none
    (cond (leb k XCtrl) 0
    -- Int: min, max; Float: sz + 64, constant's bits
    (cond (leb k Float) 2
    -- n type handles
    (cond (eqb k Tuple) n
    -- name handle; n times: field name, type, 2 × alias + final
    (cond (eqb k Struct) (1 + field_size * n)
    -- name handle
    (cond (eqb k Fref) 1
    -- MemPtr: struct or forward reference handle, nil; Mem: alias, type handle; a head of no kind, which row 1 turns back, has none
    (cond (leb k last_kind) 2 0))))))

-- the words of an entry with this head
unfoldable pub size_of : ℕ → ℕ
size_of head = 1 + words_after (kind_of head) (count_of head)

-- equal entries: the same words, as many and each the same
unfoldable pub eqs : List ℕ → List ℕ → Bool
eqs [] [] = true
eqs [] (y ∷ ys) = false
eqs (x ∷ xs) [] = false
eqs (x ∷ xs) (y ∷ ys) = eqb x y && eqs xs ys

-- "Entries follow .. without gaps": k words are left of an entry, and then entries fill the list, each head saying how many words follow it. For example (proofs/Examples.antt): the words 261, 3, 4, 257
-- are filled by an Int (261 is its head, two words follow) and a Bot, so `fills 0` of them is true; of 261, 3 it is not, since a word of the Int is missing, and of 3, 4, 257 `fills 2` is.
unfoldable pub fills : ℕ → List ℕ → Bool
fills zero [] = true
fills (suc k) [] = false
fills zero (w ∷ ws) = fills (pred (size_of w)) ws
fills (suc k) (w ∷ ws) = fills k ws
