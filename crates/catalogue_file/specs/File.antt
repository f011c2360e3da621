-- Document 02, Slip 3: the file of a saved catalogue, as it is written and as it is read. `u` is a store's used words, `f` a file's bytes.
use Rattle.std.specs.Prelude.{Bool, ◌&&◌, List, [], ◌∷◌, ◌++◌, ℕ, zero, suc, ◌+◌, ◌-◌, ◌*◌, ◌/◌, ◌%◌, length, take, drop, eqb, leb}
use Rattle.source.specs.Packed.{of_bytes, packed}
use Rattle.wellformed.specs.Fresh.{fresh_length}

-- ---- as it is written

-- "a label of 0 to 255 bytes"
abbrev pub longest_label : ℕ
longest_label = 255

-- a number as so many bytes, "lowest byte first"
unfoldable pub bytes_of : ℕ → ℕ → List ℕ
bytes_of zero w = []
bytes_of (suc k) w = w % 256 ∷ bytes_of k (w / 256)

-- words as bytes: "eight bytes each, lowest byte first"
unfoldable pub spelled : List ℕ → List ℕ
spelled [] = []
spelled (w ∷ ws) = bytes_of 8 w ++ spelled ws

-- "the store's used words from 94 on"
abbrev pub later_words : List ℕ → List ℕ
later_words u = drop fresh_length u

-- "A trailer of two such words closes it: the byte position where the words start, and their number."
abbrev pub trailer : List ℕ → List ℕ → List ℕ
trailer label ks = length label ∷ length ks ∷ []

-- "The file is a label of 0 to 255 bytes, then the store's used words from 94 on", and the trailer. For example (loaded/proofs/Examples.antt): a fresh store with no label is sixteen zeros.
unfoldable pub file_of : List ℕ → List ℕ → List ℕ
file_of label u = label ++ spelled (later_words u ++ trailer label (later_words u))

-- ---- as it is read: "the reader works back from the end"

-- the two words of the trailer, which are the last sixteen bytes
abbrev pub trailer_length : ℕ
trailer_length = 16

-- "the byte position where the words start", and so the label's length
abbrev pub start_in : List ℕ → ℕ
start_in f = of_bytes (take 8 (drop (length f - 16) f))

-- "their number"
abbrev pub count_in : List ℕ → ℕ
count_in f = of_bytes (take 8 (drop (length f - 8) f))

-- the trailer is there, and fits the length: label, words and trailer are the whole file. The numbers have no limit here, so that no sum runs over.
unfoldable pub trailed : List ℕ → Bool
trailed f = leb trailer_length (length f) && eqb (start_in f + 8 * count_in f + trailer_length) (length f)

-- the words
abbrev pub words_in : List ℕ → List ℕ
words_in f = packed (count_in f) (drop (start_in f) f)

-- the label
abbrev pub label_in : List ℕ → List ℕ
label_in f = take (start_in f) f
