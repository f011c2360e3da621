-- Document 02, Slip 3: the writer and the loader of a saved catalogue. The file is defined in catalogue_file/specs/File.antt.
use Rattle.std.specs.Prelude.{Bool, not, ◌&&◌, List, ◌++◌, ℕ, zero, suc, ◌-◌, length, replicate, ltb}
use Rattle.words.specs.Table.{entries}
use Rattle.wellformed.specs.Form.{right_length, well_formed, behind_fresh}
use Rattle.distinct.specs.Distinct.{own}
use Rattle.catalogue_file.specs.File.{longest_label, file_of, start_in, trailed, words_in}
use Rattle.call.specs.Call.{Outcome, left, number, refused, ◌when◌, ◌otherwise◌, fill, filled_output}

-- ---- the writer, for an output of n bytes

-- "Row 5 covers a label over 255 bytes"
abbrev pub label_rows : List ℕ → List ℕ → ℕ
label_rows label u = 5 when ltb longest_label (length label)

-- row 1, row 5, and "row 11 the writer's output". "The writer answers the file's length"
abbrev pub save_call : List ℕ → ℕ → List ℕ → Outcome
save_call label n = fill (label_rows label) (file_of label) n

-- what the output's bytes are afterwards: the file, and behind it what was there; where the call is refused, what was there
abbrev pub save_output : List ℕ → List ℕ → List ℕ → List ℕ
save_output label = filled_output (label_rows label) (file_of label)

-- ---- the loader of a file f, into a lent list ws that may hold anything

-- row 15 is for "words that behind the fresh ones form no store of any allowed length, or one with two equal entries": these form one, without. The fresh entries count among the equal ones. It is asked of a list of just the
-- store's length; in every allowed length that has room for it the answer is the same (`any_length`, loaded/proofs/Longer.antt).
unfoldable pub forms_store : List ℕ → Bool
forms_store ks = well_formed (behind_fresh ks) && own (entries (behind_fresh ks))

unfoldable pub load_rows : List ℕ → List ℕ → ℕ
load_rows f ws =
    -- "of row 1 it tests that list's length only"
    1 when not (right_length ws)
    -- "14, trailer missing or not fitting the length, after 1"
    otherwise 14 when not (trailed f)
    -- "15, words that behind the fresh ones form no store of any allowed length, or one with two equal entries, after 14"
    otherwise 15 when not (forms_store (words_in f))
    -- "Row 5 covers a label over 255 bytes"
    otherwise 5 when ltb longest_label (start_in f)
    -- "row 12 covers a list too short"
    otherwise 12 when ltb (length ws) (length (behind_fresh (words_in f)))

-- "The loader fills a lent list with the store written and zeroes its rest": a list of n words
abbrev pub loaded_store : List ℕ → ℕ → List ℕ
loaded_store ks n = behind_fresh ks ++ replicate (n - length (behind_fresh ks)) 0

-- "the reader works back from the end and answers the label's": its length. A refusal leaves every word
abbrev pub load_after : ℕ → List ℕ → List ℕ → Outcome
load_after zero f ws = left (number (start_in f)) (loaded_store (words_in f) (length ws))
load_after (suc n) f ws = left (refused (suc n)) ws

unfoldable pub load_call : List ℕ → List ℕ → Outcome
load_call f ws = load_after (load_rows f ws) f ws
