-- Document 02, Slip 3: what is saved is loaded, and what is loaded was saved. proofs/Round.antt proves both.
use Rattle.std.specs.Prelude.{◌≡◌, true, List, ◌++◌, ℕ, ◌-◌, ◌^◌, ◌≤◌, ◌<◌, length, take, replicate}
use Rattle.words.specs.Columns.{word}
use Rattle.words.specs.Table.{entries, Own}
use Rattle.wellformed.specs.Form.{right_length, well_formed, used_count, used_words}
use Rattle.call.specs.Call.{left, number}
use Rattle.catalogue_file.specs.File.{file_of}
use Rattle.catalogue.specs.Catalogue.{save_call, save_output, load_call}

-- "64-bit words"
abbrev pub AreWords : List ℕ → Type 0
AreWords ws = (i : ℕ) → word ws i < 2 ^ 64

-- and bytes
abbrev pub AreBytes : List ℕ → Type 0
AreBytes f = (i : ℕ) → word f i < 256

-- What an accepted save of a store without two equal entries wrote, a load takes into every list vs that has room for the used words: it answers the label's length, and leaves the store, its rest zero.
-- The output had any bytes before.
abbrev pub RoundTrip : Type 0
RoundTrip =
    (ws label out : List ℕ) (n : ℕ) → AreWords ws → Own (entries (used_words ws)) → (save_call label (length out) ws).reply ≡ number n
    → (vs : List ℕ) → right_length vs ≡ true → used_count ws ≤ length vs
    → load_call (take n (save_output label ws out)) vs ≡ left (number (length label)) (used_words ws ++ replicate (length vs - used_count ws) 0)

-- into a list of the store's own length, the very store
abbrev pub SameStore : Type 0
SameStore =
    (ws label out : List ℕ) (n : ℕ) → AreWords ws → Own (entries (used_words ws)) → (save_call label (length out) ws).reply ≡ number n
    → (vs : List ℕ) → length vs ≡ length ws → load_call (take n (save_output label ws out)) vs ≡ left (number (length label)) ws

-- what an accepted load of f into ws left: a store without two equal entries, of which the writer makes f, under f's first l bytes as the label
pub record Taken (f ws : List ℕ) (l : ℕ) : Type 0 where
  pub long : length (load_call f ws).words ≡ length ws
  pub well : well_formed (load_call f ws).words ≡ true
  pub own : Own (entries (used_words (load_call f ws).words))
  pub small : AreWords (load_call f ws).words
  pub label : length (take l f) ≡ l
  pub short : l ≤ 255
  pub file : file_of (take l f) (used_words (load_call f ws).words) ≡ f

abbrev pub JustSaved : Type 0
JustSaved = (f ws : List ℕ) (l : ℕ) → AreBytes f → (load_call f ws).reply ≡ number l → Taken f ws l

-- "Equal label and store mean equal bytes": two accepted saves under one label, of stores with the same used words, write the same file. The lists may have different lengths, and the outputs any bytes before.
abbrev pub EqualBytes : Type 0
EqualBytes =
    (ws vs label out other : List ℕ) (n m : ℕ) → used_words ws ≡ used_words vs → (save_call label (length out) ws).reply ≡ number n → (save_call label (length other) vs).reply ≡ number m
    → take n (save_output label ws out) ≡ take m (save_output label vs other)

-- and only equal ones do: where two files are equal, the labels are, and the used words of the stores
abbrev pub EqualStores : Type 0
EqualStores =
    (ws vs label other : List ℕ) → AreWords ws → AreWords vs → well_formed ws ≡ true → well_formed vs ≡ true → length label ≤ 255 → length other ≤ 255
    → file_of label (used_words ws) ≡ file_of other (used_words vs) → (label ≡ other) × (used_words ws ≡ used_words vs)
