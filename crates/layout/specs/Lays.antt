-- What a layout means, said of any logs and any list of places, and not of the way the places are found. Not needed to believe the definition `offsets`: that `offsets logs` is such a list for
-- every list of logs is proved (proofs/Meaning.antt).
use Rattle.std.specs.Prelude.{◌≡◌, ◌⊎◌, List, ℕ, ◌+◌, ◌%◌, ◌≤◌, ◌<◌, length, get_or}
use Rattle.layout.specs.Layout.{width, bytes}

-- the log, the bytes and the place of field i
abbrev pub log_at : List ℕ → ℕ → ℕ
log_at logs i = get_or logs i 0

abbrev pub width_at : List ℕ → ℕ → ℕ
width_at logs i = width (log_at logs i)

abbrev pub place_at : List ℕ → ℕ → ℕ
place_at places i = get_or places i 0

-- the number behind the places of the fields
abbrev pub end_of : List ℕ → List ℕ → ℕ
end_of logs places = get_or places (length logs) 0

-- field i lies wholly before field j
abbrev pub Before : List ℕ → List ℕ → ℕ → ℕ → Type 0
Before logs places i j = place_at places i + width_at logs i ≤ place_at places j

pub record Lays (logs places : List ℕ) : Type 0 where
  -- a place for each field, and one more number
  pub each : length places ≡ length logs + 1
  -- each field ends before the end
  pub inside : (i : ℕ) → i < length logs → place_at places i + width_at logs i ≤ end_of logs places
  -- each field lies at a multiple of its own bytes
  pub aligned : (i : ℕ) → i < length logs → place_at places i % width_at logs i ≡ 0
  -- no two fields overlap
  pub apart : (i j : ℕ) → i < length logs → j < length logs → (i ≡ j → ⊥) → Before logs places i j ⊎ Before logs places j i
  -- "8-byte fields first, then 4, 2, 1"
  pub wider_first : (i j : ℕ) → i < length logs → j < length logs → log_at logs j < log_at logs i → Before logs places i j
  -- "each group in field order"
  pub in_order : (i j : ℕ) → i < j → j < length logs → log_at logs i ≡ log_at logs j → Before logs places i j
  -- no gap: fields that do not overlap, all within as many bytes as they have together
  pub no_gap : (i : ℕ) → i < length logs → place_at places i + width_at logs i ≤ bytes logs
  -- "the end rounded up to 8, so padding is 0 to 7 bytes"
  pub rounded : end_of logs places % 8 ≡ 0
  pub padding : (bytes logs ≤ end_of logs places) × (end_of logs places ≤ bytes logs + 7)
