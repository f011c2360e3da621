-- Document 01: "Offsets: 8-byte fields first, then 4, 2, 1, each group in field order; one more number, the end rounded up to 8, so padding is 0 to 7 bytes."
-- How wide a field is comes from outside, as a list of logs: the field of log k takes 2 ^ k bytes. So this is the layout for every rule of a field's width.
use Rattle.std.specs.Prelude.{Bool, true, cond, List, [], ◌∷◌, ◌++◌, ℕ, ◌+◌, ◌*◌, ◌/◌, ◌^◌, ◌≤◌, ◌<◌, eqb, ltb, length, get_or}

-- the bytes of a field of log k: 1, 2, 4, 8 for 0, 1, 2, 3
abbrev pub width : ℕ → ℕ
width k = 2 ^ k

-- the largest log: no field takes more than 8 bytes
abbrev pub widest : ℕ
widest = 3

-- "n from 0 to 255": a struct's fields
abbrev pub most_fields : ℕ
most_fields = 255

abbrev pub EightAtMost : List ℕ → Type 0
EightAtMost logs = (i : ℕ) → i < length logs → get_or logs i 0 ≤ widest

-- the bytes of the fields whose log passes a test
unfoldable pub bytes_where : (ℕ → Bool) → List ℕ → ℕ
bytes_where test [] = 0
bytes_where test (k ∷ logs) = cond (test k) (width k) 0 + bytes_where test logs

-- of all fields
abbrev pub bytes : List ℕ → ℕ
bytes logs = bytes_where (λ k. true) logs

-- of the fields of log k
abbrev pub bytes_of : ℕ → List ℕ → ℕ
bytes_of k logs = bytes_where (eqb k) logs

-- of the fields of a larger log than k
abbrev pub bytes_wider : ℕ → List ℕ → ℕ
bytes_wider k logs = bytes_where (ltb k) logs

-- "8-byte fields first, then 4, 2, 1, each group in field order": a field lies behind all fields that are wider, and behind those before it that are as wide. For each of the fields `rest`,
-- which follow the fields `before`; `all` is the whole list of fields.
unfoldable pub offsets_from : List ℕ → List ℕ → List ℕ → List ℕ
offsets_from all before [] = []
offsets_from all before (k ∷ rest) = (bytes_wider k all + bytes_of k before) ∷ offsets_from all (before ++ (k ∷ [])) rest

-- "the end rounded up to 8"
abbrev pub round_up : ℕ → ℕ
round_up n = (n + 7) / 8 * 8

-- an offset for each field, and "one more number"
unfoldable pub offsets : List ℕ → List ℕ
offsets logs = offsets_from logs [] logs ++ (round_up (bytes logs) ∷ [])
