-- The words 1 to 93 of every store: the entries that document 01 lists for a fresh one. `kept` has the theorem that ties them to that
-- list, handle by handle.
use Rattle.std.specs.Prelude.{List, [], ◌∷◌, ℕ}

-- "Fresh, 94 words": word 0 and these 93
abbrev pub fresh_length : ℕ
fresh_length = 94

unfoldable pub fresh_words : List ℕ
fresh_words =
    262144 ∷ 1347376164 ∷ 262144 ∷ 1414480420 ∷ 257 ∷ 258 ∷ 259 ∷ 260 ∷ 261 ∷ 0 ∷ 0 ∷ 261 ∷
    1 ∷ 1 ∷ 261 ∷ 0 ∷ 1 ∷ 264 ∷ 1 ∷ 264 ∷ 3 ∷ 261 ∷ 9223372036854775807 ∷ 9223372036854775808 ∷
    261 ∷ 9223372036854775808 ∷ 9223372036854775807 ∷ 261 ∷ 2 ∷ 2 ∷ 261 ∷ 18446744073709551488 ∷ 127 ∷ 261 ∷ 18446744073709518848 ∷ 32767 ∷
    261 ∷ 18446744071562067968 ∷ 2147483647 ∷ 261 ∷ 0 ∷ 255 ∷ 261 ∷ 0 ∷ 65535 ∷ 261 ∷ 0 ∷ 4294967295 ∷
    262 ∷ 0 ∷ 0 ∷ 262 ∷ 32 ∷ 0 ∷ 262 ∷ 64 ∷ 0 ∷ 262 ∷ 96 ∷ 0 ∷
    262 ∷ 128 ∷ 0 ∷ 131591 ∷ 7 ∷ 7 ∷ 131591 ∷ 8 ∷ 8 ∷ 131591 ∷ 7 ∷ 8 ∷
    131591 ∷ 8 ∷ 7 ∷ 523 ∷ 4294967295 ∷ 6 ∷ 523 ∷ 4294967295 ∷ 5 ∷ 522 ∷ 20 ∷ 1 ∷
    522 ∷ 18 ∷ 0 ∷ 522 ∷ 18 ∷ 1 ∷ 522 ∷ 20 ∷ 0 ∷ []
