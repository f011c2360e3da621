-- For the functions alone: a store's words in two sources, a list of words and then bytes that hold further ones. A plain store has no bytes.
use Rattle.std.specs.Prelude.{List, ◌++◌, ℕ, ◌/◌, length}
use Rattle.source.specs.Packed.{packed}

-- the words that bytes hold, as many as are whole: up to seven bytes at the end hold none
abbrev pub unpacked : List ℕ → List ℕ
unpacked bs = packed (length bs / 8) bs

unfoldable pub stored : List ℕ → List ℕ → List ℕ
stored ws bs = ws ++ unpacked bs
