-- Bytes as words: "eight a word, lowest first" (document 01's names, document 02's saved catalogue).
use Rattle.std.specs.Prelude.{List, [], ◌∷◌, ℕ, zero, suc, ◌+◌, ◌*◌, take, drop}

-- the number that some bytes are, "lowest first": each byte counts 256 times as much as the one before it
unfoldable pub of_bytes : List ℕ → ℕ
of_bytes [] = 0
of_bytes (b ∷ bs) = b + 256 * of_bytes bs

-- k words of bytes, "eight a word, lowest first, zero fill"
unfoldable pub packed : ℕ → List ℕ → List ℕ
packed zero bs = []
packed (suc k) bs = of_bytes (take 8 bs) ∷ packed k (drop 8 bs)
