-- Words below 2 to the 64: of bytes, of a loaded store, of a store's entries. Assumes nothing.
use mathlib.Core.Path.{◌≡◌, refl, sym, ap, ◌∙◌}
use mathlib.Core.Bool.{Bool, true, false, ◌&&◌}
use mathlib.Core.Logic.{◌⊎◌, ⊎_elim}
use mathlib.Core.List.Memᴰ
use mathlib.Core.List.{List, [], ◌∷◌, ◌++◌}
use Prim.Native.Nat.{ℕ, zero, suc, pred, ◌+◌, ◌*◌, ◌^◌, ◌≤◌, ◌<◌}
use native.Mathlib.Omega.{arith}
use borrow.Author.Tests.{ltb-true}
use lib.Dec.{ltb}
use lib.ListN.{length, take, drop, get_or, replicate, length-take}
use lib.Pow.{pow_mono}
use lib.Seq.{get_or-drop}
use Rattle.words.specs.Words.{size_of}
use Rattle.words.specs.Table.{Row, rows, entries, RowIn}
use Rattle.words.proofs.Zeros as zeroing
use Rattle.source.specs.Packed.{of_bytes, packed}
use Rattle.source.proofs.Number.{number_below}
use Rattle.wellformed.specs.Entry.{all}
use Rattle.wellformed.specs.Fresh.{fresh_words}
use Rattle.wellformed.specs.Form.{behind_fresh}
use Rattle.wellformed.proofs.Bools.{and_left, and_right}
use Rattle.call.specs.Keep.{Ends}
use Rattle.catalogue_file.proofs.Spelled.{behind}
use Rattle.loaded.specs.Loaded.{AreWords, AreBytes}

-- all words of a list are below b
abbrev Below : ℕ → List ℕ → Type 0
Below b l = (i : ℕ) → get_or l i 0 < b

module _ (b : ℕ) (some : 0 < b) where
  below_append : (l r : List ℕ) → Below b l → Below b r → Below b (l ++ r)
  below_append [] r p q i = q i
  below_append (x ∷ l) r p q zero = p 0
  below_append (x ∷ l) r p q (suc i) = below_append l r (λ k. p (suc k)) q i

  below_cons : (x : ℕ) (l : List ℕ) → x < b → Below b l → Below b (x ∷ l)
  below_cons x l h q zero = h
  below_cons x l h q (suc i) = q i

  pub below_take : (n : ℕ) (l : List ℕ) → Below b l → Below b (take n l)
  below_take zero l p i = some
  below_take (suc n) [] p i = some
  below_take (suc n) (x ∷ l) p zero = p 0
  below_take (suc n) (x ∷ l) p (suc i) = below_take n l (λ k. p (suc k)) i

  pub below_drop : (n : ℕ) (l : List ℕ) → Below b l → Below b (drop n l)
  below_drop n l p i = rw (get_or-drop n l i 0) (p (n + i))

  pub tested : (l : List ℕ) → all (λ w. ltb w b) l ≡ true → Below b l
  unfolding all
  tested [] h i = some
  tested (x ∷ l) h zero = ltb-true x b (and_left (ltb x b) (all (λ w. ltb w b) l) h)
  tested (x ∷ l) h (suc i) = tested l (and_right (ltb x b) (all (λ w. ltb w b) l) h) i

  -- the words of an entry are words of the list
  below_rows : (at k : ℕ) (l : List ℕ) → Below b l → (r : Row) → RowIn r (rows at k l) → Below b r.words
  unfolding rows
  below_rows at zero [] p r m = absurd (Memᴰ.not-nil m)
  below_rows at (suc k) [] p r m = absurd (Memᴰ.not-nil m)
  below_rows at zero (w ∷ l) p r m =
      ⊎_elim
      (λ (e : r ≡ record { at = at; words = take (size_of w) (w ∷ l) }). rw e (below_take (size_of w) (w ∷ l) p))
      (λ (i : RowIn r (rows (suc at) (pred (size_of w)) l)). below_rows (suc at) (pred (size_of w)) l (λ k. p (suc k)) r i)
      (Memᴰ.cases_cons m)
  below_rows at (suc k) (w ∷ l) p r m = below_rows (suc at) k l (λ j. p (suc j)) r m

fresh_small : AreWords fresh_words
unfolding fresh_words all
fresh_small = tested (2 ^ 64) (omega arith) fresh_words refl

packed_small : (k : ℕ) (bs : List ℕ) → AreBytes bs → AreWords (packed k bs)
unfolding packed
packed_small zero bs small i = omega arith
packed_small (suc k) bs small zero =
    let n : 8 * length (take 8 bs) ≤ 64 = omega (arith, length-take 8 bs) in
    let h : of_bytes (take 8 bs) < 2 ^ (8 * length (take 8 bs)) = number_below (take 8 bs) (below_take 256 (omega arith) 8 bs small) in
    omega (arith, pow_mono n)
packed_small (suc k) bs small (suc i) = packed_small k (drop 8 bs) (behind 8 bs small) i

-- a loaded store's
pub loaded_small : (k : ℕ) (bs : List ℕ) (j : ℕ) → AreBytes bs → 94 + length (packed k bs) < 2 ^ 64 → AreWords (behind_fresh (packed k bs) ++ replicate j 0)
unfolding behind_fresh
loaded_small k bs j small few =
    below_append (2 ^ 64) (omega arith) ((94 + length (packed k bs)) ∷ (fresh_words ++ packed k bs)) (replicate j 0)
    (below_cons (2 ^ 64) (omega arith) (94 + length (packed k bs)) (fresh_words ++ packed k bs) few (below_append (2 ^ 64) (omega arith) fresh_words (packed k bs) fresh_small (packed_small k bs small)))
    (λ i. let e = zeroing.zeros j i in omega arith)

-- the ends of the Ints of a list of words
pub small_ends : (u : List ℕ) → AreWords u → Ends (entries u)
unfolding entries
small_ends u small r m is =
    let w = below_rows (2 ^ 64) (omega arith) 1 0 (drop 1 u) (below_drop (2 ^ 64) (omega arith) 1 u small) r m in
    (w 1, w 2)
