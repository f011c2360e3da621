-- Whether two lists of words are the same: what `eqs` says, and what a loop that compares word by word knows. Assumes nothing.
use mathlib.Core.Path.{◌≡◌, refl, sym, ap, ◌∙◌}
use mathlib.Core.Bool.{Bool, true, false, ◌&&◌}
use mathlib.Core.List.{List, [], ◌∷◌}
use Prim.Native.Nat.{ℕ, suc, ◌+◌, ◌≤◌, ◌<◌}
use native.Mathlib.Omega.{arith}
use native.Mathlib.Numerals.{add-one}
use borrow.Author.Tests.{eq-eqb, ne_eqb, eqb-true}
use lib.ListN.{length, drop, get_or, drop_of_length-le}
use lib.Seq.{drop-cons}
use lib.Dec.{eqb}
use Rattle.std.specs.Prelude.{nat_eq}
use Rattle.std.proofs.lemmas.List.{ext_get_or}
use Rattle.std.specs.Cmp.Lexicographic.{pointwise}
use Rattle.words.specs.Words.{eqs}

pub eqs_refl : (a : List ℕ) → eqs a a ≡ true
unfolding eqs
eqs_refl [] = refl
eqs_refl (x ∷ xs) = rw (eq-eqb x x refl, eqs_refl xs)

pub eqs_eq : (a b : List ℕ) → eqs a b ≡ true → a ≡ b
unfolding eqs
eqs_eq [] [] e = refl
eqs_eq [] (y ∷ ys) e = let z : ◌≡◌ {A = ℕ} 0 1 = cc in absurd (omega arith)
eqs_eq (x ∷ xs) [] e = let z : ◌≡◌ {A = ℕ} 0 1 = cc in absurd (omega arith)
eqs_eq (x ∷ xs) (y ∷ ys) e = both (eqb x y) refl e (eqs_eq xs ys)
  where
    both : (t : Bool) → eqb x y ≡ t → (t && eqs xs ys) ≡ true → (eqs xs ys ≡ true → xs ≡ ys) → (x ∷ xs) ≡ (y ∷ ys)
    both true h f ih = cc (eqb-true x y h, ih f)
    both false h f ih = let z : ◌≡◌ {A = ℕ} 0 1 = cc in absurd (omega arith)

-- what `==` of two slices tells
pub pointwise_eqs : (a b : List ℕ) → pointwise nat_eq a b ≡ eqs a b
unfolding eqs
pointwise_eqs [] [] = refl
pointwise_eqs [] (y ∷ ys) = refl
pointwise_eqs (x ∷ xs) [] = refl
pointwise_eqs (x ∷ xs) (y ∷ ys) = rw (pointwise_eqs xs ys) refl

and-false : (b : Bool) → (b && false) ≡ false
and-false true = refl
and-false false = refl

pub other_length : (a b : List ℕ) → (length a ≡ length b → ⊥) → false ≡ eqs a b
unfolding eqs
other_length [] [] h = absurd (h refl)
other_length [] (y ∷ ys) h = refl
other_length (x ∷ xs) [] h = refl
other_length (x ∷ xs) (y ∷ ys) h = rw (← other_length xs ys (λ e. h (ap suc e))) (sym (and-false (eqb x y)))

-- lists that differ at a place, and lists that differ at none
pub differ_at : (a b : List ℕ) (i : ℕ) → (get_or a i 0 ≡ get_or b i 0 → ⊥) → eqs a b ≡ false
differ_at a b i ne = go (eqs a b) refl
  where
    go : (t : Bool) → eqs a b ≡ t → t ≡ false
    go true q = absurd (ne (ap (λ (l : List ℕ). get_or l i 0) (eqs_eq a b q)))
    go false q = refl

pub same_at_all : (a b : List ℕ) → length a ≡ length b → ((i : ℕ) → i < length a → get_or a i 0 ≡ get_or b i 0) → eqs a b ≡ true
same_at_all a b long is = rw (ext_get_or 0 a b long is) (eqs_refl b)

step : (a b : List ℕ) (i : ℕ) → i < length a → i < length b → eqs (drop i a) (drop i b) ≡ (eqb (get_or a i 0) (get_or b i 0) && eqs (drop (suc i) a) (drop (suc i) b))
unfolding eqs
step a b i h k = rw (drop-cons a i 0 h, drop-cons b i 0 k)

-- the loop's three ways on: a word differs, a word is the same, no word is left
module _ (a b : List ℕ) (i : ℕ) (left : eqs a b ≡ eqs (drop i a) (drop i b)) (long : length a ≡ length b) where
  pub other_word : i < length a → (get_or a i 0 ≡ get_or b i 0 → ⊥) → false ≡ eqs a b
  other_word h ne = sym (left ∙ step a b i h (omega arith) ∙ rw (ne_eqb _ _ ne))

  pub same_word : i < length a → get_or a i 0 ≡ get_or b i 0 → eqs a b ≡ eqs (drop (i + 1) a) (drop (i + 1) b)
  same_word h e = left ∙ step a b i h (omega arith) ∙ rw (eq-eqb _ _ e, add-one)

  pub no_more : length a ≤ i → true ≡ eqs a b
  unfolding eqs
  no_more h = let k : length b ≤ i = omega arith in sym (left ∙ rw (drop_of_length-le a h, drop_of_length-le b k))
