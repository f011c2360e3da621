-- The bytes of a name, which is the lent text or the text in brackets. Assumes nothing.
use mathlib.Core.Path.{◌≡◌, refl, sym, ap, ◌∙◌}
use mathlib.Core.Bool.{Bool, true, false}
use mathlib.Core.List.{List, [], ◌∷◌, ◌++◌}
use Prim.Native.Nat.{ℕ, zero, suc, ◌+◌, ◌-◌, ◌≤◌}
use native.Mathlib.Omega.{arith}
use borrow.Author.Tests.{ltb-true, ltb-false}
use lib.ListN.{length, get_or, length-append, get_or-append, get_or-eq_default}
use lib.Seq.{get_or-append-add}
use lib.Dec.{ltb}
use Rattle.names.specs.Name.{wrapped}

-- the closing bracket is the byte after the text's, and the others are as they were
at_end : (text : List ℕ) (i : ℕ) → i ≡ length text → 93 ≡ get_or (text ++ (93 ∷ [])) i 0
at_end text i end =
    let k : length text + 0 ≡ i = omega arith in
    sym (ap (λ (n : ℕ). get_or (text ++ (93 ∷ [])) n 0) (sym k) ∙ get_or-append-add text (93 ∷ []) 0 0)

elsewhere : (text : List ℕ) (i : ℕ) → (i ≡ length text → ⊥) → get_or text i 0 ≡ get_or (text ++ (93 ∷ [])) i 0
elsewhere text i ne = go (ltb i (length text)) refl
  where
    go : (t : Bool) → ltb i (length text) ≡ t → get_or text i 0 ≡ get_or (text ++ (93 ∷ [])) i 0
    go true q = sym (get_or-append text (93 ∷ []) 0 i (ltb-true _ _ q))
    go false q =
        let h : length text ≤ i = ltb-false _ _ q in
        let k : length (text ++ (93 ∷ [])) ≤ i = omega (arith, length-append text (93 ∷ [])) in
        get_or-eq_default text 0 h ∙ sym (get_or-eq_default (text ++ (93 ∷ [])) 0 k)

-- how many they are
pub length_wrapped : (text : List ℕ) (wrap : Bool) → wrap ≡ true → length (wrapped wrap text) ≡ length text + 2
unfolding wrapped
length_wrapped text wrap w = rw w (omega (arith, length-append text (93 ∷ [])))

pub length_plain : (text : List ℕ) (wrap : Bool) → wrap ≡ false → length (wrapped wrap text) ≡ length text
unfolding wrapped
length_plain text wrap w = rw w

-- each of them
pub plain : (text : List ℕ) (wrap : Bool) (i : ℕ) → wrap ≡ false → get_or (wrapped wrap text) i 0 ≡ get_or text i 0
unfolding wrapped
plain text wrap i w = rw w

pub opens : (text : List ℕ) (wrap : Bool) (i : ℕ) → wrap ≡ true → i ≡ 0 → ◌≡◌ {A = ℕ} (get_or (wrapped wrap text) i 0) 91
unfolding wrapped
opens text wrap i w z = rw (w, z)

pub closes : (text : List ℕ) (wrap : Bool) (i : ℕ) → wrap ≡ true → (i ≡ 0 → ⊥) → i - 1 ≡ length text → ◌≡◌ {A = ℕ} (get_or (wrapped wrap text) i 0) 93
unfolding wrapped
closes text wrap zero w ne end = absurd (ne refl)
closes text wrap (suc i) w ne end = rw w (sym (at_end text i (omega arith)))

pub between : (text : List ℕ) (wrap : Bool) (i : ℕ) → wrap ≡ true → (i ≡ 0 → ⊥) → (i - 1 ≡ length text → ⊥) → get_or (wrapped wrap text) i 0 ≡ get_or text (i - 1) 0
unfolding wrapped
between text wrap zero w ne no_end = absurd (ne refl)
between text wrap (suc i) w ne no_end =
    let k : suc i - 1 ≡ i = omega arith in
    rw w (sym (ap (λ (n : ℕ). get_or text n 0) k ∙ elsewhere text i (λ e. no_end (k ∙ e))))

pub length_most : (text : List ℕ) (wrap : Bool) → length (wrapped wrap text) ≤ length text + 2
length_most text true = omega (arith, length_wrapped text true refl)
length_most text false = omega (arith, length_plain text false refl)

-- a text that is no array's is the name
pub plain_word : (text : List ℕ) (wrap : Bool) → wrap ≡ false → wrapped wrap text ≡ text
unfolding wrapped
plain_word text wrap w = rw w
