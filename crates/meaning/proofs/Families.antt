-- The kind of a type and the family of its tree. Assumes nothing.
use mathlib.Core.Path.{◌≡◌, refl, sym, ap, ◌∙◌}
use mathlib.Core.Logic.{◌⊎◌, inl, inr, ◌≢◌, ⊎_elim}
use mathlib.Core.Bool.{Bool, true, false, ◌&&◌}
use mathlib.Core.List.{List}
use Prim.Native.Nat.{ℕ, zero, suc, ◌+◌, ◌≤◌}
use native.Mathlib.Omega.{arith}
use borrow.Author.Tests.{eqb-true, eqb-false, eq-eqb}
use lib.Dec.{eqb}
use Rattle.wellformed.specs.Entry.{is_struct}
use Rattle.words.specs.Columns.{word, kind_on, count_on}
use Rattle.parts.specs.Parts.{Good}
use Rattle.rules.specs.Column.{◌⇒◌∣◌}
use Rattle.trees.proofs.Tree.{stc, ◌≼◌, same, Ty, cls}
use Rattle.trees.proofs.Meet.{kind}
use Rattle.meaning.proofs.View.{View, build}
use Rattle.meaning.proofs.Values.{clash, pick, float_view}
use Rattle.meaning.proofs.Seen.{kind_view, struct_view}
use Rattle.meaning.proofs.Store.{Typed, tree_on, looks}

-- what holds of each kind
pub each_kind : (P : ℕ → Type 0) → P 1 → P 2 → P 3 → P 4 → P 5 → P 6 → P 7 → P 8 → P 9 → P 10 → P 11 → (k : ℕ) → 1 ≤ k → k ≤ 11 → P k
each_kind P p₁ p₂ p₃ p₄ p₅ p₆ p₇ p₈ p₉ p₁₀ p₁₁ zero l h = absurd (omega arith)
each_kind P p₁ p₂ p₃ p₄ p₅ p₆ p₇ p₈ p₉ p₁₀ p₁₁ (suc zero) l h = p₁
each_kind P p₁ p₂ p₃ p₄ p₅ p₆ p₇ p₈ p₉ p₁₀ p₁₁ (suc (suc zero)) l h = p₂
each_kind P p₁ p₂ p₃ p₄ p₅ p₆ p₇ p₈ p₉ p₁₀ p₁₁ (suc (suc (suc zero))) l h = p₃
each_kind P p₁ p₂ p₃ p₄ p₅ p₆ p₇ p₈ p₉ p₁₀ p₁₁ (suc (suc (suc (suc zero)))) l h = p₄
each_kind P p₁ p₂ p₃ p₄ p₅ p₆ p₇ p₈ p₉ p₁₀ p₁₁ (suc (suc (suc (suc (suc zero))))) l h = p₅
each_kind P p₁ p₂ p₃ p₄ p₅ p₆ p₇ p₈ p₉ p₁₀ p₁₁ (suc (suc (suc (suc (suc (suc zero)))))) l h = p₆
each_kind P p₁ p₂ p₃ p₄ p₅ p₆ p₇ p₈ p₉ p₁₀ p₁₁ (suc (suc (suc (suc (suc (suc (suc zero))))))) l h = p₇
each_kind P p₁ p₂ p₃ p₄ p₅ p₆ p₇ p₈ p₉ p₁₀ p₁₁ (suc (suc (suc (suc (suc (suc (suc (suc zero)))))))) l h = p₈
each_kind P p₁ p₂ p₃ p₄ p₅ p₆ p₇ p₈ p₉ p₁₀ p₁₁ (suc (suc (suc (suc (suc (suc (suc (suc (suc zero))))))))) l h = p₉
each_kind P p₁ p₂ p₃ p₄ p₅ p₆ p₇ p₈ p₉ p₁₀ p₁₁ (suc (suc (suc (suc (suc (suc (suc (suc (suc (suc zero)))))))))) l h = p₁₀
each_kind P p₁ p₂ p₃ p₄ p₅ p₆ p₇ p₈ p₉ p₁₀ p₁₁ (suc (suc (suc (suc (suc (suc (suc (suc (suc (suc (suc zero))))))))))) l h = p₁₁
each_kind P p₁ p₂ p₃ p₄ p₅ p₆ p₇ p₈ p₉ p₁₀ p₁₁ (suc (suc (suc (suc (suc (suc (suc (suc (suc (suc (suc (suc k)))))))))))) l h = absurd (omega arith)

-- kinds of one family: Bot and Top, Ctrl and XCtrl, structs and forward references
abbrev pub family : ℕ → ℕ
family k = eqb k 2 ⇒ 1 ∣ eqb k 4 ⇒ 3 ∣ eqb k 9 ⇒ 8 ∣ k

float_kind : (f : ℕ → Ty) (s n : ℕ) → kind (build f (float_view s n)) ≡ 6
float_kind f s n = let P : View → Type 0 = λ v. kind (build f v) ≡ 6 in pick P (eqb s 0) (λ e. refl) λ e. pick P (eqb s 32) (λ e. refl) λ e. pick P (eqb s 96) (λ e. refl) λ e. pick P (eqb s 128) (λ e. refl) λ e. refl

struct_kind : (f : ℕ → Ty) (u : List ℕ) (name n p : ℕ) → kind (build f (struct_view u name n p)) ≡ 8
struct_kind f u name n p = let P : View → Type 0 = λ v. kind (build f v) ≡ 8 in pick P (eqb name 1 && eqb n 0) (λ e. refl) λ e. pick P (eqb name 3 && eqb n 0) (λ e. refl) λ e. refl

struct_class : (f : ℕ → Ty) (u : List ℕ) (name n p : ℕ) → stc ≼ cls (build f (struct_view u name n p))
struct_class f u name n p = let P : View → Type 0 = λ v. stc ≼ cls (build f v) in pick P (eqb name 1 && eqb n 0) (λ e. same) λ e. pick P (eqb name 3 && eqb n 0) (λ e. same) λ e. same

pub struct_or_fref : (k : ℕ) → 8 ≤ k → k ≤ 9 → (k ≡ 8) ⊎ (k ≡ 9)
struct_or_fref k l m = go (eqb k 8) refl
  where
    go : (t : Bool) → eqb k 8 ≡ t → (k ≡ 8) ⊎ (k ≡ 9)
    go true e = inl (eqb-true k 8 e)
    go false e = inr (let z : (k ≡ 8 → ⊥) = eqb-false k 8 e in omega arith)

module _ {u : List ℕ} (g : Good u) (h : ℕ) (p : Typed u h) where
  view_kind : (k : ℕ) → 1 ≤ k → k ≤ 11 → kind (build (tree_on u) (kind_view k u h)) ≡ family k
  view_kind =
      each_kind (λ k. kind (build (tree_on u) (kind_view k u h)) ≡ family k) refl refl refl refl refl (float_kind (tree_on u) (word u (h + 1)) (word u (h + 2))) refl
      (struct_kind (tree_on u) u (word u (h + 1)) (count_on u h) (h + 2)) refl refl refl

  pub kind_family : kind (tree_on u h) ≡ family (kind_on u h)
  kind_family = ap kind (looks g h (kind_on u h) p refl) ∙ view_kind (kind_on u h) p.least p.most

  -- structs and forward references are within the class of structs
  pub in_structs : 8 ≤ kind_on u h → kind_on u h ≤ 9 → stc ≼ cls (tree_on u h)
  in_structs l m =
      ⊎_elim (λ (e : kind_on u h ≡ 8). rw (looks g h 8 p e) (struct_class (tree_on u) u (word u (h + 1)) (count_on u h) (h + 2))) (λ (e : kind_on u h ≡ 9). rw (looks g h 9 p e) same) (struct_or_fref (kind_on u h) l m)

-- ---- two kinds of different families: no rule but the last fits

pub record Others (j k : ℕ) : Type 0 where
  pub bot : eqb j 1 ≡ false
  pub top : eqb j 2 ≡ false
  pub ctrls : j ≡ 3 → k ≡ 3 → ⊥
  pub xctrls : j ≡ 4 → k ≡ 4 → ⊥
  pub down : (eqb j 3 && eqb k 4) ≡ false
  pub up : (eqb j 4 && eqb k 3) ≡ false
  pub ints : (eqb j 5 && eqb k 5) ≡ false
  pub floats : (eqb j 6 && eqb k 6) ≡ false
  pub tuples : (eqb j 7 && eqb k 7) ≡ false
  pub structs : (is_struct j && is_struct k) ≡ false
  pub pointers : (eqb j 10 && eqb k 10) ≡ false
  pub memories : (eqb j 11 && eqb k 11) ≡ false

back : (k x : ℕ) → x ≢ 1 → x ≢ 3 → x ≢ 8 → family k ≡ x → k ≡ x
back k x a b c =
    let P : ℕ → Type 0 = λ v. v ≡ x → k ≡ x in
    pick P (eqb k 2) (λ e q. absurd (a (sym q))) λ e. pick P (eqb k 4) (λ e q. absurd (b (sym q))) λ e. pick P (eqb k 9) (λ e q. absurd (c (sym q))) λ e. λ q. q

back_ctrl : (k : ℕ) → family k ≡ 3 → (k ≡ 3) ⊎ (k ≡ 4)
back_ctrl k =
    let P : ℕ → Type 0 = λ v. v ≡ 3 → (k ≡ 3) ⊎ (k ≡ 4) in
    pick P (eqb k 2) (λ e q. absurd (omega arith)) λ e. pick P (eqb k 4) (λ e q. inr (eqb-true k 4 e)) λ e. pick P (eqb k 9) (λ e q. absurd (omega arith)) λ e. λ q. inl q

back_struct : (k : ℕ) → family k ≡ 8 → (k ≡ 8) ⊎ (k ≡ 9)
back_struct k =
    let P : ℕ → Type 0 = λ v. v ≡ 8 → (k ≡ 8) ⊎ (k ≡ 9) in
    pick P (eqb k 2) (λ e q. absurd (omega arith)) λ e. pick P (eqb k 4) (λ e q. absurd (omega arith)) λ e. pick P (eqb k 9) (λ e q. inr (eqb-true k 9 e)) λ e. λ q. inl q

module _ (k : ℕ) where
  abbrev Apart : ℕ → Type 0
  Apart j = Others j k → family j ≡ family k → ⊥

  no_struct : is_struct k ≡ false → family k ≡ 8 → ⊥
  no_struct f q = ⊎_elim (λ (e : k ≡ 8). clash (rw e refl) f) (λ (e : k ≡ 9). clash (rw e refl) f) (back_struct k q)

  pub apart : (j : ℕ) → 1 ≤ j → j ≤ 11 → Apart j
  apart =
      each_kind Apart
      (λ o q. clash refl o.bot) (λ o q. clash refl o.top)
      (λ o q. ⊎_elim (λ (e : k ≡ 3). o.ctrls refl e) (λ (e : k ≡ 4). clash (eq-eqb k 4 e) o.down) (back_ctrl k (sym q)))
      (λ o q. ⊎_elim (λ (e : k ≡ 3). clash (eq-eqb k 3 e) o.up) (λ (e : k ≡ 4). o.xctrls refl e) (back_ctrl k (sym q)))
      (λ o q. clash (eq-eqb k 5 (back k 5 (omega arith) (omega arith) (omega arith) (sym q))) o.ints)
      (λ o q. clash (eq-eqb k 6 (back k 6 (omega arith) (omega arith) (omega arith) (sym q))) o.floats)
      (λ o q. clash (eq-eqb k 7 (back k 7 (omega arith) (omega arith) (omega arith) (sym q))) o.tuples)
      (λ o q. no_struct o.structs (sym q)) (λ o q. no_struct o.structs (sym q))
      (λ o q. clash (eq-eqb k 10 (back k 10 (omega arith) (omega arith) (omega arith) (sym q))) o.pointers)
      (λ o q. clash (eq-eqb k 11 (back k 11 (omega arith) (omega arith) (omega arith) (sym q))) o.memories)

pub no_one : (k : ℕ) → eqb k 1 ≡ false → eqb k 2 ≡ false → family k ≢ 1
no_one k a b =
    let P : ℕ → Type 0 = λ v. v ≡ 1 → ⊥ in
    pick P (eqb k 2) (λ e q. clash e b) λ e. pick P (eqb k 4) (λ e q. omega arith) λ e. pick P (eqb k 9) (λ e q. omega arith) λ e. λ q. eqb-false k 1 a q
