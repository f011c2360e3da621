-- The finals of a met struct: how many they are, that each is a flag, and what the loop that writes them knows. Assumes nothing.
use mathlib.Core.Path.{◌≡◌, refl, sym, ap, ◌∙◌}
use mathlib.Core.Bool.{true}
use mathlib.Core.List.{List, [], ◌∷◌, ◌++◌}
use Prim.Native.Nat.{ℕ, zero, suc, ◌+◌, ◌-◌, ◌*◌, ◌%◌, ◌≤◌, ◌<◌, max}
use native.Mathlib.Omega.{arith}
use native.Mathlib.Numerals.{add-one}
use borrow.Author.Tests.{le-leb}
use lib.ListN.{length, take, drop, set}
use lib.Seq.{set_split, drop-drop}
use Rattle.words.specs.Ran.{Ran}
use Rattle.std.specs.Prelude.{Option}
use Rattle.words.specs.declared.Interned.{Interned}
use Rattle.wellformed.specs.Entry.{all, is_flag}
use Rattle.words.specs.Columns.{every, word}
use Rattle.wellformed.proofs.Bools.{and_both}
use Rattle.makers.proofs.Built.{front_of}
use Rattle.makers.proofs.Fields.{every_first}
use Rattle.structs.specs.Remade.{remake}
use Rattle.words.proofs.Written.{written_on, written_all}
use Rattle.meet_fields.specs.Fields.{either_final, meet_fields}

pub every_length : (s n p : ℕ) (u : List ℕ) → length (every s n p u) ≡ n
unfolding every
every_length s zero p u = refl
every_length s (suc n) p u = ap suc (every_length s n (p + s) u)

pub either_length : (xs ys : List ℕ) → length xs ≡ length ys → length (either_final xs ys) ≡ length xs
unfolding either_final
either_length [] ys e = refl
either_length (x ∷ xs) [] e = absurd (omega arith)
either_length (x ∷ xs) (y ∷ ys) e = omega (arith, either_length xs ys (omega arith))

pub either_flags : (xs ys : List ℕ) → all is_flag (either_final xs ys) ≡ true
unfolding either_final all
either_flags [] ys = refl
either_flags (x ∷ xs) [] = refl
either_flags (x ∷ xs) (y ∷ ys) =
    let h : max (x % 2) (y % 2) ≤ 1 = omega arith in
    and_both (is_flag (max (x % 2) (y % 2))) (all is_flag (either_final xs ys)) (le-leb _ _ h) (either_flags xs ys)

-- the finals of n fields, of the words that stand from p and from q on
abbrev pub finals : List ℕ → ℕ → ℕ → ℕ → List ℕ
finals u n p q = either_final (every 3 n p u) (every 3 n q u)

finals_length : (u : List ℕ) (n p q : ℕ) → length (finals u n p q) ≡ n
finals_length u n p q = either_length (every 3 n p u) (every 3 n q u) (every_length 3 n p u ∙ sym (every_length 3 n q u)) ∙ every_length 3 n p u

-- ---- a loop that writes them

module _ (u d₀ d : List ℕ) (n p q i : ℕ) (sum : take i d ++ finals u (n - i) (p + 3 * i) (q + 3 * i) ≡ finals u n p q) (rest : drop i d ≡ drop i d₀) where
  pub either_on : n ≤ length d₀ → length d ≡ length d₀ → i < n → (x y v : ℕ) → x ≡ word u (p + 3 * i) → y ≡ word u (q + 3 * i) → v ≡ max (x % 2) (y % 2)
      → (take (i + 1) (set d i v) ++ finals u (n - (i + 1)) (p + 3 * (i + 1)) (q + 3 * (i + 1)) ≡ finals u n p q) × (drop (i + 1) (set d i v) ≡ drop (i + 1) d₀)
  unfolding either_final
  either_on room size more x y v ex ey ev =
      let h : i < length d = omega arith in
      let low : i ≤ length d = omega arith in
      let k : 0 < n - i = omega arith in
      let m : n - (i + 1) ≡ n - i - 1 = omega arith in
      let a : p + 3 * (i + 1) ≡ p + 3 * i + 3 = omega arith in
      let b : q + 3 * (i + 1) ≡ q + 3 * i + 3 = omega arith in
      let next : finals u (n - i) (p + 3 * i) (q + 3 * i) ≡ v ∷ finals u (n - (i + 1)) (p + 3 * (i + 1)) (q + 3 * (i + 1)) =
      rw (every_first 3 (n - i) (p + 3 * i) u k, every_first 3 (n - i) (q + 3 * i) u k, m, a, b, ev, ex, ey) in
      let is : set d i v ≡ take i d ++ (v ∷ drop 1 (drop i d)) = set_split d i v h ∙ rw (drop-drop 1 i d, add-one i) in
      written_on d₀ d _ _ i sum rest (v ∷ []) (set d i v) _ (i + 1) low refl is next

  pub either_end : i ≤ n → n ≤ i → d ≡ finals u n p q ++ drop n d₀
  unfolding either_final every
  either_end low high =
      let z : n - i ≡ 0 = omega arith in
      let k : n ≡ i = omega arith in
      let none : finals u (n - i) (p + 3 * i) (q + 3 * i) ≡ [] = rw z in
      written_all d₀ d _ _ i sum rest none n k

-- ---- the struct with them

module _ (u types f x : List ℕ) (a b : ℕ) (is : f ≡ finals u (length types) (a + 4) (b + 4) ++ x) where
  front : take (length types) f ≡ finals u (length types) (a + 4) (b + 4)
  front = front_of (finals u (length types) (a + 4) (b + 4)) x f is (length types) (sym (finals_length u (length types) (a + 4) (b + 4)))

  pub finals_many : length types ≡ length (take (length types) f)
  finals_many = rw front (sym (finals_length u (length types) (a + 4) (b + 4)))

  pub finals_fit : all is_flag (take (length types) f) ≡ true
  finals_fit = rw front (either_flags (every 3 (length types) (a + 4) u) (every 3 (length types) (b + 4) u))

  pub fields_met : (kept : ℕ) (ws ws' : List ℕ) (r : Option Interned) → Ran kept (remake a types (take (length types) f) u) ws ws' r → Ran kept (meet_fields a b types u) ws ws' r
  unfolding meet_fields
  fields_met kept ws ws' r ran = rw front at ran
