-- The finals of a walked struct: how many they are, that each is a flag, and what the loop that writes them knows. Assumes nothing.
use mathlib.Core.Path.{◌≡◌, refl, sym, ◌∙◌}
use mathlib.Core.Bool.{true}
use mathlib.Core.List.{List, [], ◌∷◌, ◌++◌}
use Prim.Native.Nat.{ℕ, ◌+◌, ◌-◌, ◌*◌, ◌≤◌, ◌<◌}
use native.Mathlib.Omega.{arith}
use native.Mathlib.Numerals.{add-one}
use borrow.Author.Tests.{le-leb}
use lib.ListN.{length, take, drop, set}
use lib.Seq.{set_split, drop-drop}
use Rattle.words.specs.Ran.{Ran}
use Rattle.std.specs.Prelude.{Option}
use Rattle.words.specs.declared.Interned.{Interned}
use Rattle.wellformed.specs.Entry.{all, is_flag}
use Rattle.words.specs.Columns.{every, word}
use Rattle.wellformed.proofs.Bools.{and_both}
use Rattle.makers.proofs.Built.{front_of}
use Rattle.makers.proofs.Fields.{every_first}
use Rattle.structs.specs.Remade.{remake}
use Rattle.words.proofs.Written.{written_on, written_all}
use Rattle.meet_fields.proofs.Finals.{every_length}
use Rattle.walk_rules.specs.Tables.{nil_of, final_of, finals_of, walk_fields}
use Rattle.walk_rules.specs.declared.Walk.{Walk}
use Rattle.walk_rules.specs.declared.Walk.TheVariants.{Dual, Glb, Lub}

pub nil_flag : (w : Walk) (nil : ℕ) → is_flag nil ≡ true → is_flag (nil_of w nil) ≡ true
nil_flag Dual nil e = le-leb (1 - nil) 1 (omega arith)
nil_flag Glb nil e = refl
nil_flag Lub nil e = refl

final_most : (w : Walk) (v : ℕ) → final_of w v ≤ 1
final_most Dual v = omega arith
final_most Glb v = omega arith
final_most Lub v = omega arith

pub finals_length : (w : Walk) (vs : List ℕ) → length (finals_of w vs) ≡ length vs
unfolding finals_of
finals_length w [] = refl
finals_length w (v ∷ vs) = omega (arith, finals_length w vs)

pub finals_flags : (w : Walk) (vs : List ℕ) → all is_flag (finals_of w vs) ≡ true
unfolding finals_of all
finals_flags w [] = refl
finals_flags w (v ∷ vs) = and_both (is_flag (final_of w v)) (all is_flag (finals_of w vs)) (le-leb _ _ (final_most w v)) (finals_flags w vs)

-- the finals of n fields, of the words that stand from p on
abbrev pub finals : Walk → List ℕ → ℕ → ℕ → List ℕ
finals w u n p = finals_of w (every 3 n p u)

count : (w : Walk) (u : List ℕ) (n p : ℕ) → length (finals w u n p) ≡ n
count w u n p = finals_length w (every 3 n p u) ∙ every_length 3 n p u

-- ---- a loop that writes them

module _ (w : Walk) (u d₀ d : List ℕ) (n p i : ℕ) (sum : take i d ++ finals w u (n - i) (p + 3 * i) ≡ finals w u n p) (rest : drop i d ≡ drop i d₀) where
  pub finals_on : n ≤ length d₀ → length d ≡ length d₀ → i < n → (x v : ℕ) → x ≡ word u (p + 3 * i) → v ≡ final_of w x
      → (take (i + 1) (set d i v) ++ finals w u (n - (i + 1)) (p + 3 * (i + 1)) ≡ finals w u n p) × (drop (i + 1) (set d i v) ≡ drop (i + 1) d₀)
  unfolding finals_of
  finals_on room size more x v ex ev =
      let h : i < length d = omega arith in
      let low : i ≤ length d = omega arith in
      let k : 0 < n - i = omega arith in
      let m : n - (i + 1) ≡ n - i - 1 = omega arith in
      let a : p + 3 * (i + 1) ≡ p + 3 * i + 3 = omega arith in
      let next : finals w u (n - i) (p + 3 * i) ≡ v ∷ finals w u (n - (i + 1)) (p + 3 * (i + 1)) =
      rw (every_first 3 (n - i) (p + 3 * i) u k, m, a, ev, ex) in
      let is : set d i v ≡ take i d ++ (v ∷ drop 1 (drop i d)) = set_split d i v h ∙ rw (drop-drop 1 i d, add-one i) in
      written_on d₀ d _ _ i sum rest (v ∷ []) (set d i v) _ (i + 1) low refl is next

  pub finals_end : i ≤ n → n ≤ i → d ≡ finals w u n p ++ drop n d₀
  unfolding finals_of every
  finals_end low high =
      let z : n - i ≡ 0 = omega arith in
      let k : n ≡ i = omega arith in
      let none : finals w u (n - i) (p + 3 * i) ≡ [] = rw z in
      written_all d₀ d _ _ i sum rest none n k

-- ---- the struct with them

module _ (w : Walk) (u types f x : List ℕ) (a : ℕ) (is : f ≡ finals w u (length types) (a + 4) ++ x) where
  front : take (length types) f ≡ finals w u (length types) (a + 4)
  front = front_of (finals w u (length types) (a + 4)) x f is (length types) (sym (count w u (length types) (a + 4)))

  pub finals_many : length types ≡ length (take (length types) f)
  finals_many = rw front (sym (count w u (length types) (a + 4)))

  pub finals_fit : all is_flag (take (length types) f) ≡ true
  finals_fit = rw front (finals_flags w (every 3 (length types) (a + 4) u))

  pub fields_walked : (kept : ℕ) (ws ws' : List ℕ) (r : Option Interned) → Ran kept (remake a types (take (length types) f) u) ws ws' r → Ran kept (walk_fields w a types u) ws ws' r
  unfolding walk_fields
  fields_walked kept ws ws' r ran = rw front at ran
