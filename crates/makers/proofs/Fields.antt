-- The lent fields of a struct: words that stand four apart, and the words that are written for them. Assumes nothing.
use mathlib.Core.Path.{◌≡◌, refl, sym, ap, ◌∙◌}
use mathlib.Core.Bool.{Bool, true}
use mathlib.Core.List.{List, [], ◌∷◌, ◌++◌, append-nil}
use Prim.Native.Nat.{ℕ, zero, suc, ◌+◌, ◌-◌, ◌*◌, ◌/◌, ◌≤◌, ◌<◌, max}
use native.Mathlib.Omega.{arith}
use borrow.Author.Tests.{leb-true}
use borrow.Rule.Slice.PartMut.{put_mid}
use lib.ListN.{length, take, drop, get_or, length-drop, drop_of_length-le}
use lib.Seq.{take_all}
use Rattle.words.specs.Words.{depth_of}
use Rattle.words.proofs.Written.{written_on, written_all}
use Rattle.words.specs.Made.{make}
use Rattle.words.specs.Ran.{Ran}
use Rattle.std.specs.Prelude.{Option}
use Rattle.words.specs.declared.Interned.{Interned}
use Rattle.wellformed.specs.Entry.{all, is_flag, is_alias, deepest}
use Rattle.words.specs.Columns.{every, word}
use Rattle.wellformed.proofs.Bools.{and_left, and_right}
use Rattle.makers.specs.Entries.{field_types, field_words, struct_entry}
use Rattle.makers.specs.Fit.{ValuesFit}
use Rattle.makers.proofs.Built.{front_of}

-- ---- words that stand apart

pub every_first : (s j p : ℕ) (l : List ℕ) → 0 < j → every s j p l ≡ get_or l p 0 ∷ every s (j - 1) (p + s) l
unfolding every
every_first s zero p l h = absurd (omega arith)
every_first s (suc j) p l h = let q : suc j - 1 ≡ j = omega arith in rw q

-- one word more in front
pub every_shift : (s n p x : ℕ) (l : List ℕ) → every s n (suc p) (x ∷ l) ≡ every s n p l
unfolding every
every_shift s zero p x l = refl
every_shift s (suc n) p x l =
    let q : suc p + s ≡ suc (p + s) = omega arith in
    ap (λ (t : List ℕ). get_or l p 0 ∷ t) (ap (λ (m : ℕ). every s n m (x ∷ l)) q ∙ every_shift s n (p + s) x l)

-- what all have, each has
pub all_at : (t : ℕ → Bool) (s n p : ℕ) (l : List ℕ) → all t (every s n p l) ≡ true → (i : ℕ) → i < n → t (get_or l (p + s * i) 0) ≡ true
unfolding all every
all_at t s zero p l a i h = absurd (omega arith)
all_at t s (suc n) p l a zero h =
    let q : p + s * 0 ≡ p = omega arith in
    rw q (and_left (t (get_or l p 0)) (all t (every s n (p + s) l)) a)
all_at t s (suc n) p l a (suc i) h =
    let q : p + s * suc i ≡ p + s + s * i = omega arith in
    rw q (all_at t s n (p + s) l (and_right (t (get_or l p 0)) (all t (every s n (p + s) l)) a) i (omega arith))

-- a loop that looks for the deepest of such words, when it has looked at i of n
module _ (heads : ℕ → ℕ) (l : List ℕ) (n p d i : ℕ) (left : deepest heads (every 4 n p l) ≡ max d (deepest heads (every 4 (n - i) (p + 4 * i) l))) where
  pub apart_end : n ≤ i → d ≡ deepest heads (every 4 n p l)
  unfolding deepest every
  apart_end h =
      let z : n - i ≡ 0 = omega arith in
      let m : max d 0 ≡ d = omega arith in
      sym (left ∙ rw (z, m))

  pub apart_on : i < n → (x y : ℕ) → x ≡ depth_of (heads (get_or l (p + 4 * i) 0)) → y ≡ max x d → deepest heads (every 4 n p l) ≡ max y (deepest heads (every 4 (n - (i + 1)) (p + 4 * (i + 1)) l))
  unfolding deepest
  apart_on more x y is e =
      let D = deepest heads (every 4 (n - i - 1) (p + 4 * i + 4) l) in
      let m : max d (max (depth_of (heads (get_or l (p + 4 * i) 0))) D) ≡ max y D = omega arith in
      let j : n - i - 1 ≡ n - (i + 1) = omega arith in
      let q : p + 4 * i + 4 ≡ p + 4 * (i + 1) = omega arith in
      left ∙ rw (every_first 4 (n - i) (p + 4 * i) l (omega arith), m, j, q)

-- ---- the words of the fields

-- a field's alias and flag fit one word
module _ (fs : List ℕ) (v : ValuesFit fs) (i : ℕ) (h : i < length fs / 4) where
  pub alias_fits : get_or fs (4 * i + 2) 0 ≤ 4294967295
  alias_fits =
      let q : 2 + 4 * i ≡ 4 * i + 2 = omega arith in
      leb-true _ _ (rw q at (all_at is_alias 4 (length fs / 4) 2 fs v.aliases i h))

  pub final_fits : get_or fs (4 * i + 3) 0 ≤ 1
  final_fits =
      let q : 3 + 4 * i ≡ 4 * i + 3 = omega arith in
      leb-true _ _ (rw q at (all_at is_flag 4 (length fs / 4) 3 fs v.finals i h))

pub fields_length : (n p : ℕ) (fs : List ℕ) → length (field_words n p fs) ≡ 3 * n
unfolding field_words
fields_length zero p fs = refl
fields_length (suc n) p fs = omega (arith, fields_length n (p + 4) fs)

abbrev third : ℕ → List ℕ → List ℕ
third p fs = get_or fs p 0 ∷ get_or fs (p + 1) 0 ∷ (2 * get_or fs (p + 2) 0 + get_or fs (p + 3) 0) ∷ []

-- an entry that was written into a list from position a on
pub put_at : (w e x : List ℕ) (a : ℕ) → x ≡ e ++ drop (length e) (take (length w - a) (drop a w)) → put_mid a (length w - a) w x ≡ take a w ++ (e ++ drop (length e) (drop a w))
put_at w e x a q =
    let h : length (drop a w) ≤ length w - a = omega (arith, length-drop a w) in
    rw (q, take_all (length w - a) (drop a w) h, drop_of_length-le (drop a w) h, append-nil)

-- a loop that writes them: what is left when i of n fields are written
abbrev pub fields_left : ℕ → List ℕ → ℕ → List ℕ
fields_left n fs i = field_words (n - i) (4 * i) fs

module _ (n : ℕ) (fs d₀ d : List ℕ) (i : ℕ) (sum : take (3 * i) d ++ fields_left n fs i ≡ field_words n 0 fs) (rest : drop (3 * i) d ≡ drop (3 * i) d₀) where
  pub fields_on : i < n → 3 * n ≤ length d₀ → length d ≡ length d₀ → (e : List ℕ) → e ≡ third (4 * i) fs ++ drop 3 (take (length d - 3 * i) (drop (3 * i) d))
      → (take (3 * (i + 1)) (put_mid (3 * i) (length d - 3 * i) d e) ++ fields_left n fs (i + 1) ≡ field_words n 0 fs)
      × (drop (3 * (i + 1)) (put_mid (3 * i) (length d - 3 * i) d e) ≡ drop (3 * (i + 1)) d₀)
  unfolding field_words
  fields_on more room size e is =
      let E : List ℕ = third (4 * i) fs in
      let h : 3 * i ≤ length d = omega arith in
      let m : 3 * (i + 1) ≡ 3 * i + 3 = omega arith in
      let p : 4 * (i + 1) ≡ 4 * i + 4 = omega arith in
      let k : n - i ≡ suc (n - (i + 1)) = omega arith in
      let next : fields_left n fs i ≡ E ++ fields_left n fs (i + 1) = rw (k, p) in
      written_on d₀ d _ _ (3 * i) sum rest E (put_mid (3 * i) (length d - 3 * i) d e) _ (3 * (i + 1)) h m (put_at d E e (3 * i) is) next

  pub fields_all : i ≤ n → n ≤ i → d ≡ field_words n 0 fs ++ drop (3 * n) d₀
  unfolding field_words
  fields_all low high =
      let q : 3 * n ≡ 3 * i = omega arith in
      let z : n - i ≡ 0 = omega arith in
      let none : fields_left n fs i ≡ [] = rw z in
      written_all d₀ d _ _ (3 * i) sum rest none (3 * n) q

pub struct_made : (kept : ℕ) (u ws ws' : List ℕ) (r : Option Interned) (name : ℕ) (fs a x : List ℕ) (d : ℕ) → d ≡ deepest (word u) (field_types fs)
    → a ≡ ((8 + 256 * (1 + d) + 65536 * (length fs / 4)) ∷ name ∷ field_words (length fs / 4) 0 fs) ++ x
    → Ran kept (make u (take (2 + 3 * (length fs / 4)) a)) ws ws' r → Ran kept (make u (struct_entry name fs u)) ws ws' r
struct_made kept u ws ws' r name fs a x d deep is ran =
    let n : 2 + 3 * (length fs / 4) ≡ suc (suc (length (field_words (length fs / 4) 0 fs))) = omega (arith, fields_length (length fs / 4) 0 fs) in
    let e : take (2 + 3 * (length fs / 4)) a ≡ struct_entry name fs u =
    front_of ((8 + 256 * (1 + d) + 65536 * (length fs / 4)) ∷ name ∷ field_words (length fs / 4) 0 fs) x a is (2 + 3 * (length fs / 4)) n ∙ rw deep in
    rw e at ran
