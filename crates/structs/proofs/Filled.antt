-- The words of fields that are made again: what the loop that writes them knows, and the struct that is made of them. Assumes nothing.
use mathlib.Core.Path.{◌≡◌, sym}
use mathlib.Core.Bool.{true}
use mathlib.Core.List.{List, [], ◌∷◌, ◌++◌}
use Prim.Native.Nat.{ℕ, ◌+◌, ◌-◌, ◌*◌, ◌/◌, ◌≤◌, ◌<◌}
use native.Mathlib.Omega.{arith}
use native.Mathlib.Numerals.{add-one}
use borrow.Rule.Slice.PartMut.{put_mid}
use lib.ListN.{length, take, drop, get_or, drop_of_length-le}
use lib.Seq.{drop-cons}
use Rattle.words.specs.Made.{make}
use Rattle.words.specs.Ran.{Ran}
use Rattle.std.specs.Prelude.{Option}
use Rattle.words.specs.declared.Interned.{Interned}
use Rattle.wellformed.specs.Entry.{all, is_flag, is_alias_final}
use Rattle.words.specs.Columns.{every, word}
use Rattle.makers.specs.Entries.{struct_entry}
use Rattle.makers.specs.Fit.{ValuesFit}
use Rattle.makers.proofs.Built.{front_of}
use Rattle.makers.proofs.Fields.{put_at}
use Rattle.structs.specs.Remade.{fields_with, remake}
use Rattle.structs.proofs.Columns.{with_length_is, with_count, with_values}
use Rattle.words.proofs.Written.{written_on, written_all}

-- ---- a loop that writes them

-- the fields that are left when i are written
abbrev pub fields_left : List ℕ → ℕ → List ℕ → List ℕ → ℕ → List ℕ
fields_left u p types finals i = fields_with u (p + 3 * i) (drop i types) (drop i finals)

module _ (u types finals d₀ d : List ℕ) (p i : ℕ) (sum : take (4 * i) d ++ fields_left u p types finals i ≡ fields_with u p types finals) (rest : drop (4 * i) d ≡ drop (4 * i) d₀) where
  pub fill_on : length types ≡ length finals → 4 * length types ≤ length d₀ → length d ≡ length d₀ → i < length types
      → (name v t final : ℕ) → name ≡ word u (p + 3 * i) → v ≡ word u (p + 3 * i + 2) → t ≡ get_or types i 0 → final ≡ get_or finals i 0
      → (e : List ℕ) → e ≡ (name ∷ t ∷ (v / 2) ∷ final ∷ []) ++ drop 4 (take (length d - 4 * i) (drop (4 * i) d))
      → (take (4 * (i + 1)) (put_mid (4 * i) (length d - 4 * i) d e) ++ fields_left u p types finals (i + 1) ≡ fields_with u p types finals)
      × (drop (4 * (i + 1)) (put_mid (4 * i) (length d - 4 * i) d e) ≡ drop (4 * (i + 1)) d₀)
  unfolding fields_with
  fill_on same room size more name v t final named valued typed finaled e is =
      let four : List ℕ = name ∷ t ∷ (v / 2) ∷ final ∷ [] in
      let h : 4 * i ≤ length d = omega arith in
      let k : i < length finals = omega arith in
      let m : 4 * (i + 1) ≡ 4 * i + 4 = omega arith in
      let q : p + 3 * (i + 1) ≡ p + 3 * i + 3 = omega arith in
      let next : fields_left u p types finals i ≡ four ++ fields_left u p types finals (i + 1) = rw (drop-cons types i 0 more, drop-cons finals i 0 k, q, add-one i, named, valued, typed, finaled) in
      written_on d₀ d _ _ (4 * i) sum rest four (put_mid (4 * i) (length d - 4 * i) d e) _ (4 * (i + 1)) h m (put_at d four e (4 * i) is) next

  pub fill_end : i ≤ length types → length types ≤ i → d ≡ fields_with u p types finals ++ drop (4 * length types) d₀
  unfolding fields_with
  fill_end low high =
      let n : 4 * length types ≡ 4 * i = omega arith in
      let none : fields_left u p types finals i ≡ [] = rw (drop_of_length-le types high) in
      written_all d₀ d _ _ (4 * i) sum rest none (4 * length types) n

-- ---- the struct of them

module _ (u types finals f x : List ℕ) (a : ℕ) (is : f ≡ fields_with u (a + 2) types finals ++ x) (same : length types ≡ length finals) where
  front : take (4 * length types) f ≡ fields_with u (a + 2) types finals
  front = front_of (fields_with u (a + 2) types finals) x f is (4 * length types) (sym (with_length_is u (a + 2) types finals same))

  pub fields_few : length types ≤ 255 → length (take (4 * length types) f) / 4 ≤ 255
  fields_few few = rw (front, with_count u (a + 2) types finals same) few

  pub fields_fit : all is_alias_final (every 3 (length types) (a + 4) u) ≡ true → all is_flag finals ≡ true → ValuesFit (take (4 * length types) f)
  fields_fit h k =
      let q : a + 4 ≡ a + 2 + 2 = omega arith in
      rw front (with_values u (a + 2) types finals same (rw q at h) k)

  pub again_made : (name : ℕ) → name ≡ word u (a + 1) → (kept : ℕ) (ws ws' : List ℕ) (r : Option Interned)
      → Ran kept (make u (struct_entry name (take (4 * length types) f) u)) ws ws' r → Ran kept (remake a types finals u) ws ws' r
  unfolding remake
  again_made name named kept ws ws' r ran = rw (front, named) at ran
