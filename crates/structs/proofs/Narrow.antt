-- Types that are widened into the first words of a list: what the loop that writes them knows, and the tuple that is made of them. Assumes nothing.
use mathlib.Core.Path.{◌≡◌, refl, ◌∙◌}
use mathlib.Core.List.{List, [], ◌∷◌, ◌++◌}
use Prim.Native.Nat.{ℕ, ◌+◌, ◌≤◌, ◌<◌}
use native.Mathlib.Omega.{arith}
use native.Mathlib.Numerals.{add-one}
use lib.ListN.{length, take, drop, get_or, set, drop_of_length-le}
use lib.Seq.{drop-cons, set_split, drop-drop}
use Rattle.words.specs.Made.{make}
use Rattle.words.specs.Ran.{Ran}
use Rattle.std.specs.Prelude.{Option}
use Rattle.words.specs.declared.Interned.{Interned}
use Rattle.words.proofs.Written.{written_on, written_all}
use Rattle.makers.specs.Entries.{tuple_entry}
use Rattle.makers.proofs.Built.{front_of}

module _ (types d₀ d : List ℕ) (i : ℕ) (sum : take i d ++ drop i types ≡ types) (rest : drop i d ≡ drop i d₀) where
  pub widen_on : length types ≤ length d₀ → length d ≡ length d₀ → i < length types → (v : ℕ) → v ≡ get_or types i 0
      → (take (i + 1) (set d i v) ++ drop (i + 1) types ≡ types) × (drop (i + 1) (set d i v) ≡ drop (i + 1) d₀)
  widen_on room size more v ev =
      let h : i < length d = omega arith in
      let low : i ≤ length d = omega arith in
      let next : drop i types ≡ v ∷ drop (i + 1) types = rw (drop-cons types i 0 more, add-one i, ev) in
      let is : set d i v ≡ take i d ++ (v ∷ drop 1 (drop i d)) = set_split d i v h ∙ rw (drop-drop 1 i d, add-one i) in
      written_on d₀ d _ _ i sum rest (v ∷ []) (set d i v) _ (i + 1) low refl is next

  pub widen_end : i ≤ length types → length types ≤ i → d ≡ types ++ drop (length types) d₀
  widen_end low high =
      let k : length types ≡ i = omega arith in
      written_all d₀ d _ _ i sum rest (drop_of_length-le types high) (length types) k

-- ---- the tuple of them

module _ (types f x : List ℕ) (is : f ≡ types ++ x) where
  front : take (length types) f ≡ types
  front = front_of types x f is (length types) refl

  pub widened_few : (most : ℕ) → length types ≤ most → length (take (length types) f) ≤ most
  widened_few most few = rw front few

  pub tuple_made : (kept : ℕ) (u ws ws' : List ℕ) (r : Option Interned) → Ran kept (make u (tuple_entry (take (length types) f) u)) ws ws' r → Ran kept (make u (tuple_entry types u)) ws ws' r
  tuple_made kept u ws ws' r ran = rw front at ran
