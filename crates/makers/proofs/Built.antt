-- An entry that is built in a local array is the maker's. Assumes nothing.
use mathlib.Core.Path.{◌≡◌, sym, ◌∙◌}
use mathlib.Core.List.{List, [], ◌∷◌, ◌++◌}
use Prim.Native.Nat.{ℕ, suc, ◌+◌, ◌*◌, max}
use native.Mathlib.Omega.{arith}
use lib.ListN.{length, take}
use lib.Seq.{take_at}
use Rattle.words.specs.Words.{depth_of}
use Rattle.words.specs.Made.{make}
use Rattle.words.specs.Ran.{Ran}
use Rattle.std.specs.Prelude.{Option}
use Rattle.words.specs.declared.Interned.{Interned}
use Rattle.wellformed.specs.Entry.{deepest}
use Rattle.words.specs.Columns.{word}
use Rattle.makers.specs.Entries.{tuple_entry, pointer_entry, memory_entry}

pub front_of : (l x a : List ℕ) → a ≡ l ++ x → (n : ℕ) → n ≡ length l → take n a ≡ l
front_of l x a is n len = rw is (take_at l x n (sym len))

module _ (kept : ℕ) (u ws ws' : List ℕ) (r : Option Interned) where
  pub tuple_made : (types a x : List ℕ) (d : ℕ) → d ≡ deepest (word u) types → a ≡ ((7 + 256 * (1 + d) + 65536 * length types) ∷ types) ++ x
      → Ran kept (make u (take (1 + length types) a)) ws ws' r → Ran kept (make u (tuple_entry types u)) ws ws' r
  tuple_made types a x d deep is ran =
      let n : 1 + length types ≡ suc (length types) = omega arith in
      let e : take (1 + length types) a ≡ tuple_entry types u = front_of ((7 + 256 * (1 + d) + 65536 * length types) ∷ types) x a is (1 + length types) n ∙ rw deep in
      rw e at ran

  -- the head of an entry around one type
  around : (k h d : ℕ) → d ≡ depth_of (word u h) → k + 256 * (1 + d) ≡ k + 256 * (1 + max (depth_of (word u h)) 0) + 65536 * 0
  around k h d is = omega arith

  pub pointer_made : (to nil d : ℕ) → d ≡ depth_of (word u to) → Ran kept (make u ((10 + 256 * (1 + d)) ∷ to ∷ nil ∷ [])) ws ws' r → Ran kept (make u (pointer_entry to nil u)) ws ws' r
  unfolding deepest
  pointer_made to nil d is ran = rw (around 10 to d is) at ran

  pub memory_made : (alias t d : ℕ) → d ≡ depth_of (word u t) → Ran kept (make u ((11 + 256 * (1 + d)) ∷ alias ∷ t ∷ [])) ws ws' r → Ran kept (make u (memory_entry alias t u)) ws ws' r
  unfolding deepest
  memory_made alias t d is ran = rw (around 11 t d is) at ran
