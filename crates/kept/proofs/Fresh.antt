-- The fresh words are document 01's entries, a fresh store of every length is well formed, no two of its entries are equal, and the ends of
-- its Ints are 64-bit words. Assumes nothing.
use mathlib.Core.Path.{◌≡◌, refl, ap}
use mathlib.Core.Bool.{Bool, true, false, ◌&&◌}
use mathlib.Core.Logic.{⊎_elim}
use mathlib.Core.List.Memᴰ
use mathlib.Core.List.{List, [], ◌∷◌}
use Prim.Native.Nat.{ℕ, zero, suc, ◌-◌, ◌^◌, ◌≤◌}
use native.Mathlib.Omega.{arith}
use borrow.Author.Tests.{eqb-true, ltb-true, le-leb}
use lib.Dec.{eqb, ltb}
use lib.ListN.{length, get_or, replicate, length-append, length-replicate}
use Rattle.words.specs.Words.{words_after, size_of, fills, eqs}
use Rattle.words.specs.Table.{Row, rows, entries, first_of, RowIn, Own}
use Rattle.std.specs.Prelude.{Option, Some, None}
use Rattle.bitset.specs.Bitset.{nowhere, also}
use Rattle.wellformed.specs.Fresh.{fresh_words}
use Rattle.wellformed.specs.Entry.{most_of, names_in, types_in, all, deepest, float_ok, zero_filled, values_ok, ok_entry}
use Rattle.words.specs.Columns.{every}
use Rattle.wellformed.specs.Form.{all_zero, heads_at, ok_rows, well_formed, used_words}
use Rattle.wellformed.proofs.Before.{passes}
use Rattle.wellformed.proofs.Bools.{and_left, and_right}
use Rattle.call.specs.Keep.{Ends}
use Rattle.source.specs.Packed.{of_bytes, packed}
use Rattle.names.specs.Name.{name_entry}
use Rattle.makers.specs.Entries.{field_words}
use Rattle.makers.specs.Makers.{fresh_store, fresh_call}
use Rattle.kept.specs.FreshTable.{fresh_used, fresh_table}

-- the entries of the fresh words are those of the document
pub fresh_is : entries fresh_used ≡ fresh_table
unfolding entries rows size_of words_after fresh_words fresh_table name_entry packed of_bytes field_words every deepest
fresh_is = refl

-- ---- a fresh store is well formed

zeros : (n : ℕ) → all_zero (replicate n 0) ≡ true
unfolding all_zero
zeros zero = refl
zeros (suc n) = zeros n

module _ (n : ℕ) (low : 94 ≤ n) (high : n ≤ 1048576) where
  fresh_long : length (fresh_store n) ≡ n
  unfolding fresh_words
  fresh_long = omega (arith, length-append fresh_used (replicate (n - 94) 0), length-replicate {A = ℕ} (n - 94) 0)

  pub fresh_any : well_formed (fresh_store n) ≡ true
  unfolding fresh_words eqs fills rows entries size_of words_after ok_rows heads_at nowhere also ok_entry most_of every names_in types_in all deepest float_ok zero_filled values_ok
  fresh_any = passes (fresh_store n) record {
    least = omega (arith, fresh_long);
    most = omega (arith, fresh_long);
    fresh = refl;
    enough = omega arith;
    within = omega (arith, fresh_long);
    zeros = zeros (n - 94);
    filled = refl;
    right = refl;
  }

-- so is what the call leaves that writes one
pub fresh_call_is : (ws : List ℕ) → 94 ≤ length ws → length ws ≤ 1048576 → well_formed (fresh_call ws).words ≡ true
unfolding fresh_call
fresh_call_is ws low high = rw (le-leb _ _ low, le-leb _ _ high) (fresh_any (length ws) low high)

-- ---- what a test says that each of its rows passes

passed : (Row → Bool) → List Row → Bool
passed t [] = true
passed t (r ∷ rs) = t r && passed t rs

each : (t : Row → Bool) (rs : List Row) → passed t rs ≡ true → (r : Row) → RowIn r rs → t r ≡ true
unfolding passed
each t [] o r m = absurd (Memᴰ.not-nil m)
each t (q ∷ rs) o r m =
    ⊎_elim
    (λ (e : r ≡ q). rw e (and_left (t q) (passed t rs) o))
    (λ (i : RowIn r rs). each t rs (and_right (t q) (passed t rs) o) r i)
    (Memᴰ.cases_cons m)

-- ---- no two of its entries are equal

found : Option ℕ → ℕ → Bool
found (Some h) at = eqb h at
found None at = false

-- the row is the first with its words
is_own : Row → Bool
is_own r = found (first_of (entries fresh_used) r.words) r.at

pub fresh_own : (n : ℕ) → Own (entries (used_words (fresh_store n)))
unfolding passed is_own found first_of eqs entries rows size_of words_after fresh_words
fresh_own n r m = go (first_of (entries fresh_used) r.words) (each is_own (entries fresh_used) refl r m)
  where
    go : (f : Option ℕ) → found f r.at ≡ true → f ≡ Some r.at
    go (Some h) e = ap Some (eqb-true h r.at e)
    go None e = let z : ◌≡◌ {A = ℕ} 0 1 = cc in absurd (omega arith)

-- ---- the ends of its Ints are 64-bit words

-- the second and third words of the row are, whatever its kind
is_small : Row → Bool
is_small r = ltb (get_or r.words 1 0) (2 ^ 64) && ltb (get_or r.words 2 0) (2 ^ 64)

pub fresh_ends : (n : ℕ) → Ends (entries (used_words (fresh_store n)))
unfolding passed is_small entries rows size_of words_after fresh_words
fresh_ends n r m is =
    let a = ltb (get_or r.words 1 0) (2 ^ 64) in
    let b = ltb (get_or r.words 2 0) (2 ^ 64) in
    let small : (a && b) ≡ true = each is_small (entries fresh_used) refl r m in
    (ltb-true (get_or r.words 1 0) (2 ^ 64) (and_left a b small), ltb-true (get_or r.words 2 0) (2 ^ 64) (and_right a b small))
