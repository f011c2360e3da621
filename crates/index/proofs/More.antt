-- An entry more in the index. Assumes nothing.
use mathlib.Core.Path.{◌≡◌, refl, sym, ap, ◌∙◌}
use mathlib.Core.Bool.{true}
use mathlib.Core.List.{List, [], ◌∷◌, ◌++◌}
use Prim.Native.Nat.{ℕ, ◌+◌, ◌/◌, ◌≤◌, ◌<◌}
use native.Mathlib.Omega.{arith}
use native.Mathlib.Decide.{ℕ_discrete}
use borrow.Author.Tests.{eq-eqb, ne_eqb}
use lib.ListN.{length, drop, get_or, set, length-set, length-append}
use lib.Seq.{get_or-set_same, get_or-set_other, lt-length-set}
use Rattle.words.specs.Words.{fills}
use Rattle.words.specs.Table.{Row, entries}
use Rattle.words.specs.Ran.{HasSize}
use Rattle.words.proofs.Kept.{entries_append}
use Rattle.index.specs.Digest.{hash_from, bucket_of}
use Rattle.index.specs.Chains.{newest_first, newest, link, Holds, Indexed, added}
use Rattle.index.proofs.Hashed.{slot_below}
use Rattle.index.proofs.Older.{entries_fall, first_snoc}
use Rattle.index.proofs.Split.{newest_low}

pub in_half : (n : ℕ) (e : List ℕ) → 0 < n → bucket_of n e < n
unfolding bucket_of
in_half n e z = slot_below n (hash_from 0 e) z

pub length_added : (index : List ℕ) (at : ℕ) (e : List ℕ) → length (added index at e) ≡ length index
unfolding added
length_added index at e = simp length-set

-- the index of rows, once a row is before them
module _ (index : List ℕ) (rs : List Row) (at : ℕ) (e : List ℕ) (low : at < length index / 2) (x : Holds rs (length index / 2) index) where
  abbrev n : ℕ
  n = length index / 2

  abbrev b : ℕ
  b = bucket_of (length index / 2) e

  first : List ℕ
  first = set index (n + at) (get_or index b 0 + 1)

  bucket_in : b < length first
  unfolding first
  bucket_in = lt-length-set index (n + at) (get_or index b 0 + 1) (omega (arith, in_half n e (omega arith)))

  bucket_word : (c : ℕ) → c < n → Dec (c ≡ b) → get_or (set first b at) c 0 ≡ newest n c (record { at = at; words = e } ∷ rs)
  unfolding newest first
  bucket_word c l (yes q) = rw (q, eq-eqb b b refl) (get_or-set_same first b at 0 bucket_in)
  bucket_word c l (no q) =
      rw (ne_eqb b c (λ (y : b ≡ c). q (sym y)))
      (get_or-set_other first b c at 0 q ∙ get_or-set_other index (n + at) c (get_or index b 0 + 1) 0 (λ (y : c ≡ n + at). omega arith) ∙ x.buckets c l)

  link_word : (h : ℕ) → 0 < h → h < n → Dec (h ≡ at) → get_or (set first b at) (n + h) 0 ≡ link n h (record { at = at; words = e } ∷ rs)
  unfolding link first
  link_word h p l (yes q) =
      let o = in_half n e (omega arith) in
      let k : get_or index b 0 + 1 ≡ 1 + newest n b rs = omega (arith, x.buckets b o) in
      rw (q, eq-eqb at at refl)
      (get_or-set_other first b (n + at) at 0 (λ (y : n + at ≡ b). omega arith) ∙ get_or-set_same index (n + at) (get_or index b 0 + 1) 0 (omega arith) ∙ k)
  link_word h p l (no q) =
      let o = in_half n e (omega arith) in
      rw (ne_eqb at h (λ (y : at ≡ h). q (sym y)))
      (get_or-set_other first b (n + h) at 0 (λ (y : n + h ≡ b). omega arith) ∙ get_or-set_other index (n + at) (n + h) (get_or index b 0 + 1) 0 (λ (y : n + h ≡ n + at). q (omega arith)) ∙ x.links h p l)

  pub added_holds : Holds (record { at = at; words = e } ∷ rs) (length index / 2) (added index at e)
  unfolding added first
  added_holds = record { buckets = λ c l. bucket_word c l (ℕ_discrete c b); links = λ h p l. link_word h p l (ℕ_discrete h at) }

-- the index of the used words, once an entry is behind them
module _ (u index : List ℕ) (low : 1 ≤ length u) (x : Indexed u index) where
  -- a bucket's word is a handle
  pub bucket_low : (b : ℕ) → b < length index / 2 → get_or index b 0 ≤ length u
  bucket_low b l = omega (arith, x.holds.buckets b l, newest_low (length index / 2) b (newest_first [] (entries u)) (entries_fall u low) (omega arith))

  pub indexed_more : (e : List ℕ) → fills 0 (drop 1 u) ≡ true → HasSize e → length u < length index / 2 → length u + length e ≤ length index / 2 → Indexed (u ++ e) (added index (length u) e)
  indexed_more e full sized more room =
      let n : length (added index (length u) e) / 2 ≡ length index / 2 = ap (λ (k : ℕ). k / 2) (length_added index (length u) e) in
      let rs : newest_first [] (entries (u ++ e)) ≡ record { at = length u; words = e } ∷ newest_first [] (entries u) =
      ap (newest_first []) (entries_append u e low full sized) ∙ first_snoc [] (entries u) (record { at = length u; words = e }) in
      record {
        room = rw n (omega (arith, length-append u e));
        holds = rw (n, rs) (added_holds index (newest_first [] (entries u)) (length u) e more x.holds);
      }
