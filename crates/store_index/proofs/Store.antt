-- What a well-formed store gives, and what `extend` and `mark_new` require of its parts. Assumes nothing.
use mathlib.Core.Path.{◌≡◌, ap, ◌∙◌}
use mathlib.Core.Bool.{true}
use mathlib.Core.List.{List, ◌++◌}
use Prim.Native.Nat.{ℕ, ◌*◌, ◌-◌, ◌≤◌, ◌<◌}
use native.Mathlib.Omega.{arith}
use lib.ListN.{length, take, drop, get_or}
use lib.Seq.{length-take-le, take-take}
use Rattle.words.specs.Words.{fills}
use Rattle.words.specs.Table.{starts}
use Rattle.bitset.specs.Bitset.{bit_at}
use Rattle.wellformed.specs.Form.{well_formed, used_words}
use Rattle.wellformed.proofs.Before.{tests}
use Rattle.index.specs.Covers.{indexed_to, Covers}
use Rattle.std.proofs.Common.{Ok}
use Rattle.call.specs.Steps.{row_1}
use Rattle.call.proofs.Ways.{row_passed}
use Rattle.call.proofs.Keep.{well_sound}
use Rattle.store_index.specs.StoreIndex.{marks_size, chains_of}
use Rattle.store_index.specs.Steps.{Stale, Unmarked}
use Rattle.store_index.proofs.Index.{tail_all, two_chains, marks_long, none_new, two_index, three_index}

-- ---- what is known of a well-formed store

module _ (ws : List ℕ) (ok : well_formed ws ≡ true) where
  pub first_word : 0 < length ws
  first_word = omega (arith, (tests ws ok).least)

  pub few_words : length ws ≤ 1048576
  few_words = (tests ws ok).most

  pub used_is : Ok (get_or ws 0 0) ≡ row_1 ws
  used_is = row_passed ws ok

  pub used_low : 1 ≤ get_or ws 0 0
  used_low = omega (arith, (tests ws ok).enough)

  pub used_within : get_or ws 0 0 ≤ length ws
  used_within = (tests ws ok).within

-- ---- what `extend` requires of its parts

module _ (ws : List ℕ) (ok : well_formed ws ≡ true) where
  pub used_fills : fills 0 (drop 1 (take (get_or ws 0 0) ws)) ≡ true
  used_fills = (well_sound ws ok).full

  -- what marking the entries from `from` on requires
  abbrev Ready : List ℕ → ℕ → ℕ → Type 0
  Ready index k from = ((from ≤ get_or ws 0 0) × (get_or ws 0 0 ≤ length ws) × (get_or ws 0 0 < 64 * length (take k index)))
      × ((fills 0 (drop 1 (take from ws)) ≡ true) × (1 ≤ from) × (fills 0 (drop 1 (take (get_or ws 0 0) ws)) ≡ true) × (bit_at (take k index) ≡ starts (take from ws)))

  module _ (index : List ℕ) (s : Stale ws index) (k : ℕ) (is : k ≡ marks_size (length ws)) where
    chains_are : take (length index - k) (drop k index) ≡ chains_of ws index
    chains_are = tail_all k index ∙ ap (λ (n : ℕ). drop n index) is

    pub mark_ready : (from : ℕ) → from ≡ indexed_to (take (length index - k) (drop k index)) → Ready index k from
    mark_ready from e =
        let c = s.covers in
        let n = length-take-le (get_or ws 0 0) ws (tests ws ok).within in
        let f : from ≡ indexed_to (chains_of ws index) = e ∙ ap indexed_to chains_are in
        let h : from ≤ get_or ws 0 0 = omega (arith, f, c.high, n) in
        let t : length (take k index) ≡ k = length-take-le k index (omega (arith, is, s.room)) in
        let p : take from (used_words ws) ≡ take from ws = take-take from (get_or ws 0 0) ws h in
        let q : take (indexed_to (chains_of ws index)) (used_words ws) ≡ take from ws = rw (← f) p in (
          (h, (tests ws ok).within, omega (arith, t, is, (tests ws ok).within)),
          (rw q at c.cut, omega (arith, f, c.low), used_fills, rw (is, f) s.marks),
        )

    pub extend_covers : (bits : List ℕ) → length bits ≡ length (take k index) → Covers (used_words ws) (take (length (bits ++ drop k index) - k) (drop k (bits ++ drop k index)))
    extend_covers bits same = rw (two_chains ws index k is s.room bits same, is) s.covers

  -- ---- what `mark_new` requires

  pub new_ready : (index : List ℕ) (from : ℕ) → Unmarked ws from index → (k : ℕ) → k ≡ marks_size (length ws) → Ready index k from
  new_ready index from x k is =
      let t : length (take k index) ≡ k = length-take-le k index (omega (arith, is, x.room)) in
      ((x.high, (tests ws ok).within, omega (arith, t, is, (tests ws ok).within)), (x.cut, x.low, used_fills, rw is x.marks))

-- what `extend` and `mark_new` use
pub ruleset extending = (first_word, few_words, marks_long, none_new, three_index)

pub ruleset marking = (first_word, few_words, marks_long, new_ready, two_index)
