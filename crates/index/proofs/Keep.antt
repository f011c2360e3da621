-- The index stays one of the first words of a store that grows; and taking entries into it. Assumes nothing.
use mathlib.Core.Path.{◌≡◌, sym, ap, ◌∙◌}
use mathlib.Core.Bool.{true}
use mathlib.Core.List.{List}
use Prim.Native.Nat.{ℕ, ◌+◌, ◌/◌, ◌≤◌, ◌<◌}
use native.Mathlib.Omega.{arith}
use lib.ListN.{length, take, drop, get_or, set, length-set, length-take, length-append, drop_of_length-le}
use lib.Seq.{length-take-le, take-append-le, take-take, take-length, get_or-set_same, get_or-set_other}
use Rattle.words.specs.Words.{fills}
use Rattle.words.proofs.Extend.{Extends}
use Rattle.index.specs.Chains.{Indexed}
use Rattle.index.proofs.Zero.{no_entries}
use Rattle.index.proofs.Built.{Built, built_all}
use Rattle.index.specs.Covers.{indexed_to, Covers, Blank, Opened}
use Rattle.index.proofs.Chain.{to_none, to_word}
use Rattle.index.proofs.Prefix.{rest_fills}

-- appending keeps it: this is all that operations need
pub covers_more : (u v index : List ℕ) → Extends u v → Covers u index → Covers v index
covers_more u v index x c =
    let k = indexed_to index in
    let p : take k v ≡ take k u = ap (take k) x.is ∙ take-append-le k u x.more c.high in
    record {
      low = c.low;
      high = omega (arith, c.high, ap length x.is, length-append u x.more);
      cut = rw p c.cut;
      indexed = λ some. rw p (c.indexed some);
    }

-- a store whose list of words is no index
pub covers_none : (u index : List ℕ) → 1 ≤ length u → length index / 2 ≡ 0 → Covers u index
unfolding fills
covers_none u index low z =
    let k = to_none index z in
    let n : length (take 1 u) ≤ 1 = omega (arith, length-take 1 u) in
    record {
      low = omega arith;
      high = omega arith;
      cut = rw (sym k, drop_of_length-le (take 1 u) n);
      indexed = λ some. absurd (some z);
    }

-- the word of handle 0 is free
pub counted : (u index : List ℕ) (v : ℕ) → 0 < length index / 2 → Indexed u index → Indexed u (set index (length index / 2) v)
counted u index v low x =
    let n : length (set index (length index / 2) v) / 2 ≡ length index / 2 = ap (λ (k : ℕ). k / 2) (length-set index (length index / 2) v) in
    record {
      room = rw n x.room;
      holds = rw n record {
        buckets = λ b l. get_or-set_other index (length index / 2) b v 0 (λ (q : b ≡ length index / 2). omega arith) ∙ x.holds.buckets b l;
        links = λ h p l. get_or-set_other index (length index / 2) (length index / 2 + h) v 0 (λ (q : length index / 2 + h ≡ length index / 2). omega arith) ∙ x.holds.links h p l;
      };
    }

module _ (index : List ℕ) (v : ℕ) (low : 0 < length index / 2) where
  pub counted_to : indexed_to (set index (length index / 2) v) ≡ v
  counted_to =
      let n : length (set index (length index / 2) v) / 2 ≡ length index / 2 = ap (λ (k : ℕ). k / 2) (length-set index (length index / 2) v) in
      sym (to_word (set index (length index / 2) v) (λ z. omega (arith, n)))
      ∙ ap (λ (k : ℕ). get_or (set index (length index / 2) v) k 0) n
      ∙ get_or-set_same index (length index / 2) v 0 (omega arith)

  -- v words are indexed, and the word of handle 0 says so
  pub covers_set : (u : List ℕ) → 1 ≤ v → v ≤ length u → fills 0 (drop 1 (take v u)) ≡ true → Indexed (take v u) index → Covers u (set index (length index / 2) v)
  covers_set u one high cut x = record {
    low = rw counted_to one;
    high = rw counted_to high;
    cut = rw counted_to cut;
    indexed = λ some. rw counted_to (counted (take v u) index v low x);
  }

-- ---- `extend`

module _ (ws : List ℕ) (used : ℕ) (index : List ℕ) (high : used ≤ length ws) (full : fills 0 (drop 1 (take used ws)) ≡ true) (c : Covers (take used ws) index) where
  long : length (take used ws) ≡ used
  long = length-take-le used ws high

  pub extend_first : used ≤ length index / 2 → (at : ℕ) → at ≡ indexed_to index → Built ws used index at
  extend_first room at to =
      let k = indexed_to index in
      let h : k ≤ used = omega (arith, c.high, long) in
      let p : take k (take used ws) ≡ take k ws = take-take k used ws h in
      rw to record {
        low = c.low;
        high = h;
        half = room;
        before = rw p at c.cut;
        behind = rest_fills (take used ws) k c.low c.high c.cut full;
        indexed = rw p at (c.indexed (λ z. omega (arith, c.low)));
      }

pub extend_last : (ws : List ℕ) (used : ℕ) (index : List ℕ) (at : ℕ) → used ≤ length ws → fills 0 (drop 1 (take used ws)) ≡ true → Built ws used index at → used ≤ at → (half : ℕ) → half ≡ length index / 2 → Opened (take used ws) (set index half at)
extend_last ws used index at high full b out half is =
    let u = take used ws in
    let n : length u ≡ used = length-take-le used ws high in
    let q : at ≡ used = omega (arith, b.high) in
    let low : 0 < length index / 2 = omega (arith, b.half, b.low) in
    let p : take at u ≡ u = ap (λ (k : ℕ). take k u) (q ∙ sym n) ∙ take-length u in
    rw is record {
      covers = covers_set index at low u b.low (omega arith) (rw p full) (rw p (built_all ws used index at high b out));
      all = λ l. counted_to index at low ∙ q ∙ sym n;
    }

-- ---- `blank`

-- without any words
pub blank_none : (index : List ℕ) → length index / 2 ≡ 0 → Blank index
blank_none index z = record { none = sym (to_none index z); covers = λ u low. covers_none u index low z }

-- of zeros, with 1 in the word of handle 0
module _ (index : List ℕ) (some : length index / 2 ≡ 0 → ⊥) (zeros : (i : ℕ) → get_or index i 0 ≡ 0) where
  pub blank_one : Blank (set index (length index / 2) 1)
  unfolding fills
  blank_one = record {
    none = counted_to index 1 (omega arith);
    covers = λ u low.
        let m : length (take 1 u) ≤ 1 = omega (arith, length-take 1 u) in
        covers_set index 1 (omega arith) u (omega arith) (omega arith) (rw (drop_of_length-le (take 1 u) m)) (no_entries u index (omega arith) zeros);
  }
