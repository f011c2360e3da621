-- The index of a store over a call: it stays one of the first words. Assumes nothing.
use mathlib.Core.Path.{◌≡◌, sym, ap, ◌∙◌}
use mathlib.Core.Bool.{true}
use mathlib.Core.List.{List}
use Prim.Native.Nat.{ℕ, ◌+◌, ◌/◌, ◌≤◌, ◌<◌}
use native.Mathlib.Omega.{arith}
use lib.ListN.{length, take, drop, get_or, length-drop}
use lib.Seq.{length-take-le, get_or-take, get_or-drop, ext_get_or, take-take}
use Rattle.words.specs.Table.{rows, entries, starts}
use Rattle.bitset.specs.Bitset.{bit_at}
use Rattle.wellformed.specs.Form.{well_formed, used_words}
use Rattle.wellformed.proofs.Before.{tests}
use Rattle.index.specs.Covers.{indexed_to, Covers}
use Rattle.later.specs.Later.{Later}
use Rattle.store_index.specs.StoreIndex.{marks_size, chains_of, IndexOf}
use Rattle.store_index.specs.Steps.{Stale}
use Rattle.store_index.proofs.Index.{used_long}

-- ---- later words: the first ones are the same, but for word 0

module _ {u v : List ℕ} (x : Later u v) (n : ℕ) (fits : n ≤ length u) where
  pub front_same : drop 1 (take n v) ≡ drop 1 (take n u)
  front_same =
      let a : length (take n v) ≡ n = length-take-le n v (omega (arith, x.long)) in
      let b : length (take n u) ≡ n = length-take-le n u fits in
      ext_get_or 0 (drop 1 (take n v)) (drop 1 (take n u)) (omega (arith, length-drop 1 (take n v), length-drop 1 (take n u), a, b)) (λ i l.
      let k : 1 + i < n = omega (arith, length-drop 1 (take n v), a) in
      get_or-drop 1 (take n v) i 0 ∙ get_or-take n v (1 + i) 0 k ∙ x.words (1 + i) (omega arith) (omega arith) ∙ sym (get_or-drop 1 (take n u) i 0 ∙ get_or-take n u (1 + i) 0 k))

  pub entries_same : entries (take n v) ≡ entries (take n u)
  unfolding entries
  entries_same = ap (rows 1 0) front_same

pub covers_later : (u v index : List ℕ) → Later u v → Covers u index → Covers v index
covers_later u v index x c =
    let n = indexed_to index in
    let a : length (take n v) ≡ n = length-take-le n v (omega (arith, x.long, c.high)) in
    let b : length (take n u) ≡ n = length-take-le n u c.high in
    record {
      low = c.low;
      high = omega (arith, c.high, x.long);
      cut = rw (front_same x n c.high) c.cut;
      indexed = λ some.
          let i = c.indexed some in
          record { room = omega (arith, i.room, a, b); holds = rw (entries_same x n c.high) i.holds };
    }

-- ---- the index of a store

module _ (ws index : List ℕ) (ok : well_formed ws ≡ true) (x : IndexOf ws index) where
  pub chains_long : length (used_words ws) ≤ length (chains_of ws index) / 2
  chains_long = omega (arith, used_long ws ok, (tests ws ok).within, x.room, length-drop (marks_size (length ws)) index)

  pub all_in : indexed_to (chains_of ws index) ≡ length (used_words ws)
  all_in = x.chains.all chains_long

  -- a later store of the same length
  pub stale : (vs : List ℕ) → length vs ≡ length ws → Later (used_words ws) (used_words vs) → well_formed vs ≡ true → Stale vs index
  stale vs same l well =
      let u = used_words ws in
      let n = length u in
      let e : take n (used_words vs) ≡ take n vs = take-take n (get_or vs 0 0) vs (omega (arith, l.long, length-take-le (get_or vs 0 0) vs (tests vs well).within)) in
      let f : take n u ≡ u = take-take n (get_or ws 0 0) ws (omega (arith, used_long ws ok)) ∙ ap (λ (k : ℕ). take k ws) (used_long ws ok) in
      let g : entries (take n vs) ≡ entries u = ap entries (sym e) ∙ entries_same l n (omega arith) ∙ ap entries f in
      record {
        room = rw same x.room;
        covers = rw same (covers_later u (used_words vs) (chains_of ws index) l x.chains.covers);
        marks = rw (same, all_in, g) x.marks;
      }
