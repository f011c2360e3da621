-- Opening a store: what is turned back, and what the parts make. Assumes nothing.
use mathlib.Core.Path.{◌≡◌, refl, sym, ◌∙◌}
use mathlib.Core.Bool.{Bool, true, false, not}
use mathlib.Core.List.{List, ◌++◌}
use Prim.Native.Nat.{ℕ, ◌+◌, ◌*◌, ◌-◌, ◌≤◌, ◌<◌}
use native.Mathlib.Omega.{arith}
use borrow.Author.Tests.{not-true, not-false, lt-ltb, le-ltb}
use lib.ListN.{length, take, drop, get_or, replicate}
use lib.Seq.{length-take-le}
use borrow.Rule.Slice.PartMut.{put_mid}
use Rattle.bitset.specs.Bitset.{bit_at, nowhere}
use Rattle.wellformed.specs.Form.{well_formed, used_words}
use Rattle.wellformed.proofs.Before.{tests}
use Rattle.index.specs.Covers.{Blank}
use Rattle.std.proofs.Common.{Ok, Err}
use Rattle.call.specs.declared.Refusal.TheVariants.{NoStore, ShortOutput}
use Rattle.call.specs.Call.{done}
use Rattle.lent_memory.proofs.Laws.{right_blank}
use Rattle.store_index.specs.StoreIndex.{marks_size, index_size, IndexOf}
use Rattle.store_index.specs.Steps.{Stale}
use Rattle.store_index.proofs.Index.{three_blank}
use Rattle.store_index.proofs.Store.{used_within}
use Rattle.opened.specs.OpenStore.{OpenStore, open_reply, Opening}
use Rattle.opened.proofs.Store.{no_starts}

module _ (ws index memory : List ℕ) (t : Bool) (is : t ≡ well_formed ws) where
  pub no_store : not t ≡ true → (done (Err NoStore) ≡ open_reply ws (length index)) × Opening ws index memory index memory (Err NoStore)
  no_store n =
      let e : well_formed ws ≡ false = sym is ∙ not-true t n in
      (rw e, record { opens = λ q. absurd (cc); kept = λ _. (refl, refl) })

  pub good_store : not t ≡ false → well_formed ws ≡ true
  good_store y = sym is ∙ not-false t y

module _ (ws index : List ℕ) (ok : well_formed ws ≡ true) (k : ℕ) (is : k ≡ marks_size (length ws)) where
  pub too_short : (memory : List ℕ) → length index < k + 2 * length ws → (done (Err ShortOutput) ≡ open_reply ws (length index)) × Opening ws index memory index memory (Err ShortOutput)
  too_short memory short =
      let e = lt-ltb (length index) (index_size (length ws)) (omega (arith, is, short)) in
      (rw (ok, e), record { opens = λ q. absurd (cc); kept = λ _. (refl, refl) })

  pub enough : k + 2 * length ws ≤ length index → index_size (length ws) ≤ length index
  enough long = omega (arith, is, long)

  module _ (room : index_size (length ws) ≤ length index) where
    -- the bits were cleared, and the chains are blank
    pub begin_index : (bits : List ℕ) (same : length bits ≡ length (take k index)) → bit_at bits ≡ nowhere
        → (chains : List ℕ) → length chains ≡ length (take (length (bits ++ drop k index) - k) (drop k (bits ++ drop k index))) → Blank chains → Stale ws (put_mid k (length (bits ++ drop k index) - k) (bits ++ drop k index) chains)
    begin_index bits same none chains long blank =
        let n = length-take-le (get_or ws 0 0) ws (used_within ws ok) in
        three_blank ws index k is room bits same chains long (omega (arith, n, (tests ws ok).enough)) (none ∙ no_starts ws) blank

    pub opened_store : (index' memory memory' : List ℕ) → OpenStore ws index' memory' → (done (Ok tt) ≡ open_reply ws (length index)) × Opening ws index memory index' memory' (Ok tt)
    opened_store index' memory memory' o = let e = le-ltb (length index) (index_size (length ws)) room in (rw (ok, e), record { opens = λ _. o; kept = λ q. absurd (cc) })

pub built_store : (ws index memory memory' : List ℕ) → well_formed ws ≡ true → IndexOf ws index → memory' ≡ replicate (length memory) 0 → OpenStore ws index memory'
built_store ws index memory memory' ok whole blank = record { well = ok; whole = whole; right = rw blank (right_blank (used_words ws) (length memory)) }
