-- A call that handed back a handle: no row turned it back, and it left what its operation makes of the used words. Assumes nothing.
use mathlib.Core.Path.{◌≡◌, refl, ap, ◌∙◌}
use mathlib.Core.Bool.{Bool, true, false}
use mathlib.Core.List.{List}
use Prim.Native.Nat.{ℕ, zero, suc}
use native.Mathlib.Omega.{arith}
use borrow.Author.Tests.{ltb-false}
use lib.Dec.{ltb}
use lib.ListN.{length, set}
use lib.Seq.{drop-set-lt}
use Rattle.words.specs.Table.{rows as rows_from, entries}
use Rattle.words.specs.Made.{Grown}
use Rattle.wellformed.specs.Form.{well_formed, used_words}
use Rattle.call.specs.Call.{handle, left, ◌when◌, ◌otherwise◌, stored, settle, call}
use Rattle.call.specs.Adds.{Sound, Adds}
use Rattle.call.proofs.Keep.{well_sound, used_grown}

settled : (k : ℕ) (b : Bool) (g : Grown) (ws : List ℕ) (h : ℕ) → (settle (k otherwise 12 when b) g ws).reply ≡ handle h → (k ≡ 0) × (b ≡ false) × (h ≡ g.handle)
settled zero true g ws h q = let z : ◌≡◌ {A = ℕ} 0 1 = cc in absurd (omega arith)
settled zero false g ws h q = (refl, refl, cc)
settled (suc k) b g ws h q = let z : ◌≡◌ {A = ℕ} 0 1 = cc in absurd (omega arith)

module _ (rows : List ℕ → ℕ) (op : List ℕ → Grown) (ws : List ℕ) (h : ℕ) where
  abbrev g : Grown
  g = op (used_words ws)

  abbrev after : List ℕ
  after = used_words (call rows op ws).words

  -- the entries are those that the operation leaves (word 0, which counts the used words, is no entry)
  pub record Accepted : Type 0 where
    pub none : rows (used_words ws) ≡ 0
    pub is : h ≡ g.handle
    pub table : entries after ≡ entries g.words

  pub accepted : well_formed ws ≡ true → (Sound (used_words ws) → rows (used_words ws) ≡ 0 → Adds (used_words ws) g) → (call rows op ws).reply ≡ handle h → Accepted
  unfolding call entries
  accepted ok adds q =
      let full = ltb (length ws) (length g.words) in
      let s = settled (rows (used_words ws)) full g ws h (rw past at q) in
      let n = length g.words in
      let room = ltb-false (length ws) n s.1 in
      let is : call rows op ws ≡ left (handle g.handle) (stored g ws) = past ∙ rw (s.0, s.1) in
      let used : after ≡ set g.words 0 n = rw is (used_grown ws g ok (adds (well_sound ws ok) s.0) room) in
      record {
        none = s.0;
        is = s.2;
        table = rw used (ap (rows_from 1 0) (drop-set-lt 1 g.words 0 n (omega arith)));
      }
    where
      past : call rows op ws ≡ settle (rows (used_words ws) otherwise 12 when ltb (length ws) (length g.words)) g ws
      past = rw ok
