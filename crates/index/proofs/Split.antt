-- Rows from the newest on, cut behind the newest of a bucket: what comes before it has other words. Assumes nothing.
use mathlib.Core.Path.{◌≡◌, refl, sym, ap, ◌∙◌}
use mathlib.Core.Bool.{Bool, true, false, cond}
use mathlib.Core.List.Memᴰ
use mathlib.Core.List.{List, [], ◌∷◌}
use Prim.Native.Nat.{ℕ, ◌+◌, ◌<◌}
use native.Mathlib.Omega.{arith}
use borrow.Author.Tests.{eq-eqb, ne_eqb, eqb-true, eqb-false}
use lib.Dec.{eqb}
use Rattle.words.specs.Words.{eqs}
use Rattle.words.specs.Table.{Row, RowIn}
use Rattle.std.specs.Prelude.{None}
use Rattle.words.proofs.Alike.{eqs_eq}
use Rattle.words.proofs.Grow.{or_else}
use Rattle.index.specs.Digest.{bucket_of}
use Rattle.index.specs.Chains.{newest, link}
use Rattle.index.proofs.Older.{Falling, more, one, lowest, or_none}

module _ (n b : ℕ) where
  pub newest_low : {k : ℕ} (rs : List Row) → Falling k rs → 0 < k → newest n b rs < k
  unfolding newest
  newest_low [] f z = z
  newest_low {k} (r ∷ rs) (more a h f) z = go (eqb (bucket_of n r.words) b) (newest_low rs f a)
    where
      go : (t : Bool) → newest n b rs < r.at → cond t r.at (newest n b rs) < k
      go true l = h
      go false l = omega arith

  -- words of another bucket are other words
  other : (w e : List ℕ) → eqb (bucket_of n w) b ≡ false → bucket_of n e ≡ b → eqs w e ≡ false
  other w e away in_b = go (eqs w e) refl
    where
      go : (t : Bool) → eqs w e ≡ t → t ≡ false
      go true q = absurd (eqb-false (bucket_of n w) b away (ap (bucket_of n) (eqs_eq w e q) ∙ in_b))
      go false q = refl

  -- a bucket without handles has no row with these words
  pub nowhere_in : {k : ℕ} (rs : List Row) → Falling k rs → newest n b rs ≡ 0 → (e : List ℕ) → bucket_of n e ≡ b → lowest rs e ≡ None
  unfolding newest lowest or_else
  nowhere_in [] f z e in_b = refl
  nowhere_in (r ∷ rs) (more a h f) z e in_b = go (eqb (bucket_of n r.words) b) refl z (λ y. nowhere_in rs f y e in_b)
    where
      go : (t : Bool) → eqb (bucket_of n r.words) b ≡ t → cond t r.at (newest n b rs) ≡ 0 → (newest n b rs ≡ 0 → lowest rs e ≡ None) → or_else (lowest rs e) (one (eqs r.words e) r.at) ≡ None
      go true q y ih = absurd (omega arith)
      go false q y ih = rw (ih y, other r.words e q in_b)

  pub record Split (rs : List Row) (at : ℕ) : Type 0 where
    pub words : List ℕ
    pub older : List Row
    pub falling : Falling at older
    pub row : RowIn (record { at = at; words = words }) rs
    pub within : (r : Row) → RowIn r older → RowIn r rs
    pub here : link n at rs ≡ 1 + newest n b older
    pub links : (h : ℕ) → h < at → link n h rs ≡ link n h older
    pub search : (e : List ℕ) → bucket_of n e ≡ b → lowest rs e ≡ or_else (lowest older e) (one (eqs words e) at)

  pub split : {k : ℕ} (rs : List Row) → Falling k rs → (at : ℕ) → newest n b rs ≡ at → 0 < at → Split rs at
  unfolding newest link lowest
  split [] f at is z = absurd (omega arith)
  split {k} (r ∷ rs) (more a h f) at is z = go (eqb (bucket_of n r.words) b) refl is (λ y. split rs f at y z)
    where
      go : (t : Bool) → eqb (bucket_of n r.words) b ≡ t → cond t r.at (newest n b rs) ≡ at → (newest n b rs ≡ at → Split rs at) → Split (r ∷ rs) at
      go true q y ih =
          let c : bucket_of n r.words ≡ b = eqb-true (bucket_of n r.words) b q in
          record {
            words = r.words;
            older = rs;
            falling = rw y at f;
            row = Memᴰ.head (λ i. record { at = sym y i; words = r.words });
            within = λ x m. Memᴰ.tail m;
            here = rw (eq-eqb r.at at y, c);
            links = λ x l. rw (ne_eqb r.at x (λ (g : r.at ≡ x). omega arith));
            search = λ e in_b. rw y;
          }
      go false q y ih =
          let s = ih y in
          let l : at < r.at = omega (arith, newest_low rs f a) in
          record {
            words = s.words;
            older = s.older;
            falling = s.falling;
            row = Memᴰ.tail s.row;
            within = λ x m. Memᴰ.tail (s.within x m);
            here = rw (ne_eqb r.at at (λ (g : r.at ≡ at). omega arith)) s.here;
            links = λ x m. rw (ne_eqb r.at x (λ (g : r.at ≡ x). omega arith)) (s.links x m);
            search = λ e in_b. rw (other r.words e q in_b) (or_none (lowest rs e) ∙ s.search e in_b);
          }
