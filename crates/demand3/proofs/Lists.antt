-- What the merge of a list does to trees: from Top on, the least upper bound of all of them. Assumes nothing.
use mathlib.Core.Path.{◌≡◌, refl}
use mathlib.Core.Logic.{inl, inr, ⊎_elim}
use mathlib.Core.List.{List, [], ◌∷◌}
use Prim.Native.Nat.{ℕ, suc, max}
use native.Mathlib.Omega.{arith}
use Rattle.words.specs.Columns.{kind_on}
use Rattle.wellformed.specs.Fresh.{fresh_words}
use Rattle.words.specs.Made.{Grown}
use Rattle.parts.specs.Parts.{Good, All}
use Rattle.parts.proofs.Good.{fresh_word, part_below, good_adds}
use Rattle.parts.proofs.Parts.{all_map}
use Rattle.meet.specs.Meet.{meet_of}
use Rattle.join.proofs.Adds.{met}
use Rattle.every_call.specs.MeetList.{merge_from, meet_list_of}
use Rattle.every_call.proofs.MeetList.{top_in}
use Rattle.trees.proofs.Tree.{Ty, hi, all, ◌⊑◌, ⊑_refl, ⊑_trans}
use Rattle.trees.proofs.Meet.{Meet}
use Rattle.trees.proofs.Free.{NoMem}
use Rattle.meaning.proofs.Store.{Distinct, Typed, tree_on, looks, onward_adds, grown, still, kept}
use Rattle.meaning.proofs.Meets.{meet_right}
use Rattle.demand3.specs.Demand3.{In}

-- Top, where the merge starts: below all types
pub top_tree : (u : List ℕ) → Good u → tree_on u 6 ≡ hi all
unfolding fresh_words
top_tree u g =
    let k : kind_on u 6 ≡ 2 = rw (fresh_word g 6 (omega arith) (omega arith)) refl in
    looks g 6 2 (top_in u g) k

-- P is what is known of every tree of the list: that it has no memory type, at least, and that meets keep it
module _ (P : Ty → Type 0) (no_mem : (t : Ty) → P t → NoMem t) (closed : (a b c : Ty) → Meet a b c → P a → P b → P c) where
  pub record Among (u : List ℕ) (h : ℕ) : Type 0 where
    pub type : Typed u h
    pub known : P (tree_on u h)

  -- g is the least upper bound of t and of the types hs
  pub record Bound (u : List ℕ) (t : ℕ) (hs : List ℕ) (g : Grown) : Type 0 where
    pub known : P (tree_on g.words g.handle)
    pub first : tree_on u t ⊑ tree_on g.words g.handle
    pub each : (x : ℕ) → In x hs → tree_on u x ⊑ tree_on g.words g.handle
    pub least : (s : Ty) → tree_on u t ⊑ s → ((x : ℕ) → In x hs → tree_on u x ⊑ s) → tree_on g.words g.handle ⊑ s

  merge_bound : (t : ℕ) (hs u : List ℕ) → Distinct u → Among u t → All (Among u) hs → Bound u t hs (merge_from t hs u)
  unfolding merge_from
  merge_bound t [] u D a bs = record { known = a.known; first = ⊑_refl (tree_on u t); each = λ x i. absurd i; least = λ s p q. p }
  merge_bound t (h ∷ hs) u D a bs =
      let g = meet_of u t h in
      let n = suc (max t h) in
      let given = met u t h D.good a.type bs.0.type in
      let m : Meet (tree_on u t) (tree_on u h) (tree_on g.words g.handle) = meet_right n u t h D (part_below n (omega arith) a.type) (part_below n (omega arith) bs.0.type) (inl (no_mem (tree_on u t) a.known)) in
      let good = good_adds D.good given.adds in
      let on = onward_adds given.adds in
      let now : (x : ℕ) → Among u x → Among g.words x = λ x b. record { type = still D.good good on x b.type; known = rw (kept D.good good on x b.type) b.known } in
      let b = merge_bound g.handle hs g.words (grown D given.adds) (record { type = given.part; known = closed (tree_on u t) (tree_on u h) (tree_on g.words g.handle) m a.known bs.0.known }) (all_map now hs bs.1) in
      let same = keeps g.words hs bs.1 (λ x c. kept D.good good on x c.type) in
      record {
        known = b.known;
        first = ⊑_trans m.left b.first;
        each = λ x i. ⊎_elim (λ (e : x ≡ h). rw e (⊑_trans m.right b.first)) (λ (j : In x hs). rw (← same x j) (b.each x j)) i;
        least = λ s p q. b.least s (m.least p (q h (inl refl))) (λ x j. rw (same x j) (q x (inr j)));
      }
    where
      keeps : (w ks : List ℕ) → All (Among u) ks → ((x : ℕ) → Among u x → tree_on w x ≡ tree_on u x) → (x : ℕ) → In x ks → tree_on w x ≡ tree_on u x
      keeps w [] cs f x i = absurd i
      keeps w (k ∷ ks) cs f x i = ⊎_elim (λ (e : x ≡ k). rw e (f k cs.0)) (λ (j : In x ks). keeps w ks cs.1 f x j) i

  -- of a whole list, from Top on
  pub list_bound : P (hi all) → (hs u : List ℕ) → Distinct u → All (Among u) hs → Bound u 6 hs (meet_list_of hs u)
  list_bound p hs u D bs = merge_bound 6 hs u D (record { type = top_in u D.good; known = rw (top_tree u D.good) p }) bs
