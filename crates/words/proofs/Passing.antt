-- Passing over entries by their head: what one step does, and that nothing is missed by it. Assumes nothing.
use mathlib.Core.Path.{◌≡◌, refl, sym, ap, ◌∙◌}
use mathlib.Core.Bool.{Bool, true, false, cond}
use mathlib.Core.List.{List, [], ◌∷◌}
use Prim.Native.Nat.{ℕ, ◌+◌, ◌≤◌, ◌<◌}
use native.Mathlib.Omega.{arith}
use borrow.Author.Tests.{eq-eqb, ne_eqb, eqb-false}
use lib.ListN.{length, take, drop, get_or, drop_of_length-le, length-take}
use lib.Seq.{slice, drop-cons, get_or-take}
use lib.Dec.{eqb}
use Rattle.words.specs.Words.{size_of, eqs, fills}
use Rattle.words.specs.Columns.{word}
use Rattle.words.specs.Table.{Row, rows, first_of}
use Rattle.words.specs.Ran.{from_head, PassedOver}
use Rattle.words.proofs.Alike.{eqs_eq}
use Rattle.words.proofs.Walk.{next, inside, size_pos}
use Rattle.words.proofs.Counted.{looked}

-- words with another head are other words
pub other_head : (a b : List ℕ) → eqb (word a 0) (word b 0) ≡ false → eqs a b ≡ false
other_head a b ne = go (eqs a b) refl
  where
    go : (t : Bool) → eqs a b ≡ t → t ≡ false
    go true q = absurd (eqb-false (word a 0) (word b 0) ne (ap (λ (l : List ℕ). word l 0) (eqs_eq a b q)))
    go false q = refl

-- the rows that are passed over are not looked for, and do not count
pub passed_first : (rs : List Row) (e : List ℕ) → first_of (from_head (word e 0) rs) e ≡ first_of rs e
unfolding from_head first_of
passed_first [] e = refl
passed_first (r ∷ rs) e = go (eqb (word r.words 0) (word e 0)) refl (passed_first rs e)
  where
    go : (t : Bool) → eqb (word r.words 0) (word e 0) ≡ t → first_of (from_head (word e 0) rs) e ≡ first_of rs e → first_of (cond t (r ∷ rs) (from_head (word e 0) rs)) e ≡ first_of (r ∷ rs) e
    go true q ih = refl
    go false q ih = rw (other_head r.words e q) ih

pub passed_looked : (rs : List Row) (e : List ℕ) → looked (from_head (word e 0) rs) e ≡ looked rs e
unfolding from_head looked
passed_looked [] e = refl
passed_looked (r ∷ rs) e = go (eqb (word r.words 0) (word e 0)) refl (passed_looked rs e)
  where
    go : (t : Bool) → eqb (word r.words 0) (word e 0) ≡ t → looked (from_head (word e 0) rs) e ≡ looked rs e → looked (cond t (r ∷ rs) (from_head (word e 0) rs)) e ≡ looked (r ∷ rs) e
    go true q ih = refl
    go false q ih = rw (q, other_head r.words e q) (ih ∙ omega arith)

-- the entry at a position has the head that stands there
pub head_here : (ws : List ℕ) (at : ℕ) → at < length ws → word (take (size_of (get_or ws at 0)) (drop at ws)) 0 ≡ get_or ws at 0
head_here ws at in_List = get_or-take (size_of (get_or ws at 0)) (drop at ws) 0 0 (size_pos (get_or ws at 0)) ∙ rw (drop-cons ws at 0 in_List)

-- a turn of `pass_over`, which began at `from` and stands at `at`
module _ (ws : List ℕ) (from to head at : ℕ) (high : to ≤ length ws) (onward : from ≤ at) (full : fills 0 (slice at to ws) ≡ true)
    (left : (base : ℕ) → from_head head (rows (base + from) 0 (slice from to ws)) ≡ from_head head (rows (base + at) 0 (slice at to ws))) where
  module _ (more : at < to) where
    abbrev n : ℕ
    n = size_of (get_or ws at 0)

    here : (base : ℕ) → from_head head (rows (base + at) 0 (slice at to ws)) ≡ cond (eqb (get_or ws at 0) head) (rows (base + at) 0 (slice at to ws)) (from_head head (rows (base + (at + n)) 0 (slice (at + n) to ws)))
    unfolding from_head
    here base =
        let q : (base + at) + n ≡ base + (at + n) = omega arith in
        let r = (next ws to at high more (base + at) (inside ws to at high more full)).row in
        rw (r, head_here ws at (omega arith), q)

    pub stops : get_or ws at 0 ≡ head → PassedOver ws from to head at
    stops is = record {
      onward = onward;
      filled = full;
      here = λ l. is;
      left = λ (base : ℕ). sym (left base ∙ here base ∙ rw (eq-eqb _ _ is));
    }

    pub passes : (get_or ws at 0 ≡ head → ⊥) → (k : ℕ) → k ≡ size_of (get_or ws at 0)
        → (from ≤ at + k) × (fills 0 (slice (at + k) to ws) ≡ true) × ((base : ℕ) → from_head head (rows (base + from) 0 (slice from to ws)) ≡ from_head head (rows (base + (at + k)) 0 (slice (at + k) to ws)))
    passes other k is = (
      omega arith,
      rw is (sym (next ws to at high more 0 (inside ws to at high more full)).filled ∙ full),
      λ (base : ℕ). rw is (left base ∙ here base ∙ rw (ne_eqb _ _ other)),
    )

  pub none_more : to ≤ at → PassedOver ws from to head at
  unfolding from_head rows
  none_more out =
      let h : length (take to ws) ≤ at = omega (arith, length-take to ws) in
      record {
        onward = onward;
        filled = full;
        here = λ l. absurd (omega arith);
        left = λ (base : ℕ). sym (left base ∙ rw (drop_of_length-le (take to ws) h));
      }

-- where `pass_over` stopped before the end, an entry of that size ends before it
pub stops_inside : (ws : List ℕ) (from to head r n : ℕ) → PassedOver ws from to head r → to ≤ length ws → n ≡ size_of head → r < to → (n ≡ size_of (get_or ws r 0)) × (r + n ≤ to) × (0 < n)
stops_inside ws from to head r n p high size more =
    let sized : n ≡ size_of (get_or ws r 0) = size ∙ ap size_of (sym (p.here more)) in
    (sized, omega (arith, sized, inside ws to r high more p.filled), omega (arith, size_pos head))
