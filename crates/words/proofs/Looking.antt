-- The search in one segment: what a turn of `look` knows, whatever it compares the words with. Assumes nothing.
use mathlib.Core.Path.{◌≡◌, sym, ◌∙◌}
use mathlib.Core.Bool.{Bool, true, false, cond}
use mathlib.Core.List.{List}
use Prim.Native.Nat.{ℕ, ◌+◌, ◌-◌, ◌≤◌, ◌<◌}
use native.Mathlib.Omega.{arith}
use native.Mathlib.Nat.{add-zero, add-sub_cancel_left}
use borrow.Author.Tests.{eq-eqb}
use lib.ListN.{length, take, drop, get_or, drop_of_length-le, length-take}
use lib.Seq.{slice}
use Rattle.words.specs.Words.{size_of, eqs, fills}
use Rattle.words.specs.Columns.{word}
use Rattle.words.specs.Table.{rows, first_of}
use Rattle.words.specs.Search.{Searched}
use Rattle.words.specs.Ran.{PassedOver}
use Rattle.std.specs.Prelude.{Some, None}
use Rattle.words.proofs.Walk.{next, inside, size_pos, hit, missed, none_left}
use Rattle.words.proofs.Counted.{looked, counted}
use Rattle.words.proofs.Passing.{passed_first, passed_looked, head_here}

-- `at` is reached and so many entries were not passed over: what is left is the answer and the rest of the number
pub record Looking (ws : List ℕ) (base from to : ℕ) (e : List ℕ) (at count : ℕ) : Type 0 where
  pub filled : fills 0 (slice at to ws) ≡ true
  pub answer : first_of (rows (base + from) 0 (slice from to ws)) e ≡ first_of (rows (base + at) 0 (slice at to ws)) e
  pub number : looked (rows (base + from) 0 (slice from to ws)) e ≡ count + looked (rows (base + at) 0 (slice at to ws)) e
  pub few : count ≤ at

module _ (ws : List ℕ) (base from to : ℕ) (e : List ℕ) (at count : ℕ) (l : Looking ws base from to e at count) where
  -- entries with another head were passed over
  pub looking_on : (head r : ℕ) → head ≡ word e 0 → PassedOver ws at to head r → Looking ws base from to e r count
  looking_on head r is p =
      let q : rows (base + r) 0 (slice r to ws) ≡ _ = p.left base in
      record {
        filled = p.filled;
        answer = l.answer ∙ rw (q, is) (sym (passed_first (rows (base + at) 0 (slice at to ws)) e));
        number = l.number ∙ rw (q, is, passed_looked (rows (base + at) 0 (slice at to ws)) e);
        few = omega (arith, l.few, p.onward);
      }

  -- all of them were
  pub looking_last : to ≤ at → Searched (rows (base + from) 0 (slice from to ws)) e None count
  unfolding rows looked
  looking_last out =
      let h : length (take to ws) ≤ at = omega (arith, length-take to ws) in
      record {
        answer = none_left ws base to e _ at l.answer out;
        number = sym (counted (base + from) 0 (slice from to ws) e ∙ l.number ∙ rw (drop_of_length-le (take to ws) h, add-zero));
      }

  -- an entry with this head is the one looked for, or is not
  module _ (high : to ≤ length ws) (more : at < to) (headed : get_or ws at 0 ≡ word e 0) (n : ℕ) (sized : n ≡ size_of (get_or ws at 0)) (t : Bool) (same : t ≡ eqs (take ((at + n) - at) (drop at ws)) e) where
    one_more : looked (rows (base + at) 0 (slice at to ws)) e ≡ 1 + cond t 0 (looked (rows (base + (at + n)) 0 (slice (at + n) to ws)) e)
    unfolding looked
    one_more =
        let q : (base + at) + size_of (get_or ws at 0) ≡ base + (at + size_of (get_or ws at 0)) = omega arith in
        rw ((next ws to at high more (base + at) (inside ws to at high more l.filled)).row, same, add-sub_cancel_left, sized, head_here ws at (omega arith), eq-eqb _ _ headed, q)

    pub looking_hit : t ≡ true → Searched (rows (base + from) 0 (slice from to ws)) e (Some (base + at)) (count + 1)
    looking_hit y = record {
      answer = hit ws base to e _ at n t high more l.filled l.answer sized same y;
      number = sym (counted (base + from) 0 (slice from to ws) e ∙ l.number ∙ rw (one_more, y));
    }

    pub looking_miss : t ≡ false → Looking ws base from to e (at + n) (count + 1)
    looking_miss not =
        let m = missed ws base to e _ at n t high more l.filled l.answer sized same not in
        let one : looked (rows (base + from) 0 (slice from to ws)) e ≡ count + (1 + looked (rows (base + (at + n)) 0 (slice (at + n) to ws)) e) = l.number ∙ rw (one_more, not) in
        record {
          filled = m.0;
          answer = m.1;
          number = one ∙ omega arith;
          few = omega (arith, l.few, size_pos (get_or ws at 0));
        }
