-- The search from a position on, in two segments. Assumes nothing.
use mathlib.Core.Path.{◌≡◌, refl, sym, ap, ◌∙◌}
use mathlib.Core.Bool.{true, false}
use mathlib.Core.List.{List, ◌++◌}
use Prim.Native.Nat.{ℕ, ◌+◌, ◌-◌, ◌≤◌, ◌<◌}
use native.Mathlib.Omega.{arith}
use lib.ListN.{length, take, drop, length-drop, length-take, length-append}
use lib.Seq.{slice, take-length, drop-append-le, length-slice}
use Rattle.words.specs.Words.{fills}
use Rattle.words.specs.Table.{rows, first_of}
use Rattle.words.specs.Search.{not_passed_over, Searched}
use Rattle.words.specs.Ran.{Segments, Tail}
use Rattle.std.specs.Prelude.{Option, Some, None, is_some}
use Rattle.words.proofs.Join.{take_past, drop_past}
use Rattle.words.proofs.Grow.{fills_append, rows_append, or_else, first_append}
use Rattle.words.proofs.Counted.{looked, counted, searched_few, when_none, looked_append}

module _ (old new : List ℕ) (used from : ℕ) (s : Segments old new used) (t : Tail old (take used (old ++ new)) from) where
  module _ (behind : length old ≤ from) where
    same : drop from (take used (old ++ new)) ≡ slice (from - length old) (used - length old) new
    same = ap (drop from) (take_past old new used s.over) ∙ drop_past old (take (used - length old) new) from behind

    pub behind_filled : fills 0 (slice (from - length old) (used - length old) new) ≡ true
    behind_filled = rw same at t.full

    pub behind_searched : (e : List ℕ) (f : Option ℕ) (n : ℕ) → Searched (rows (length old + (from - length old)) 0 (slice (from - length old) (used - length old) new)) e f n → Searched (rows from 0 (drop from (take used (old ++ new)))) e f n
    behind_searched e f n is =
        let q : length old + (from - length old) ≡ from = omega arith in
        rw same (rw q at is)

  module _ (before : from < length old) where
    pub old_filled : fills 0 (slice from (length old) old) ≡ true
    old_filled = rw (take-length old) (t.cut before)

    both : drop from (take used (old ++ new)) ≡ drop from old ++ take (used - length old) new
    both = ap (drop from) (take_past old new used s.over) ∙ drop-append-le from old (take (used - length old) new) (omega arith)

    pub new_filled : fills 0 (slice 0 (used - length old) new) ≡ true
    new_filled = sym (fills_append 0 (drop from old) (take (used - length old) new) (t.cut before)) ∙ sym (ap (fills 0) both) ∙ t.full

    split : rows from 0 (drop from (take used (old ++ new))) ≡ rows (0 + from) 0 (slice from (length old) old) ++ rows (length old + 0) 0 (slice 0 (used - length old) new)
    split =
        let n : from + length (drop from old) ≡ length old + 0 = omega (arith, length-drop from old) in
        let z : 0 + from ≡ from = omega arith in
        rw (both, rows_append from 0 (drop from old) (take (used - length old) new) (t.cut before), n, take-length old, z)

    module _ (e : List ℕ) (f : Option ℕ) (n : ℕ) (is : Searched (rows (0 + from) 0 (slice from (length old) old)) e f n) where
      looked_first : n ≡ looked (rows (0 + from) 0 (slice from (length old) old)) e
      looked_first = is.number ∙ counted (0 + from) 0 (slice from (length old) old) e

      looked_all : (g : Option ℕ) → f ≡ g → not_passed_over (rows from 0 (drop from (take used (old ++ new)))) e ≡ n + when_none g (looked (rows (length old + 0) 0 (slice 0 (used - length old) new)) e)
      looked_all g it =
          counted from 0 (drop from (take used (old ++ new))) e ∙ rw (split, looked_append (rows (0 + from) 0 (slice from (length old) old)) (rows (length old + 0) 0 (slice 0 (used - length old) new)) e, sym looked_first, sym is.answer ∙ it)

      found_all : (g : Option ℕ) → f ≡ g → first_of (rows from 0 (drop from (take used (old ++ new)))) e ≡ or_else g (first_of (rows (length old + 0) 0 (slice 0 (used - length old) new)) e)
      found_all g it = rw (split, first_append) (rw (sym is.answer ∙ it))

      pub in_old : is_some f ≡ true → Searched (rows from 0 (drop from (take used (old ++ new)))) e f n
      unfolding or_else when_none
      in_old y = go f refl y
        where
          go : (g : Option ℕ) → f ≡ g → is_some g ≡ true → Searched (rows from 0 (drop from (take used (old ++ new)))) e f n
          go (Some h) at t = record { answer = at ∙ sym (found_all (Some h) at); number = omega (arith, looked_all (Some h) at) }
          go None at t = let z : ◌≡◌ {A = ℕ} 0 1 = cc in absurd (omega arith)

      module _ (not : is_some f ≡ false) (g : Option ℕ) (m : ℕ) (it : Searched (rows (length old + 0) 0 (slice 0 (used - length old) new)) e g m) where
        none : f ≡ None
        none = go f not
          where
            go : (g : Option ℕ) → is_some g ≡ false → g ≡ None
            go (Some h) t = let z : ◌≡◌ {A = ℕ} 0 1 = cc in absurd (omega arith)
            go None t = refl

        pub count_few : n + m ≤ length old + length new
        count_few =
            omega (
              arith,
              s.high,
              searched_few (0 + from) 0 (slice from (length old) old) e f n is,
              searched_few (length old + 0) 0 (slice 0 (used - length old) new) e g m it,
              length-slice from (length old) old (omega arith),
              length-slice 0 (used - length old) new (omega (arith, s.high)),
            )

        pub in_new : Searched (rows from 0 (drop from (take used (old ++ new)))) e g (n + m)
        unfolding or_else when_none
        in_new = record {
          answer = it.answer ∙ sym (found_all None none);
          number = sym (looked_all None none ∙ rw (it.number, counted (length old + 0) 0 (slice 0 (used - length old) new) e));
        }

-- from 1 on stand all entries
pub from_one : (old new : List ℕ) (used : ℕ) → Segments old new used → Tail old (take used (old ++ new)) 1
from_one old new used s = record { within = omega (arith, s.low, s.high, length-take used (old ++ new), length-append old new); cut = λ l. s.cut; full = s.full }
