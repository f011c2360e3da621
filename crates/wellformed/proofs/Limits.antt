-- Each way through `verify` gives what `well_formed` says. Assumes nothing.
use mathlib.Core.Path.{◌≡◌, sym, ◌∙◌}
use mathlib.Core.Bool.{Bool, true, false, not}
use mathlib.Core.List.{List}
use Prim.Native.Nat.{ℕ, ◌-◌, ◌≤◌, ◌<◌}
use native.Mathlib.Omega.{arith}
use borrow.Author.Tests.{le-leb, lt-leb, not-true, not-false}
use lib.ListN.{length, take, drop, get_or, length-drop}
use lib.Seq.{take_all}
use Rattle.words.specs.Words.{eqs}
use Rattle.wellformed.specs.Fresh.{fresh_words}
use Rattle.wellformed.specs.Form.{all_zero, well_formed}
use Rattle.wellformed.specs.Scan.{Scanned, Verified}

-- the words from n on, as the code lends them
pub tail_from : (ws : List ℕ) (n : ℕ) → take (length ws - n) (drop n ws) ≡ drop n ws
tail_from ws n = take_all (length ws - n) (drop n ws) (omega (arith, length-drop n ws))

module _ (ws bits : List ℕ) where
  bad : false ≡ well_formed ws → Verified ws bits false
  bad e = record { is = e; marks = λ x. let z : ◌≡◌ {A = ℕ} 0 1 = cc in absurd (omega arith) }

  pub too_short : length ws < 94 → Verified ws bits false
  unfolding well_formed
  too_short h = bad (rw (lt-leb 94 _ h))

  pub no_longer : 1048576 < length ws → false ≡ well_formed ws
  unfolding well_formed
  no_longer h = let l : 94 ≤ length ws = omega arith in rw (le-leb 94 _ l, lt-leb _ 1048576 h)

  module _ (long : 94 ≤ length ws) where
    pub too_long : 1048576 < length ws → Verified ws bits false
    unfolding well_formed
    too_long h = bad (rw (le-leb 94 _ long, lt-leb _ 1048576 h))

    module _ (short : length ws ≤ 1048576) (f : Bool) (like : f ≡ eqs (take 93 (drop 1 ws)) fresh_words) where
      pub stale : not f ≡ true → Verified ws bits false
      unfolding well_formed
      stale n = bad (rw (le-leb 94 _ long, le-leb _ 1048576 short, sym like ∙ not-true f n))

      module _ (y : not f ≡ false) where
        pub too_few : get_or ws 0 0 < 94 → Verified ws bits false
        unfolding well_formed
        too_few h = bad (rw (le-leb 94 _ long, le-leb _ 1048576 short, sym like ∙ not-false f y, lt-leb 94 _ h))

        module _ (enough : 94 ≤ get_or ws 0 0) where
          pub too_many : length ws < get_or ws 0 0 → Verified ws bits false
          unfolding well_formed
          too_many h = bad (rw (le-leb 94 _ long, le-leb _ 1048576 short, sym like ∙ not-false f y, le-leb 94 _ enough, lt-leb _ _ h))

          module _ (within : get_or ws 0 0 ≤ length ws) (z : Bool) (is : z ≡ all_zero (take (length ws - get_or ws 0 0) (drop (get_or ws 0 0) ws))) where
            pub dirty : not z ≡ true → Verified ws bits false
            unfolding well_formed
            dirty n =
                let g : all_zero (drop (get_or ws 0 0) ws) ≡ false = rw tail_from at (sym is ∙ not-true z n) in
                bad (rw (le-leb 94 _ long, le-leb _ 1048576 short, sym like ∙ not-false f y, le-leb 94 _ enough, le-leb _ _ within, g))

            pub clean : not z ≡ false → (r : Bool) → Scanned ws (get_or ws 0 0) bits r → Verified ws bits r
            unfolding well_formed
            clean n r e =
                let g : all_zero (drop (get_or ws 0 0) ws) ≡ true = rw tail_from at (sym is ∙ not-false z n) in
                record { is = rw (le-leb 94 _ long, le-leb _ 1048576 short, sym like ∙ not-false f y, le-leb 94 _ enough, le-leb _ _ within, g) e.is; marks = e.marks }
