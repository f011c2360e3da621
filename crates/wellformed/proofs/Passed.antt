-- The loop over the entries: its bits are the starts passed, and the answer is the answer on what is left. Assumes nothing.
use mathlib.Core.Path.{◌≡◌, refl, sym, ap, ◌∙◌, fun_ext}
use mathlib.Core.Bool.{Bool, true, false, not, ◌&&◌, ◌||◌}
use mathlib.Core.List.{List}
use Prim.Native.Nat.{ℕ, ◌+◌, ◌≤◌, ◌<◌}
use native.Mathlib.Omega.{arith}
use borrow.Author.Tests.{eqb-true, not-true, not-false}
use lib.Dec.{eqb}
use lib.ListN.{length, take, drop, get_or, length-take, drop_of_length-le}
use lib.Seq.{slice}
use Rattle.words.specs.Words.{size_of, fills}
use Rattle.words.specs.Table.{rows, entries, is_at}
use Rattle.words.proofs.Walk.{next, over}
use Rattle.bitset.specs.Bitset.{bit_at, nowhere, also}
use Rattle.wellformed.specs.Form.{heads_at, ok_rows, ok_entries}
use Rattle.wellformed.specs.Entry.{ok_entry}
use Rattle.wellformed.specs.Scan.{Passed, Scanned}
use Rattle.std.proofs.Math.Bool.{and-false, or-false}
use Rattle.wellformed.proofs.Bools.{or_turn}

pub begin : (ws : List ℕ) (used : ℕ) (bits : List ℕ) → 1 ≤ used → bit_at bits ≡ nowhere → Passed ws used bits 1
unfolding ok_entries entries nowhere
begin ws used bits low none = record {
  within = low;
  marks = λ h e. let f : bit_at bits h ≡ false = ap (λ (s : ℕ → Bool). s h) none in let z : ◌≡◌ {A = ℕ} 0 1 = cc in absurd (omega arith);
  seen = λ h. let f : bit_at bits h ≡ false = ap (λ (s : ℕ → Bool). s h) none in rw f;
  left = rw none;
}

-- not right: the bits are of no use
pub bad : (ws : List ℕ) (used : ℕ) (bits : List ℕ) → ok_entries ws used ≡ false → Scanned ws used bits false
bad ws used bits e = record { is = sym e; marks = λ x. let z : ◌≡◌ {A = ℕ} 0 1 = cc in absurd (omega arith) }

also_low : (at used : ℕ) (start : ℕ → Bool) → at < used → ((h : ℕ) → start h ≡ true → h < used) → (h : ℕ) → also at start h ≡ true → h < used
unfolding also
also_low at used start more low h e = go (eqb at h) refl e
  where
    go : (t : Bool) → eqb at h ≡ t → (t || start h) ≡ true → h < used
    go true q f = omega (arith, eqb-true at h q)
    go false q f = low h f

module _ (ws : List ℕ) (used at n : ℕ) (bits : List ℕ) (high : used ≤ length ws) (p : Passed ws used bits at) (more : at < used) (sized : n ≡ size_of (get_or ws at 0)) where
  pub runs_over : used < at + n → ok_entries ws used ≡ false
  runs_over out = p.left ∙ rw (over ws used at high more (omega arith))

  module _ (fits : at + n ≤ used) where
    module _ (r : Bool) (is : r ≡ ok_entry (heads_at (bit_at bits) ws) (take n (drop at ws))) where
      step : ok_entries ws used ≡ (fills 0 (slice (at + n) used ws) && (r && ok_rows ws (also at (bit_at bits)) (rows (at + n) 0 (slice (at + n) used ws))))
      unfolding ok_rows
      step =
          let h : at + size_of (get_or ws at 0) ≤ used = omega arith in
          p.left ∙ rw ((next ws used at high more at h).row, (next ws used at high more at h).filled, is, sized)

      pub bad_entry : not r ≡ true → ok_entries ws used ≡ false
      bad_entry f = step ∙ rw (not-true r f) (and-false (fills 0 (slice (at + n) used ws)))

      pub good_entry : not r ≡ false → (bits' : List ℕ) → bit_at bits' ≡ also at (bit_at bits) → Passed ws used bits' (at + n)
      unfolding also is_at
      good_entry t bits' e = record {
        within = omega arith;
        marks = λ h f. also_low at used (bit_at bits) more p.marks h (sym (ap (λ (s : ℕ → Bool). s h) e) ∙ f);
        seen = λ h.
            let i : at + size_of (get_or ws at 0) ≤ used = omega arith in
            p.seen h ∙ rw ((next ws used at high more at i).row, e, sized) (or_turn (eqb at h) (bit_at bits h) _);
        left = step ∙ rw (not-false r t, e);
      }

pub all_good : (ws : List ℕ) (used at : ℕ) (bits : List ℕ) → Passed ws used bits at → used ≤ at → Scanned ws used bits true
unfolding ok_rows fills rows is_at
all_good ws used at bits p out =
    let h : length (take used ws) ≤ at = omega (arith, length-take used ws) in
    let d = drop_of_length-le (take used ws) h in
    record {
      is = sym (p.left ∙ rw d);
      marks = λ t. fun_ext (λ k. sym (p.seen k ∙ rw d (or-false (bit_at bits k))));
    }
