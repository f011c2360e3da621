-- Operations on words that have an end: the two ways one goes, and one after another. Assumes nothing.
use mathlib.Core.Path.{◌≡◌, refl, sym, ap, ◌∙◌}
use mathlib.Core.Bool.{Bool, true, false}
use mathlib.Core.List.{List, ◌++◌}
use Prim.Native.Nat.{ℕ, ◌+◌, ◌-◌, ◌≤◌, ◌<◌}
use native.Mathlib.Omega.{arith}
use borrow.Author.Tests.{le-leb, lt-leb, leb-true, leb-false}
use lib.Dec.{leb}
use lib.ListN.{length, take, drop, length-append, length-drop}
use lib.Seq.{take_at, take-take, drop-append-add}
use Rattle.words.specs.Made.{Grown}
use Rattle.words.specs.Ran.{Ran, answer_in}
use Rattle.std.specs.Prelude.{Option, Some, None}
use Rattle.words.specs.Ran.{interned}
use Rattle.words.specs.declared.Interned.{Interned}
use Rattle.words.proofs.Extend.{Extends, ext_length, ext_take}

-- what is known where the grown words fit
pub record Fit (g : Grown) (ws ws' : List ℕ) (h used : ℕ) : Type 0 where
  pub handle : h ≡ g.handle
  pub end : used ≡ length g.words
  pub room : length g.words ≤ length ws
  pub words : ws' ≡ g.words ++ drop (length g.words) ws

abbrev handle_in : Option Interned → ℕ
handle_in (Some m) = m.handle
handle_in None = 0

abbrev used_in : Option Interned → ℕ
used_in (Some m) = m.used
used_in None = 0

-- the same entry has the same handle and as many words used
pub same_interned : {h v k w : ℕ} → interned h v ≡ interned k w → (h ≡ k) × (v ≡ w)
same_interned e = (ap handle_in e, ap used_in e)

pub fit : (kept : ℕ) (g : Grown) (ws ws' : List ℕ) (h used : ℕ) → Fit g ws ws' h used → Ran kept g ws ws' (interned h used)
unfolding answer_in
fit kept g ws ws' h used f = record {
  answer = rw (le-leb _ _ f.room, f.handle, f.end);
  fits = λ x. f.words;
  full = λ x. absurd (omega (arith, f.room));
}

pub over : (kept : ℕ) (g : Grown) (ws ws' : List ℕ) → length ws < length g.words → take kept ws' ≡ take kept ws → Ran kept g ws ws' None
unfolding answer_in
over kept g ws ws' more same = record {
  answer = rw (lt-leb _ _ more);
  fits = λ x. absurd (omega arith);
  full = λ x. same;
}

-- and back
module _ (kept : ℕ) (g : Grown) (ws ws' : List ℕ) (r : Option Interned) (ran : Ran kept g ws ws' r) where
  pub fitted : (h used : ℕ) → r ≡ interned h used → Fit g ws ws' h used
  unfolding answer_in
  fitted h used is = go (leb (length g.words) (length ws)) refl
    where
      go : (t : Bool) → leb (length g.words) (length ws) ≡ t → Fit g ws ws' h used
      go true e =
          let a : interned h used ≡ interned g.handle (length g.words) = sym is ∙ ran.answer ∙ rw e in
          let room = leb-true (length g.words) (length ws) e in
          let f = same_interned a in
          record { handle = f.0; end = f.1; room = room; words = ran.fits room }
      go false e =
          let a : interned h used ≡ None = sym is ∙ ran.answer ∙ rw e in
          let z : ◌≡◌ {A = ℕ} 0 1 = cc in absurd (omega arith)

  pub overflowed : r ≡ None → length ws < length g.words
  unfolding answer_in
  overflowed is = go (leb (length g.words) (length ws)) refl
    where
      go : (t : Bool) → leb (length g.words) (length ws) ≡ t → length ws < length g.words
      go true e =
          let a : None ≡ interned g.handle (length g.words) = sym is ∙ ran.answer ∙ rw e in
          let z : ◌≡◌ {A = ℕ} 0 1 = cc in absurd (omega arith)
      go false e = leb-false (length g.words) (length ws) e

-- fewer words kept
pub fewer : (k kept : ℕ) (g : Grown) (ws ws' : List ℕ) (r : Option Interned) → k ≤ kept → Ran kept g ws ws' r → Ran k g ws ws' r
fewer k kept g ws ws' r le ran = record {
  answer = ran.answer;
  fits = ran.fits;
  full = λ x. sym (take-take k kept ws' le) ∙ ap (take k) (ran.full x) ∙ take-take k kept ws le;
}

-- ---- one operation after another

-- the first fitted: where the second begins
module _ (g : Grown) (ws ws₁ : List ℕ) (h used₁ : ℕ) (one : Fit g ws ws₁ h used₁) where
  pub fit_length : length ws₁ ≡ length ws
  fit_length = ap length one.words ∙ length-append g.words (drop (length g.words) ws) ∙ simp length-drop (omega (arith, one.room))

  pub fit_front : take used₁ ws₁ ≡ g.words
  fit_front = rw (one.words, one.end) (take_at g.words _ (length g.words) refl)

  fit_rest : (n : ℕ) → length g.words ≤ n → drop n ws₁ ≡ drop n ws
  fit_rest n le =
      let m = n - length g.words in
      let q : length g.words + m ≡ n = omega arith in
      rw one.words (ap (λ (k : ℕ). drop k (g.words ++ drop (length g.words) ws)) (sym q) ∙ drop-append-add g.words (drop (length g.words) ws) m ∙ lib.Seq.drop-drop m (length g.words) ws ∙ ap (λ (k : ℕ). drop k ws) q)

  -- Some, then Some or None: what the second leaves is what both leave. `used` words stood before the first, and it has kept them.
  pub then : (used : ℕ) → Extends (take used ws) g.words → used ≤ length ws → (g₂ : Grown) (ws₂ : List ℕ) (r : Option Interned) → Extends g.words g₂.words → Ran used₁ g₂ ws₁ ws₂ r → Ran used g₂ ws ws₂ r
  then used ext low g₂ ws₂ r ext₂ two =
      let le = ext_length g.words g₂.words ext₂ in
      let len = lib.Seq.length-take-le used ws low in
      let u≤ : used ≤ used₁ = omega (arith, ext_length (take used ws) g.words ext, one.end) in
      record {
        answer = rw fit_length at two.answer;
        fits = λ x. two.fits (omega (arith, fit_length)) ∙ ap (λ (l : List ℕ). g₂.words ++ l) (fit_rest (length g₂.words) le);
        full = λ x.
            sym (take-take used used₁ ws₂ u≤) ∙ ap (take used) (two.full (omega (arith, fit_length)) ∙ fit_front)
            ∙ ap (λ (k : ℕ). take k g.words) (sym len) ∙ ext_take (take used ws) g.words ext;
      }

-- None: there is no second, and both together do not fit either
pub stop : (used : ℕ) (g g₂ : Grown) (ws ws₁ : List ℕ) → Extends g.words g₂.words → Ran used g ws ws₁ None → Ran used g₂ ws ws₁ None
stop used g g₂ ws ws₁ ext one =
    let more = overflowed used g ws ws₁ None one refl in
    over used g₂ ws ws₁ (omega (arith, ext_length g.words g₂.words ext)) (one.full more)
