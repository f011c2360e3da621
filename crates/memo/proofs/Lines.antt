-- What recalling and noting do to a memory's lines. Assumes nothing.
use mathlib.Core.Path.{◌≡◌, refl, sym, ◌∙◌}
use mathlib.Core.Bool.{Bool, true, false}
use mathlib.Core.Logic.{◌⊎◌, inl, inr, ⊎_elim}
use mathlib.Core.List.{List}
use Prim.Native.Nat.{ℕ, ◌+◌, ◌*◌, ◌/◌, ◌%◌, ◌<◌}
use native.Mathlib.Omega.{arith}
use borrow.Author.Tests.{eqb-true, eqb-false}
use lib.Dec.{eqb}
use lib.ListN.{length, get_or, set}
use lib.Seq.{get_or-set_same, get_or-set_other}
use Rattle.std.specs.Prelude.{Option, Some, None}
use Rattle.words.specs.Ran.{interned}
use Rattle.words.specs.declared.Interned.{Interned}
use Rattle.words.proofs.Room.{same_interned}
use Rattle.memo.specs.Memo.{Line, Lines, Tells, Noted, Learned}

-- ---- the functions

pub tells_nothing : (memo : List ℕ) (key : ℕ) → Tells memo key None
tells_nothing memo key = record { line = λ h e. let z : ◌≡◌ {A = ℕ} 0 1 = cc in absurd (omega arith) }

pub tells_line : (memo : List ℕ) (key i : ℕ) → (key ≡ 0 → ⊥) → get_or memo i 0 / 1048576 ≡ key → Tells memo key (Some (get_or memo i 0 % 1048576))
tells_line memo key i some k = record {
  line = λ h e.
      let a : get_or memo i 0 % 1048576 ≡ h = cc in
      (i, record { some = some; fits = omega (arith, a); word = omega (arith, a, k) });
}

pub noted_none : (memo : List ℕ) (key answer : ℕ) → Noted memo key answer memo
noted_none memo key answer = record { line = λ i. inl refl }

pub noted_line : (memo : List ℕ) (key answer j : ℕ) → j < length memo → (key ≡ 0 → ⊥) → answer < 1048576 → Noted memo key answer (set memo j (key * 1048576 + answer))
noted_line memo key answer j room some fits = record { line = λ i. go i (eqb i j) refl }
  where
    go : (i : ℕ) → (t : Bool) → eqb i j ≡ t → (get_or (set memo j (key * 1048576 + answer)) i 0 ≡ get_or memo i 0) ⊎ Line (set memo j (key * 1048576 + answer)) i key answer
    go i true q =
        let e : i ≡ j = eqb-true i j q in
        let w : get_or (set memo j (key * 1048576 + answer)) j 0 ≡ key * 1048576 + answer = get_or-set_same memo j (key * 1048576 + answer) 0 room in
        inr (record { some = some; fits = fits; word = rw e w })
    go i false q = inl (get_or-set_other memo j i (key * 1048576 + answer) 0 (eqb-false i j q))

pub learned_at : (memo : List ℕ) (key h v : ℕ) (memo' : List ℕ) (r : Option Interned) → r ≡ interned h v → Noted memo key h memo' → Learned memo key r memo'
learned_at memo key h v memo' r e n = record { at = λ k w f. rw (same_interned (sym e ∙ f)).0 at n; full = λ f. let z : ◌≡◌ {A = ℕ} 0 1 = cc in absurd (omega arith) }

pub learned_none : (memo : List ℕ) (key : ℕ) (r : Option Interned) → r ≡ None → Learned memo key r memo
learned_none memo key r e = record { at = λ h v f. let z : ◌≡◌ {A = ℕ} 0 1 = cc in absurd (omega arith); full = λ f. refl }

-- it holds of a memory without any
pub lines_none : {P : ℕ → ℕ → Type 0} {memo : List ℕ} → ((i : ℕ) → get_or memo i 0 ≡ 0) → Lines P memo
lines_none z = record { line = λ i key answer l. absurd (l.some (omega (arith, l.word, z i))) }

-- it holds where it follows from what holds
pub lines_weak : {P Q : ℕ → ℕ → Type 0} {memo : List ℕ} → ((key answer : ℕ) → P key answer → Q key answer) → Lines P memo → Lines Q memo
lines_weak f all = record { line = λ i key answer l. f key answer (all.line i key answer l) }

module _ {P : ℕ → ℕ → Type 0} {memo : List ℕ} (all : Lines P memo) {key : ℕ} where
  -- it holds of what is recalled
  pub recalled : {r : Option ℕ} → Tells memo key r → (h : ℕ) → r ≡ Some h → P key h
  recalled t h e = let l = t.line h e in all.line l.0 key h l.1

  -- and noting an answer of which it holds keeps it
  pub noted : {answer : ℕ} {memo' : List ℕ} → Noted memo key answer memo' → ((key ≡ 0 → ⊥) → P key answer) → Lines P memo'
  noted {answer} {memo'} n is = record { line = λ i k h l. ⊎_elim (old i k h l) (new i k h l) (n.line i) }
    where
      old : (i k h : ℕ) → Line memo' i k h → get_or memo' i 0 ≡ get_or memo i 0 → P k h
      old i k h l e = all.line i k h (record { some = l.some; fits = l.fits; word = sym e ∙ l.word })

      new : (i k h : ℕ) → Line memo' i k h → Line memo' i key answer → P k h
      new i k h l m =
          let a : k ≡ key = omega (arith, l.word, m.word, l.fits, m.fits) in
          let b : h ≡ answer = omega (arith, l.word, m.word, l.fits, m.fits) in
          rw (a, b) (is m.some)
