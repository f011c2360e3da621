-- Makings in a row: each begins where the one before it ended. Assumes nothing.
use mathlib.Core.Path.{◌≡◌, refl, sym}
use mathlib.Core.List.{List, ◌++◌}
use Prim.Native.Nat.{ℕ, ◌≤◌}
use native.Mathlib.Omega.{arith}
use lib.ListN.{length, take, length-append, take-append-drop}
use lib.Seq.{length-take-le}
use Rattle.words.specs.Ran.{HasSize, Segments, Ran, Runs}
use Rattle.words.specs.Made.{Grown, make}
use Rattle.std.specs.Prelude.{Option, None}
use Rattle.words.specs.Ran.{interned}
use Rattle.words.specs.declared.Interned.{Interned}
use Rattle.words.proofs.Extend.{ext_length}
use Rattle.words.proofs.Room.{Fit, fitted, fit_front, fit_length, then, stop}
use Rattle.words.proofs.Placed.{make_extends}
use Rattle.index.specs.Covers.{Covers}
use Rattle.index.proofs.Keep.{covers_more}
use Rattle.words.proofs.Kept.{Appends, appends_then, appends_none, make_appends, segments_after}

-- all makings so far have fitted: g is what they make of the used words, and its words now stand in the first v of `old` and `now`; h is
-- the last one's handle
pub record Reached (old new : List ℕ) (used : ℕ) (g : Grown) (now : List ℕ) (h v : ℕ) : Type 0 where
  pub first : Segments old new used
  pub segments : Segments old now v
  pub keeps : Appends (take used (old ++ new)) g
  pub fits : Fit g (old ++ new) (old ++ now) h v

long : (old new : List ℕ) (used : ℕ) → Segments old new used → length (take used (old ++ new)) ≡ used
long old new used s = length-take-le used (old ++ new) (omega (arith, length-append old new, s.high))

-- before the first making there is no handle, and 0 stands for it
pub start : {old new : List ℕ} {used : ℕ} → Segments old new used → Reached old new used (record { words = take used (old ++ new); handle = 0 }) new 0 used
start {old} {new} {used} s =
    let n = long old new used s in
    record {
      first = s;
      segments = s;
      keeps = appends_none (take used (old ++ new)) 0 s.full;
      fits = record {
        handle = refl;
        end = sym n;
        room = omega (arith, n, length-append old new, s.high);
        words = rw n (sym (take-append-drop used (old ++ new)));
      };
    }

module _ {old new : List ℕ} {used : ℕ} {g : Grown} {now : List ℕ} {h v : ℕ} (so : Reached old new used g now h v) where
  -- one more ran, of an entry that may depend on the words: so all ran
  pub more : (e : List ℕ → List ℕ) (now₂ : List ℕ) {r : Option Interned} → Runs (λ u. make u (e u)) old now v now₂ r → Ran used (make g.words (e g.words)) (old ++ new) (old ++ now₂) r
  more e now₂ {r} ran =
      let g₂ = make g.words (e g.words) in
      let two : Ran v g₂ (old ++ now) (old ++ now₂) r = rw (fit_front g (old ++ new) (old ++ now) h v so.fits) at ran in
      let low : used ≤ length (old ++ new) = omega (arith, length-append old new, so.first.high) in
      then g (old ++ new) (old ++ now) h v so.fits used so.keeps.ext low g₂ (old ++ now₂) r (make_extends g.words (e g.words)) two

  -- where it fitted, the next may begin
  pub next : (e now₂ : List ℕ) {r : Option Interned} {h₂ v₂ : ℕ} → HasSize e → Runs (λ u. make u e) old now v now₂ r → r ≡ interned h₂ v₂ → Reached old new used (make g.words e) now₂ h₂ v₂
  next e now₂ {r} {h₂} {v₂} sized ran is =
      let u = take used (old ++ new) in
      let g₂ = make g.words e in
      let f = fitted used g₂ (old ++ new) (old ++ now₂) r (more (λ u. e) now₂ ran) h₂ v₂ is in
      let low : 1 ≤ length g.words = omega (arith, long old new used so.first, so.first.low, ext_length u g.words so.keeps.ext) in
      let k = appends_then u g g₂ so.keeps (make_appends g.words e low so.keeps.full sized) in
      let len : length now₂ ≡ length new = omega (arith, fit_length g₂ (old ++ new) (old ++ now₂) h₂ v₂ f, length-append old new, length-append old now₂) in
      record { first = so.first; segments = segments_after old new now₂ used g₂ h₂ v₂ so.first k len f; keeps = k; fits = f }

-- an index of the first words stays one
pub reached_covers : {old new : List ℕ} {used : ℕ} {g : Grown} {now : List ℕ} {h v : ℕ} {index : List ℕ} → Reached old new used g now h v → Covers (take used (old ++ new)) index → Covers (take v (old ++ now)) index
reached_covers {old} {new} {used} {g} {now} {h} {v} {index} so c = rw (fit_front g (old ++ new) (old ++ now) h v so.fits) (covers_more (take used (old ++ new)) g.words index so.keeps.ext c)

-- where there was no room, there is none with one more
pub still : {used : ℕ} (g : Grown) {ws ws₁ : List ℕ} (e : List ℕ) → Ran used g ws ws₁ None → Ran used (make g.words e) ws ws₁ None
still {used} g {ws} {ws₁} e = stop used g (make g.words e) ws ws₁ (make_extends g.words e)
