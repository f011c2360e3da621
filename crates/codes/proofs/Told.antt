-- What a call leaves, told by a number and lent words. Assumes nothing.
use mathlib.Core.Path.{◌≡◌, refl, sym, ap, ◌∙◌}
use mathlib.Core.List.{List}
use Prim.Native.Nat.{ℕ}
use native.Mathlib.Omega.{arith}
use Rattle.call.specs.Call.{Reply, Outcome, left, done}
use Rattle.std.proofs.Common.{Result, Ok, Err}
use Rattle.std.specs.Prelude.{⊤}
use Rattle.std.specs.Result.{IsOk, IsErr}
use Rattle.call.specs.declared.Refusal.{Refusal}
use Rattle.call.proofs.Refusals.{numbered}
use Rattle.opened.specs.OpenStore.{Opening}
use Rattle.codes.specs.Code.{status, answer_after, which_after, CodedDone, Coded, CodedWhich, CodedOpening}

-- ---- from the reply to the outcome

pub coded_done : (o : Outcome) (p : Reply) (r : ℕ) (ws : List ℕ) → left p ws ≡ o → r ≡ status p → CodedDone o r ws
coded_done o p r ws e s = record { returned = s ∙ ap (λ (x : Outcome). status x.reply) e; words = ap (λ (x : Outcome). x.words) e }

pub coded : (o : Outcome) (p : Reply) (r : ℕ) (ws : List ℕ) (a a' : ℕ) → left p ws ≡ o → (r ≡ status p) × (a' ≡ answer_after p a) → Coded o r ws a a'
coded o p r ws a a' e (s, t) =
    record {
      returned = s ∙ ap (λ (x : Outcome). status x.reply) e;
      words = ap (λ (x : Outcome). x.words) e;
      told = t ∙ ap (λ (x : Outcome). answer_after x.reply a) e;
    }

pub coded_which : (o : Outcome) (p : Reply) (r : ℕ) (ws : List ℕ) (h h' a a' : ℕ) → left p ws ≡ o → (r ≡ status p) × (h' ≡ which_after p h) × (a' ≡ answer_after p a) → CodedWhich o r ws h h' a a'
coded_which o p r ws h h' a a' e (s, t, u) =
    record {
      returned = s ∙ ap (λ (x : Outcome). status x.reply) e;
      words = ap (λ (x : Outcome). x.words) e;
      chosen = t ∙ ap (λ (x : Outcome). which_after x.reply h) e;
      told = u ∙ ap (λ (x : Outcome). answer_after x.reply a) e;
    }

-- ---- an opening

pub coded_open : (p : Reply) (d : Result ⊤ Refusal) (r : ℕ) → done d ≡ p → r ≡ status (done d) → r ≡ status p
coded_open p d r is e = e ∙ ap status is

-- 0 is returned of no refusal: their numbers are not 0
zero_ok : (d : Result ⊤ Refusal) → status (done d) ≡ 0 → IsOk d
zero_ok (Ok u) z = refl
zero_ok (Err e) z = absurd (omega (arith, numbered e, z))

other_err : (d : Result ⊤ Refusal) → (status (done d) ≡ 0 → ⊥) → IsErr d
other_err (Ok u) n = absurd (n refl)
other_err (Err e) n = refl

pub opening : (ws index memory index' memory' : List ℕ) (d : Result ⊤ Refusal) (r : ℕ) → Opening ws index memory index' memory' d → r ≡ status (done d) → CodedOpening ws index memory index' memory' r
opening ws index memory index' memory' d r o e = record { opens = λ z. o.opens (zero_ok d (sym e ∙ z)); kept = λ n. o.kept (other_err d (λ z. n (e ∙ z))) }
