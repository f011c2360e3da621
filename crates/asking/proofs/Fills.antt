-- A call that fills a lent output: what its answer says of the rows, and what the output is then. Assumes nothing.
use mathlib.Core.Path.{◌≡◌, refl, sym, ap, ◌∙◌}
use mathlib.Core.Bool.{Bool, true, false, not}
use mathlib.Core.List.{List, [], ◌++◌}
use Prim.Native.Nat.{ℕ, zero, suc, pred, ◌<◌}
use Rattle.std.proofs.Common.{Result, Ok, Err}
use Rattle.std.specs.Result.{is_err}
use Rattle.call.specs.declared.Answer.{Answer}
use Rattle.call.specs.declared.Answer.TheVariants as Answer-variants
use Rattle.call.specs.declared.Refusal.{Refusal}
use native.Mathlib.Omega.{arith}
use lib.ListN.{length, take, drop, get_or}
use Rattle.wellformed.specs.Form.{well_formed, used_words}
use Rattle.call.specs.Call.{number, refused, answered, told, Outcome, left, ◌when◌, ◌otherwise◌, reply_after, ask, output_rows, fill, output_after, filled_output}
use Rattle.call.proofs.Ways.{row_passed, first_word, begun}
use Rattle.every_call.specs.Cleared.{Cleared}
use Rattle.every_call.proofs.Cleared.{whole}

-- by what an answer is, the first row that applies, or 0
refused_first : (r : Result Answer Refusal) (n k : ℕ) → told r ≡ reply_after n (number k) → is_err r ≡ true → n ≡ suc (pred n)
refused_first (Ok a) n k q t = absurd (cc)
refused_first (Err e) zero k q t = absurd (cc)
refused_first (Err e) (suc n) k q t = refl

no_refusal : (a : Answer) (n : ℕ) → answered a ≡ refused n → ⊥
no_refusal (Answer-variants.Handle h) n q = cc
no_refusal (Answer-variants.Number h) n q = cc
no_refusal (Answer-variants.Flag h) n q = cc
no_refusal (Answer-variants.Signed h) n q = cc
no_refusal Answer-variants.Absent n q = cc
no_refusal (Answer-variants.Constant h) n q = cc
no_refusal (Answer-variants.Size h) n q = cc

answered_first : (r : Result Answer Refusal) (n k : ℕ) → told r ≡ reply_after n (number k) → is_err r ≡ false → n ≡ 0
answered_first (Ok a) zero k q t = refl
answered_first (Ok a) (suc n) k q t = absurd (no_refusal a (suc n) q)
answered_first (Err e) n k q t = absurd (cc)

module _ (rows : List ℕ → ℕ) (answer : List ℕ → List ℕ) (ws out : List ℕ) (r : Result Answer Refusal) (e : left (told r) ws ≡ fill rows answer (length out) ws) where
  -- the first row that applies, or 0
  abbrev first : ℕ
  first = 1 when not (well_formed ws) otherwise output_rows rows answer (length out) (used_words ws)

  is : told r ≡ reply_after first (number (length (answer (used_words ws))))
  unfolding ask
  is = ap (λ (o : Outcome). o.reply) e

  pub turned : is_err r ≡ true → out ≡ filled_output rows answer ws out
  unfolding filled_output
  turned t = let n = refused_first r first (length (answer (used_words ws))) is t in rw n

  module _ (t : is_err r ≡ false) where
    none : first ≡ 0
    none = answered_first r first (length (answer (used_words ws))) is t

    split : (b : Bool) (n : ℕ) → (1 when not b otherwise n) ≡ 0 → (b ≡ true) × (n ≡ 0)
    split true n q = (refl, q)
    split false n q = absurd (omega arith)

    passed : (well_formed ws ≡ true) × (output_rows rows answer (length out) (used_words ws) ≡ 0)
    passed = split (well_formed ws) (output_rows rows answer (length out) (used_words ws)) none

    pub some_words : 0 < length ws
    some_words = first_word ws true (sym passed.0) refl

    pub cleared : Cleared (output_rows rows answer (length out)) [] ws (get_or ws 0 0)
    cleared =
        let ok = passed.0 in
        whole (output_rows rows answer (length out)) ws (get_or ws 0 0) (begun ws (get_or ws 0 0) (row_passed ws ok)) passed.1

    pub filled_in : (d : List ℕ) → d ≡ answer (take (get_or ws 0 0) ws) ++ drop (length (answer (take (get_or ws 0 0) ws))) out → d ≡ filled_output rows answer ws out
    unfolding filled_output
    filled_in d q = q ∙ rw none
