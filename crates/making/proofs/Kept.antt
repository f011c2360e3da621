-- A memory stays right over the end of a call. Assumes nothing.
use Rattle.std.proofs.Common.{◌≡◌, ℕ, Result, ◌<◌, ◌≤◌, List, [], length, get_or, take, set, refl, ap, ◌∙◌, arith, length-take-le, get_or-set_same}
use lib.Seq.{take-set-lt}
use Rattle.words.specs.Made.{Grown}
use Rattle.words.specs.Ran.{Ran}
use Rattle.std.specs.Prelude.{Option, Some, None}
use Rattle.words.specs.Ran.{interned}
use Rattle.words.specs.declared.Interned.{Interned}
use Rattle.words.proofs.Extend.{Extends, ext_length}
use Rattle.words.proofs.Room.{fitted}
use Rattle.wellformed.specs.Form.{used_words}
use Rattle.call.specs.declared.Refusal.{Refusal}
use Rattle.call.specs.Call.{Outcome, left, made}
use Rattle.call.specs.Steps.{finish_in}
use Rattle.later.proofs.Keeps.{later_set}
use Rattle.lent_memory.specs.Memory.{Right, RightThen}
use Rattle.lent_memory.proofs.Laws.{right_later, right_blank}
use Rattle.memory_steps.specs.Steps.{Forgot}

-- an answer that fitted: the used words after the end are those that the operation left, with their number in word 0
pub used_then : (ws ws₁ ws₂ : List ℕ) (used : ℕ) (r : Option Interned) (g : Grown) (m : Result ℕ Refusal) → 0 < used → used ≤ length ws → 0 < length ws₁ → Extends (take used ws) g.words → Ran used g ws ws₁ r → left (made m) ws₂ ≡ finish_in used r ws₁ → (h v : ℕ) → r ≡ interned h v
    → used_words ws₂ ≡ set (take v ws₁) 0 v
unfolding finish_in
used_then ws ws₁ ws₂ used r g m some within long x ran e h v k =
    let e₁ : left (made m) ws₂ ≡ finish_in used (interned h v) ws₁ = rw k at e in
    let w : ws₂ ≡ set ws₁ 0 v = ap (λ (y : Outcome). y.words) e₁ in
    let c : get_or (set ws₁ 0 v) 0 0 ≡ v = get_or-set_same ws₁ 0 v 0 long in
    let n : length (take used ws) ≡ used = length-take-le used ws within in
    let low : 0 < v = omega (arith, n, (fitted used g ws ws₁ r ran h v k).end, ext_length (take used ws) g.words x) in
    rw w (ap (λ (n : ℕ). take n (set ws₁ 0 v)) c ∙ take-set-lt v ws₁ 0 v low)

pub kept_call : (ws ws₁ ws₂ memory memory' : List ℕ) (used : ℕ) (r : Option Interned) (g : Grown) (m : Result ℕ Refusal) → 0 < used → used ≤ length ws → 0 < length ws₁ → Extends (take used ws) g.words → Ran used g ws ws₁ r → RightThen [] ws₁ r memory → Forgot r memory memory'
    → left (made m) ws₂ ≡ finish_in used r ws₁ → Right (used_words ws₂) memory'
kept_call ws ws₁ ws₂ memory memory' used r g m some within long x ran right f e = go r refl
  where
    go : (s : Option Interned) → r ≡ s → Right (used_words ws₂) memory'
    go (Some s) k =
        let h = s.handle in
        let v = s.used in
        let q = used_then ws ws₁ ws₂ used r g m some within long x ran e h v k in
        let same : memory' ≡ memory = f.kept (λ full. let z : ◌≡◌ {A = ℕ} 0 1 = cc in absurd (omega arith)) in
        rw (same, q) (right_later (later_set (take v ws₁) v) (right.is h v k))
    go None k = rw (f.full k) (right_blank (used_words ws₂) (length memory))
