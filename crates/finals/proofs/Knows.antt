-- What is known to be final stays known. Assumes nothing.
use mathlib.Core.Path.{◌≡◌, refl, sym, ap, ◌∙◌}
use mathlib.Core.Bool.{Bool, true, false, not, ◌||◌}
use mathlib.Core.Logic.{◌⊎◌, inl, inr, ⊎_elim}
use mathlib.Core.List.{List}
use Prim.Native.Nat.{ℕ, ◌<◌}
use native.Mathlib.Omega.{arith}
use borrow.Author.Tests.{eqb-true, not-false}
use lib.Dec.{eqb}
use lib.ListN.{replicate}
use Rattle.bitset.specs.Bitset.{bit_at, nowhere, also}
use Rattle.bitset.proofs.Bit.{none}
use Rattle.words.proofs.Zeros.{zeros}
use Rattle.parts.specs.Parts.{Good, Part}
use Rattle.parts.proofs.Good.{part_below}
use Rattle.later.specs.Later.{Later}
use Rattle.later.proofs.Later.{later_then}
use Rattle.finals.specs.Final.{is_final_within}
use Rattle.finals.specs.Known.{Knows, Kept, Finals}
use Rattle.finals.proofs.Stays.{final_later}

-- in a store that came later
pub knows_later : {u v bits : List ℕ} → Later u v → Knows u bits → Knows v bits
knows_later x k = record { final = λ h b w y. k.final h b w (later_then x y) }

-- of a set without any
pub knows_none : (u bits : List ℕ) → bit_at bits ≡ nowhere → Knows u bits
unfolding nowhere
knows_none u bits e = record {
  final = λ h b.
      let f : bit_at bits h ≡ false = ap (λ (t : ℕ → Bool). t h) e in
      let z : ◌≡◌ {A = ℕ} 0 1 = cc in absurd (omega arith);
}

pub knows_blank : (u : List ℕ) (n : ℕ) → Knows u (replicate n 0)
knows_blank u n = knows_none u (replicate n 0) (none (replicate n 0) (zeros n))

-- ---- what `kept` does

pub kept_one : (bits bits' : List ℕ) (a : ℕ) (r : Bool) → not r ≡ false → bit_at bits' ≡ also a (bit_at bits) → Kept bits a r bits'
unfolding also
kept_one bits bits' a r y e = record { all = λ h b. go h (eqb a h) refl (sym (ap (λ (t : ℕ → Bool). t h) e) ∙ b) }
  where
    go : (h : ℕ) (t : Bool) → eqb a h ≡ t → (t || bit_at bits h) ≡ true → (bit_at bits h ≡ true) ⊎ ((h ≡ a) × (r ≡ true))
    go h true q b = inr (sym (eqb-true a h q), not-false r y)
    go h false q b = inl b

-- ---- the ways through is_final

-- a type that is kept as it was answered
pub knows_kept : {u bits bits' : List ℕ} {k d a : ℕ} {r : Bool} → Good u → Part u k d 1 11 a → Knows u bits → Finals u a r → Kept bits a r bits' → Knows u bits'
knows_kept {u} {bits} {bits'} {k} {d} {a} {r} g p known t m = record { final = λ h b. ⊎_elim (known.final h) (new h) (m.all h b) }
  where
    new : (h : ℕ) → (h ≡ a) × (r ≡ true) → (v : List ℕ) → Later u v → (n : ℕ) → h < n → is_final_within n v h ≡ true
    new h e v x n l =
        let q : h ≡ a = e.0 in
        let f : is_final_within n v a ≡ true = final_later g x n d a (part_below n (omega (arith, q)) p) ∙ sym (t.is n (omega (arith, q))) ∙ e.1 in
        rw q f

pub kept_both : {u bits bits' : List ℕ} {k d a : ℕ} {r m : Bool} → Good u → Part u k d 1 11 a → Knows u bits → Finals u a r → m ≡ r → Kept bits a r bits' → Finals u a m × Knows u bits'
kept_both g p known t e m = (rw e t, knows_kept g p known t m)
