-- The signed order of two words is the order of their places, counted from the word of the smallest number.
use Rattle.std.proofs.Common.{◌≡◌, ℕ, suc, ◌+◌, ◌-◌, ◌%◌, ◌^◌, ◌<◌, ◌≤◌, Bool, true, false, ltb, pos, negsuc, sym, refl, ◌∙◌, arith, ltb-false, ltb-true, le-ltb, lt-ltb}
use lib.Signed.{lt_z}
use mir.Val.{sel}
use Rattle.type_integer.specs.Signed.{less}

abbrev pub place : ℕ → ℕ
place w = (w + 2 ^ 63) % 2 ^ 64

-- two tests that go the same way
same_test : (a b c d : ℕ) → (a < b → c < d) → (b ≤ a → d ≤ c) → ltb a b ≡ ltb c d
same_test a b c d f g = go (ltb a b) refl
  where
    go : (t : Bool) → ltb a b ≡ t → ltb a b ≡ ltb c d
    go true e = e ∙ sym (lt-ltb c d (f (ltb-true a b e)))
    go false e = e ∙ sym (le-ltb c d (g (ltb-false a b e)))

module _ (a b : ℕ) (f : a < 2 ^ 64) (g : b < 2 ^ 64) where
  less_is : less a b ≡ ltb (place a) (place b)
  less_is = go (ltb a (2 ^ 63)) refl (ltb b (2 ^ 63)) refl
    where
      go : (s : Bool) → ltb a (2 ^ 63) ≡ s → (t : Bool) → ltb b (2 ^ 63) ≡ t
          → lt_z (sel s (pos a) (negsuc (2 ^ 64 - suc a))) (sel t (pos b) (negsuc (2 ^ 64 - suc b))) ≡ ltb (place a) (place b)
      go true d true e =
          let l = ltb-true a (2 ^ 63) d in
          let m = ltb-true b (2 ^ 63) e in
          same_test a b (place a) (place b) (λ h. omega arith) (λ h. omega arith)
      go true d false e =
          let l = ltb-true a (2 ^ 63) d in
          let m = ltb-false b (2 ^ 63) e in
          sym (le-ltb (place a) (place b) (omega arith))
      go false d true e =
          let l = ltb-false a (2 ^ 63) d in
          let m = ltb-true b (2 ^ 63) e in
          sym (lt-ltb (place a) (place b) (omega arith))
      go false d false e =
          let l = ltb-false a (2 ^ 63) d in
          let m = ltb-false b (2 ^ 63) e in
          same_test (2 ^ 64 - suc b) (2 ^ 64 - suc a) (place a) (place b) (λ h. omega arith) (λ h. omega arith)

  pub less_true : less a b ≡ true → place a < place b
  less_true e = ltb-true (place a) (place b) (sym less_is ∙ e)

  pub less_false : less a b ≡ false → place b ≤ place a
  less_false e = ltb-false (place a) (place b) (sym less_is ∙ e)

  pub not_less : place b ≤ place a → less a b ≡ false
  not_less h = less_is ∙ le-ltb (place a) (place b) h
