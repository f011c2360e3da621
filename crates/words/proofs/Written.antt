-- A loop that fills the front of a list. Its invariant: the first k elements of d and what is left to write are the whole, and behind them is what was there. Assumes nothing.
use mathlib.Core.Path.{◌≡◌, sym, ap, ◌∙◌}
use mathlib.Core.List.{List, [], ◌++◌, append_assoc, append-nil}
use Prim.Native.Nat.{ℕ, ◌+◌, ◌≤◌}
use native.Mathlib.Omega.{arith}
use lib.ListN.{length, take, drop, length-append, take-append-drop}
use lib.Seq.{take_at, drop_at, drop-drop, length-take-le}

module _ (d₀ d left whole : List ℕ) (k : ℕ) (sum : take k d ++ left ≡ whole) (rest : drop k d ≡ drop k d₀) where
  -- e is written behind them, and then left' is left
  pub written_on : (e d' left' : List ℕ) (m : ℕ) → k ≤ length d → m ≡ k + length e → d' ≡ take k d ++ (e ++ drop (length e) (drop k d)) → left ≡ e ++ left'
      → (take m d' ++ left' ≡ whole) × (drop m d' ≡ drop m d₀)
  written_on e d' left' m room size is next =
      let W = take k d in
      let B = drop (length e) (drop k d) in
      let long : length (W ++ e) ≡ m = omega (arith, length-append W e, length-take-le k d room) in
      let parts : d' ≡ (W ++ e) ++ B = is ∙ sym (append_assoc W e B) in
      let front : take m ((W ++ e) ++ B) ≡ W ++ e = take_at (W ++ e) B m long in
      let back : drop m ((W ++ e) ++ B) ≡ drop m d₀ = drop_at (W ++ e) B m long ∙ ap (drop (length e)) rest ∙ drop-drop (length e) k d₀ ∙ ap (λ (n : ℕ). drop n d₀) (sym size) in
      (rw (parts, front) (append_assoc W e left' ∙ ap (λ (l : List ℕ). W ++ l) (sym next) ∙ sum), rw parts back)

  pub written_all : left ≡ [] → (m : ℕ) → m ≡ k → d ≡ whole ++ drop m d₀
  written_all none m end =
      let all_there : take k d ≡ whole = sym (append-nil (take k d)) ∙ rw none at sum in
      sym (take-append-drop k d) ∙ rw (all_there, rest, end)
