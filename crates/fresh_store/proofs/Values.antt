-- The rows and answers of the makers of values. Assumes nothing.
use mathlib.Core.Path.{◌≡◌, sym, ap, ◌∙◌}
use mathlib.Core.List.{List, ◌∷◌, ◌++◌}
use Prim.Native.Nat.{ℕ, ◌+◌, ◌-◌, ◌≤◌, ◌<◌}
use native.Mathlib.Omega.{arith}
use borrow.Author.Tests.{le-leb, lt-leb}
use lib.ListN.{length, drop, replicate, length-replicate, replicate-append-replicate}
use lib.Seq.{drop_at}
use Rattle.wellformed.specs.Fresh.{fresh_words}
use Rattle.call.specs.Call.{left, done}
use Rattle.std.proofs.Common.{Ok, Err}
use Rattle.call.specs.declared.Refusal.TheVariants.{NoStore}
use Rattle.makers.specs.Makers.{fresh_call}

-- ---- fresh

abbrev zeros : ℕ → List ℕ
zeros n = replicate n 0

zeros_after : (k n : ℕ) → k ≤ n → drop k (zeros n) ≡ zeros (n - k)
zeros_after k n h = ap (λ (m : ℕ). drop k (zeros m)) (sym q) ∙ go
  where
    q : k + (n - k) ≡ n
    q = omega arith

    go : drop k (zeros (k + (n - k))) ≡ zeros (n - k)
    go = ap (drop k) (sym (replicate-append-replicate k (n - k) 0)) ∙ drop_at (zeros k) (zeros (n - k)) k (length-replicate k 0)

module _ (ws : List ℕ) where
  pub fresh_short : length ws < 94 → left (done (Err NoStore)) ws ≡ fresh_call ws
  unfolding fresh_call
  fresh_short h = rw (lt-leb 94 _ h)

  module _ (long : 94 ≤ length ws) where
    pub fresh_long : 1048576 < length ws → left (done (Err NoStore)) ws ≡ fresh_call ws
    unfolding fresh_call
    fresh_long h = rw (le-leb 94 _ long, lt-leb _ 1048576 h)

    pub fresh_filled : length ws ≤ 1048576 → (z d : List ℕ) → z ≡ replicate (length ws) 0 → d ≡ (94 ∷ fresh_words) ++ drop (1 + length fresh_words) z → left (done (Ok tt)) d ≡ fresh_call ws
    unfolding fresh_call fresh_words
    fresh_filled short z d iz is = rw (le-leb 94 _ long, le-leb _ 1048576 short, is, iz, zeros_after 94 (length ws) long)
