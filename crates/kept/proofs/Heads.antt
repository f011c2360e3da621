-- The parts of a head that was put together, and the heads of parts that start entries. Assumes nothing.
use mathlib.Core.Path.{◌≡◌, refl, ap, ◌∙◌}
use mathlib.Core.Bool.{Bool, true}
use mathlib.Core.List.{List, [], ◌∷◌}
use Prim.Native.Nat.{ℕ, ◌+◌, ◌*◌, ◌/◌, ◌%◌, ◌<◌}
use native.Mathlib.Omega.{arith}
use Rattle.words.specs.Words.{head_of, kind_of, depth_of, count_of}
use Rattle.words.specs.Table.{starts}
use Rattle.wellformed.specs.Entry.{kind_at, all, deepest}
use Rattle.wellformed.specs.Form.{heads_at}
use Rattle.wellformed.proofs.Bools.{and_left, and_right}
use Rattle.words.specs.Columns.{word}

module _ (k d n : ℕ) (small : k < 256) where
  pub head_kind : kind_of (head_of k d n) ≡ k
  head_kind = omega arith

  pub head_count : d < 256 → count_of (head_of k d n) ≡ n
  head_count h = omega arith

  pub head_depth_is : d < 256 → depth_of (head_of k d n) ≡ d
  head_depth_is h =
      let q : head_of k d n / 256 ≡ d + 256 * n = omega arith in
      ap (λ (x : ℕ). x % 256) q ∙ (omega arith)

-- two tables of heads that agree on handles
module _ (heads heads' : ℕ → ℕ) where
  abbrev pub Agree : List ℕ → Type 0
  Agree hs = (p : ℕ → Bool) → (all (kind_at heads p) hs ≡ all (kind_at heads' p) hs) × (deepest heads hs ≡ deepest heads' hs)

  -- if they agree where a test holds, and it holds of all the handles
  pub agree : (t : ℕ → Bool) → ((h : ℕ) → t h ≡ true → heads h ≡ heads' h) → (hs : List ℕ) → all t hs ≡ true → Agree hs
  unfolding all deepest
  agree t same [] a p = (refl, refl)
  agree t same (h ∷ hs) a p =
      let here : heads h ≡ heads' h = same h (and_left (t h) (all t hs) a) in
      let ih = agree t same hs (and_right (t h) (all t hs) a) p in
      (rw (here, ih.0), rw (here, ih.1))

-- row 1 reads the heads where entries start; there they are the words
pub start_heads : (u hs : List ℕ) → all (starts u) hs ≡ true → Agree (heads_at (starts u) u) (word u) hs
unfolding heads_at
start_heads u = agree (heads_at (starts u) u) (word u) (starts u) (λ h e. rw e)
