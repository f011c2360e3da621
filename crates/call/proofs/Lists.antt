-- Tests and the deepest of a list of handles. Assumes nothing.
use mathlib.Core.Path.{◌≡◌, refl, sym, ◌∙◌}
use mathlib.Core.Bool.{Bool, true, false, ◌&&◌}
use mathlib.Core.List.{List, [], ◌∷◌}
use Prim.Native.Nat.{ℕ, suc, ◌+◌, ◌≤◌, ◌<◌, max}
use native.Mathlib.Omega.{arith}
use native.Mathlib.Numerals.{add-one}
use lib.ListN.{length, drop, get_or, drop_of_length-le}
use lib.Seq.{drop-cons}
use Rattle.std.specs.List.{list_all}
use Rattle.words.specs.Words.{depth_of}
use Rattle.wellformed.specs.Entry.{all, deepest}

-- the library's word for a test of each
pub all_is : (p : ℕ → Bool) (hs : List ℕ) → list_all p hs ≡ all p hs
unfolding all
all_is p [] = refl
all_is p (h ∷ hs) = rw (all_is p hs)

-- a loop that looks for the deepest
module _ (heads : ℕ → ℕ) (hs : List ℕ) (d i : ℕ) (left : deepest heads hs ≡ max d (deepest heads (drop i hs))) where
  pub deep_end : length hs ≤ i → d ≡ deepest heads hs
  unfolding deepest
  deep_end h = let m : max d 0 ≡ d = omega arith in sym (left ∙ rw (drop_of_length-le hs h, m))

  pub deep_on : i < length hs → (x y : ℕ) → x ≡ depth_of (heads (get_or hs i 0)) → y ≡ max d x → deepest heads hs ≡ max y (deepest heads (drop (i + 1) hs))
  unfolding deepest
  deep_on more x y is e =
      let D = deepest heads (drop (suc i) hs) in
      let m : max d (max (depth_of (heads (get_or hs i 0))) D) ≡ max y D = omega arith in
      left ∙ rw (drop-cons hs i 0 more, m, add-one)
