-- Row 1 reads an entry's parts where they start: words that agree there give the same answer. And rows behind rows. Assumes nothing.
use mathlib.Core.Path.{◌≡◌, refl, sym, fun_ext}
use mathlib.Core.Bool.{Bool, true, false, cond, ◌&&◌, ◌||◌}
use mathlib.Core.List.Memᴰ
use mathlib.Core.List.{List, [], ◌∷◌, ◌++◌}
use Prim.Native.Nat.{ℕ}
use borrow.Author.Tests.{eqb-true}
use lib.ListN.{get_or}
use lib.Dec.{eqb}
use Rattle.words.specs.Table.{Row, is_at, RowIn}
use Rattle.bitset.specs.Bitset.{nowhere, also}
use Rattle.wellformed.specs.Entry.{no_head, ok_entry}
use Rattle.wellformed.specs.Form.{heads_at, ok_rows}
use Rattle.std.proofs.Math.Bool.{or-false, and_assoc}
use Rattle.wellformed.proofs.Bools.{or_turn}

module _ (ws vs : List ℕ) where
  -- the two agree at h
  abbrev Same : ℕ → Type 0
  Same h = get_or ws h 0 ≡ get_or vs h 0

  module _ (start : ℕ → Bool) (same : (h : ℕ) → start h ≡ true → Same h) where
    pub heads_same : heads_at start ws ≡ heads_at start vs
    unfolding heads_at
    heads_same = fun_ext (λ h. go h (start h) refl)
      where
        go : (h : ℕ) (t : Bool) → start h ≡ t → cond t (get_or ws h 0) no_head ≡ cond t (get_or vs h 0) no_head
        go h true e = same h e
        go h false e = refl

  also_same : (at : ℕ) (start : ℕ → Bool) → Same at → ((h : ℕ) → start h ≡ true → Same h) → (h : ℕ) → also at start h ≡ true → Same h
  unfolding also
  also_same at start here same h is = go (eqb at h) refl is
    where
      go : (t : Bool) → eqb at h ≡ t → (t || start h) ≡ true → Same h
      go true e q = rw (← eqb-true at h e) here
      go false e q = same h q

  pub rows_same : (rs : List Row) (start : ℕ → Bool) → ((h : ℕ) → start h ≡ true → Same h) → ((r : Row) → RowIn r rs → Same r.at) → ok_rows ws start rs ≡ ok_rows vs start rs
  unfolding ok_rows
  rows_same [] start same all = refl
  rows_same (r ∷ rs) start same all =
      rw (heads_same start same, rows_same rs (also r.at start) (also_same r.at start (all r (Memᴰ.head refl)) same) (λ q m. all q (Memᴰ.tail m)))

-- rows behind rows: their starts are there
abbrev pub and_starts : List Row → (ℕ → Bool) → ℕ → Bool
and_starts rs start h = is_at rs h || start h

pub rows_behind : (ws : List ℕ) (rs ss : List Row) (start : ℕ → Bool) → ok_rows ws start (rs ++ ss) ≡ (ok_rows ws start rs && ok_rows ws (and_starts rs start) ss)
unfolding ok_rows is_at also
rows_behind ws [] ss start = refl
rows_behind ws (r ∷ rs) ss start =
    let q : and_starts rs (also r.at start) ≡ and_starts (r ∷ rs) start = fun_ext (λ h. turn h) in
    rw (rows_behind ws rs ss (also r.at start), q) (sym (and_assoc (ok_entry (heads_at start ws) r.words) (ok_rows ws (also r.at start) rs) (ok_rows ws (and_starts (r ∷ rs) start) ss)))
  where
    turn : (h : ℕ) → (is_at rs h || also r.at start h) ≡ ((eqb r.at h || is_at rs h) || start h)
    turn h = or_turn (eqb r.at h) (is_at rs h) (start h)

pub starts_only : (rs : List Row) → and_starts rs nowhere ≡ is_at rs
unfolding nowhere
starts_only rs = fun_ext (λ h. or-false (is_at rs h))
