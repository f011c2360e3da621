-- A store `vs` that has grown so far as to the first entries of the store `ws`: the entries of ws behind them, the next of these, and what appending it leaves. Assumes nothing.
use mathlib.Core.Path.{◌≡◌, refl, sym, ap, ◌∙◌}
use mathlib.Core.Bool.{true, ◌&&◌}
use mathlib.Core.List.Memᴰ
use mathlib.Core.List.{List, [], ◌∷◌, ◌++◌}
use Prim.Native.Nat.{ℕ, zero, suc, ◌+◌, ◌-◌, ◌^◌, ◌≤◌, ◌<◌}
use native.Mathlib.Omega.{arith}
use native.Mathlib.Nat.{add-zero}
use borrow.Author.Tests.{le-ltb, ltb-true}
use lib.ListN.{length, take, drop, get_or, length-append, length-drop, length-set, take-append-drop}
use lib.Seq.{slice, length-take-le, take-take, take-add, drop-append-le, drop-set-lt, get_or-take, get_or-drop, get_or-set_same}
use Rattle.words.specs.Words.{size_of, fills}
use Rattle.words.specs.Columns.{word}
use Rattle.words.specs.Table.{Row, rows, entries, starts, first_of, find_in, RowIn, Own}
use Rattle.words.specs.Made.{Grown, make}
use Rattle.words.specs.Ran.{HasSize}
use Rattle.std.specs.Prelude.{Option, Some, None}
use Rattle.words.proofs.Walk.{size_pos, next, inside}
use Rattle.words.proofs.Grow.{or_else, fills_append, rows_append, first_append, found_in}
use Rattle.words.proofs.Placed.{make_new}
use Rattle.bitset.specs.Bitset.{nowhere, also}
use Rattle.wellformed.specs.Entry.{all, ok_entry}
use Rattle.wellformed.specs.Form.{heads_at, ok_rows, well_formed, used_count, used_words}
use Rattle.wellformed.proofs.Before.{Tests, tests}
use Rattle.wellformed.proofs.Bools.{and_left, and_right}
use Rattle.call.specs.Call.{Outcome, stored, call}
use Rattle.call.specs.Adds.{Sound, Fitting, Adds}
use Rattle.call.proofs.Agree.{heads_same, rows_behind, starts_only, and_starts}
use Rattle.call.proofs.Sound.{in_used, start_used, make_adds}
use Rattle.call.proofs.Keep.{well_sound, well_again, used_grown}
use Rattle.parts.proofs.Good.{well_good}
use Rattle.every_call.specs.Run.{Call, run, typed}
use Rattle.loaded.proofs.Small.{below_take, below_drop}
use Rattle.regrown.specs.Regrown.{is_maker}
use Rattle.regrown.proofs.Apart.{heads_of}
use Rattle.regrown.proofs.Steps.{Maker, step}

-- ---- the store so far: well formed, as long as ws, and its used words are the first of ws, but for word 0

pub record Reached (ws vs : List ℕ) : Type 0 where
  pub well : well_formed vs ≡ true
  pub long : length vs ≡ length ws
  pub within : used_count vs ≤ used_count ws
  pub same : drop 1 (used_words vs) ≡ slice 1 (used_count vs) ws

module _ (ws vs : List ℕ) (ok : well_formed ws ≡ true) (r : Reached ws vs) where
  abbrev at : ℕ
  at = used_count vs

  abbrev used : ℕ
  used = used_count ws

  abbrev u : List ℕ
  u = used_words vs

  -- the words behind
  abbrev rest : List ℕ
  rest = slice at used ws

  t : Tests ws
  t = tests ws ok

  s : Tests vs
  s = tests vs r.well

  sound : Sound u
  sound = well_sound vs r.well

  u_long : length u ≡ at
  u_long = length-take-le at vs s.within

  front_long : length (take at ws) ≡ at
  front_long = length-take-le at ws (omega (arith, r.within, t.within))

  split : slice 1 used ws ≡ drop 1 u ++ rest
  split =
      let w : take used ws ≡ take at ws ++ rest = sym (take-append-drop at (take used ws)) ∙ ap (λ (l : List ℕ). l ++ rest) (take-take at used ws r.within) in
      let n : 1 ≤ length (take at ws) = omega (arith, front_long, s.enough) in
      ap (drop 1) w ∙ drop-append-le 1 (take at ws) rest n ∙ ap (λ (l : List ℕ). l ++ rest) (sym r.same)

  rest_filled : fills 0 rest ≡ true
  rest_filled = sym (fills_append 0 (drop 1 u) rest s.filled) ∙ ap (fills 0) (sym split) ∙ t.filled

  entries_split : entries (used_words ws) ≡ entries u ++ rows at 0 rest
  unfolding entries
  entries_split =
      let n : 1 + length (drop 1 u) ≡ at = omega (arith, length-drop 1 u, u_long, s.enough) in
      ap (rows 1 0) split ∙ rows_append 1 0 (drop 1 u) rest s.filled ∙ ap (λ (k : ℕ). rows 1 0 (drop 1 u) ++ rows k 0 rest) n

  -- a word of the first entries
  same_word : (h : ℕ) → 1 ≤ h → h < at → get_or ws h 0 ≡ get_or u h 0
  same_word h low high =
      let q : 1 + (h - 1) ≡ h = omega arith in
      sym (get_or-take at ws h 0 high)
      ∙ ap (λ (i : ℕ). get_or (take at ws) i 0) (sym q) ∙ sym (get_or-drop 1 (take at ws) (h - 1) 0)
      ∙ ap (λ (l : List ℕ). get_or l (h - 1) 0) (sym r.same)
      ∙ get_or-drop 1 u (h - 1) 0 ∙ ap (λ (i : ℕ). get_or u i 0) q

  -- ---- the next entry

  module _ (more : at < used) where
    abbrev n : ℕ
    n = size_of (get_or ws at 0)

    abbrev e : List ℕ
    e = take n (drop at ws)

    abbrev behind : List Row
    behind = rows (at + n) 0 (slice (at + n) used ws)

    e_inside : at + n ≤ used
    e_inside = inside ws used at t.within more rest_filled

    next_row : rows at 0 rest ≡ record { at = at; words = e } ∷ behind
    next_row = (next ws used at t.within more at e_inside).row

    e_long : length e ≡ n
    e_long = length-take-le n (drop at ws) (omega (arith, length-drop at ws, e_inside, t.within))

    e_sized : HasSize e
    e_sized =
        let h : get_or e 0 0 ≡ get_or ws at 0 = get_or-take n (drop at ws) 0 0 (size_pos (get_or ws at 0)) ∙ get_or-drop at ws 0 0 ∙ ap (λ (i : ℕ). get_or ws i 0) (add-zero at) in
        e_long ∙ ap size_of (sym h)

    -- row 1 has passed it, with its parts among the first entries
    e_ok : ok_entry (heads_of u) e ≡ true
    unfolding ok_rows
    e_ok =
        let row : Row = record { at = at; words = e } in
        let all-ok : ok_rows ws nowhere (entries u ++ (row ∷ behind)) ≡ true = rw (← next_row, ← entries_split) t.right in
        let parts = rows_behind ws (entries u) (row ∷ behind) nowhere in
        let last : ok_rows ws (and_starts (entries u) nowhere) (row ∷ behind) ≡ true = and_right (ok_rows ws nowhere (entries u)) (ok_rows ws (and_starts (entries u) nowhere) (row ∷ behind)) (sym parts ∙ all-ok) in
        let here : (ok_entry (heads_at (starts u) ws) e && ok_rows ws (also at (starts u)) behind) ≡ true = rw (starts_only (entries u)) at last in
        let heads = heads_same ws u (starts u) (λ h z. let b = start_used u sound.low h z in same_word h b.0 (omega (arith, b.1, u_long))) in
        rw heads at (and_left (ok_entry (heads_at (starts u) ws) e) (ok_rows ws (also at (starts u)) behind) here)

    -- it is not among the first entries, where no two of ws are equal
    e_new : Own (entries (used_words ws)) → find_in u e ≡ None
    unfolding find_in or_else
    e_new own =
        let row : Row = record { at = at; words = e } in
        let table : entries (used_words ws) ≡ entries u ++ (row ∷ behind) = entries_split ∙ ap (λ (l : List Row). entries u ++ l) next_row in
        let m : RowIn row (entries (used_words ws)) = rw table (Memᴰ.append_right (entries u) (Memᴰ.head refl)) in
        let found : or_else (first_of (entries u) e) (first_of (row ∷ behind) e) ≡ Some at = sym (first_append (entries u) (row ∷ behind) e) ∙ ap (λ (l : List Row). first_of l e) (sym table) ∙ own row m in
        go (first_of (entries u) e) refl found
      where
        go : (f : Option ℕ) → first_of (entries u) e ≡ f → or_else f (first_of (record { at = at; words = e } ∷ behind) e) ≡ Some at → f ≡ None
        go (Some h) q found =
            let same : h ≡ at = cc in
            let b = in_used u sound.low (record { at = h; words = e }) (found_in (entries u) e h q) in
            absurd (omega (arith, b.1, u_long))
        go None q found = refl

-- ---- a maker's call appends its entry

called : (turned : List ℕ → ℕ) (entry : List ℕ → List ℕ) (vs e : List ℕ) → well_formed vs ≡ true → turned (used_words vs) ≡ 0 → entry (used_words vs) ≡ e → length (make (used_words vs) e).words ≤ length vs
    → (call turned (λ v. make v (entry v)) vs).words ≡ stored (make (used_words vs) e) vs
unfolding call
called turned entry vs e ok off made room = rw (ok, off, made, le-ltb (length vs) (length (make (used_words vs) e).words) room)

-- one entry more
pub record Onward (ws vs : List ℕ) : Type 0 where
  pub does : Call
  pub fits : typed does ≡ true
  pub maker : is_maker does ≡ true
  pub more : used_count vs < used_count (run does vs).words
  pub reached : Reached ws (run does vs).words

module _ (ws vs : List ℕ) (ok : well_formed ws ≡ true) (r : Reached ws vs) (more : used_count vs < used_count ws) (small : (i : ℕ) → word ws i < 2 ^ 64) (own : Own (entries (used_words ws))) where
  abbrev e₁ : List ℕ
  e₁ = e ws vs ok r more

  abbrev u₁ : List ℕ
  u₁ = used_words vs

  abbrev g : Grown
  g = make u₁ e₁

  e_small : (i : ℕ) → word e₁ i < 2 ^ 64
  e_small = below_take (2 ^ 64) (omega arith) (n ws vs ok r more) (drop (used_count vs) ws) (below_drop (2 ^ 64) (omega arith) (used_count vs) ws small)

  fitting : Fitting u₁ e₁
  fitting = record { sized = e_sized ws vs ok r more; ok = e_ok ws vs ok r more; ends = λ _ _. (e_small 1, e_small 2) }

  new : find_in u₁ e₁ ≡ None
  new = e_new ws vs ok r more own

  maker : Maker u₁ e₁
  maker = step (well_good vs r.well) e₁ new (e_sized ws vs ok r more) (e_ok ws vs ok r more) e_small

  words_are : g.words ≡ u₁ ++ e₁
  words_are = ap (λ (x : Grown). x.words) (make_new u₁ e₁ new)

  g_long : length g.words ≡ used_count vs + n ws vs ok r more
  g_long = omega (arith, ap length words_are, length-append u₁ e₁, u_long ws vs ok r, e_long ws vs ok r more)

  room : length g.words ≤ length vs
  room = omega (arith, g_long, e_inside ws vs ok r more, (t ws vs ok r).within, r.long)

  adds : Adds u₁ g
  adds = make_adds u₁ e₁ (sound ws vs ok r) fitting

  list_long : length (g.words ++ drop (length g.words) vs) ≡ length vs
  list_long = omega (arith, length-append g.words (drop (length g.words) vs), length-drop (length g.words) vs, room)

  counted : used_count (stored g vs) ≡ used_count vs + n ws vs ok r more
  counted = get_or-set_same (g.words ++ drop (length g.words) vs) 0 (length g.words) 0 (omega (arith, list_long, (s ws vs ok r).least)) ∙ g_long

  grown_same : drop 1 (used_words (stored g vs)) ≡ slice 1 (used_count (stored g vs)) ws
  grown_same =
      let k = used_count vs in
      let m = n ws vs ok r more in
      let low : 1 ≤ length u₁ = (sound ws vs ok r).low in
      let front : 1 ≤ length (take k ws) = omega (arith, front_long ws vs ok r, (s ws vs ok r).enough) in
      ap (drop 1) (used_grown vs g r.well adds room) ∙ drop-set-lt 1 g.words 0 (length g.words) (omega arith)
      ∙ ap (drop 1) words_are ∙ drop-append-le 1 u₁ e₁ low ∙ ap (λ (l : List ℕ). l ++ e₁) r.same
      ∙ sym (drop-append-le 1 (take k ws) e₁ front) ∙ ap (drop 1) (sym (take-add k m ws)) ∙ ap (λ (i : ℕ). slice 1 i ws) (sym counted)

  grown : Reached ws (stored g vs)
  grown = record {
    well = well_again vs g r.well adds room;
    long = length-set (g.words ++ drop (length g.words) vs) 0 (length g.words) ∙ list_long ∙ r.long;
    within = omega (arith, counted, e_inside ws vs ok r more);
    same = grown_same;
  }

  pub onward : Onward ws vs
  onward =
      let m = maker in
      let left : (run m.does vs).words ≡ stored g vs = ap (λ (f : List ℕ → Outcome). (f vs).words) m.is ∙ called m.turned m.entry vs e₁ r.well m.off m.made room in
      let on : used_count vs < used_count (stored g vs) = omega (arith, counted, size_pos (get_or ws (used_count vs) 0)) in
      record {
        does = m.does;
        fits = m.fits;
        maker = m.maker;
        more = rw left on;
        reached = rw left grown;
      }
