-- Each way through `load` gives what `load_call` says. Assumes nothing.
use mathlib.Core.Path.{◌≡◌, sym, ◌∙◌}
use mathlib.Core.Bool.{Bool, true, false, not}
use mathlib.Core.List.{List, [], ◌∷◌, ◌++◌, append-nil}
use Prim.Native.Nat.{ℕ, suc, ◌+◌, ◌-◌, ◌*◌, ◌/◌, ◌≤◌, ◌<◌}
use native.Mathlib.Omega.{arith}
use native.Mathlib.Decide.{ℕ_discrete}
use borrow.Author.Tests.{le-leb, lt-leb, eq-eqb, ne_eqb, lt-ltb, le-ltb, eqb-true, not-true, not-false}
use borrow.Rule.Slice.PartMut.{put_mid}
use lib.Dec.{eqb}
use lib.ListN.{length, take, drop, replicate, length-take, length-drop, drop_of_length-le}
use lib.Seq.{take_at, take_all}
use Rattle.source.specs.Source.{unpacked, stored}
use Rattle.source.proofs.Packing.{packed_first}
use Rattle.wellformed.specs.Fresh.{fresh_words}
use Rattle.wellformed.specs.Form.{behind_fresh}
use Rattle.wellformed.proofs.Tail.{tail_length, first_stored}
use Rattle.call.specs.Call.{left, told}
use Rattle.call.specs.declared.Answer.{Answer}
use Rattle.call.specs.declared.Answer.TheVariants.{Number}
use Rattle.call.specs.declared.Refusal.{Refusal}
use Rattle.call.specs.declared.Refusal.TheVariants.{NoStore, NoTrailer, WrongWords, TooMany, NoRoom}
use Rattle.call.specs.Refusals.{number_of}
use Rattle.call.proofs.Refusals.{numbered}
use Rattle.std.proofs.Common.{Result, Ok, Err}
use Rattle.catalogue_file.specs.File.{start_in, count_in, trailed, words_in}
use Rattle.catalogue.specs.Catalogue.{forms_store, load_rows, loaded_store, load_call}

-- ---- trailer_fits

pub too_many : (s k b : ℕ) → b / 8 < k → false ≡ eqb (s + 8 * k) b
too_many s k b h = sym (ne_eqb (s + 8 * k) b (λ e. omega arith))

pub the_rest : (s k b : ℕ) → k ≤ b / 8 → eqb s (b - 8 * k) ≡ eqb (s + 8 * k) b
the_rest s k b few = go (ℕ_discrete s (b - 8 * k))
  where
    go : Dec (s ≡ b - 8 * k) → eqb s (b - 8 * k) ≡ eqb (s + 8 * k) b
    go (yes e) = let g : s + 8 * k ≡ b = omega arith in rw (eq-eqb s (b - 8 * k) e, eq-eqb (s + 8 * k) b g)
    go (no ne) = let g : s + 8 * k ≡ b → ⊥ = λ q. ne (omega arith) in rw (ne_eqb s (b - 8 * k) ne, ne_eqb (s + 8 * k) b g)

-- ---- fill

module _ (bs f x : List ℕ) (few : length bs / 8 ≤ 1048482) (is : f ≡ ((94 + length bs / 8) ∷ fresh_words) ++ x) (none : length x ≡ 0) where
  pub enough : 0 + (94 + length bs / 8) ≤ length (stored f bs)
  enough = rw (first_stored bs few f x is none) (omega (arith, tail_length bs))

  pub filled : (w₀ w z : List ℕ) → w ≡ take (94 + length bs / 8) (drop 0 (stored f bs)) ++ drop (94 + length bs / 8) w₀ → length w ≡ length w₀ → 94 + length bs / 8 ≤ length w₀
      → z ≡ replicate (length (take (length w - (94 + length bs / 8)) (drop (94 + length bs / 8) w))) 0
      → put_mid (94 + length bs / 8) (length w - (94 + length bs / 8)) w z ≡ loaded_store (unpacked bs) (length w₀)
  filled w₀ w z copied same room zeroed =
      let n = 94 + length bs / 8 in
      let g : length (behind_fresh (unpacked bs)) ≤ n = omega (arith, tail_length bs) in
      let c : w ≡ behind_fresh (unpacked bs) ++ drop n w₀ = copied ∙ rw (first_stored bs few f x is none, take_all n (behind_fresh (unpacked bs)) g) in
      let t : take n w ≡ behind_fresh (unpacked bs) = rw c (take_at (behind_fresh (unpacked bs)) (drop n w₀) n (tail_length bs)) in
      let k : length (take (length w - n) (drop n w)) ≡ length w₀ - length (behind_fresh (unpacked bs)) = omega (arith, length-take (length w - n) (drop n w), length-drop n w, tail_length bs) in
      let o : length (drop n w) ≤ length w - n = omega (arith, length-drop n w) in
      let d : drop (length w - n) (drop n w) ≡ [] = drop_of_length-le (drop n w) o in
      rw (t, d, append-nil z, zeroed, k)

-- ---- load

-- what `load` gives: its answer, and the words that it leaves
abbrev pub Loads : List ℕ → List ℕ → Result Answer Refusal → List ℕ → Type 0
Loads f ws r ws' = left (told r) ws' ≡ load_call f ws

module _ (f ws : List ℕ) where
  refuses : (e : Refusal) → load_rows f ws ≡ number_of e → Loads f ws (Err e) ws
  unfolding load_call
  refuses e q = rw (q, numbered e)

  pub list_short : length ws < 94 → Loads f ws (Err NoStore) ws
  unfolding load_rows
  list_short h = refuses NoStore (rw (lt-leb 94 _ h))

  module _ (long : 94 ≤ length ws) where
    pub list_long : 1048576 < length ws → Loads f ws (Err NoStore) ws
    unfolding load_rows
    list_long h = refuses NoStore (rw (le-leb 94 _ long, lt-leb _ 1048576 h))

    module _ (short : length ws ≤ 1048576) where
      no_trail : trailed f ≡ false → Loads f ws (Err NoTrailer) ws
      unfolding load_rows
      no_trail e = refuses NoTrailer (rw (le-leb 94 _ long, le-leb _ 1048576 short, e))

      pub no_trailer : length f < 16 → Loads f ws (Err NoTrailer) ws
      unfolding trailed
      no_trailer h = no_trail (rw (lt-leb 16 _ h))

-- what `load` has read before it looks at the words: the list's length is allowed, the file has a trailer, and these are its words; t tells whether they fit the file's length
pub record Read (f ws : List ℕ) (s k : ℕ) (t : Bool) : Type 0 where
  pub long : 94 ≤ length ws
  pub short : length ws ≤ 1048576
  pub some : 16 ≤ length f
  pub start : s ≡ start_in f
  pub count : k ≡ count_in f
  pub fits : t ≡ eqb (s + 8 * k) (length f - 16)

module _ (f ws : List ℕ) (s k : ℕ) (t : Bool) (r : Read f ws s k t) where
  pub wrong_trailer : not t ≡ true → Loads f ws (Err NoTrailer) ws
  unfolding trailed
  wrong_trailer n =
      let ne : start_in f + 8 * count_in f + 16 ≡ length f → ⊥ = λ e.
      let q : s + 8 * k ≡ length f - 16 = omega arith in
      let z : false ≡ true = sym (sym r.fits ∙ not-true t n) ∙ eq-eqb _ _ q in
      absurd (contra z)
      in
      no_trail f ws r.long r.short (rw (le-leb 16 _ r.some, ne_eqb _ _ ne))
    where
      contra : false ≡ true → ⊥
      contra z = let y : ◌≡◌ {A = ℕ} 0 1 = cc in omega arith

  module _ (y : not t ≡ false) where
    sums : s + 8 * k ≡ length f - 16
    sums = eqb-true (s + 8 * k) (length f - 16) (sym r.fits ∙ not-false t y)

    trail : trailed f ≡ true
    unfolding trailed
    trail = let e : start_in f + 8 * count_in f + 16 ≡ length f = omega (arith, sums) in rw (le-leb 16 _ r.some, eq-eqb _ _ e)

    pub inside : s ≤ length f - 16
    inside = omega (arith, sums)

    pub shorter : 8 * k ≤ length f
    shorter = omega (arith, sums)

    pub tail_bytes : length (take ((length f - 16) - s) (drop s f)) ≡ 8 * k
    tail_bytes = omega (arith, sums, length-take ((length f - 16) - s) (drop s f), length-drop s f)

    lent_words : unpacked (take ((length f - 16) - s) (drop s f)) ≡ words_in f
    lent_words =
        let n : length (take ((length f - 16) - s) (drop s f)) / 8 ≡ k = omega (arith, tail_bytes) in
        let m : (length f - 16) - s ≡ 8 * k = omega (arith, sums) in
        rw (n, m, packed_first k (drop s f), r.count, r.start)

    pub words_size : length (behind_fresh (unpacked (take ((length f - 16) - s) (drop s f)))) ≡ 94 + k
    words_size = omega (arith, tail_length (take ((length f - 16) - s) (drop s f)), tail_bytes)

    module _ (g : Bool) (ig : g ≡ forms_store (unpacked (take ((length f - 16) - s) (drop s f)))) where
      pub no_store : not g ≡ true → Loads f ws (Err WrongWords) ws
      unfolding load_rows
      no_store n = refuses f ws WrongWords (rw (le-leb 94 _ r.long, le-leb _ 1048576 r.short, trail, ← lent_words, sym ig ∙ not-true g n))

      module _ (w : not g ≡ false) where
        pub long_label : 255 < s → Loads f ws (Err TooMany) ws
        unfolding load_rows
        long_label h = refuses f ws TooMany (rw (le-leb 94 _ r.long, le-leb _ 1048576 r.short, trail, ← lent_words, sym ig ∙ not-false g w, ← r.start, lt-ltb 255 s h))

        module _ (brief : s ≤ 255) where
          pub no_room : length ws < 94 + k → Loads f ws (Err NoRoom) ws
          unfolding load_rows
          no_room h = refuses f ws NoRoom (rw (le-leb 94 _ r.long, le-leb _ 1048576 r.short, trail, ← lent_words, sym ig ∙ not-false g w, ← r.start, le-ltb 255 s brief, words_size, lt-ltb _ _ h))

          pub loaded : 94 + k ≤ length ws → (ws' : List ℕ) → ws' ≡ loaded_store (unpacked (take ((length f - 16) - s) (drop s f))) (length ws) → Loads f ws (Ok (Number s)) ws'
          unfolding load_rows load_call
          loaded h ws' e =
              let z : load_rows f ws ≡ 0 = rw (le-leb 94 _ r.long, le-leb _ 1048576 r.short, trail, ← lent_words, sym ig ∙ not-false g w, ← r.start, le-ltb 255 s brief, words_size, le-ltb _ _ h) in
              rw (z, e, lent_words, r.start)

pub read : (f ws : List ℕ) (s k : ℕ) (t : Bool) → 94 ≤ length ws → length ws ≤ 1048576 → 16 ≤ length f → s ≡ start_in f → k ≡ count_in f → t ≡ eqb (s + 8 * k) (length f - 16) → Read f ws s k t
read f ws s k t a b c d e g = record { long = a; short = b; some = c; start = d; count = e; fits = g }

-- what `load` uses
pub ruleset loading = (list_short, list_long, no_trailer, read, wrong_trailer, inside, shorter, tail_bytes, words_size, no_store, long_label, no_room)
