-- The log sizes of a struct's fields, read one by one, written one by one, and laid out. `u` is the used words, s a struct. Assumes nothing.
use mathlib.Core.Path.{◌≡◌, refl, sym, ap, ◌∙◌}
use mathlib.Core.Bool.{true, false, ◌&&◌}
use lib.Dec.{ltb}
use mathlib.Core.List.{List, ◌++◌, map}
use Prim.Native.Nat.{ℕ, zero, suc, ◌+◌, ◌-◌, ◌*◌, ◌/◌, ◌≤◌, ◌<◌}
use native.Mathlib.Omega.{arith}
use borrow.Author.Tests.{lt-ltb, le-ltb, ltb-true, not-false}
use lib.ListN.{length, take, drop, get_or, set, length-map, length-append, length-drop, get_or-append}
use lib.Seq.{length-take-le, take-take, take_at, drop_at, drop-drop}
use Rattle.words.specs.Columns.{every, word, count_on, field_types_on}
use Rattle.words.proofs.Copy.{front, front_none, front_more, front_all}
use Rattle.wellformed.specs.Entry.{all}
use Rattle.makers.proofs.Fields.{all_at, every_first}
use Rattle.layout.specs.Layout.{EightAtMost, offsets}
use Rattle.layout.proofs.Meaning.{laid_out}
use Rattle.of_types.specs.OfTypes.{log_size, has_log_size}
use Rattle.of_offsets.specs.OfOffsets.{log_sizes_on, offsets_on, offset_on, ary_scale, unsized_field}

-- ---- whether each field has one: a loop over n fields that has come to the i-th

pub sized_begin : (u : List ℕ) (s w : ℕ) → w ≡ word u s → all (has_log_size u) (field_types_on u s) ≡ all (has_log_size u) (every 3 (w / 65536 - 0) (s + 3 + 3 * 0) u)
sized_begin u s w e =
    let z : w / 65536 - 0 ≡ w / 65536 = omega arith in
    let q : s + 3 + 3 * 0 ≡ s + 3 = omega arith in
    rw (z, q, e)

module _ (u : List ℕ) (s n i : ℕ) (left : all (has_log_size u) (field_types_on u s) ≡ all (has_log_size u) (every 3 (n - i) (s + 3 + 3 * i) u)) where
  pub all_sized : n ≤ i → false ≡ unsized_field u s
  unfolding all every
  all_sized h = let z : n - i ≡ 0 = omega arith in rw (left, z)

  module _ (more : i < n) (t : ℕ) (it : t ≡ word u (s + 3 + 3 * i)) (x : ℕ) (ix : x ≡ log_size u t) where
    first : all (has_log_size u) (field_types_on u s) ≡ (ltb x 4 && all (has_log_size u) (every 3 (n - (i + 1)) (s + 3 + 3 * (i + 1)) u))
    unfolding all
    first =
        let some : 0 < n - i = omega arith in
        let m : n - i - 1 ≡ n - (i + 1) = omega arith in
        let q : s + 3 + 3 * i + 3 ≡ s + 3 + 3 * (i + 1) = omega arith in
        left ∙ rw (every_first 3 (n - i) (s + 3 + 3 * i) u some, m, q, ix, it)

    pub one_unsized : 4 ≤ x → true ≡ unsized_field u s
    one_unsized h = rw (first, le-ltb x 4 h)

    pub one_sized : x < 4 → all (has_log_size u) (field_types_on u s) ≡ all (has_log_size u) (every 3 (n - (i + 1)) (s + 3 + 3 * (i + 1)) u)
    one_sized h = first ∙ rw (lt-ltb x 4 h)

-- ---- the list of them

every_length : (t n p : ℕ) (u : List ℕ) → length (every t n p u) ≡ n
unfolding every
every_length t zero p u = refl
every_length t (suc n) p u = ap suc (every_length t n (p + t) u)

log_at : (f : ℕ → ℕ) (t n p i : ℕ) (u : List ℕ) → i < n → get_or (map f (every t n p u)) i 0 ≡ f (word u (p + t * i))
unfolding every
log_at f t zero p i u h = absurd (omega arith)
log_at f t (suc n) p zero u h = let q : p + t * 0 ≡ p = omega arith in rw q
log_at f t (suc n) p (suc i) u h = let q : p + t * suc i ≡ p + t + t * i = omega arith in rw q (log_at f t n (p + t) i u (omega arith))

pub logs_length : (u : List ℕ) (s : ℕ) → length (log_sizes_on u s) ≡ count_on u s
logs_length u s = length-map (field_types_on u s) (log_size u) ∙ every_length 3 (count_on u s) (s + 3) u

pub logs_begin : (u : List ℕ) (s : ℕ) (d : List ℕ) → d ≡ front (log_sizes_on u s) 0 d
logs_begin u s d = front_none (log_sizes_on u s) d

-- a loop that writes them, with i written
module _ (u : List ℕ) (s n : ℕ) (is : n ≡ count_on u s) (d₀ d : List ℕ) (i : ℕ) (so : d ≡ front (log_sizes_on u s) i d₀) where
  pub logs_on : i < n → n ≤ length d₀ → (t : ℕ) → t ≡ word u (s + 3 + 3 * i) → (x : ℕ) → x ≡ log_size u t → set d i x ≡ front (log_sizes_on u s) (i + 1) d₀
  logs_on more room t it x ix =
      let e : get_or (log_sizes_on u s) i 0 ≡ x = log_at (log_size u) 3 (count_on u s) (s + 3) i u (omega arith) ∙ rw (ix, it) in
      rw e at (front_more (log_sizes_on u s) d₀ d i so (omega (arith, logs_length u s)) (omega (arith, logs_length u s)))

  pub logs_all : i ≤ n → n ≤ i → d ≡ log_sizes_on u s ++ drop n d₀
  logs_all low high =
      let q : length (log_sizes_on u s) ≡ n = logs_length u s ∙ sym is in
      rw q at (front_all (log_sizes_on u s) d₀ d i so (omega (arith, q)) (omega (arith, q)))

-- ---- laid out

-- every field has a log size: none is over 3
pub logs_small : (u : List ℕ) (s : ℕ) → unsized_field u s ≡ false → EightAtMost (log_sizes_on u s)
logs_small u s e i h =
    let k : i < count_on u s = omega (arith, logs_length u s) in
    let a : all (has_log_size u) (field_types_on u s) ≡ true = not-false _ e in
    let l = ltb-true (log_size u (word u (s + 3 + 3 * i))) 4 (all_at (has_log_size u) 3 (count_on u s) (s + 3) u a i k) in
    omega (arith, log_at (log_size u) 3 (count_on u s) (s + 3) i u k, l)

-- an offset a field, and the end
pub offsets_length : (u : List ℕ) (s : ℕ) → length (offsets_on u s) ≡ count_on u s + 1
offsets_length u s = omega (arith, (laid_out (log_sizes_on u s)).each, logs_length u s)

-- `o` has the log sizes at its front; the layout is of these and one word more
module _ (u : List ℕ) (s w : ℕ) (is : w ≡ word u s) (d o : List ℕ) (so : o ≡ log_sizes_on u s ++ drop (w / 65536) d) (room : count_on u s < length d) where
  abbrev n : ℕ
  n = w / 65536

  count : n ≡ count_on u s
  count = rw is

  long : length (log_sizes_on u s) ≡ n
  long = logs_length u s ∙ sym count

  o_length : length o ≡ length d
  o_length = omega (arith, ap length so, length-append (log_sizes_on u s) (drop n d), long, length-drop n d)

  part_length : length (take (n + 1) o) ≡ n + 1
  part_length = length-take-le (n + 1) o (omega (arith, o_length, count))

  pub part_size_is : n + 1 ≡ length (take (n + 1) o)
  part_size_is = sym part_length

  front_logs : take (length (take (n + 1) o) - 1) (take (n + 1) o) ≡ log_sizes_on u s
  front_logs =
      let q : (n + 1) - 1 ≡ n = omega arith in
      let m : n ≤ n + 1 = omega arith in
      rw (part_length, q, take-take n (n + 1) o m, so) (take_at (log_sizes_on u s) (drop n d) n long)

  pub part_fits : count_on u s ≤ 255 → unsized_field u s ≡ false
      → (0 < length (take (n + 1) o)) × (length (take (n + 1) o) ≤ 256) × EightAtMost (take (length (take (n + 1) o) - 1) (take (n + 1) o))
  part_fits few e = (omega (arith, part_length), omega (arith, part_length, count), rw front_logs (logs_small u s e))

  pub laid : (x : List ℕ) → x ≡ offsets (take (length (take (n + 1) o) - 1) (take (n + 1) o)) → x ++ drop (n + 1) o ≡ offsets_on u s ++ drop (length (offsets_on u s)) d
  laid x ix =
      let q : length (offsets_on u s) ≡ n + 1 = omega (arith, offsets_length u s, count) in
      let behind : drop (n + 1) o ≡ drop (n + 1) d =
      sym (drop-drop 1 n o) ∙ ap (drop 1) (ap (drop n) so ∙ drop_at (log_sizes_on u s) (drop n d) n long) ∙ drop-drop 1 n d in
      rw (ix, front_logs, behind, q)

-- ---- one of them

pub read_offset : (u : List ℕ) (s i : ℕ) (d o : List ℕ) → o ≡ offsets_on u s ++ drop (length (offsets_on u s)) d → i ≤ count_on u s → get_or o i 0 ≡ offset_on u s i
read_offset u s i d o so h = rw so (get_or-append (offsets_on u s) (drop (length (offsets_on u s)) d) 0 i (omega (arith, offsets_length u s)))

pub read_scale : (u : List ℕ) (s t x : ℕ) → t ≡ word u (s + 6) → x ≡ log_size u t → x ≡ ary_scale u s
read_scale u s t x it ix = let q : s + 2 + 3 + 1 ≡ s + 6 = omega arith in ix ∙ rw (it, q)
