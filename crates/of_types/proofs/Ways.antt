-- Each way through the functions gives the line of the definition that it stands for. Assumes nothing.
use mathlib.Core.Path.{◌≡◌, refl, sym, ◌∙◌}
use mathlib.Core.Bool.{Bool, true, false, not, cond, ◌||◌}
use mathlib.Core.List.{List, [], ◌∷◌}
use Prim.Native.Nat.{ℕ, zero, suc, ◌+◌, ◌≤◌, ◌<◌}
use native.Mathlib.Omega.{arith}
use borrow.Author.Tests.{lt-ltb, le-ltb, eq-eqb, ne_eqb, not-true, not-false}
use lib.Dec.{eqb, ltb}
use lib.ListN.{length, take}
use Rattle.words.specs.Columns.{word, kind_on, min_on, max_on, size_on, bits_on, target_on}
use Rattle.bitset.specs.Bitset.{bit_at}
use Rattle.wellformed.specs.Entry.{kind_in, kind_at, all}
use Rattle.call.specs.Call.{◌when◌, ◌otherwise◌}
use Rattle.call.specs.Handles.{types_rows}
use Rattle.call.specs.Steps.{Marked}
use Rattle.makers.specs.Makers.{never_nil}
use Rattle.rows.proofs.Column.{unknown, known}
use Rattle.type_integer.specs.Signed.{less}
use Rattle.type_float.specs.Single.{is_single}
use Rattle.of_types.specs.declared.Side.{Side}
use Rattle.of_types.specs.declared.Side.TheVariants.{High, Constant, Low}
use Rattle.of_types.specs.OfTypes.{int_side, float_side, pointer_side, side_of, is_high_or_constant, is_fref, zero_of, has_zero, make_zero_of, make_init_of, int_log_size, float_log_size, log_size, has_log_size, kind_rows, log_size_rows}

-- ---- sides

module _ (min max : ℕ) (t : Bool) (is : t ≡ less max min) where
  pub int_high : t ≡ true → High ≡ int_side min max
  int_high e = rw (← is, e)

  pub int_constant : t ≡ false → min ≡ max → Constant ≡ int_side min max
  int_constant e q = rw (← is, e, eq-eqb min max q)

  pub int_low : t ≡ false → (min ≡ max → ⊥) → Low ≡ int_side min max
  int_low e n = rw (← is, e, ne_eqb min max n)

-- ends that are read from words
pub side_words : (u : List ℕ) (t min max : ℕ) → min ≡ min_on u t → max ≡ max_on u t → (x : Side) → x ≡ int_side min max → x ≡ int_side (min_on u t) (max_on u t)
side_words u t min max a b x q = q ∙ rw (a, b)

module _ (size : ℕ) where
  pub float_high : size < 64 → High ≡ float_side size
  float_high h = rw (lt-ltb size 64 h)

  pub float_constant : 64 ≤ size → size ≡ 64 → Constant ≡ float_side size
  float_constant h e = rw (le-ltb size 64 h, eq-eqb size 64 e)

  pub float_low : 64 ≤ size → (size ≡ 64 → ⊥) → Low ≡ float_side size
  float_low h n = rw (le-ltb size 64 h, ne_eqb size 64 n)

module _ (t : ℕ) where
  pub pointer_high : t ≡ 85 → High ≡ pointer_side t
  pointer_high e = rw (eq-eqb t 85 e)

  pub pointer_constant : (t ≡ 85 → ⊥) → t ≡ 88 → Constant ≡ pointer_side t
  pointer_constant n e = rw (ne_eqb t 85 n, eq-eqb t 88 e)

  pub pointer_low : (t ≡ 85 → ⊥) → (t ≡ 88 → ⊥) → Low ≡ pointer_side t
  pointer_low n m = rw (ne_eqb t 85 n, ne_eqb t 88 m)

module _ (u : List ℕ) (t k : ℕ) (is : k ≡ kind_on u t) where
  pub side_top : k ≡ 2 → High ≡ side_of u t
  unfolding side_of
  side_top e = rw (← is, e)

  pub side_xctrl : k ≡ 4 → High ≡ side_of u t
  unfolding side_of
  side_xctrl e = rw (← is, e)

  pub side_int : k ≡ 5 → (x : Side) → x ≡ int_side (min_on u t) (max_on u t) → x ≡ side_of u t
  unfolding side_of
  side_int e x q = q ∙ rw (← is, e)

  pub side_float : k ≡ 6 → (size : ℕ) → size ≡ size_on u t → (x : Side) → x ≡ float_side size → x ≡ side_of u t
  unfolding side_of
  side_float e size iw x q = q ∙ rw (← is, e, iw)

  pub side_pointer : k ≡ 10 → (x : Side) → x ≡ pointer_side t → x ≡ side_of u t
  unfolding side_of
  side_pointer e x q = q ∙ rw (← is, e)

  pub side_other : (k ≡ 2 → ⊥) → (k ≡ 4 → ⊥) → (k ≡ 5 → ⊥) → (k ≡ 6 → ⊥) → (k ≡ 10 → ⊥) → Low ≡ side_of u t
  unfolding side_of
  side_other a b c d f = rw (← is, ne_eqb k 2 a, ne_eqb k 4 b, ne_eqb k 5 c, ne_eqb k 6 d, ne_eqb k 10 f)

  -- ---- is_fref

  pub fref_itself : k ≡ 9 → true ≡ is_fref u t
  unfolding is_fref
  fref_itself e = rw (← is, e)

  pub fref_target : k ≡ 10 → (to j : ℕ) → to ≡ target_on u t → j ≡ kind_on u to → eqb j 9 ≡ is_fref u t
  unfolding is_fref
  fref_target e to j it ij = rw (← is, e, ij, it)

  pub fref_other : (k ≡ 9 → ⊥) → (k ≡ 10 → ⊥) → false ≡ is_fref u t
  unfolding is_fref
  fref_other a b = rw (← is, ne_eqb k 9 a, ne_eqb k 10 b)

  -- ---- log_size

  pub log_int : k ≡ 5 → (x : ℕ) → x ≡ int_log_size u t → x ≡ log_size u t
  unfolding log_size
  log_int e x q = q ∙ rw (← is, e)

  pub log_float : k ≡ 6 → (size bits : ℕ) → size ≡ size_on u t → bits ≡ bits_on u t → (x : ℕ) → x ≡ float_log_size size bits → x ≡ log_size u t
  unfolding log_size
  log_float e size bits iw ib x q = q ∙ rw (← is, e, iw, ib)

  pub log_pointer : k ≡ 10 → 2 ≡ log_size u t
  unfolding log_size
  log_pointer e = rw (← is, e)

  pub log_other : (k ≡ 5 → ⊥) → (k ≡ 6 → ⊥) → (k ≡ 10 → ⊥) → 4 ≡ log_size u t
  unfolding log_size
  log_other a b c = rw (← is, ne_eqb k 5 a, ne_eqb k 6 b, ne_eqb k 10 c)

-- ---- make_init, make_zero

module _ (k t : ℕ) where
  pub zero_int : k ≡ 5 → 9 ≡ zero_of k t
  unfolding zero_of
  zero_int e = rw e

  pub zero_float : k ≡ 6 → 55 ≡ zero_of k t
  unfolding zero_of
  zero_float e = rw e

  pub zero_pointer : k ≡ 10 → 88 ≡ zero_of k t
  unfolding zero_of
  zero_pointer e = rw e

  pub zero_other : (k ≡ 5 → ⊥) → (k ≡ 6 → ⊥) → (k ≡ 10 → ⊥) → t ≡ zero_of k t
  unfolding zero_of
  zero_other a b c = rw (ne_eqb k 5 a, ne_eqb k 6 b, ne_eqb k 10 c)

  pub has_int : k ≡ 5 → true ≡ has_zero k
  has_int e = rw e

  pub has_float : k ≡ 6 → true ≡ has_zero k
  has_float e = rw e

  pub has_pointer : (k ≡ 5 → ⊥) → (k ≡ 6 → ⊥) → eqb k 10 ≡ has_zero k
  has_pointer a b = rw (ne_eqb k 5 a, ne_eqb k 6 b)

pub zero_kind : (u : List ℕ) (t k : ℕ) → k ≡ kind_on u t → (x : ℕ) → x ≡ zero_of k t → x ≡ make_zero_of u t
zero_kind u t k is x q = q ∙ rw is

module _ (u : List ℕ) (t : ℕ) (n : Bool) (is : n ≡ never_nil u t) where
  pub init_top : n ≡ true → 6 ≡ make_init_of u t
  unfolding make_init_of
  init_top e = rw (← is, e)

  pub init_zero : n ≡ false → (x : ℕ) → x ≡ make_zero_of u t → x ≡ make_init_of u t
  unfolding make_init_of
  init_zero e x q = q ∙ rw (← is, e)

-- ---- the log size of an Int and of a Float

module _ (t a b : ℕ) where
  pub is_first : t ≡ a → true ≡ (eqb t a || eqb t b)
  is_first e = rw (eq-eqb t a e)

  pub is_second : (t ≡ a → ⊥) → eqb t b ≡ (eqb t a || eqb t b)
  is_second n = rw (ne_eqb t a n)

module _ (u : List ℕ) (t : ℕ) (a : Bool) (ia : a ≡ (eqb t 31 || eqb t 40)) where
  pub log_byte : a ≡ true → 0 ≡ int_log_size u t
  unfolding int_log_size
  log_byte e = rw (← ia, e)

  module _ (na : a ≡ false) where
    pub log_bool : t ≡ 15 → 0 ≡ int_log_size u t
    unfolding int_log_size
    log_bool e = rw (← ia, na, eq-eqb t 15 e)

    module _ (nb : t ≡ 15 → ⊥) (b : Bool) (ib : b ≡ (eqb t 34 || eqb t 43)) where
      pub log_16 : b ≡ true → 1 ≡ int_log_size u t
      unfolding int_log_size
      log_16 e = rw (← ia, na, ne_eqb t 15 nb, ← ib, e)

      module _ (n16 : b ≡ false) (c : Bool) (ic : c ≡ (eqb t 37 || eqb t 46)) where
        pub log_32 : c ≡ true → 2 ≡ int_log_size u t
        unfolding int_log_size
        log_32 e = rw (← ia, na, ne_eqb t 15 nb, ← ib, n16, ← ic, e)

        module _ (n32 : c ≡ false) where
          pub log_64 : t ≡ 25 → 3 ≡ int_log_size u t
          unfolding int_log_size
          log_64 e = rw (← ia, na, ne_eqb t 15 nb, ← ib, n16, ← ic, n32, eq-eqb t 25 e)

          module _ (n64 : t ≡ 25 → ⊥) (s : Side) (isd : s ≡ int_side (min_on u t) (max_on u t)) (d : Bool) (id : d ≡ is_high_or_constant s) where
            pub log_constant : d ≡ true → 0 ≡ int_log_size u t
            unfolding int_log_size
            log_constant e = rw (← ia, na, ne_eqb t 15 nb, ← ib, n16, ← ic, n32, ne_eqb t 25 n64, ← isd, ← id, e)

            pub log_none : d ≡ false → 4 ≡ int_log_size u t
            unfolding int_log_size
            log_none e = rw (← ia, na, ne_eqb t 15 nb, ← ib, n16, ← ic, n32, ne_eqb t 25 n64, ← isd, ← id, e)

module _ (size bits : ℕ) where
  pub float_32 : size ≡ 96 → 2 ≡ float_log_size size bits
  unfolding float_log_size
  float_32 e = rw e

  pub float_minus_32 : size ≡ 32 → 2 ≡ float_log_size size bits
  unfolding float_log_size
  float_minus_32 e = rw e

  module _ (n : size ≡ 96 → ⊥) (m : size ≡ 32 → ⊥) where
    pub float_64 : (size ≡ 64 → ⊥) → 3 ≡ float_log_size size bits
    unfolding float_log_size
    float_64 z = rw (ne_eqb size 96 n, ne_eqb size 32 m, ne_eqb size 64 z)

    module _ (z : size ≡ 64) (s : Bool) (is : s ≡ is_single bits) where
      pub float_single : s ≡ true → 2 ≡ float_log_size size bits
      unfolding float_log_size
      float_single e = rw (ne_eqb size 96 n, ne_eqb size 32 m, eq-eqb size 64 z, ← is, e)

      pub float_double : s ≡ false → 3 ≡ float_log_size size bits
      unfolding float_log_size
      float_double e = rw (ne_eqb size 96 n, ne_eqb size 32 m, eq-eqb size 64 z, ← is, e)

-- ---- rows

module _ (ws bits : List ℕ) (used : ℕ) (o : Marked ws bits used) (p : ℕ → Bool) (h : ℕ) (t : Bool) (is : t ≡ all (bit_at bits) (h ∷ [])) where
  abbrev u : List ℕ
  u = take used ws

  pub kind_2 : not t ≡ true → 2 ≡ kind_rows p h u
  unfolding kind_rows
  kind_2 n = rw (unknown ws bits used o (h ∷ []) t is n)

  module _ (y : not t ≡ false) (k : Bool) (ik : k ≡ all (kind_at (word u) p) (h ∷ [])) where
    pub kind_3 : not k ≡ true → 3 ≡ kind_rows p h u
    unfolding kind_rows
    kind_3 n = rw (known ws bits used o (h ∷ []) t is y, sym ik ∙ not-true k n)

    pub kind_0 : not k ≡ false → 0 ≡ kind_rows p h u
    unfolding kind_rows
    kind_0 n = rw (known ws bits used o (h ∷ []) t is y, sym ik ∙ not-false k n)

-- a kind that is tested by itself
pub only : (u : List ℕ) (p : ℕ → Bool) (h k : ℕ) (b : Bool) → k ≡ kind_on u h → b ≡ p k → b ≡ all (kind_at (word u) p) (h ∷ [])
unfolding all
only v p h k true is ib = rw (← is, ← ib)
only v p h k false is ib = rw (← is, ← ib)

module _ (u : List ℕ) (t : ℕ) (z : types_rows (t ∷ []) u ≡ 0) (x : ℕ) (ix : x ≡ log_size u t) where
  pub log_9 : 4 ≤ x → 9 ≡ log_size_rows t u
  log_9 h = rw (z, ← ix, le-ltb x 4 h)

  pub log_0 : x < 4 → 0 ≡ log_size_rows t u
  log_0 h = rw (z, ← ix, lt-ltb x 4 h)
