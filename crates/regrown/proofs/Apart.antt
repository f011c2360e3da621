-- An entry that row 1 accepts behind the used words `u`, taken apart: its handles are those that a maker takes, and its head is the one that a maker puts together. Assumes nothing.
use mathlib.Core.Path.{◌≡◌, refl, sym, ◌∙◌}
use mathlib.Core.Bool.{Bool, true, false, cond, ◌&&◌, ◌||◌}
use mathlib.Core.List.{List}
use Prim.Native.Nat.{ℕ, ◌+◌, ◌*◌, ◌/◌, ◌%◌, ◌^◌, ◌≤◌, ◌<◌}
use native.Mathlib.Omega.{arith}
use native.Mathlib.Nat.{div-lt_iff_lt-mul}
use borrow.Author.Tests.{leb-true, eqb-true, ne_eqb}
use lib.Dec.{eqb, leb}
use lib.Pow.{pow_pos}
use Rattle.words.specs.Kinds.{Name, MemPtr, last_kind}
use Rattle.words.specs.Words.{head_of, kind_of}
use Rattle.words.specs.Columns.{word}
use Rattle.words.specs.Table.{starts}
use Rattle.wellformed.specs.Entry.{kind, depth, count, most_of, names_in, types_in, no_head, is_name, is_type, is_struct, takes, kind_at, all, deepest, depth_for, last_word, bits_in_last, zero_filled, values_ok, ok_entry}
use Rattle.wellformed.specs.Form.{heads_at}
use Rattle.call.specs.Handles.{head_around}
use Rattle.parts.proofs.Checked.{tested}
use Rattle.kept.proofs.Heads.{start_heads}
use Rattle.kept.proofs.Fits.{Right, Parts}
use Rattle.kept.proofs.Later.{all_more}

-- the heads that row 1 reads of the parts of an entry behind u
abbrev pub heads_of : List ℕ → ℕ → ℕ
heads_of u = heads_at (starts u) u

-- ---- the handles

-- a handle whose head has a kind that p takes starts an entry, for p does not take 255, which stands where none starts
module _ (u : List ℕ) (p : ℕ → Bool) (none : p no_head ≡ false) where
  starting : (h : ℕ) → kind_at (heads_of u) p h ≡ true → starts u h ≡ true
  unfolding heads_at
  starting h = go (starts u h)
    where
      go : (t : Bool) → p (kind_of (cond t (word u h) no_head)) ≡ true → t ≡ true
      go true k = refl
      go false k = let z : ◌≡◌ {A = ℕ} 0 1 = cc in absurd (omega arith)

  module _ (hs : List ℕ) (a : all (kind_at (heads_of u) p) hs ≡ true) where
    start : all (starts u) hs ≡ true
    start = all_more (kind_at (heads_of u) p) (starts u) starting hs a

    pub handles_right : Right u p hs
    handles_right = record { start = start; kinds = sym (start_heads u hs start p).0 ∙ a }

    pub handles_deep : deepest (heads_of u) hs ≡ deepest (word u) hs
    handles_deep = (start_heads u hs start p).1

takes_none : (k : ℕ) → takes k no_head ≡ false
takes_none k = go (eqb k MemPtr)
  where
    go : (t : Bool) → cond t is_struct is_type no_head ≡ false
    go true = refl
    go false = refl

-- ---- the entry

pub kind_most : (heads : ℕ → ℕ) (e : List ℕ) → ok_entry heads e ≡ true → kind e ≤ last_kind
unfolding ok_entry
kind_most heads e ok =
    leb-true (kind e) last_kind
    (first (leb (kind e) last_kind) (leb (count e) (most_of (kind e))) (all (kind_at heads is_name) (names_in e)) (all (kind_at heads (takes (kind e))) (types_in e)) (eqb (depth e) (depth_for heads e)) (leb (depth e) 32) (values_ok e) ok)
  where
    first : (a b c d f g h : Bool) → (a && b && c && d && f && g && h) ≡ true → a ≡ true
    first true b c d f g h q = refl
    first false b c d f g h q = q

-- a head is put together of its kind, its depth and its n
whole : (w k d : ℕ) → w % 256 ≡ k → w / 256 % 256 ≡ d → w ≡ head_of k d (w / 65536)
whole w k d is deep = omega arith

-- an entry of kind k that is no name's
pub record Apart (u e : List ℕ) (k : ℕ) : Type 0 where
  pub parts : Parts u k (count e) (names_in e) (types_in e)
  pub head : word e 0 ≡ head_around u k (count e) (types_in e)
  pub values : values_ok e ≡ true

pub apart : (u e : List ℕ) → ok_entry (heads_of u) e ≡ true → (k : ℕ) → kind e ≡ k → 1 ≤ k → Apart u e k
apart u e ok k is low =
    let t = tested (heads_of u) e ok in
    let types : all (kind_at (heads_of u) (takes k)) (types_in e) ≡ true = rw is at t.typed in
    let few : count e ≤ most_of k = rw is at t.few in
    let no : (kind e ≡ 0 → ⊥) = λ z. absurd (omega arith) in
    let deep : depth e ≡ 1 + deepest (heads_of u) (types_in e) = rw (ne_eqb (kind e) 0 no) at t.deep in
    let same = handles_deep u (takes k) (takes_none k) (types_in e) types in
    let flat : 1 + deepest (word u) (types_in e) ≤ 32 = omega (arith, t.flat) in
    record {
      parts = record {
        low = low;
        high = omega (arith, kind_most (heads_of u) e ok);
        few = few;
        flat = flat;
        named = handles_right u is_name refl (names_in e) t.named;
        typed = handles_right u (takes k) (takes_none k) (types_in e) types;
      };
      head = whole (word e 0) k (1 + deepest (word u) (types_in e)) is (omega arith);
      values = t.values;
    }

-- a name's entry; where its bytes do not fill the last word, nothing stands above them there
pub record NameApart (e : List ℕ) : Type 0 where
  pub few : count e ≤ 255
  pub head : word e 0 ≡ head_of Name 0 (count e)
  pub last : (count e % 8 ≡ 0 → ⊥) → last_word e < 2 ^ (8 * (count e % 8))

last_low : (e : List ℕ) → zero_filled e ≡ true → (count e % 8 ≡ 0 → ⊥) → last_word e < 2 ^ bits_in_last e
unfolding zero_filled
last_low e z some = go (eqb (bits_in_last e) 0) refl z
  where
    go : (t : Bool) → eqb (bits_in_last e) 0 ≡ t → (t || eqb (last_word e / 2 ^ bits_in_last e) 0) ≡ true → last_word e < 2 ^ bits_in_last e
    go true q f = absurd (some (omega (arith, eqb-true (bits_in_last e) 0 q)))
    go false q f =
        let none : last_word e / 2 ^ bits_in_last e ≡ 0 = eqb-true (last_word e / 2 ^ bits_in_last e) 0 f in
        omega (arith, (div-lt_iff_lt-mul {k = 2 ^ bits_in_last e} {x = last_word e} {y = 1} (pow_pos (bits_in_last e))).0 (omega arith))

pub name_apart : (heads : ℕ → ℕ) (e : List ℕ) → ok_entry heads e ≡ true → kind e ≡ Name → NameApart e
unfolding most_of values_ok
name_apart heads e ok is =
    let t = tested heads e ok in
    let flat : depth e ≡ 0 = rw is at t.deep in
    let filled : zero_filled e ≡ true = rw is at t.values in
    record { few = rw is at t.few; head = whole (word e 0) 0 0 is flat; last = last_low e filled }
