-- The views of entries that are made, and the trees of the fresh types. Assumes nothing.
use mathlib.Core.Path.{◌≡◌, refl, ap, ◌∙◌}
use mathlib.Core.Bool.{true, ◌&&◌}
use mathlib.Core.List.{List, [], ◌∷◌, map}
use Prim.Native.Nat.{ℕ, zero, suc, ◌+◌, ◌-◌, ◌*◌, ◌/◌, ◌%◌, ◌≤◌, ◌<◌}
use native.Mathlib.Omega.{arith}
use borrow.Author.Tests.{leb-true}
use lib.Dec.{eqb}
use lib.ListN.{length, get_or}
use Rattle.words.specs.Kinds.{Tuple, Struct, MemPtr, Mem}
use Rattle.wellformed.specs.Entry.{all, is_flag}
use Rattle.words.specs.Columns.{every, word, kind_on}
use Rattle.wellformed.specs.Fresh.{fresh_words}
use Rattle.wellformed.proofs.Bools.{and_left, and_right}
use Rattle.call.specs.Handles.{head_around}
use Rattle.makers.specs.Entries.{int_entry, float_entry, tuple_entry, pointer_entry, memory_entry, field_count, field_names, field_types, field_words, struct_entry}
use Rattle.makers.proofs.Fields.{every_shift}
use Rattle.kept.proofs.Columns.{every_all, column, names_apart, types_apart}
use Rattle.kept.proofs.Fits.{Parts, kind_is, count_is, StructParts, behind}
use Rattle.structs.specs.Remade.{fields_with}
use Rattle.structs.proofs.Columns.{half, with_count, with_names, with_types, with_aliases, with_finals}
use Rattle.parts.specs.Parts.{Good}
use Rattle.parts.proofs.Good.{fresh_word, bot_part, top_part, ctrl_part, xctrl_part, struct_top_part, struct_bot_part, int_top_part, int_bot_part, float_top_part, float_b32_part, float_bot_part}
use Rattle.rules.specs.Column.{◌⇒◌∣◌}
use Rattle.trees.proofs.Tree.{all as allTypes, ctl, f64, f32, stc, tup, ptr, str, mem, hi, lo, int}
use Rattle.meaning.proofs.View.{vhi, vlo, vint, vnode}
use Rattle.meaning.proofs.Values.{key, flag, flags, float_view, float_tree, build_float}
use Rattle.meaning.proofs.Seen.{view_on}
use Rattle.meaning.proofs.Store.{Typed, tree_on, typed, typed_struct, looks}

-- ---- entries around no type, some types, one type

pub int_view : (min max : ℕ) → view_on (int_entry min max) 0 ≡ vint (key min) (key max)
unfolding view_on
int_view min max = refl

pub float_view_is : (size bits : ℕ) → view_on (float_entry size bits) 0 ≡ float_view size bits
unfolding view_on
float_view_is size bits = refl

pub float_tree_is : {u : List ℕ} → Good u → (h : ℕ) → Typed u h → kind_on u h ≡ 6 → tree_on u h ≡ float_tree (word u (h + 1)) (word u (h + 2))
float_tree_is {u} g h p k = looks g h 6 p k ∙ build_float (tree_on u) (word u (h + 1)) (word u (h + 2))

pub tuple_view : (hs w : List ℕ) → Parts w Tuple (length hs) [] hs → view_on (tuple_entry hs w) 0 ≡ vnode tup [] hs
unfolding view_on
tuple_view hs w p =
    let n = length hs in
    rw (kind_is w Tuple n [] hs hs p, count_is w Tuple n [] hs hs p) (ap (vnode tup []) (every_shift 1 n 0 (head_around w Tuple n hs) hs ∙ every_all hs))

pub pointer_view : (to nil : ℕ) (w : List ℕ) → Parts w MemPtr 0 [] (to ∷ []) → view_on (pointer_entry to nil w) 0 ≡ vnode ptr (flag nil ∷ []) (to ∷ [])
unfolding view_on
pointer_view to nil w p = rw (kind_is w MemPtr 0 [] (to ∷ []) (to ∷ nil ∷ []) p)

pub memory_view : (alias t : ℕ) (w : List ℕ) → Parts w Mem 0 [] (t ∷ []) → view_on (memory_entry alias t w) 0 ≡ vnode (mem alias) [] (t ∷ [])
unfolding view_on
memory_view alias t w p = rw (kind_is w Mem 0 [] (t ∷ []) (alias ∷ t ∷ []) p)

-- ---- a struct made again

half_value : (x f : ℕ) → f ≤ 1 → (2 * x + f) / 2 ≡ x
half_value x f l = omega arith

flag_value : (x f : ℕ) → flag (2 * x + f) ≡ flag f
flag_value x f = let e : (2 * x + f) % 2 ≡ f % 2 = omega arith in rw e

module _ (fs : List ℕ) where
  halves_apart : (n p : ℕ) → all is_flag (every 4 n (p + 3) fs) ≡ true → map half (every 3 n 2 (field_words n p fs)) ≡ every 4 n (p + 2) fs
  unfolding every field_words all
  halves_apart zero p a = refl
  halves_apart (suc n) p a =
      let x : p + 2 + 4 ≡ p + 4 + 2 = omega arith in
      let y : p + 3 + 4 ≡ p + 4 + 3 = omega arith in
      let f = get_or fs (p + 3) 0 in
      let rest = all is_flag (every 4 n (p + 3 + 4) fs) in
      let l : f ≤ 1 = leb-true f 1 (and_left (is_flag f) rest a) in
      let b : all is_flag (every 4 n (p + 4 + 3) fs) ≡ true = rw y at (and_right (is_flag f) rest a) in
      ap (map half) (column fs 2 n p) ∙ rw (half_value (get_or fs (p + 2) 0) f l, halves_apart n (p + 4) b, x)

  flags_apart : (n p : ℕ) → flags (every 3 n 2 (field_words n p fs)) ≡ flags (every 4 n (p + 3) fs)
  unfolding every field_words
  flags_apart zero p = refl
  flags_apart (suc n) p =
      let y : p + 3 + 4 ≡ p + 4 + 3 = omega arith in
      ap flags (column fs 2 n p) ∙ rw (flag_value (get_or fs (p + 2) 0) (get_or fs (p + 3) 0), flags_apart n (p + 4), y)

module _ (w : List ℕ) (a : ℕ) (hs finals : List ℕ) (same : length hs ≡ length finals) (flagged : all is_flag finals ≡ true) where
  abbrev fs : List ℕ
  fs = fields_with w (a + 2) hs finals

  abbrev name : ℕ
  name = word w (a + 1)

  abbrev e : List ℕ
  e = struct_entry name fs w

  abbrev n : ℕ
  n = length hs

  abbrev c : ℕ
  c = field_count fs

  c_is : c ≡ n
  c_is = with_count w (a + 2) hs finals same

  names_are : every 3 c 2 e ≡ every 3 n (a + 2) w
  names_are = behind name fs w 0 ∙ names_apart fs c ∙ with_names w (a + 2) hs finals same

  types_are : every 3 c 3 e ≡ hs
  types_are = behind name fs w 1 ∙ types_apart fs c ∙ with_types w (a + 2) hs finals same

  aliases_are : map half (every 3 c 4 e) ≡ map half (every 3 n (a + 2 + 2) w)
  aliases_are = ap (map half) (behind name fs w 2) ∙ halves_apart fs c 0 (ap (all is_flag) (with_finals w (a + 2) hs finals same) ∙ flagged) ∙ with_aliases w (a + 2) hs finals same

  finals_are : flags (every 3 c 4 e) ≡ flags finals
  finals_are = ap flags (behind name fs w 2) ∙ flags_apart fs c 0 ∙ ap flags (with_finals w (a + 2) hs finals same)

  pub remade_view : StructParts name fs w → view_on e 0 ≡ (eqb name 1 && eqb n 0 ⇒ vhi stc ∣ eqb name 3 && eqb n 0 ⇒ vlo stc ∣ vnode (str name (every 3 n (a + 2) w) (map half (every 3 n (a + 2 + 2) w))) (flags finals) hs)
  unfolding view_on
  remade_view p =
      let ns = name ∷ field_names fs in
      let rest = name ∷ field_words c 0 fs in
      rw (kind_is w Struct c ns (field_types fs) rest p, count_is w Struct c ns (field_types fs) rest p, names_are, types_are, aliases_are, finals_are, c_is)

-- ---- the fresh types

module _ {u : List ℕ} (g : Good u) where
  abbrev two : 1 < 33
  two = omega arith

  abbrev is : (h : ℕ) → 1 ≤ h → h ≤ 93 → word u h ≡ get_or fresh_words (h - 1) 0
  is = fresh_word g

  pub bot_typed : Typed u 5
  bot_typed = typed g (bot_part g 33 two)

  pub tree_bot : tree_on u 5 ≡ lo allTypes
  unfolding fresh_words
  tree_bot = let e : word u 5 ≡ 257 = is 5 (omega arith) (omega arith) in looks g 5 1 bot_typed (rw e)

  pub top_typed : Typed u 6
  top_typed = typed g (top_part g 33 two)

  pub tree_top : tree_on u 6 ≡ hi allTypes
  unfolding fresh_words
  tree_top = let e : word u 6 ≡ 258 = is 6 (omega arith) (omega arith) in looks g 6 2 top_typed (rw e)

  pub ctrl_typed : Typed u 7
  ctrl_typed = typed g (ctrl_part g 33 two)

  pub tree_ctrl : tree_on u 7 ≡ lo ctl
  unfolding fresh_words
  tree_ctrl = let e : word u 7 ≡ 259 = is 7 (omega arith) (omega arith) in looks g 7 3 ctrl_typed (rw e)

  pub xctrl_typed : Typed u 8
  xctrl_typed = typed g (xctrl_part g 33 two)

  pub tree_xctrl : tree_on u 8 ≡ hi ctl
  unfolding fresh_words
  tree_xctrl = let e : word u 8 ≡ 260 = is 8 (omega arith) (omega arith) in looks g 8 4 xctrl_typed (rw e)

  pub struct_top_typed : Typed u 18
  struct_top_typed = typed_struct g (struct_top_part g 33 two)

  pub tree_struct_top : tree_on u 18 ≡ hi stc
  unfolding fresh_words
  tree_struct_top =
      let e : word u 18 ≡ 264 = is 18 (omega arith) (omega arith) in
      let f : word u 19 ≡ 1 = is 19 (omega arith) (omega arith) in
      let k : kind_on u 18 ≡ 8 = rw e in
      looks g 18 8 struct_top_typed k ∙ rw (f, e)

  pub struct_bot_typed : Typed u 20
  struct_bot_typed = typed_struct g (struct_bot_part g 33 two)

  pub tree_struct_bot : tree_on u 20 ≡ lo stc
  unfolding fresh_words
  tree_struct_bot =
      let e : word u 20 ≡ 264 = is 20 (omega arith) (omega arith) in
      let f : word u 21 ≡ 3 = is 21 (omega arith) (omega arith) in
      let k : kind_on u 20 ≡ 8 = rw e in
      looks g 20 8 struct_bot_typed k ∙ rw (f, e)

  pub int_top_typed : Typed u 22
  int_top_typed = typed g (int_top_part g 33 two)

  pub tree_int_top : tree_on u 22 ≡ int 0xffff_ffff_ffff_ffff 0
  unfolding fresh_words key
  tree_int_top =
      let e : word u 22 ≡ 261 = is 22 (omega arith) (omega arith) in
      let x : word u 23 ≡ 9223372036854775807 = is 23 (omega arith) (omega arith) in
      let y : word u 24 ≡ 9223372036854775808 = is 24 (omega arith) (omega arith) in
      let k : kind_on u 22 ≡ 5 = rw e in
      looks g 22 5 int_top_typed k ∙ rw (x, y)

  pub int_bot_typed : Typed u 25
  int_bot_typed = typed g (int_bot_part g 33 two)

  pub tree_int_bot : tree_on u 25 ≡ int 0 0xffff_ffff_ffff_ffff
  unfolding fresh_words key
  tree_int_bot =
      let e : word u 25 ≡ 261 = is 25 (omega arith) (omega arith) in
      let x : word u 26 ≡ 9223372036854775808 = is 26 (omega arith) (omega arith) in
      let y : word u 27 ≡ 9223372036854775807 = is 27 (omega arith) (omega arith) in
      let k : kind_on u 25 ≡ 5 = rw e in
      looks g 25 5 int_bot_typed k ∙ rw (x, y)

  pub float_top_typed : Typed u 49
  float_top_typed = typed g (float_top_part g 33 two)

  pub tree_float_top : tree_on u 49 ≡ hi f64
  unfolding fresh_words
  tree_float_top =
      let e : word u 49 ≡ 262 = is 49 (omega arith) (omega arith) in
      let x : word u 50 ≡ 0 = is 50 (omega arith) (omega arith) in
      let k : kind_on u 49 ≡ 6 = rw e in
      looks g 49 6 float_top_typed k ∙ rw x

  pub float_b32_typed : Typed u 58
  float_b32_typed = typed g (float_b32_part g 33 two)

  pub tree_float_b32 : tree_on u 58 ≡ lo f32
  unfolding fresh_words
  tree_float_b32 =
      let e : word u 58 ≡ 262 = is 58 (omega arith) (omega arith) in
      let x : word u 59 ≡ 96 = is 59 (omega arith) (omega arith) in
      let k : kind_on u 58 ≡ 6 = rw e in
      looks g 58 6 float_b32_typed k ∙ rw x

  pub float_bot_typed : Typed u 61
  float_bot_typed = typed g (float_bot_part g 33 two)

  pub tree_float_bot : tree_on u 61 ≡ lo f64
  unfolding fresh_words
  tree_float_bot =
      let e : word u 61 ≡ 262 = is 61 (omega arith) (omega arith) in
      let x : word u 62 ≡ 128 = is 62 (omega arith) (omega arith) in
      let k : kind_on u 61 ≡ 6 = rw e in
      looks g 61 6 float_bot_typed k ∙ rw x
