-- Each entry that row 1 accepts behind the used words `u`, and that is not there yet, is one that a maker makes there: the call, kind by kind. Assumes nothing.
use mathlib.Core.Path.{◌≡◌, refl, sym, ap, ◌∙◌}
use mathlib.Core.Bool.{Bool, true, not}
use mathlib.Core.List.{List, [], ◌∷◌, ◌++◌}
use Prim.Native.Nat.{ℕ, zero, suc, ◌+◌, ◌-◌, ◌*◌, ◌/◌, ◌%◌, ◌^◌, ◌≤◌, ◌<◌}
use native.Mathlib.Omega.{arith}
use borrow.Author.Tests.{lt-ltb, le-ltb, eq-eqb}
use lib.Dec.{ltb}
use lib.ListN.{length, drop, get_or, length-drop, take-append-drop}
use lib.Seq.{drop-cons, get_or-drop}
use Rattle.words.specs.Kinds.{Name, Int, Float, Tuple, Struct, Fref, MemPtr, Mem}
use Rattle.words.specs.Words.{words_after, size_of, fills, eqs}
use Rattle.words.specs.Columns.{word, every}
use Rattle.words.specs.Table.{rows, entries, starts, first_of, find_in}
use Rattle.words.specs.Made.{make}
use Rattle.words.specs.Ran.{HasSize}
use Rattle.std.specs.Prelude.{Some, None}
use Rattle.words.proofs.Grow.{or_else, rows_append, first_append}
use Rattle.words.proofs.Sizes.{name_size}
use Rattle.wellformed.specs.Fresh.{fresh_words}
use Rattle.wellformed.specs.Entry.{kind, count, most_of, names_in, types_in, is_name, is_type, is_struct, is_flag, is_alias, is_alias_final, all, deepest, float_ok, values_ok, ok_entry}
use Rattle.wellformed.proofs.Bools.{and_left, and_right, and_both}
use Rattle.wellformed.proofs.Sizes.{head_in, tuple_in, struct_in}
use Rattle.wellformed.proofs.ByKind.{every_one}
use Rattle.call.specs.Call.{call, ◌when◌}
use Rattle.call.specs.Handles.{head_around}
use Rattle.parts.specs.Parts.{Good}
use Rattle.source.specs.Packed.{packed}
use Rattle.names.specs.Name.{name_entry}
use Rattle.makers.specs.Entries.{int_entry, stored_size, float_entry, tuple_entry, fref_entry, pointer_entry, memory_entry, field_count, field_names, field_types, struct_entry}
use Rattle.makers.specs.Fit.{ValuesFit}
use Rattle.makers.specs.Makers.{tuple_rows, fref_rows, part_rows, struct_rows}
use Rattle.kept.proofs.Fits.{Right}
use Rattle.of_structs.specs.OfStructs.{lent_fields}
use Rattle.of_structs.proofs.Lent.{lent_length}
use Rattle.every_call.specs.Run.{Call, make_int, make_float, get_tuple, get_str, get_struct, make_struct_fref, get_mem_ptr, get_mem, run, typed}
use Rattle.regrown.specs.Regrown.{is_maker}
use Rattle.regrown.proofs.Unpacked.{unpacked, unpacked_bytes, unpacked_long, packed_back}
use Rattle.regrown.proofs.Lent.{lent_names, lent_types, lent_aliases, lent_finals, lent_back}
use Rattle.regrown.proofs.Apart.{heads_of, kind_most, apart, name_apart}

-- a maker's call that no row turns back on the used words u, and whose entry there is e
pub record Maker (u e : List ℕ) : Type 0 where
  pub does : Call
  pub fits : typed does ≡ true
  pub maker : is_maker does ≡ true
  pub turned : List ℕ → ℕ
  pub entry : List ℕ → List ℕ
  pub is : run does ≡ call turned (λ v. make v (entry v))
  pub off : turned u ≡ 0
  pub made : entry u ≡ e

-- ---- rows of refusals that do not apply

fref_off : (name : ℕ) (u : List ℕ) → Right u is_name (name ∷ []) → fref_rows name u ≡ 0
unfolding fref_rows
fref_off name u r = rw (r.start, r.kinds)

part_off : (p : ℕ → Bool) (taken : Bool) (h : ℕ) (u : List ℕ) → Right u p (h ∷ []) → taken ≡ true → 1 + deepest (word u) (h ∷ []) ≤ 32 → part_rows p taken h u ≡ 0
unfolding part_rows
part_off p taken h u r y flat = rw (r.start, r.kinds, y, le-ltb 32 (1 + deepest (word u) (h ∷ [])) flat)

tuple_off : (types u : List ℕ) → Right u is_type types → length types ≤ 255 → 1 + deepest (word u) types ≤ 32 → tuple_rows types u ≡ 0
unfolding tuple_rows
tuple_off types u r few flat = rw (r.start, r.kinds, le-ltb 255 (length types) few, le-ltb 32 (1 + deepest (word u) types) flat)

struct_off : (name : ℕ) (fs u : List ℕ) → Right u is_name (name ∷ []) → Right u is_name (field_names fs) → Right u is_type (field_types fs) → length fs % 4 ≡ 0 → ValuesFit fs → field_count fs ≤ 255 → 1 + deepest (word u) (field_types fs) ≤ 32
    → struct_rows name fs u ≡ 0
unfolding struct_rows
struct_off name fs u a b c finished v few flat =
    rw (a.start, a.kinds, b.start, b.kinds, c.start, c.kinds, eq-eqb (length fs % 4) 0 finished, v.aliases, v.finals, le-ltb 255 (field_count fs) few, le-ltb 32 (1 + deepest (word u) (field_types fs)) flat)

-- handles that are right one by one
right_first : (u : List ℕ) (p : ℕ → Bool) (h : ℕ) (hs : List ℕ) → Right u p (h ∷ hs) → Right u p (h ∷ [])
unfolding all
right_first u p h hs r = record { start = and_both (starts u h) true (and_left (starts u h) (all (starts u) hs) r.start) refl; kinds = rw (and_left (p (word u h % 256)) (all (λ x. p (word u x % 256)) hs) r.kinds) }

right_others : (u : List ℕ) (p : ℕ → Bool) (h : ℕ) (hs : List ℕ) → Right u p (h ∷ hs) → Right u p hs
unfolding all
right_others u p h hs r = record { start = and_right (starts u h) (all (starts u) hs) r.start; kinds = and_right (p (word u h % 256)) (all (λ x. p (word u x % 256)) hs) r.kinds }

-- ---- the words of an entry, one by one

one_word : (e : List ℕ) → length e ≡ 1 → e ≡ word e 0 ∷ []
one_word [] n = absurd (omega arith)
one_word (a ∷ []) n = refl
one_word (a ∷ (b ∷ e)) n = absurd (omega arith)

two_words : (e : List ℕ) → length e ≡ 2 → e ≡ word e 0 ∷ word e 1 ∷ []
two_words [] n = absurd (omega arith)
two_words (a ∷ []) n = absurd (omega arith)
two_words (a ∷ (b ∷ [])) n = refl
two_words (a ∷ (b ∷ (c ∷ e))) n = absurd (omega arith)

three_words : (e : List ℕ) → length e ≡ 3 → e ≡ word e 0 ∷ word e 1 ∷ word e 2 ∷ []
three_words [] n = absurd (omega arith)
three_words (a ∷ []) n = absurd (omega arith)
three_words (a ∷ (b ∷ [])) n = absurd (omega arith)
three_words (a ∷ (b ∷ (c ∷ []))) n = refl
three_words (a ∷ (b ∷ (c ∷ (d ∷ e)))) n = absurd (omega arith)

-- the size that is lent for a stored one, sz + 64
lent_for : ℕ → ℕ
lent_for size = (size + (2 ^ 64 - 64)) % 2 ^ 64

lent_for_is : (size : ℕ) → size < 2 ^ 64 → stored_size (lent_for size) ≡ size
unfolding lent_for
lent_for_is size small = omega arith

-- ---- the kinds

module _ (u e : List ℕ) (sized : HasSize e) (ok : ok_entry (heads_of u) e ≡ true) where
  -- the head of an entry of a kind that counts nothing, around the types hs
  bare : (k : ℕ) → kind e ≡ k → 1 ≤ k → most_of k ≡ 0 → (hs : List ℕ) → types_in e ≡ hs → word e 0 ≡ head_around u k 0 hs
  bare k is low none hs types =
      let a = apart u e ok k is low in
      let z : count e ≡ 0 = omega (arith, a.parts.few) in
      a.head ∙ rw (z, types)

  -- an entry of kind k has as many words as the table says
  long : (k m : ℕ) → kind e ≡ k → words_after k (count e) ≡ m → length e ≡ 1 + m
  unfolding size_of
  long k m is after = sized ∙ rw (is, after)

  -- the entry of kind k with the head h, if it has three words
  triple : (k : ℕ) → kind e ≡ k → words_after k (count e) ≡ 2 → (h : ℕ) → word e 0 ≡ h → h ∷ word e 1 ∷ word e 2 ∷ [] ≡ e
  triple k is after h head = sym (three_words e (long k 2 is after) ∙ ap (λ (x : ℕ). x ∷ word e 1 ∷ word e 2 ∷ []) head)

  -- Bot, Top, Ctrl, XCtrl: the head alone
  pub plain_words : (k : ℕ) → kind e ≡ k → 1 ≤ k → most_of k ≡ 0 → words_after k (count e) ≡ 0 → types_in e ≡ [] → e ≡ (k + 256) ∷ []
  unfolding deepest
  plain_words k is low none after types = one_word e (long k 0 is after) ∙ ap (λ (x : ℕ). x ∷ []) (bare k is low none [] types ∙ omega arith)

  pub int_step : kind e ≡ Int → ((i : ℕ) → word e i < 2 ^ 64) → Maker u e
  unfolding words_after most_of types_in deepest
  int_step is small = record {
    does = make_int (word e 1) (word e 2);
    fits = rw (lt-ltb (word e 1) (2 ^ 64) (small 1), lt-ltb (word e 2) (2 ^ 64) (small 2));
    maker = refl;
    turned = λ v. 0;
    entry = λ v. int_entry (word e 1) (word e 2);
    is = refl;
    off = refl;
    made = triple Int is refl 261 (bare Int is (omega arith) refl [] (rw is));
  }

  pub float_step : kind e ≡ Float → ((i : ℕ) → word e i < 2 ^ 64) → Maker u e
  unfolding words_after most_of types_in deepest values_ok
  float_step is small =
      let taken : float_ok (word e 1) (word e 2) ≡ true = rw is at (apart u e ok Float is (omega arith)).values in
      let sz = lent_for (word e 1) in
      let q : stored_size sz ≡ word e 1 = lent_for_is (word e 1) (small 1) in
      let made = triple Float is refl 262 (bare Float is (omega arith) refl [] (rw is)) in
      record {
        does = make_float sz (word e 2);
        fits = refl;
        maker = refl;
        turned = λ v. 4 when not (float_ok (stored_size sz) (word e 2));
        entry = λ v. float_entry (stored_size sz) (word e 2);
        is = refl;
        off = rw (q, taken);
        made = rw q made;
      }

  pub fref_step : kind e ≡ Fref → Maker u e
  unfolding words_after most_of types_in names_in deepest
  fref_step is =
      let named : Right u is_name (word e 1 ∷ []) = rw is at (apart u e ok Fref is (omega arith)).parts.named in
      record {
        does = make_struct_fref (word e 1);
        fits = refl;
        maker = refl;
        turned = fref_rows (word e 1);
        entry = λ v. fref_entry (word e 1);
        is = refl;
        off = fref_off (word e 1) u named;
        made = sym (two_words e (long Fref 1 is refl) ∙ ap (λ (x : ℕ). x ∷ word e 1 ∷ []) (bare Fref is (omega arith) refl [] (rw is)));
      }

  pub pointer_step : kind e ≡ MemPtr → Maker u e
  unfolding words_after most_of types_in values_ok
  pointer_step is =
      let a = apart u e ok MemPtr is (omega arith) in
      let types : types_in e ≡ word e 1 ∷ [] = rw is in
      let flag : is_flag (word e 2) ≡ true = rw is at a.values in
      let right : Right u is_struct (word e 1 ∷ []) = rw types at a.parts.typed in
      let flat : 1 + deepest (word u) (word e 1 ∷ []) ≤ 32 = rw types at a.parts.flat in
      record {
        does = get_mem_ptr (word e 1) (word e 2);
        fits = refl;
        maker = refl;
        turned = part_rows is_struct (is_flag (word e 2)) (word e 1);
        entry = λ v. pointer_entry (word e 1) (word e 2) v;
        is = refl;
        off = part_off is_struct (is_flag (word e 2)) (word e 1) u right flag flat;
        made = triple MemPtr is refl (head_around u MemPtr 0 (word e 1 ∷ [])) (bare MemPtr is (omega arith) refl (word e 1 ∷ []) types);
      }

  pub memory_step : kind e ≡ Mem → Maker u e
  unfolding words_after most_of types_in values_ok
  memory_step is =
      let a = apart u e ok Mem is (omega arith) in
      let types : types_in e ≡ word e 2 ∷ [] = rw is in
      let alias : is_alias (word e 1) ≡ true = rw is at a.values in
      let right : Right u is_type (word e 2 ∷ []) = rw types at a.parts.typed in
      let flat : 1 + deepest (word u) (word e 2 ∷ []) ≤ 32 = rw types at a.parts.flat in
      record {
        does = get_mem (word e 1) (word e 2);
        fits = refl;
        maker = refl;
        turned = part_rows is_type (is_alias (word e 1)) (word e 2);
        entry = λ v. memory_entry (word e 1) (word e 2) v;
        is = refl;
        off = part_off is_type (is_alias (word e 1)) (word e 2) u right alias flat;
        made = triple Mem is refl (head_around u Mem 0 (word e 2 ∷ [])) (bare Mem is (omega arith) refl (word e 2 ∷ []) types);
      }

  -- the first word and the others
  headed : word e 0 ∷ drop 1 e ≡ e
  headed = sym (drop-cons e 0 0 (head_in e sized))

  tuple_types : kind e ≡ Tuple → types_in e ≡ drop 1 e
  unfolding types_in
  tuple_types is = rw is (every_one (count e) 1 e (tuple_in e sized is))

  tuple_few : kind e ≡ Tuple → count e ≤ 255
  unfolding most_of
  tuple_few is = (apart u e ok Tuple is (omega arith)).parts.few

  pub tuple_step : kind e ≡ Tuple → Maker u e
  tuple_step is =
      let a = apart u e ok Tuple is (omega arith) in
      let types = tuple_types is in
      let n : length (drop 1 e) ≡ count e = omega (arith, length-drop 1 e, tuple_in e sized is) in
      let right : Right u is_type (drop 1 e) = rw types at a.parts.typed in
      let flat : 1 + deepest (word u) (drop 1 e) ≤ 32 = rw types at a.parts.flat in
      record {
        does = get_tuple (drop 1 e);
        fits = refl;
        maker = refl;
        turned = tuple_rows (drop 1 e);
        entry = λ v. tuple_entry (drop 1 e) v;
        is = refl;
        off = tuple_off (drop 1 e) u right (omega (arith, tuple_few is)) flat;
        made = ap (λ (x : ℕ). x ∷ drop 1 e) (sym (a.head ∙ rw (types, n))) ∙ headed;
      }

  -- ---- a struct: the field list of its words is lent

  struct_types : kind e ≡ Struct → types_in e ≡ every 3 (count e) 3 e
  unfolding types_in
  struct_types is = rw is

  struct_names : kind e ≡ Struct → names_in e ≡ word e 1 ∷ every 3 (count e) 2 e
  unfolding names_in
  struct_names is = rw is

  struct_values : kind e ≡ Struct → all is_alias_final (every 3 (count e) 4 e) ≡ true
  unfolding values_ok
  struct_values is = rw is at (apart u e ok Struct is (omega arith)).values

  struct_few : kind e ≡ Struct → count e ≤ 255
  unfolding most_of
  struct_few is = (apart u e ok Struct is (omega arith)).parts.few

  pub struct_step : kind e ≡ Struct → Maker u e
  struct_step is =
      let a = apart u e ok Struct is (omega arith) in
      let k = count e in
      let fs = lent_fields k 2 e in
      let size : length e ≡ 2 + 3 * k = struct_in e sized is in
      let long : length fs ≡ 4 * k = lent_length k 2 e in
      let n : field_count fs ≡ k = omega arith in
      let names : field_names fs ≡ every 3 k 2 e = rw n (lent_names e k 2) in
      let types : field_types fs ≡ every 3 k 3 e = rw n (lent_types e k 2) in
      let named : Right u is_name (word e 1 ∷ every 3 k 2 e) = rw (struct_names is) at a.parts.named in
      let right : Right u is_type (every 3 k 3 e) = rw (struct_types is) at a.parts.typed in
      let flat : 1 + deepest (word u) (every 3 k 3 e) ≤ 32 = rw (struct_types is) at a.parts.flat in
      let values : ValuesFit fs = record { aliases = rw n (lent_aliases e k 2 (struct_values is)); finals = rw n (lent_finals e k 2) } in
      let head : word e 0 ≡ head_around u Struct (field_count fs) (field_types fs) = a.head ∙ rw (struct_types is, types, n) in
      let l₀ = head_in e sized in
      let l₁ : 1 < length e = omega arith in
      record {
        does = get_struct (word e 1) fs;
        fits = refl;
        maker = refl;
        turned = struct_rows (word e 1) fs;
        entry = λ v. struct_entry (word e 1) fs v;
        is = refl;
        off =
            struct_off (word e 1) fs u (right_first u is_name (word e 1) (every 3 k 2 e) named) (rw names (right_others u is_name (word e 1) (every 3 k 2 e) named)) (rw types right) (omega arith) values (omega (arith, struct_few is))
            (rw types flat);
        made = cc (head, n, lent_back e k 2 size, drop-cons e 0 0 l₀, drop-cons e 1 0 l₁);
      }

  -- ---- a name: the bytes of its words are lent

  pub name_step : kind e ≡ Name → ((i : ℕ) → word e i < 2 ^ 64) → Maker u e
  unfolding name_entry
  name_step is small =
      let a = name_apart (heads_of u) e ok is in
      let k = count e in
      let ws = drop 1 e in
      let size : length ws ≡ (k + 7) / 8 = omega (arith, length-drop 1 e, name_size (word e 0) is) in
      let bs = unpacked k ws in
      let long : length bs ≡ k = unpacked_long k ws size in
      let end : length e - 1 ≡ length ws = omega (arith, length-drop 1 e) in
      let last : (k % 8 ≡ 0 → ⊥) → get_or (word e 0 ∷ ws) (length ws) 0 < 2 ^ (8 * (k % 8)) = λ some. rw (headed, ← end) (a.last some) in
      let words : packed (length ws) bs ≡ ws = packed_back k (word e 0) ws size (λ i. rw (get_or-drop 1 e i 0) (small (1 + i))) last in
      record {
        does = get_str bs;
        fits = unpacked_bytes k ws;
        maker = refl;
        turned = λ v. 5 when ltb 255 (length bs);
        entry = λ v. name_entry bs;
        is = refl;
        off = let few : length bs ≤ 255 = omega (arith, a.few) in rw (le-ltb 255 (length bs) few);
        made = rw (long, ← size, words, ← a.head) headed;
      }

-- ---- Bot, Top, Ctrl and XCtrl stand among the fresh entries: no call appends one

fresh_found : {u : List ℕ} → Good u → (e : List ℕ) (h : ℕ) → first_of (rows 1 0 fresh_words) e ≡ Some h → find_in u e ≡ Some h
unfolding find_in entries or_else fills size_of words_after fresh_words
fresh_found {u} g e h is =
    let rest = drop 93 (drop 1 u) in
    let split : drop 1 u ≡ fresh_words ++ rest = sym (take-append-drop 93 (drop 1 u)) ∙ ap (λ (l : List ℕ). l ++ rest) g.fresh in
    rw (split, rows_append 1 0 fresh_words rest refl, first_append (rows 1 0 fresh_words) (rows (1 + length fresh_words) 0 rest) e, is)

module _ {u : List ℕ} (g : Good u) (e : List ℕ) (new : find_in u e ≡ None) (sized : HasSize e) (ok : ok_entry (heads_of u) e ≡ true) where
  no_plain : (k h : ℕ) → kind e ≡ k → 1 ≤ k → most_of k ≡ 0 → words_after k (count e) ≡ 0 → types_in e ≡ [] → first_of (rows 1 0 fresh_words) ((k + 256) ∷ []) ≡ Some h → ⊥
  no_plain k h is low none after types there =
      let old : find_in u e ≡ Some h = rw (plain_words u e sized ok k is low none after types) (fresh_found g ((k + 256) ∷ []) h there) in
      let z : ◌≡◌ {A = ℕ} 0 1 = cc in
      absurd (omega arith)

  -- every entry
  pub step : ((i : ℕ) → word e i < 2 ^ 64) → Maker u e
  unfolding words_after most_of types_in first_of rows eqs size_of fresh_words
  step small = go (kind e) refl (kind_most (heads_of u) e ok)
    where
      go : (k : ℕ) → kind e ≡ k → k ≤ 11 → Maker u e
      go zero is l = name_step u e sized ok is small
      go (suc zero) is l = absurd (no_plain 1 5 is (omega arith) refl refl (rw is) refl)
      go (suc (suc zero)) is l = absurd (no_plain 2 6 is (omega arith) refl refl (rw is) refl)
      go (suc (suc (suc zero))) is l = absurd (no_plain 3 7 is (omega arith) refl refl (rw is) refl)
      go (suc (suc (suc (suc zero)))) is l = absurd (no_plain 4 8 is (omega arith) refl refl (rw is) refl)
      go (suc (suc (suc (suc (suc zero))))) is l = int_step u e sized ok is small
      go (suc (suc (suc (suc (suc (suc zero)))))) is l = float_step u e sized ok is small
      go (suc (suc (suc (suc (suc (suc (suc zero))))))) is l = tuple_step u e sized ok is
      go (suc (suc (suc (suc (suc (suc (suc (suc zero)))))))) is l = struct_step u e sized ok is
      go (suc (suc (suc (suc (suc (suc (suc (suc (suc zero))))))))) is l = fref_step u e sized ok is
      go (suc (suc (suc (suc (suc (suc (suc (suc (suc (suc zero)))))))))) is l = pointer_step u e sized ok is
      go (suc (suc (suc (suc (suc (suc (suc (suc (suc (suc (suc zero))))))))))) is l = memory_step u e sized ok is
      go (suc (suc (suc (suc (suc (suc (suc (suc (suc (suc (suc (suc k)))))))))))) is l = absurd (omega arith)
