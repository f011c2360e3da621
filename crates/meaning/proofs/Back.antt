-- A view tells its entry: a left inverse, so that no two entries have one view. Assumes nothing.
use mathlib.Core.Path.{◌≡◌, refl, sym, ap, ◌∙◌}
use mathlib.Core.Bool.{Bool, true, false, cond, ◌&&◌}
use mathlib.Core.List.{List, [], ◌∷◌, map}
use Prim.Native.Nat.{ℕ, zero, suc, ◌+◌, ◌*◌, ◌^◌, ◌≤◌, ◌<◌}
use native.Mathlib.Omega.{arith}
use borrow.Author.Tests.{eqb-true, eqb-false, ne_eqb, leb-true}
use lib.Dec.{eqb}
use lib.ListN.{length, get_or}
use Rattle.words.specs.Kinds.{Bot, Top, Ctrl, XCtrl, Int, Float, Tuple, Struct, Fref, MemPtr, Mem}
use Rattle.words.specs.Words.{head_of, kind_of}
use Rattle.words.specs.Table.{Row, entries, RowIn}
use Rattle.words.proofs.Sizes.{plain_size, tuple_size, struct_size_is, fref_size}
use Rattle.wellformed.specs.Entry.{kind, depth, count, most_of, types_in, is_flag, takes, kind_at, all, deepest, float_ok, values_ok}
use Rattle.words.specs.Columns.{every, word}
use Rattle.wellformed.specs.Form.{heads_at}
use Rattle.wellformed.proofs.Bools.{and_left, and_right}
use Rattle.call.specs.Handles.{head_around}
use Rattle.call.specs.Adds.{Sound}
use Rattle.makers.specs.Entries.{int_entry, float_entry, fref_entry}
use Rattle.makers.proofs.Fields.{every_shift}
use Rattle.makers.proofs.FloatSize.{size_word}
use Rattle.type_float.proofs.Size.{each_word}
use Rattle.kept.proofs.Columns.{every_all}
use Rattle.structs.proofs.Columns.{half}
use Rattle.parts.proofs.Checked.{Tested, tested, row_checked}
use Rattle.meet_fields.proofs.Finals.{every_length}
use Rattle.trees.proofs.Tree.{Cls, all as allTypes, ctl, f64, f32, stc, con, tup, ptr, str, fre, mem}
use Rattle.meaning.proofs.View.{View, vhi, vlo, vint, vnode}
use Rattle.meaning.proofs.Values.{pick, key, key_key, flag, flags, bit, bit_flag, flag_bit, float_view}
use Rattle.meaning.proofs.Seen.{struct_view, view_on, sized, three, eleven}

abbrev pub weave : List ℕ → List ℕ → List ℕ → List Bool → List ℕ
weave [] ts as₁ fs = []
weave (n ∷ ns) [] as₁ fs = []
weave (n ∷ ns) (t ∷ ts) [] fs = []
weave (n ∷ ns) (t ∷ ts) (x ∷ as₁) [] = []
weave (n ∷ ns) (t ∷ ts) (x ∷ as₁) (f ∷ fs) = n ∷ t ∷ (2 * x + bit f) ∷ weave ns ts as₁ fs

abbrev pub hi_entry : Cls → List ℕ
hi_entry allTypes = head_of Top 1 0 ∷ []
hi_entry ctl = head_of XCtrl 1 0 ∷ []
hi_entry f64 = float_entry 0 0
hi_entry f32 = float_entry 32 0
hi_entry stc = head_of Struct 1 0 ∷ 1 ∷ []

abbrev pub lo_entry : Cls → List ℕ
lo_entry allTypes = head_of Bot 1 0 ∷ []
lo_entry ctl = head_of Ctrl 1 0 ∷ []
lo_entry f64 = float_entry 128 0
lo_entry f32 = float_entry 96 0
lo_entry stc = head_of Struct 1 0 ∷ 3 ∷ []

abbrev pub nil_of : List Bool → List ℕ
nil_of [] = []
nil_of (f ∷ fs) = bit f ∷ []

abbrev pub then : List ℕ → List ℕ → List ℕ
then [] l = l
then (t ∷ ts) l = t ∷ l

module _ (u : List ℕ) where
  abbrev pub unview : View → List ℕ
  unview (vhi c) = hi_entry c
  unview (vlo c) = lo_entry c
  unview (vint x y) = int_entry (key x) (key y)
  unview (vnode (con b n) fs ks) = float_entry 64 n
  unview (vnode tup fs ks) = head_around u Tuple (length ks) ks ∷ ks
  unview (vnode ptr fs ks) = head_around u MemPtr 0 ks ∷ then ks (nil_of fs)
  unview (vnode (str n ns as₁) fs ks) = head_around u Struct (length ks) ks ∷ n ∷ weave ns ks as₁ fs
  unview (vnode (fre n) fs ks) = fref_entry n
  unview (vnode (mem x) fs ks) = head_around u Mem 0 ks ∷ x ∷ ks

weave_is : (e : List ℕ) (n p : ℕ) → weave (every 3 n p e) (every 3 n (p + 1) e) (map half (every 3 n (p + 2) e)) (flags (every 3 n (p + 2) e)) ≡ every 1 (3 * n) p e
unfolding every
weave_is e zero p = refl
weave_is e (suc n) p =
    let q : 3 * suc n ≡ suc (suc (suc (3 * n))) = omega arith in
    let x : p + 1 + 3 ≡ p + 3 + 1 = omega arith in
    let y : p + 2 + 3 ≡ p + 3 + 2 = omega arith in
    let z : p + 1 + 1 ≡ p + 2 = omega arith in
    let t : p + 2 + 1 ≡ p + 3 = omega arith in
    rw (q, x, y, z, t, bit_flag (get_or e (p + 2) 0), weave_is e n (p + 3))

spread : (n : ℕ) (e : List ℕ) → length e ≡ suc n → get_or e 0 0 ∷ every 1 n 1 e ≡ e
spread n [] l = absurd (omega arith)
spread n (x ∷ e) l =
    let q : n ≡ length e = omega arith in
    ap (λ (t : List ℕ). x ∷ t) (every_shift 1 n 0 x e ∙ rw q (every_all e))

-- where row 1 reads the heads of parts that it takes, they are the words
module _ (start : ℕ → Bool) (u : List ℕ) (p : ℕ → Bool) (never : p 255 ≡ false) where
  head_word : (h : ℕ) → kind_at (heads_at start u) p h ≡ true → heads_at start u h ≡ word u h
  unfolding heads_at
  head_word h = go (start h)
    where
      go : (t : Bool) → p (kind_of (cond t (word u h) 255)) ≡ true → cond t (word u h) 255 ≡ word u h
      go true k = refl
      go false k = let z : false ≡ true = sym never ∙ k in let y : ◌≡◌ {A = ℕ} 0 1 = cc in absurd (omega arith)

  deepest_words : (hs : List ℕ) → all (kind_at (heads_at start u) p) hs ≡ true → deepest (heads_at start u) hs ≡ deepest (word u) hs
  unfolding all deepest
  deepest_words [] k = refl
  deepest_words (h ∷ hs) k =
      let t = kind_at (heads_at start u) p in
      rw (head_word h (and_left (t h) (all t hs) k), deepest_words hs (and_right (t h) (all t hs) k))

module _ (u : List ℕ) (s : Sound u) (r : Row) (m : RowIn r (entries u)) where
  abbrev e : List ℕ
  e = r.words

  start : ℕ → Bool
  start = (row_checked u s r m).start

  t : Tested (heads_at start u) e
  unfolding start
  t = tested (heads_at (row_checked u s r m).start u) e (row_checked u s r m).ok

  deep_is : (k : ℕ) → kind e ≡ k → 1 ≤ k → takes k 255 ≡ false → depth e ≡ 1 + deepest (word u) (types_in e)
  deep_is k q l f =
      let n : (kind e ≡ 0 → ⊥) = λ z. absurd (omega arith) in
      let d : depth e ≡ 1 + deepest (heads_at start u) (types_in e) = rw (ne_eqb (kind e) 0 n) at t.deep in
      let y : all (kind_at (heads_at start u) (takes k)) (types_in e) ≡ true = rw q at t.typed in
      d ∙ ap (λ (x : ℕ). 1 + x) (deepest_words start u (takes k) f (types_in e) y)

  head_is : (k n : ℕ) (ts : List ℕ) → kind e ≡ k → 1 ≤ k → takes k 255 ≡ false → types_in e ≡ ts → count e ≡ n → head_around u k n ts ≡ get_or e 0 0
  head_is k n ts q l f y c = let d = deep_is k q l f ∙ ap (λ (x : List ℕ). 1 + deepest (word u) x) y in omega arith

  around : (k n c : ℕ) (ts : List ℕ) → kind e ≡ k → 1 ≤ k → takes k 255 ≡ false → types_in e ≡ ts → count e ≡ c → length e ≡ suc n → head_around u k c ts ∷ every 1 n 1 e ≡ e
  around k n c ts q l f y x z = ap (λ (h : ℕ). h ∷ every 1 n 1 e) (head_is k c ts q l f y x) ∙ spread n e z

  no_count : (k : ℕ) → kind e ≡ k → most_of k ≡ 0 → count e ≡ 0
  no_count k q z = let f : count e ≤ most_of k = rw q at t.few in omega arith

  plain : (k : ℕ) → kind e ≡ k → 1 ≤ k → k ≤ 4 → takes k 255 ≡ false → most_of k ≡ 0 → types_in e ≡ [] → head_of k 1 0 ∷ [] ≡ e
  unfolding every deepest
  plain k q l h f z y =
      let n : (kind e ≡ 0 → ⊥) = λ x. absurd (omega arith) in
      around k 0 0 [] q l f y (no_count k q z) (sized u s r m ∙ plain_size (get_or e 0 0) n (omega arith))

  triple : (k : ℕ) → kind e ≡ k → 5 ≤ k → k ≤ 11 → (k ≡ 7 → ⊥) → (k ≡ 8 → ⊥) → (k ≡ 9 → ⊥) → length e ≡ 3
  triple k q l h a b c = three u s r m k q (λ z. omega arith) a b c l h

  zero_bits : (n : ℕ) → (eqb n 0 && true) ≡ true → n ≡ 0
  zero_bits n o = eqb-true n 0 (and_left (eqb n 0) true o)

  float_entry_is : (n sz : ℕ) → float_ok sz n ≡ true → unview u (float_view sz n) ≡ float_entry sz n
  unfolding float_ok
  float_entry_is n sz ok =
      each_word (λ x. float_ok x n ≡ true → unview u (float_view x n) ≡ float_entry x n)
      (λ o. rw (zero_bits n o)) (λ o. rw (zero_bits n o)) (λ o. refl)
      (λ o. rw (zero_bits n o)) (λ o. rw (zero_bits n o))
      sz (size_word sz n ok) ok

  module _ (low : 1 ≤ kind e) (high : kind e ≤ 11) (ends : kind e ≡ 5 → (get_or e 1 0 < 2 ^ 64) × (get_or e 2 0 < 2 ^ 64)) where
    int_is : kind e ≡ 5 → int_entry (key (key (get_or e 1 0))) (key (key (get_or e 2 0))) ≡ e
    unfolding every deepest most_of types_in
    int_is q = rw (key_key (get_or e 1 0) (ends q).0, key_key (get_or e 2 0) (ends q).1) (around 5 2 0 [] q (omega arith) refl (rw q) (no_count 5 q refl) (triple 5 q (omega arith) (omega arith) (omega arith) (omega arith) (omega arith)))

    float_is : kind e ≡ 6 → unview u (float_view (get_or e 1 0) (get_or e 2 0)) ≡ e
    unfolding every deepest most_of types_in values_ok
    float_is q =
        let o : float_ok (get_or e 1 0) (get_or e 2 0) ≡ true = rw q at t.values in
        float_entry_is (get_or e 2 0) (get_or e 1 0) o ∙ around 6 2 0 [] q (omega arith) refl (rw q) (no_count 6 q refl) (triple 6 q (omega arith) (omega arith) (omega arith) (omega arith) (omega arith))

    tuple_is : kind e ≡ 7 → unview u (vnode tup [] (every 1 (count e) 1 e)) ≡ e
    unfolding types_in
    tuple_is q = rw (every_length 1 (count e) 1 e) (around 7 (count e) (count e) (every 1 (count e) 1 e) q (omega arith) refl (rw q) refl (sized u s r m ∙ tuple_size (get_or e 0 0) q ∙ (omega arith)))

    -- a struct without fields, of the name n
    empty_is : (n : ℕ) → kind e ≡ 8 → (eqb (get_or e 1 0) n && eqb (count e) 0) ≡ true → head_of Struct 1 0 ∷ n ∷ [] ≡ e
    unfolding every deepest types_in
    empty_is n q o =
        let x : get_or e 1 0 ≡ n = eqb-true (get_or e 1 0) n (and_left (eqb (get_or e 1 0) n) (eqb (count e) 0) o) in
        let c : count e ≡ 0 = eqb-true (count e) 0 (and_right (eqb (get_or e 1 0) n) (eqb (count e) 0) o) in
        let l : length e ≡ 2 = sized u s r m ∙ struct_size_is (get_or e 0 0) q ∙ (omega arith) in
        ap (λ (y : ℕ). head_of Struct 1 0 ∷ y ∷ []) (sym x) ∙ around 8 1 0 [] q (omega arith) refl (rw (q, c)) c l

    struct_is : kind e ≡ 8 → unview u (struct_view e (get_or e 1 0) (count e) 2) ≡ e
    unfolding every types_in
    struct_is q =
        let P : View → Type 0 = λ v. unview u v ≡ e in
        let n = count e in
        pick P (eqb (get_or e 1 0) 1 && eqb n 0) (λ o. empty_is 1 q o) λ o₁. pick P (eqb (get_or e 1 0) 3 && eqb n 0) (λ o. empty_is 3 q o) λ o₃.
        let l : length e ≡ suc (suc (3 * n)) = sized u s r m ∙ struct_size_is (get_or e 0 0) q ∙ (omega arith) in
        rw (every_length 3 n 3 e, weave_is e n 2) (around 8 (suc (3 * n)) n (every 3 n 3 e) q (omega arith) refl (rw q) refl l)

    fref_is : kind e ≡ 9 → fref_entry (get_or e 1 0) ≡ e
    unfolding every deepest most_of types_in
    fref_is q = around 9 1 0 [] q (omega arith) refl (rw q) (no_count 9 q refl) (sized u s r m ∙ fref_size (get_or e 0 0) q)

    pointer_is : kind e ≡ 10 → unview u (vnode ptr (flag (get_or e 2 0) ∷ []) (get_or e 1 0 ∷ [])) ≡ e
    unfolding every most_of types_in values_ok
    pointer_is q =
        let o : is_flag (get_or e 2 0) ≡ true = rw q at t.values in
        rw (flag_bit (get_or e 2 0) (leb-true (get_or e 2 0) 1 o))
        (around 10 2 0 (get_or e 1 0 ∷ []) q (omega arith) refl (rw q) (no_count 10 q refl) (triple 10 q (omega arith) (omega arith) (omega arith) (omega arith) (omega arith)))

    memory_is : kind e ≡ 11 → unview u (vnode (mem (get_or e 1 0)) [] (get_or e 2 0 ∷ [])) ≡ e
    unfolding every most_of types_in
    memory_is q = around 11 2 0 (get_or e 2 0 ∷ []) q (omega arith) refl (rw q) (no_count 11 q refl) (triple 11 q (omega arith) (omega arith) (omega arith) (omega arith) (omega arith))

    pub entry_is : unview u (view_on e 0) ≡ e
    unfolding view_on most_of types_in
    entry_is =
        let P : View → Type 0 = λ v. unview u v ≡ e in
        let k = kind e in
        pick P (eqb k Bot) (λ o. let q = eqb-true k 1 o in plain 1 q (omega arith) (omega arith) refl refl (rw q)) λ n₁.
        pick P (eqb k Top) (λ o. let q = eqb-true k 2 o in plain 2 q (omega arith) (omega arith) refl refl (rw q)) λ n₂.
        pick P (eqb k Ctrl) (λ o. let q = eqb-true k 3 o in plain 3 q (omega arith) (omega arith) refl refl (rw q)) λ n₃.
        pick P (eqb k XCtrl) (λ o. let q = eqb-true k 4 o in plain 4 q (omega arith) (omega arith) refl refl (rw q)) λ n₄.
        pick P (eqb k Int) (λ o. int_is (eqb-true k 5 o)) λ n₅.
        pick P (eqb k Float) (λ o. float_is (eqb-true k 6 o)) λ n₆.
        pick P (eqb k Tuple) (λ o. tuple_is (eqb-true k 7 o)) λ n₇.
        pick P (eqb k Struct) (λ o. struct_is (eqb-true k 8 o)) λ n₈.
        pick P (eqb k Fref) (λ o. fref_is (eqb-true k 9 o)) λ n₉.
        pick P (eqb k MemPtr) (λ o. pointer_is (eqb-true k 10 o)) λ n₁₀.
        memory_is (eleven low high (eqb-false k 1 n₁) (eqb-false k 2 n₂) (eqb-false k 3 n₃) (eqb-false k 4 n₄) (eqb-false k 5 n₅) (eqb-false k 6 n₆) (eqb-false k 7 n₇) (eqb-false k 8 n₈) (eqb-false k 9 n₉) (eqb-false k 10 n₁₀))
