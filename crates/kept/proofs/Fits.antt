-- An entry around types and names is one that row 1 accepts: the lemma for all kinds, then each kind. Assumes nothing.
use mathlib.Core.Path.{◌≡◌, refl, sym, ap, ◌∙◌}
use mathlib.Core.Bool.{Bool, true}
use mathlib.Core.List.{List, [], ◌∷◌}
use Prim.Native.Nat.{ℕ, suc, ◌+◌, ◌^◌, ◌≤◌, ◌<◌}
use native.Mathlib.Omega.{arith}
use borrow.Author.Tests.{le-leb, eq-eqb, ne_eqb}
use lib.ListN.{length}
use Rattle.words.specs.Kinds.{Int, Tuple, Struct, Fref, MemPtr, Mem, last_kind}
use Rattle.words.specs.Words.{size_of, words_after}
use Rattle.words.specs.Table.{entries, starts}
use Rattle.words.specs.Ran.{HasSize}
use Rattle.words.proofs.Sizes.{tuple_size, struct_size_is}
use Rattle.wellformed.specs.Entry.{kind, depth, count, most_of, deepest_allowed, names_in, types_in, is_name, is_type, is_flag, is_alias, is_alias_final, takes, kind_at, all, deepest, float_ok, values_ok, ok_entry}
use Rattle.words.specs.Columns.{every, word}
use Rattle.wellformed.proofs.Bools.{and_left}
use Rattle.call.specs.Handles.{head_around}
use Rattle.call.specs.Keep.{Ends}
use Rattle.call.specs.Adds.{Fitting}
use Rattle.makers.specs.Entries.{int_entry, float_entry, tuple_entry, fref_entry, pointer_entry, memory_entry, field_count, field_names, field_types, field_words, struct_entry}
use Rattle.makers.specs.Fit.{ValuesFit}
use Rattle.makers.proofs.Fields.{every_shift, fields_length}
use Rattle.kept.proofs.Columns.{every_all, names_apart, types_apart, values_apart}
use Rattle.kept.proofs.Heads.{head_kind, head_depth_is, head_count, start_heads}

all_cons : (t : ℕ → Bool) (h : ℕ) (hs : List ℕ) → all t (h ∷ []) ≡ true → all t hs ≡ true → all t (h ∷ hs) ≡ true
unfolding all
all_cons t h hs x y = rw (and_left (t h) true x) y

-- handles that start entries of the kinds that p takes
pub record Right (u : List ℕ) (p : ℕ → Bool) (hs : List ℕ) : Type 0 where
  pub start : all (starts u) hs ≡ true
  pub kinds : all (kind_at (word u) p) hs ≡ true

pub right_none : (u : List ℕ) (p : ℕ → Bool) → Right u p []
unfolding all
right_none u p = record { start = refl; kinds = refl }

pub right_cons : (u : List ℕ) (p : ℕ → Bool) (h : ℕ) (hs : List ℕ) → Right u p (h ∷ []) → Right u p hs → Right u p (h ∷ hs)
right_cons u p h hs a b = record { start = all_cons (starts u) h hs a.start b.start; kinds = all_cons (kind_at (word u) p) h hs a.kinds b.kinds }

-- ---- every kind

module _ (u : List ℕ) (k n : ℕ) (names types : List ℕ) where
  -- n, the depth and the parts that the table allows an entry of kind k
  pub record Parts : Type 0 where
    pub low : 1 ≤ k
    pub high : k ≤ last_kind
    pub few : n ≤ most_of k
    pub flat : 1 + deepest (word u) types ≤ deepest_allowed
    pub named : Right u is_name names
    pub typed : Right u (takes k) types

  abbrev d : ℕ
  d = 1 + deepest (word u) types

  module _ (rest : List ℕ) (p : Parts) where
    abbrev e : List ℕ
    e = head_around u k n types ∷ rest

    pub kind_is : kind e ≡ k
    kind_is = head_kind k d n (omega (arith, p.high))

    pub count_is : count e ≡ n
    count_is = head_count k d n (omega (arith, p.high)) (omega (arith, p.flat))

    pub depth_is : depth e ≡ d
    depth_is = head_depth_is k d n (omega (arith, p.high)) (omega (arith, p.flat))

    pub around_fits : (k ≡ Int → ⊥) → HasSize e → names_in e ≡ names → types_in e ≡ types → values_ok e ≡ true → Fitting u e
    unfolding ok_entry
    around_fits no-int sized names_are types_are values =
        let no : (k ≡ 0 → ⊥) = λ z. absurd (omega (arith, p.low)) in
        let types-read = start_heads u types p.typed.start (takes k) in
        let names-read = start_heads u names p.named.start is_name in
        record {
          sized = sized;
          ok =
              rw (
                names_are,
                types_are,
                values,
                kind_is,
                count_is,
                depth_is,
                le-leb k last_kind p.high,
                le-leb n (most_of k) p.few,
                ne_eqb k 0 no,
                names-read.0,
                p.named.kinds,
                types-read.0,
                types-read.1,
                p.typed.kinds,
                eq-eqb d d refl,
                le-leb d deepest_allowed p.flat,
              );
          ends = λ _ is. absurd (no-int (sym kind_is ∙ is));
        }

-- ---- Int, Float and forward reference: entries without types

pub int_fits : (u : List ℕ) (min max : ℕ) → (Ends (entries u) → (min < 2 ^ 64) × (max < 2 ^ 64)) → Fitting u (int_entry min max)
unfolding ok_entry most_of names_in types_in all deepest values_ok size_of words_after
int_fits u min max small = record { sized = refl; ok = refl; ends = λ old _. small old }

pub float_fits : (u : List ℕ) (size bits : ℕ) → float_ok size bits ≡ true → Fitting u (float_entry size bits)
unfolding ok_entry most_of names_in types_in all deepest values_ok size_of words_after
float_fits u size bits ok = record { sized = refl; ok = ok; ends = λ _ is. absurd (omega arith) }

pub fref_fits : (u : List ℕ) (name : ℕ) → Right u is_name (name ∷ []) → Fitting u (fref_entry name)
unfolding most_of names_in types_in deepest values_ok size_of words_after
fref_fits u name r =
    around_fits u Fref 0 (name ∷ []) [] (name ∷ [])
    record { low = omega arith; high = omega arith; few = omega arith; flat = omega arith; named = r; typed = right_none u is_type }
    (omega arith) refl refl refl refl

-- ---- Tuple

module _ (types u : List ℕ) (p : Parts u Tuple (length types) [] types) where
  pub tuple_types : types_in (tuple_entry types u) ≡ types
  unfolding types_in
  tuple_types =
      let n = length types in
      rw (kind_is u Tuple n [] types types p, count_is u Tuple n [] types types p) (every_shift 1 n 0 (head_around u Tuple n types) types ∙ every_all types)

  pub tuple_fits : Fitting u (tuple_entry types u)
  unfolding names_in values_ok
  tuple_fits =
      let n = length types in
      let head = head_around u Tuple n types in
      let k = kind_is u Tuple n [] types types p in
      let size : suc n ≡ size_of head = sym (tuple_size head k ∙ omega (arith, count_is u Tuple n [] types types p)) in
      around_fits u Tuple n [] types types p (omega arith) size (rw k) tuple_types (rw k)

-- ---- MemPtr and Mem: entries around one type

module _ (to nil : ℕ) (u : List ℕ) (p : Parts u MemPtr 0 [] (to ∷ [])) where
  pub pointer_types : types_in (pointer_entry to nil u) ≡ to ∷ []
  unfolding types_in
  pointer_types = rw (kind_is u MemPtr 0 [] (to ∷ []) (to ∷ nil ∷ []) p)

  pub pointer_fits : is_flag nil ≡ true → Fitting u (pointer_entry to nil u)
  unfolding names_in values_ok size_of words_after
  pointer_fits flag =
      let k = kind_is u MemPtr 0 [] (to ∷ []) (to ∷ nil ∷ []) p in
      around_fits u MemPtr 0 [] (to ∷ []) (to ∷ nil ∷ []) p (omega arith) (rw k) (rw k) pointer_types (rw k flag)

module _ (alias t : ℕ) (u : List ℕ) (p : Parts u Mem 0 [] (t ∷ [])) where
  pub memory_types : types_in (memory_entry alias t u) ≡ t ∷ []
  unfolding types_in
  memory_types = rw (kind_is u Mem 0 [] (t ∷ []) (alias ∷ t ∷ []) p)

  pub memory_fits : is_alias alias ≡ true → Fitting u (memory_entry alias t u)
  unfolding names_in values_ok size_of words_after
  memory_fits fits =
      let k = kind_is u Mem 0 [] (t ∷ []) (alias ∷ t ∷ []) p in
      around_fits u Mem 0 [] (t ∷ []) (alias ∷ t ∷ []) p (omega arith) (rw k) (rw k) memory_types (rw k fits)

-- ---- Struct

module _ (name : ℕ) (fs u : List ℕ) where
  abbrev n : ℕ
  n = field_count fs

  abbrev words : List ℕ
  words = field_words n 0 fs

  abbrev pub StructParts : Type 0
  StructParts = Parts u Struct n (name ∷ field_names fs) (field_types fs)

  -- the fields' words stand behind the head and the name
  pub behind : (j : ℕ) → every 3 n (suc (suc j)) (head_around u Struct n (field_types fs) ∷ name ∷ words) ≡ every 3 n j words
  behind j = every_shift 3 n (suc j) (head_around u Struct n (field_types fs)) (name ∷ words) ∙ every_shift 3 n j name words

  module _ (p : StructParts) where
    abbrev names : List ℕ
    names = name ∷ field_names fs

    pub struct_types : types_in (struct_entry name fs u) ≡ field_types fs
    unfolding types_in
    struct_types = rw (kind_is u Struct n names (field_types fs) (name ∷ words) p, count_is u Struct n names (field_types fs) (name ∷ words) p) (behind 1 ∙ types_apart fs n)

    pub struct_fits : ValuesFit fs → Fitting u (struct_entry name fs u)
    unfolding names_in values_ok
    struct_fits v =
        let head = head_around u Struct n (field_types fs) in
        let k = kind_is u Struct n names (field_types fs) (name ∷ words) p in
        let c = count_is u Struct n names (field_types fs) (name ∷ words) p in
        let size : suc (suc (length words)) ≡ size_of head = sym (struct_size_is head k ∙ omega (arith, c, fields_length n 0 fs)) in
        around_fits u Struct n names (field_types fs) (name ∷ words) p (omega arith) size
        (rw (k, c) (ap (λ (l : List ℕ). name ∷ l) (behind 0 ∙ names_apart fs n)))
        struct_types
        (rw (k, c) (ap (all is_alias_final) (behind 2) ∙ values_apart fs n 0 v.aliases v.finals))
