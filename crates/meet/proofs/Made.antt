-- An entry that is made of good parts is a good answer, no deeper than they allow. Assumes nothing.
use mathlib.Core.Path.{◌≡◌, refl, ap}
use mathlib.Core.Bool.{true}
use mathlib.Core.Logic.{◌⊎◌, inl, inr, ⊎_elim}
use mathlib.Core.List.{List, [], ◌∷◌}
use Prim.Native.Nat.{ℕ, ◌+◌, ◌≤◌, ◌<◌}
use native.Mathlib.Omega.{arith}
use borrow.Author.Tests.{le-leb, eq-eqb}
use lib.ListN.{length}
use Rattle.words.specs.Kinds.{Tuple, Struct, MemPtr, Mem}
use Rattle.words.specs.Words.{kind_of}
use Rattle.words.specs.Table.{starts}
use Rattle.words.specs.Made.{Grown, make}
use Rattle.wellformed.specs.Entry.{most_of, types_in, is_name, is_flag, is_alias, is_alias_final, takes, kind_in, kind_at, all, deepest}
use Rattle.words.specs.Columns.{every, word, count_on}
use Rattle.wellformed.proofs.Bools.{and_both}
use Rattle.call.specs.Adds.{Adds}
use Rattle.makers.specs.Entries.{tuple_entry, pointer_entry, memory_entry, field_count, field_names, field_types, field_words, struct_entry}
use Rattle.parts.specs.Parts.{Good, Part, NameAt, All}
use Rattle.parts.proofs.Parts.{StructAt}
use Rattle.parts.proofs.Good.{Late, Answers, make_answers}
use Rattle.kept.proofs.Fits.{Right, right_none, Parts, kind_is, depth_is, StructParts, tuple_types, tuple_fits, pointer_types, pointer_fits, memory_types, memory_fits, struct_types, struct_fits}
use Rattle.structs.specs.Remade.{fields_with, remake}
use Rattle.structs.proofs.Columns.{with_count, with_names, with_types, with_values}

-- ---- what row 1 reads of parts

module _ (u : List ℕ) (k d low high : ℕ) where
  all_start : (hs : List ℕ) → All (Part u k d low high) hs → all (starts u) hs ≡ true
  unfolding all
  all_start [] a = refl
  all_start (h ∷ hs) a = and_both (starts u h) (all (starts u) hs) a.0.entry (all_start hs a.1)

  all_kinds : (hs : List ℕ) → All (Part u k d low high) hs → all (kind_at (word u) (kind_in low high)) hs ≡ true
  unfolding all
  all_kinds [] a = refl
  all_kinds (h ∷ hs) a =
      let p = kind_at (word u) (kind_in low high) in
      and_both (p h) (all p hs) (rw (le-leb low (kind_of (word u h)) a.0.least, le-leb (kind_of (word u h)) high a.0.most)) (all_kinds hs a.1)

  pub parts_right : (hs : List ℕ) → All (Part u k d low high) hs → Right u (kind_in low high) hs
  parts_right hs a = record { start = all_start hs a; kinds = all_kinds hs a }

  -- the deepest of some parts
  pub deep_below : (hs : List ℕ) → 1 ≤ d → All (Part u k d low high) hs → deepest (word u) hs < d
  unfolding deepest
  deep_below [] o a = o
  deep_below (h ∷ hs) o a = omega (arith, a.0.shallow, deep_below hs o a.1)

module _ (u : List ℕ) (k : ℕ) where
  names_start : (hs : List ℕ) → All (NameAt u k) hs → all (starts u) hs ≡ true
  unfolding all
  names_start [] a = refl
  names_start (h ∷ hs) a = and_both (starts u h) (all (starts u) hs) a.0.entry (names_start hs a.1)

  names_kinds : (hs : List ℕ) → All (NameAt u k) hs → all (kind_at (word u) is_name) hs ≡ true
  unfolding all
  names_kinds [] a = refl
  names_kinds (h ∷ hs) a =
      let p = kind_at (word u) is_name in
      and_both (p h) (all p hs) (eq-eqb (kind_of (word u h)) 0 a.0.kind) (names_kinds hs a.1)

  pub names_right : (hs : List ℕ) → All (NameAt u k) hs → Right u is_name hs
  names_right hs a = record { start = names_start hs a; kinds = names_kinds hs a }

-- ---- entries, made once the used words u have grown to w

module _ {u w : List ℕ} {h₀ : ℕ} (from : Adds u (record { words = w; handle = h₀ })) (g : Good w) (k d : ℕ) (o : 1 ≤ d) (d1 : d ≤ 32) (D : ℕ) (dD : d < D) where
  -- around some types
  module _ (hs : List ℕ) (types : All (Part w k d 1 11) hs) (late : Late u w hs) (few : length hs ≤ 255) where
    low : deepest (word w) hs < d
    low = deep_below w k d 1 11 hs o types

    pub tuple_answers : Answers u D 1 11 (make w (tuple_entry hs w))
    unfolding most_of
    tuple_answers =
        let p : Parts w Tuple (length hs) [] hs =
        record { low = omega arith; high = omega arith; few = few; flat = omega (arith, low); named = right_none w is_name; typed = parts_right w k d 1 11 hs types } in
        let q = kind_is w Tuple (length hs) [] hs hs p in
        make_answers D 1 11 from g (tuple_entry hs w) (tuple_fits hs w p) (rw (tuple_types hs w p) late) (omega (arith, q)) (omega (arith, q)) (omega (arith, depth_is w Tuple (length hs) [] hs hs p, low))

    -- the struct at a with these types
    module _ (finals : List ℕ) (same : length hs ≡ length finals) (flags : all is_flag finals ≡ true) (a : ℕ) (s : StructAt w a) (n : count_on w a ≡ length hs) where
      abbrev fs : List ℕ
      fs = fields_with w (a + 2) hs finals

      abbrev name : ℕ
      name = word w (a + 1)

      are_types : field_types fs ≡ hs
      are_types = with_types w (a + 2) hs finals same

      pub struct_parts : StructParts name fs w
      unfolding most_of
      struct_parts = record {
        low = omega arith;
        high = omega arith;
        few = omega (arith, with_count w (a + 2) hs finals same);
        flat = rw are_types (omega (arith, low));
        named = rw (with_names w (a + 2) hs finals same) (names_right w a (name ∷ every 3 (length hs) (a + 2) w) (s.name, rw n at s.names));
        typed = rw are_types (parts_right w k d 1 11 hs types);
      }

      pub struct_answers : Answers u D 8 9 (remake a hs finals w)
      unfolding remake
      struct_answers =
          let p = struct_parts in
          let c = field_count fs in
          let ns = name ∷ field_names fs in
          let rest = name ∷ field_words c 0 fs in
          let v : all is_alias_final (every 3 (length hs) (a + 2 + 2) w) ≡ true = let e : a + 2 + 2 ≡ a + 4 = omega arith in rw (e, ← n) s.values in
          let q = kind_is w Struct c ns (field_types fs) rest p in
          let t = ap (deepest (word w)) are_types in
          let l : Late u w (types_in (struct_entry name fs w)) = rw (struct_types name fs w p, are_types) late in
          make_answers D 8 9 from g (struct_entry name fs w) (struct_fits name fs w p (with_values w (a + 2) hs finals same v flags)) l (omega (arith, q)) (omega (arith, q))
          (omega (arith, depth_is w Struct c ns (field_types fs) rest p, low, t))

  -- around one type
  pub one : (j low high t : ℕ) → 1 ≤ j → j ≤ 11 → Part w k d low high t → takes j ≡ kind_in low high → Parts w j 0 [] (t ∷ [])
  one j low high t a b p q =
      record { low = a; high = b; few = omega arith; flat = omega (arith, deep_below w k d low high (t ∷ []) o (p, tt)); named = right_none w is_name; typed = rw q (parts_right w k d low high (t ∷ []) (p, tt)) }

  pub pointer_answers : (to nil : ℕ) → Part w k d 8 9 to → Late u w (to ∷ []) → is_flag nil ≡ true → Answers u D 1 11 (make w (pointer_entry to nil w))
  pointer_answers to nil t late flag =
      let p = one MemPtr 8 9 to (omega arith) (omega arith) t refl in
      let q = kind_is w MemPtr 0 [] (to ∷ []) (to ∷ nil ∷ []) p in
      make_answers D 1 11 from g (pointer_entry to nil w) (pointer_fits to nil w p flag) (rw (pointer_types to nil w p) late) (omega (arith, q)) (omega (arith, q))
      (omega (arith, depth_is w MemPtr 0 [] (to ∷ []) (to ∷ nil ∷ []) p, deep_below w k d 8 9 (to ∷ []) o (t, tt)))

  pub memory_answers : (alias to : ℕ) → Part w k d 1 11 to → Late u w (to ∷ []) → is_alias alias ≡ true → Answers u D 1 11 (make w (memory_entry alias to w))
  memory_answers alias to t late fits =
      let p = one Mem 1 11 to (omega arith) (omega arith) t refl in
      let q = kind_is w Mem 0 [] (to ∷ []) (alias ∷ to ∷ []) p in
      make_answers D 1 11 from g (memory_entry alias to w) (memory_fits alias to w p fits) (rw (memory_types alias to w p) late) (omega (arith, q)) (omega (arith, q))
      (omega (arith, depth_is w Mem 0 [] (to ∷ []) (alias ∷ to ∷ []) p, deep_below w k d 1 11 (to ∷ []) o (t, tt)))

-- a new answer is a new part
pub answer_late : {u : List ℕ} {d low high : ℕ} {g : Grown} → Answers u d low high g → Late u g.words (g.handle ∷ [])
answer_late r = ⊎_elim (λ q. inl q) (λ l. inr (inl l)) r.new
