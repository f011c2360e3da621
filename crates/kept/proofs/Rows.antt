-- What is known where no row of refusals applies. Assumes nothing.
use mathlib.Core.Path.{◌≡◌, refl}
use mathlib.Core.Bool.{Bool, true, false, not, ◌||◌}
use mathlib.Core.List.{List, [], ◌∷◌}
use Prim.Native.Nat.{ℕ, suc, ◌+◌, ◌%◌, ◌≤◌}
use native.Mathlib.Omega.{arith}
use borrow.Author.Tests.{ltb-false, not-false}
use lib.Dec.{eqb, ltb}
use lib.ListN.{length}
use Rattle.words.specs.Kinds.{Tuple}
use Rattle.wellformed.specs.Entry.{is_name, is_type, is_flag, is_alias, takes, most_of, deepest_allowed, all, deepest}
use Rattle.call.specs.Call.{◌when◌, ◌otherwise◌}
use Rattle.call.specs.Handles.{no_entry, wrong_kind, too_deep}
use Rattle.words.specs.Columns.{word}
use Rattle.makers.specs.Entries.{field_count, field_names, field_types, field_aliases, field_finals}
use Rattle.makers.specs.Fit.{ValuesFit}
use Rattle.makers.specs.Makers.{tuple_rows, fref_rows, part_rows, struct_rows}
use Rattle.kept.proofs.Fits.{Right, right_none, right_cons, Parts, StructParts}

-- ---- columns of rows, none of which applies

pub off : (n : ℕ) (t : Bool) → (suc n when t) ≡ 0 → t ≡ false
off n true q = absurd (omega arith)
off n false q = refl

pub then_off : (n : ℕ) (t : Bool) (rest : ℕ) → (suc n when t otherwise rest) ≡ 0 → (t ≡ false) × (rest ≡ 0)
then_off n true rest q = absurd (omega arith)
then_off n false rest q = (refl, q)

pub two_off : (i j : ℕ) (a b : Bool) → (suc i when a otherwise suc j when b) ≡ 0 → (a ≡ false) × (b ≡ false)
two_off i j a b q = let x = then_off i a (suc j when b) q in (x.0, off j b x.1)

pub four_off : (i j k l : ℕ) (a b c d : Bool) → (suc i when a otherwise suc j when b otherwise suc k when c otherwise suc l when d) ≡ 0 → (a ≡ false) × (b ≡ false) × (c ≡ false) × (d ≡ false)
four_off i j k l a b c d q =
    let x = then_off i a (suc j when b otherwise suc k when c otherwise suc l when d) q in
    let y = then_off j b (suc k when c otherwise suc l when d) x.1 in
    let z = two_off k l c d y.1 in
    (x.0, y.0, z.0, z.1)

pub either_off : (a b : Bool) → (a || b) ≡ false → (a ≡ false) × (b ≡ false)
either_off true b q = let z : ◌≡◌ {A = ℕ} 0 1 = cc in absurd (omega arith)
either_off false b q = (refl, q)

-- ---- rows 2 and 3, and row 6

pub right_of : (u : List ℕ) (p : ℕ → Bool) (hs : List ℕ) → no_entry u hs ≡ false → wrong_kind u p hs ≡ false → Right u p hs
right_of u p hs a b = record { start = not-false _ a; kinds = not-false _ b }

pub flat_of : (u types : List ℕ) → too_deep u types ≡ false → 1 + deepest (word u) types ≤ deepest_allowed
flat_of u types e = ltb-false deepest_allowed (1 + deepest (word u) types) e

-- ---- the makers

pub tuple_parts : (types u : List ℕ) → tuple_rows types u ≡ 0 → Parts u Tuple (length types) [] types
unfolding tuple_rows most_of
tuple_parts types u q =
    let f = four_off 1 2 4 5 (no_entry u types) (wrong_kind u is_type types) (ltb 255 (length types)) (too_deep u types) q in
    record {
      low = omega arith;
      high = omega arith;
      few = ltb-false 255 (length types) f.2;
      flat = flat_of u types f.3;
      named = right_none u is_name;
      typed = right_of u is_type types f.0 f.1;
    }

pub fref_right : (name : ℕ) (u : List ℕ) → fref_rows name u ≡ 0 → Right u is_name (name ∷ [])
unfolding fref_rows
fref_right name u q = let f = two_off 1 2 (no_entry u (name ∷ [])) (wrong_kind u is_name (name ∷ [])) q in right_of u is_name (name ∷ []) f.0 f.1

-- an entry around one type
module _ (p : ℕ → Bool) (taken : Bool) (h : ℕ) (u : List ℕ) (q : part_rows p taken h u ≡ 0) where
  part_off : (no_entry u (h ∷ []) ≡ false) × (wrong_kind u p (h ∷ []) ≡ false) × (not taken ≡ false) × (too_deep u (h ∷ []) ≡ false)
  unfolding part_rows
  part_off = four_off 1 2 3 5 (no_entry u (h ∷ [])) (wrong_kind u p (h ∷ [])) (not taken) (too_deep u (h ∷ [])) q

  pub part_taken : taken ≡ true
  part_taken = not-false taken part_off.2

  part_right : Right u p (h ∷ [])
  part_right = right_of u p (h ∷ []) part_off.0 part_off.1

  pub part_parts : (k : ℕ) → 1 ≤ k → k ≤ 11 → takes k ≡ p → Parts u k 0 [] (h ∷ [])
  part_parts k low high is = record {
    low = low;
    high = high;
    few = omega arith;
    flat = flat_of u (h ∷ []) part_off.3;
    named = right_none u is_name;
    typed = rw is part_right;
  }

-- a struct; the conditions of its rows by their numbers
module _ (name : ℕ) (fs u : List ℕ) (q : struct_rows name fs u ≡ 0) where
  abbrev e₂ : Bool
  e₂ = no_entry u (name ∷ []) || no_entry u (field_names fs) || no_entry u (field_types fs)

  abbrev e₃ : Bool
  e₃ = wrong_kind u is_name (name ∷ []) || wrong_kind u is_name (field_names fs) || wrong_kind u is_type (field_types fs)

  abbrev e₄ : Bool
  e₄ = not (eqb (length fs % 4) 0) || not (all is_alias (field_aliases fs)) || not (all is_flag (field_finals fs))

  abbrev e₅ : Bool
  e₅ = ltb 255 (field_count fs)

  abbrev e₆ : Bool
  e₆ = too_deep u (field_types fs)

  struct_off : (e₂ ≡ false) × (e₃ ≡ false) × (e₄ ≡ false) × (e₅ ≡ false) × (e₆ ≡ false)
  unfolding struct_rows
  struct_off =
      let x = then_off 1 e₂ (3 when e₃ otherwise 4 when e₄ otherwise 5 when e₅ otherwise 6 when e₆) q in
      let y = four_off 2 3 4 5 e₃ e₄ e₅ e₆ x.1 in
      (x.0, y.0, y.1, y.2, y.3)

  pub struct_values : ValuesFit fs
  struct_values =
      let a = not (eqb (length fs % 4) 0) in
      let b = not (all is_alias (field_aliases fs)) in
      let x = either_off (a || b) (not (all is_flag (field_finals fs))) struct_off.2 in
      record { aliases = not-false _ (either_off a b x.0).1; finals = not-false _ x.1 }

  pub struct_parts : StructParts name fs u
  unfolding most_of
  struct_parts =
      let n = no_entry u (name ∷ []) in
      let ns = no_entry u (field_names fs) in
      let s = either_off (n || ns) (no_entry u (field_types fs)) struct_off.0 in
      let s₁ = either_off n ns s.0 in
      let w = wrong_kind u is_name (name ∷ []) in
      let v = wrong_kind u is_name (field_names fs) in
      let k = either_off (w || v) (wrong_kind u is_type (field_types fs)) struct_off.1 in
      let k₁ = either_off w v k.0 in
      record {
        low = omega arith;
        high = omega arith;
        few = ltb-false 255 (field_count fs) struct_off.3;
        flat = flat_of u (field_types fs) struct_off.4;
        named = right_cons u is_name name (field_names fs) (right_of u is_name (name ∷ []) s₁.0 k₁.0) (right_of u is_name (field_names fs) s₁.1 k₁.1);
        typed = right_of u is_type (field_types fs) s.1 k.1;
      }
