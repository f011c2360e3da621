-- The trees of tuples, pointers and memories that are made around parts. Assumes nothing.
use mathlib.Core.Path.{◌≡◌, refl}
use mathlib.Core.Logic.{inl}
use mathlib.Core.Bool.{true}
use mathlib.Core.List.{List, [], ◌∷◌}
use Prim.Native.Nat.{ℕ, ◌≤◌}
use native.Mathlib.Omega.{arith}
use lib.ListN.{length}
use Rattle.words.specs.Kinds.{Tuple, MemPtr, Mem}
use Rattle.words.specs.Made.{make}
use Rattle.wellformed.specs.Entry.{most_of, is_name, is_flag, is_alias}
use Rattle.call.proofs.Sound.{adds_none}
use Rattle.makers.specs.Entries.{tuple_entry, pointer_entry, memory_entry}
use Rattle.kept.proofs.Fits.{Parts, right_none, kind_is, tuple_fits, pointer_fits, memory_fits}
use Rattle.parts.specs.Parts.{Good, Part, All}
use Rattle.parts.proofs.Parts.{all_map}
use Rattle.meet.proofs.Made.{parts_right, deep_below, one, tuple_answers, pointer_answers, memory_answers}
use Rattle.trees.proofs.Tree.{tup, ptr, mem, node, ε, ◌◂◌}
use Rattle.meaning.proofs.View.{row}
use Rattle.meaning.proofs.Values.{flag}
use Rattle.meaning.proofs.Store.{Distinct, tree_on, typed, typed_struct, made_node}
use Rattle.meaning.proofs.Entries.{tuple_view, pointer_view, memory_view}

module _ {w : List ℕ} (T : Distinct w) (D : ℕ) (o : 1 ≤ D) (most : D ≤ 32) where
  abbrev H : Good w
  H = T.good

  pub tuple_tree : (hs : List ℕ) → All (Part w (length w) D 1 11) hs → length hs ≤ 255 → tree_on (make w (tuple_entry hs w)).words (make w (tuple_entry hs w)).handle ≡ node tup [] (row (tree_on w) hs)
  unfolding most_of
  tuple_tree hs types few =
      let low = deep_below w (length w) D 1 11 hs o types in
      let P : Parts w Tuple (length hs) [] hs = record { low = omega arith; high = omega arith; few = few; flat = omega arith; named = right_none w is_name; typed = parts_right w (length w) D 1 11 hs types } in
      let k = kind_is w Tuple (length hs) [] hs hs P in
      let r = tuple_answers (adds_none w 0 H.sound) H (length w) D o most 33 (omega arith) hs types (inl refl) few in
      made_node w (tuple_entry hs w) T (tuple_fits hs w P).sized (omega (arith, k)) (omega (arith, k)) r tup [] hs (tuple_view hs w P) (all_map (λ z y. typed H y) hs types)

  pub pointer_tree : (to nil : ℕ) → Part w (length w) D 8 9 to → is_flag nil ≡ true → tree_on (make w (pointer_entry to nil w)).words (make w (pointer_entry to nil w)).handle ≡ node ptr (flag nil ∷ []) (tree_on w to ◂ ε)
  pointer_tree to nil p fl =
      let P = one (adds_none w 0 H.sound) H (length w) D o most 33 (omega arith) MemPtr 8 9 to (omega arith) (omega arith) p refl in
      let k = kind_is w MemPtr 0 [] (to ∷ []) (to ∷ nil ∷ []) P in
      let r = pointer_answers (adds_none w 0 H.sound) H (length w) D o most 33 (omega arith) to nil p (inl refl) fl in
      made_node w (pointer_entry to nil w) T (pointer_fits to nil w P fl).sized (omega (arith, k)) (omega (arith, k)) r ptr (flag nil ∷ []) (to ∷ []) (pointer_view to nil w P) (typed_struct H p, tt)

  pub memory_tree : (alias t : ℕ) → Part w (length w) D 1 11 t → is_alias alias ≡ true → tree_on (make w (memory_entry alias t w)).words (make w (memory_entry alias t w)).handle ≡ node (mem alias) [] (tree_on w t ◂ ε)
  memory_tree alias t p fits =
      let P = one (adds_none w 0 H.sound) H (length w) D o most 33 (omega arith) Mem 1 11 t (omega arith) (omega arith) p refl in
      let k = kind_is w Mem 0 [] (t ∷ []) (alias ∷ t ∷ []) P in
      let r = memory_answers (adds_none w 0 H.sound) H (length w) D o most 33 (omega arith) alias t p (inl refl) fits in
      made_node w (memory_entry alias t w) T (memory_fits alias t w P fits).sized (omega (arith, k)) (omega (arith, k)) r (mem alias) [] (t ∷ []) (memory_view alias t w P) (typed H p, tt)
