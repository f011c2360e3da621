-- Types that rows 2 and 3 do not turn back. Assumes nothing.
use mathlib.Core.Path.{◌≡◌}
use mathlib.Core.Bool.{Bool, true}
use mathlib.Core.List.{List, [], ◌∷◌}
use Prim.Native.Nat.{ℕ}
use borrow.Author.Tests.{leb-true}
use lib.Dec.{leb}
use lib.ListN.{length}
use Rattle.words.specs.Table.{starts}
use Rattle.wellformed.specs.Entry.{is_type, kind_at, all}
use Rattle.wellformed.proofs.Bools.{and_left, and_right}
use Rattle.call.specs.Handles.{no_entry, wrong_kind, types_rows}
use Rattle.words.specs.Columns.{word, kind_on}
use Rattle.kept.proofs.Fits.{Right}
use Rattle.kept.proofs.Rows.{two_off, right_of}
use Rattle.parts.specs.Parts.{Good, Part, All}
use Rattle.parts.proofs.Good.{handle_part}

-- ---- types that no row turns back

taken : {u : List ℕ} (h : ℕ) → Good u → starts u h ≡ true → is_type (kind_on u h) ≡ true → Part u (length u) 33 1 11 h
taken {u} h g is k = handle_part h g is (leb-true 1 (kind_on u h) (and_left (leb 1 (kind_on u h)) (leb (kind_on u h) 11) k)) (leb-true (kind_on u h) 11 (and_right (leb 1 (kind_on u h)) (leb (kind_on u h) 11) k))

types_right : (hs u : List ℕ) → types_rows hs u ≡ 0 → Right u is_type hs
unfolding types_rows
types_right hs u q = let f = two_off 1 2 (no_entry u hs) (wrong_kind u is_type hs) q in right_of u is_type hs f.0 f.1

pub types_parts : (hs u : List ℕ) → Good u → types_rows hs u ≡ 0 → All (Part u (length u) 33 1 11) hs
unfolding all
types_parts hs u g q = let r = types_right hs u q in go hs r.start r.kinds
  where
    t : ℕ → Bool
    t = kind_at (word u) is_type

    go : (hs : List ℕ) → all (starts u) hs ≡ true → all t hs ≡ true → All (Part u (length u) 33 1 11) hs
    go [] s k = tt
    go (h ∷ hs) s k =
        (taken h g (and_left (starts u h) (all (starts u) hs) s) (and_left (t h) (all t hs) k), go hs (and_right (starts u h) (all (starts u) hs) s) (and_right (t h) (all t hs) k))

pub one_part : (a : ℕ) (u : List ℕ) → Good u → types_rows (a ∷ []) u ≡ 0 → Part u (length u) 33 1 11 a
one_part a u g q = (types_parts (a ∷ []) u g q).0

pub two_parts : (a b : ℕ) (u : List ℕ) → Good u → types_rows (a ∷ b ∷ []) u ≡ 0 → Part u (length u) 33 1 11 a × Part u (length u) 33 1 11 b
two_parts a b u g q = let p = types_parts (a ∷ b ∷ []) u g q in (p.0, p.1.0)
