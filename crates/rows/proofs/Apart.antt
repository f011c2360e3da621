-- Loops over the fields of a list, four words each, that read the word at p of each. Assumes nothing.
use mathlib.Core.Path.{◌≡◌, refl, sym, ap, ◌∙◌}
use mathlib.Core.Bool.{Bool, true, false, ◌&&◌}
use mathlib.Core.List.{List, [], ◌∷◌, ◌++◌}
use Prim.Native.Nat.{ℕ, suc, ◌+◌, ◌-◌, ◌/◌, ◌≤◌, ◌<◌}
use native.Mathlib.Omega.{arith}
use borrow.Author.Tests.{le-leb, lt-leb}
use lib.ListN.{length, get_or, length-append}
use Rattle.std.proofs.lemmas.List.{get_or_append_left}
use Rattle.wellformed.specs.Entry.{all}
use Rattle.words.specs.Columns.{every}
use Rattle.rows.specs.Tests.{at_most}
use Rattle.makers.proofs.Fields.{every_first, every_shift}

-- words in front
every_behind : (s n p : ℕ) (a l : List ℕ) → every s n (p + length a) (a ++ l) ≡ every s n p l
every_behind s n p [] l = let z : p + 0 ≡ p = omega arith in rw z
every_behind s n p (x ∷ a) l =
    let q : p + suc (length a) ≡ suc (p + length a) = omega arith in
    rw q (every_shift s n (p + length a) x (a ++ l) ∙ every_behind s n p a l)

module _ (t : ℕ → Bool) (l : List ℕ) (n p : ℕ) (rest : List ℕ) (left : all t (every 4 n p l) ≡ all t (every 4 (length rest / 4) p rest)) where
  pub fields_end : length rest < 4 → true ≡ all t (every 4 n p l)
  unfolding all every
  fields_end h = let z : length rest / 4 ≡ 0 = omega arith in sym (left ∙ rw z)

  module _ (field more : List ℕ) (cut : rest ≡ field ++ more) (four : length field ≡ 4) (low : p < 4) where
    first : all t (every 4 n p l) ≡ (t (get_or field p 0) && all t (every 4 (length more / 4) p more))
    unfolding all
    first =
        let k : length rest ≡ 4 + length more = omega (arith, ap length cut, length-append field more, four) in
        let some : 0 < length rest / 4 = omega arith in
        let m : length rest / 4 - 1 ≡ length more / 4 = omega arith in
        let g : get_or rest p 0 ≡ get_or field p 0 = rw cut (get_or_append_left field more 0 p (omega arith)) in
        let b : every 4 (length more / 4) (p + 4) rest ≡ every 4 (length more / 4) p more = rw cut (rw four at (every_behind 4 (length more / 4) p field more)) in
        left ∙ rw (every_first 4 (length rest / 4) p rest some, m, g, b)

    pub fields_stop : t (get_or field p 0) ≡ false → false ≡ all t (every 4 n p l)
    fields_stop e = sym (first ∙ rw e)

    pub fields_on : t (get_or field p 0) ≡ true → all t (every 4 n p l) ≡ all t (every 4 (length more / 4) p more)
    fields_on e = first ∙ rw e

    -- as a function's answer on a list of one says it
    module _ (a : Bool) (is : a ≡ all t (get_or field p 0 ∷ [])) where
      one : all t (get_or field p 0 ∷ []) ≡ t (get_or field p 0)
      unfolding all
      one = go (t (get_or field p 0))
        where
          go : (b : Bool) → (b && true) ≡ b
          go true = refl
          go false = refl

      pub stop_one : a ≡ false → false ≡ all t (every 4 n p l)
      stop_one e = fields_stop (sym (is ∙ one) ∙ e)

      pub on_one : a ≡ true → all t (every 4 n p l) ≡ all t (every 4 (length more / 4) p more)
      on_one e = fields_on (sym (is ∙ one) ∙ e)
