-- The ways of `array`: four makings, of which each of the first three may find no room. Assumes nothing.
use mathlib.Core.Path.{◌≡◌, refl}
use mathlib.Core.Bool.{true, false}
use mathlib.Core.List.{List, [], ◌∷◌, ◌++◌}
use Prim.Native.Nat.{ℕ, ◌≤◌}
use borrow.Author.Tests.{le-leb}
use lib.ListN.{take}
use Rattle.words.specs.Made.{Grown, make}
use Rattle.words.specs.Ran.{Segments, Ran, Runs}
use Rattle.std.specs.Prelude.{Option, None}
use Rattle.words.specs.Ran.{interned}
use Rattle.words.specs.declared.Interned.{Interned}
use Rattle.wellformed.specs.Entry.{all}
use Rattle.words.specs.Columns.{every}
use Rattle.names.specs.Name.{name_entry, wrapped}
use Rattle.names.proofs.NameEntry.{name_sized}
use Rattle.makers.specs.Entries.{struct_entry}
use Rattle.makers.specs.Fit.{ValuesFit}
use Rattle.makers.specs.Makers.{length_name, body_name, make_ary}
use Rattle.arrays.proofs.Chain.{Reached, start, more, next, still}

-- the fields that are lent to `structure`
abbrev pub fields : ℕ → ℕ → ℕ → ℕ → ℕ → ℕ → List ℕ
fields lname len lenAlias bname body bodyAlias = lname ∷ len ∷ lenAlias ∷ 1 ∷ bname ∷ body ∷ bodyAlias ∷ 0 ∷ []

pub fields_fit : {lname len lenAlias bname body bodyAlias : ℕ} → lenAlias ≤ 4294967295 → bodyAlias ≤ 4294967295 → ValuesFit (fields lname len lenAlias bname body bodyAlias)
unfolding every all
fields_fit a b = record { aliases = rw (le-leb _ _ a, le-leb _ _ b); finals = refl }

-- what is left after the array's name, after the length's name, after the body's name
abbrev g₁ : List ℕ → List ℕ → Grown
g₁ text u = make u (name_entry (wrapped true text))

abbrev g₂ : List ℕ → List ℕ → Grown
g₂ text u = make (g₁ text u).words (name_entry length_name)

abbrev g₃ : List ℕ → List ℕ → Grown
g₃ text u = make (g₂ text u).words (name_entry body_name)

module _ {old new : List ℕ} {used : ℕ} (s : Segments old new used) (text new₁ : List ℕ) {r₁ : Option Interned} (one : Runs (g₁ text) old new used new₁ r₁) where
  abbrev u : List ℕ
  u = take used (old ++ new)

  -- without room for a name all four do not fit, whatever the last one's entry e
  pub no_first : (e : List ℕ) → r₁ ≡ None → Ran used (make (g₃ text u).words e) (old ++ new) (old ++ new₁) None
  no_first e is = still (g₃ text u) e (still (g₂ text u) (name_entry body_name) (still (g₁ text u) (name_entry length_name) (rw is at one)))

  module _ {h₁ u₁ : ℕ} (at₁ : r₁ ≡ interned h₁ u₁) where
    pub named : Reached old new used (g₁ text u) new₁ h₁ u₁
    named = next (start s) (name_entry (wrapped true text)) new₁ (name_sized (wrapped true text)) one at₁

    module _ (new₂ : List ℕ) {r₂ : Option Interned} (two : Runs (λ u. make u (name_entry (wrapped false length_name))) old new₁ u₁ new₂ r₂) where
      pub no_second : (e : List ℕ) → r₂ ≡ None → Ran used (make (g₃ text u).words e) (old ++ new) (old ++ new₂) None
      unfolding wrapped
      no_second e is = still (g₃ text u) e (still (g₂ text u) (name_entry body_name) (rw is at (more named (λ u. name_entry length_name) new₂ two)))

      module _ {h₂ u₂ : ℕ} (at₂ : r₂ ≡ interned h₂ u₂) where
        pub length_named : Reached old new used (g₂ text u) new₂ h₂ u₂
        unfolding wrapped
        length_named = next named (name_entry length_name) new₂ (name_sized length_name) two at₂

        module _ (new₃ : List ℕ) {r₃ : Option Interned} (three : Runs (λ u. make u (name_entry (wrapped false body_name))) old new₂ u₂ new₃ r₃) where
          pub no_third : (e : List ℕ) → r₃ ≡ None → Ran used (make (g₃ text u).words e) (old ++ new) (old ++ new₃) None
          unfolding wrapped
          no_third e is = still (g₃ text u) e (rw is at (more length_named (λ u. name_entry body_name) new₃ three))

          module _ {h₃ u₃ : ℕ} (at₃ : r₃ ≡ interned h₃ u₃) where
            pub body_named : Reached old new used (g₃ text u) new₃ h₃ u₃
            unfolding wrapped
            body_named = next length_named (name_entry body_name) new₃ (name_sized body_name) three at₃

            pub made : (len lenAlias body bodyAlias : ℕ) (new₄ : List ℕ) {r : Option Interned}
                → Runs (λ u. make u (struct_entry h₁ (fields h₂ len lenAlias h₃ body bodyAlias) u)) old new₃ u₃ new₄ r
                → Runs (make_ary len lenAlias body bodyAlias text) old new used new₄ r
            made len lenAlias body bodyAlias new₄ four =
                rw (named.fits.handle, length_named.fits.handle, body_named.fits.handle) at
                (more body_named (struct_entry h₁ (fields h₂ len lenAlias h₃ body bodyAlias)) new₄ four)
