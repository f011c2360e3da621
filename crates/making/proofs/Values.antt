-- The rows and entries of floats and names. Assumes nothing.
use Rattle.std.proofs.Common.{◌≡◌, ℕ, ◌+◌, ◌%◌, ◌^◌, ◌<◌, ◌≤◌, Bool, true, false, not, ltb, List, ℤ, sym, ap, ◌∙◌, le-ltb, lt-ltb}
use borrow.Author.Tests.{not-true, not-false}
use Rattle.words.specs.Made.{make}
use Rattle.words.specs.Ran.{Ran}
use Rattle.std.specs.Prelude.{Option}
use Rattle.words.specs.declared.Interned.{Interned}
use Rattle.type_float.specs.Float.{size_from, word_of, is_size_word, is_size}
use Rattle.type_float.proofs.Size.{word_size, size_ok}
use Rattle.wellformed.specs.Entry.{float_ok}
use Rattle.names.specs.Name.{name_entry, wrapped}
use Rattle.call.specs.Call.{◌when◌}
use Rattle.makers.specs.Entries.{float_entry, stored_size}
use Rattle.makers.proofs.FloatSize.{size_word}

pub plain_name : (name u : List ℕ) {kept : ℕ} {ws ws' : List ℕ} {r : Option Interned} → Ran kept (make u (name_entry (wrapped false name))) ws ws' r → Ran kept (make u (name_entry name)) ws ws' r
unfolding wrapped
plain_name name u ran = ran

module _ (sz bits : ℕ) (ok : float_ok (stored_size sz) bits ≡ true) where
  pub size_known : is_size_word (stored_size sz) ≡ true
  size_known = size_word (stored_size sz) bits ok

  module _ (z : ℤ) (is : z ≡ size_from (stored_size sz)) where
    pub size_fits : is_size z ≡ true
    size_fits = rw is (size_ok (stored_size sz) size_known)

    pub float_stored : (u : List ℕ) {kept : ℕ} {ws ws' : List ℕ} {r : Option Interned} → Ran kept (make u (float_entry (word_of z) bits)) ws ws' r
        → Ran kept (make u (float_entry (stored_size sz) bits)) ws ws' r
    float_stored u ran = let q : word_of z ≡ stored_size sz = ap word_of is ∙ word_size (stored_size sz) size_known in rw q at ran
