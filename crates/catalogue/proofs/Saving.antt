-- Each way through `save` gives what `save_call` and `save_output` say. Assumes nothing.
use mathlib.Core.Path.{◌≡◌, sym, ◌∙◌}
use mathlib.Core.Bool.{Bool, true, false, not}
use mathlib.Core.List.{List, ◌++◌}
use Prim.Native.Nat.{ℕ, suc, ◌+◌, ◌-◌, ◌*◌, ◌≤◌, ◌<◌}
use native.Mathlib.Omega.{arith}
use borrow.Author.Tests.{lt-ltb, le-ltb, not-true, not-false}
use lib.ListN.{length, take, drop, get_or}
use Rattle.wellformed.specs.Form.{well_formed, used_words}
use Rattle.wellformed.proofs.Before.{Tests, tests}
use Rattle.call.specs.Call.{left, told, ask, output_rows, filled_output, ◌when◌, ◌otherwise◌}
use Rattle.call.specs.declared.Answer.{Answer}
use Rattle.call.specs.declared.Answer.TheVariants.{Number}
use Rattle.call.specs.declared.Refusal.{Refusal}
use Rattle.call.specs.declared.Refusal.TheVariants.{NoStore, TooMany, ShortOutput}
use Rattle.call.specs.Refusals.{number_of}
use Rattle.call.proofs.Refusals.{numbered}
use Rattle.std.proofs.Common.{Result, Ok, Err}
use Rattle.catalogue_file.specs.File.{file_of}
use Rattle.catalogue_file.proofs.Read.{file_length}
use Rattle.catalogue_file.proofs.Written.{upto_length}
use Rattle.catalogue.specs.Catalogue.{label_rows, save_call, save_output}

-- what `save` gives: its answer, and the output that it leaves
abbrev pub Saves : List ℕ → List ℕ → List ℕ → Result Answer Refusal → List ℕ → Type 0
Saves ws label out r out' = (left (told r) ws ≡ save_call label (length out) ws) × (out' ≡ save_output label ws out)

module _ (ws label out : List ℕ) where
  -- the rows of the call, row 1 among them
  abbrev rows : ℕ
  rows = 1 when not (well_formed ws) otherwise output_rows (label_rows label) (file_of label) (length out) (used_words ws)

  refuses : (e : Refusal) → rows ≡ number_of e → Saves ws label out (Err e) out
  unfolding ask filled_output
  refuses e q = (rw (q, numbered e), rw (q, numbered e))

  module _ (t : Bool) (it : t ≡ well_formed ws) where
    pub not_well : not t ≡ true → Saves ws label out (Err NoStore) out
    not_well n = refuses NoStore (rw (sym it ∙ not-true t n))

    module _ (y : not t ≡ false) where
      pub well : Tests ws
      well = tests ws (sym it ∙ not-false t y)

      pub long_label : 255 < length label → Saves ws label out (Err TooMany) out
      long_label h = refuses TooMany (rw (sym it ∙ not-false t y, lt-ltb 255 (length label) h))

      module _ (brief : length label ≤ 255) (n : ℕ) (in_all : n ≡ length label + 8 * (get_or ws 0 0 - 94) + 16) where
        size : length (file_of label (used_words ws)) ≡ n
        size =
            let u = upto_length ws (get_or ws 0 0) well.enough well.within in
            let f : length (drop 94 (take (get_or ws 0 0) ws)) ≤ 1048576 = omega (arith, u, well.within, well.most) in
            file_length label (take (get_or ws 0 0) ws) brief f ∙ rw u (sym in_all)

        pub no_room : length out < n → Saves ws label out (Err ShortOutput) out
        no_room h = refuses ShortOutput (rw (sym it ∙ not-false t y, le-ltb 255 (length label) brief, size, lt-ltb _ _ h))

        pub saved : n ≤ length out → (r : ℕ) (out' : List ℕ) → (r ≡ length (file_of label (used_words ws))) × (out' ≡ file_of label (used_words ws) ++ drop r out) → Saves ws label out (Ok (Number r)) out'
        unfolding ask filled_output
        saved h r out' w =
            let z : rows ≡ 0 = rw (sym it ∙ not-false t y, le-ltb 255 (length label) brief, size, le-ltb _ _ h) in
            (rw (z, w.0), w.1 ∙ rw (z, w.0))

-- what `save` uses
pub ruleset saving = (not_well, well, long_label, no_room)
