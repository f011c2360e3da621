-- What an accepted load, and an accepted save, say of their rows. Assumes nothing.
use mathlib.Core.Path.{◌≡◌, refl, sym, ap, ◌∙◌}
use mathlib.Core.Bool.{Bool, true, false, not}
use mathlib.Core.List.{List, ◌++◌}
use Prim.Native.Nat.{ℕ, zero, suc, ◌≤◌}
use native.Mathlib.Omega.{arith}
use borrow.Author.Tests.{ltb-false, not-false}
use lib.Dec.{ltb}
use lib.ListN.{length, take, drop}
use lib.Seq.{take_at}
use Rattle.wellformed.specs.Form.{right_length, well_formed, used_words, behind_fresh}
use Rattle.call.specs.Call.{number, left, ask, reply_after, output_rows, output_after, filled_output, ◌when◌, ◌otherwise◌}
use Rattle.kept.proofs.Rows.{then_off, two_off}
use Rattle.catalogue_file.specs.File.{file_of, start_in, trailed, words_in}
use Rattle.catalogue.specs.Catalogue.{label_rows, save_call, save_output, forms_store, load_rows, loaded_store, load_after, load_call}

-- ---- a load

pub record Took (f ws : List ℕ) (l : ℕ) : Type 0 where
  pub right : right_length ws ≡ true
  pub trail : trailed f ≡ true
  pub forms : forms_store (words_in f) ≡ true
  pub short : start_in f ≤ 255
  pub room : length (behind_fresh (words_in f)) ≤ length ws
  pub label : l ≡ start_in f
  pub words : (load_call f ws).words ≡ loaded_store (words_in f) (length ws)

number_is : (a b : ℕ) → number a ≡ number b → b ≡ a
number_is a b e = cc

pub took : (f ws : List ℕ) (l : ℕ) → (load_call f ws).reply ≡ number l → Took f ws l
unfolding load_call load_rows
took f ws l q = go (load_rows f ws) refl q
  where
    go : (k : ℕ) → load_rows f ws ≡ k → (load_after k f ws).reply ≡ number l → Took f ws l
    go (suc n) e p = let z : ◌≡◌ {A = ℕ} 0 1 = cc in absurd (omega arith)
    go zero e p =
        let n = length (behind_fresh (words_in f)) in
        let fourth = 5 when ltb 255 (start_in f) otherwise 12 when ltb (length ws) n in
        let third = 15 when not (forms_store (words_in f)) otherwise fourth in
        let second = 14 when not (trailed f) otherwise third in
        let a = then_off 0 (not (right_length ws)) second e in
        let b = then_off 13 (not (trailed f)) third a.1 in
        let c = then_off 14 (not (forms_store (words_in f))) fourth b.1 in
        let d = two_off 4 11 (ltb 255 (start_in f)) (ltb (length ws) n) c.1 in
        record {
          right = not-false _ a.0;
          trail = not-false _ b.0;
          forms = not-false _ c.0;
          short = ltb-false _ _ d.0;
          room = ltb-false _ _ d.1;
          label = number_is (start_in f) l p;
          words = rw e;
        }

-- ---- a save

pub record Wrote (ws label out : List ℕ) (n : ℕ) : Type 0 where
  pub well : well_formed ws ≡ true
  pub short : length label ≤ 255
  pub file : take n (save_output label ws out) ≡ file_of label (used_words ws)

-- the rows of a save, row 1 among them
abbrev save_rows : List ℕ → List ℕ → List ℕ → ℕ
save_rows ws label out = 1 when not (well_formed ws) otherwise output_rows (label_rows label) (file_of label) (length out) (used_words ws)

pub wrote : (ws label out : List ℕ) (n : ℕ) → (save_call label (length out) ws).reply ≡ number n → Wrote ws label out n
unfolding ask filled_output
wrote ws label out n q = go (save_rows ws label out) refl q
  where
    go : (k : ℕ) → save_rows ws label out ≡ k → reply_after k (number (length (file_of label (used_words ws)))) ≡ number n → Wrote ws label out n
    go (suc m) e p = let z : ◌≡◌ {A = ℕ} 0 1 = cc in absurd (omega arith)
    go zero e p =
        let a = then_off 0 (not (well_formed ws)) (label_rows label (used_words ws) otherwise 11 when ltb (length out) (length (file_of label (used_words ws)))) e in
        let b = two_off 4 10 (ltb 255 (length label)) (ltb (length out) (length (file_of label (used_words ws)))) a.1 in
        record {
          well = not-false _ a.0;
          short = ltb-false _ _ b.0;
          file = rw (e, number_is (length (file_of label (used_words ws))) n p) (take_at (file_of label (used_words ws)) (drop (length (file_of label (used_words ws))) out) (length (file_of label (used_words ws))) refl);
        }
