-- What is saved is loaded, and what is loaded was saved. Assumes nothing.
use mathlib.Core.Path.{◌≡◌, refl, sym, ap, ◌∙◌}
use mathlib.Core.Bool.{Bool, true, false, ◌&&◌}
use mathlib.Core.List.{List, ◌++◌}
use Prim.Native.Nat.{ℕ, ◌+◌, ◌-◌, ◌*◌, ◌^◌, ◌≤◌, ◌<◌}
use native.Mathlib.Omega.{arith}
use borrow.Author.Tests.{le-leb, leb-true, le-ltb}
use lib.Dec.{leb}
use lib.ListN.{length, take, drop, get_or, replicate, length-drop, drop_of_length-le}
use lib.Seq.{length-take-le, take_all, get_or-take}
use Rattle.words.proofs.Walk.{take_slice}
use Rattle.words.specs.Table.{entries, Own}
use Rattle.source.proofs.Packing.{length_packed}
use Rattle.wellformed.specs.Form.{all_zero, right_length, well_formed, used_words, behind_fresh}
use Rattle.wellformed.proofs.Bools.{and_left, and_right}
use Rattle.wellformed.proofs.Before.{Tests, tests, passes}
use Rattle.wellformed.proofs.Tail.{behind_length}
use Rattle.call.specs.Call.{left, number, ◌when◌, ◌otherwise◌}
use Rattle.call.specs.Keep.{Ends}
use Rattle.call.proofs.Keep.{well_sound}
use Rattle.distinct.specs.Distinct.{own}
use Rattle.distinct.proofs.Rows.{own_is, is_own_is}
use Rattle.catalogue_file.specs.File.{file_of, later_words, start_in, count_in, trailed, words_in, label_in}
use Rattle.catalogue_file.proofs.Spelled.{behind}
use Rattle.catalogue_file.proofs.Read.{file_start, file_words, file_label, file_trailed, whole, label_length, written_so}
use Rattle.catalogue.specs.Catalogue.{forms_store, load_rows, loaded_store, load_call}
use Rattle.loaded.specs.Loaded.{AreWords, AreBytes, RoundTrip, SameStore, Taken, JustSaved, EqualBytes, EqualStores}
use Rattle.loaded.proofs.Longer.{used_words_is, length_longer, any_length, used_behind, later_behind, store_parts}
use Rattle.loaded.proofs.Small.{below_take, loaded_small, small_ends}
use Rattle.loaded.proofs.Accepted.{Took, took, Wrote, wrote}

-- ---- a file of a store

module _ (ws label : List ℕ) (small : AreWords ws) (ok : well_formed ws ≡ true) (short : length label ≤ 255) where
  t : Tests ws
  t = tests ws ok

  used_length : length (used_words ws) ≡ get_or ws 0 0
  used_length = length-take-le (get_or ws 0 0) ws t.within

  fits : length (later_words (used_words ws)) ≤ 1048576
  fits = omega (arith, length-drop 94 (used_words ws), used_length, t.within, t.most)

  -- the words that are read in it are the store's
  pub read_words : words_in (file_of label (used_words ws)) ≡ later_words (used_words ws)
  read_words = file_words label (used_words ws) short fits (below_take (2 ^ 64) (omega arith) (get_or ws 0 0) ws small)

  pub read_store : behind_fresh (words_in (file_of label (used_words ws))) ≡ used_words ws
  read_store = ap behind_fresh read_words ∙ used_behind ws ok

  pub read_label : label_in (file_of label (used_words ws)) ≡ label
  read_label = file_label label (used_words ws) short fits

  used_well : well_formed (used_words ws) ≡ true
  unfolding all_zero
  used_well =
      let u = used_words ws in
      let s = well_sound ws ok in
      let c : get_or u 0 0 ≡ get_or ws 0 0 = get_or-take (get_or ws 0 0) ws 0 0 (omega (arith, t.enough)) in
      let o : length u ≤ get_or ws 0 0 = omega (arith, used_length) in
      let f : take 93 (drop 1 u) ≡ take 93 (drop 1 ws) = take_slice 1 93 (get_or ws 0 0) ws (omega (arith, t.enough)) in
      passes u record {
        least = omega (arith, used_length, t.enough);
        most = omega (arith, used_length, t.within, t.most);
        fresh = rw f t.fresh;
        enough = omega (arith, c, t.enough);
        within = omega (arith, c, used_length);
        zeros = rw (c, drop_of_length-le u o) refl;
        filled = rw (c, take_all (get_or ws 0 0) u o) s.full;
        right = rw (c, take_all (get_or ws 0 0) u o) s.right;
      }

  pub round : Own (entries (used_words ws)) → (vs : List ℕ) → right_length vs ≡ true → get_or ws 0 0 ≤ length vs
      → load_call (file_of label (used_words ws)) vs ≡ left (number (length label)) (used_words ws ++ replicate (length vs - get_or ws 0 0) 0)
  unfolding load_call load_rows forms_store
  round each vs right room =
      let n : length (used_words ws) ≤ length vs = omega (arith, used_length) in
      let z : load_rows (file_of label (used_words ws)) vs ≡ 0 =
      rw (right, file_trailed label (used_words ws) short fits, read_store, used_well, is_own_is (entries (used_words ws)) each, file_start label (used_words ws) short fits, le-ltb 255 (length label) short, le-ltb (length vs) (length (used_words ws)) n) in
      rw (z, read_store, file_start label (used_words ws) short fits, used_length)

pub round_trip : RoundTrip
round_trip ws label out n small each q vs right room =
    let w = wrote ws label out n q in
    rw w.file (round ws label small w.well w.short each vs right room)

pub same_store : SameStore
same_store ws label out n small each q vs same =
    let w = wrote ws label out n q in
    let t = tests ws w.well in
    let low : 94 ≤ length vs = omega (arith, t.least) in
    let high : length vs ≤ 1048576 = omega (arith, t.most) in
    let right : right_length vs ≡ true = rw (le-leb 94 (length vs) low, le-leb (length vs) 1048576 high) in
    round_trip ws label out n small each q vs right (omega (arith, t.within)) ∙ ap (left (number (length label))) (rw same (sym (store_parts ws w.well)))

-- ---- a file that is taken

module _ (f ws : List ℕ) (l : ℕ) (bytes : AreBytes f) (k : Took f ws l) where
  both : (well_formed (behind_fresh (words_in f)) ≡ true) × (own (entries (behind_fresh (words_in f))) ≡ true)
  unfolding forms_store
  both =
      let a = well_formed (behind_fresh (words_in f)) in
      let b = own (entries (behind_fresh (words_in f))) in
      (and_left a b k.forms, and_right a b k.forms)

  most : length ws ≤ 1048576
  most = leb-true _ _ (and_right (leb 94 (length ws)) (leb (length ws) 1048576) k.right)

pub just_saved : JustSaved
just_saved f ws l bytes q =
    let k = took f ws l q in
    let a = both f ws l bytes k in
    let n = length (behind_fresh (words_in f)) in
    let u : used_words (load_call f ws).words ≡ behind_fresh (words_in f) = rw k.words (used_words_is (words_in f) (length ws - n)) in
    let m : n + (length ws - n) ≤ 1048576 = omega (arith, k.room, most f ws l bytes k) in
    let few : 94 + length (words_in f) < 2 ^ 64 = omega (arith, behind_length (words_in f), k.room, most f ws l bytes k) in
    let s : AreWords (loaded_store (words_in f) (length ws)) = loaded_small (count_in f) (drop (start_in f) f) (length ws - n) (behind (start_in f) f bytes) few in
    let d : later_words (used_words (load_call f ws).words) ≡ words_in f = ap later_words u ∙ later_behind (words_in f) in
    let e : take l f ≡ label_in f = ap (λ (i : ℕ). take i f) k.label in
    record {
      long = rw k.words (omega (arith, length_longer (words_in f) (length ws - n), k.room));
      well = rw k.words (any_length (words_in f) (length ws - n) a.0 m);
      own = rw u (own_is (entries (behind_fresh (words_in f))) a.1);
      small = rw k.words s;
      label = ap length e ∙ label_length f k.trail ∙ sym k.label;
      short = omega (arith, k.label, k.short);
      file = rw e (written_so f k.trail bytes (used_words (load_call f ws).words) d);
    }

-- the ends of a loaded store's Ints are words
pub taken_ends : (f ws : List ℕ) (l : ℕ) → Taken f ws l → Ends (entries (used_words (load_call f ws).words))
taken_ends f ws l k = small_ends (used_words (load_call f ws).words) (below_take (2 ^ 64) (omega arith) (get_or (load_call f ws).words 0 0) (load_call f ws).words k.small)

-- ---- equal files

pub equal_bytes : EqualBytes
equal_bytes ws vs label out other n m same p q = (wrote ws label out n p).file ∙ ap (file_of label) same ∙ sym (wrote vs label other m q).file

pub equal_stores : EqualStores
equal_stores ws vs label other sw sv ow ov short brief e = (
  sym (read_label ws label sw ow short) ∙ ap label_in e ∙ read_label vs other sv ov brief,
  sym (read_store ws label sw ow short) ∙ ap (λ (f : List ℕ). behind_fresh (words_in f)) e ∙ read_store vs other sv ov brief,
)
