-- Every well-formed store without two equal entries is one that calls of makers grow from a fresh one, entry by entry. Assumes nothing.
use mathlib.Core.Path.{◌≡◌, refl, sym, ap, ◌∙◌}
use mathlib.Core.Bool.{Bool, true, false}
use mathlib.Core.List.{List, [], ◌∷◌, ◌++◌}
use Prim.Native.Nat.{ℕ, zero, suc, ◌+◌, ◌-◌, ◌^◌, ◌≤◌, ◌<◌}
use native.Mathlib.Omega.{arith}
use borrow.Author.Tests.{ltb-true, ltb-false, le-leb}
use lib.Dec.{ltb}
use lib.ListN.{length, take, drop, get_or, replicate, length-append, length-drop, length-replicate, take-append-drop}
use lib.Seq.{slice, drop-cons, take_all, length-take-le, length-slice, get_or-take}
use Rattle.words.specs.Columns.{word}
use Rattle.words.specs.Table.{entries, Own}
use Rattle.words.proofs.Alike.{eqs_eq}
use Rattle.words.proofs.Walk.{take_slice}
use Rattle.wellformed.specs.Fresh.{fresh_words}
use Rattle.wellformed.specs.Form.{well_formed, used_count, used_words}
use Rattle.wellformed.proofs.Before.{tests}
use Rattle.wellformed.proofs.Bools.{and_both}
use Rattle.call.proofs.Zeros.{all_zero_is}
use Rattle.call.specs.Call.{Outcome}
use Rattle.makers.specs.Makers.{fresh_store, fresh_call}
use Rattle.kept.proofs.Fresh.{fresh_any}
use Rattle.every_call.specs.Run.{Call, run, typed, all_typed}
use Rattle.catalogue.specs.Catalogue.{load_call}
use Rattle.loaded.proofs.Round.{round, just_saved}
use Rattle.demand3.specs.Demand3.{leaves}
use Rattle.demand3.proofs.Runs.{Store, fresh_store_is, leaves_store}
use Rattle.regrown.specs.Regrown.{is_maker, all_makers, Regrown, RegrownFrom, GrownExactly, TakesJust, Grows}
use Rattle.regrown.proofs.Prefix.{Reached, onward}

-- ---- the fresh store is where it begins

pub fresh_reached : (ws : List ℕ) → well_formed ws ≡ true → Reached ws (fresh_store (length ws))
unfolding fresh_words
fresh_reached ws ok =
    let t = tests ws ok in
    let n = length ws in
    let l : length (slice 1 94 ws) ≤ 93 = omega (arith, length-slice 1 94 ws t.least) in
    let first : slice 1 94 ws ≡ fresh_words = sym (take_all 93 (slice 1 94 ws) l) ∙ take_slice 1 93 94 ws (omega arith) ∙ eqs_eq (take 93 (drop 1 ws)) fresh_words t.fresh in
    record {
      well = fresh_any n t.least t.most;
      long = omega (arith, length-append (94 ∷ fresh_words) (replicate (n - 94) 0), length-replicate {A = ℕ} (n - 94) 0, t.least);
      within = t.enough;
      same = sym first;
    }

-- ---- where all entries are there, it ends

-- a store is its used words, of which the first counts them, and zeros
store_is : (vs : List ℕ) → well_formed vs ≡ true → vs ≡ (used_count vs ∷ drop 1 (used_words vs)) ++ replicate (length vs - used_count vs) 0
store_is vs ok =
    let t = tests vs ok in
    let k = used_count vs in
    let some : 0 < length (take k vs) = omega (arith, length-take-le k vs t.within, t.enough) in
    let first : get_or (take k vs) 0 0 ≡ k = get_or-take k vs 0 0 (omega (arith, t.enough)) in
    let zeros : drop k vs ≡ replicate (length vs - k) 0 = all_zero_is (drop k vs) t.zeros ∙ ap (λ (i : ℕ). replicate i 0) (length-drop k vs) in
    sym (take-append-drop k vs)
    ∙ ap (λ (l : List ℕ). l ++ drop k vs) (drop-cons (take k vs) 0 0 some ∙ ap (λ (x : ℕ). x ∷ drop 1 (take k vs)) first)
    ∙ ap (λ (l : List ℕ). (k ∷ drop 1 (take k vs)) ++ l) zeros

ended : (ws vs : List ℕ) → well_formed ws ≡ true → Reached ws vs → used_count ws ≤ used_count vs → vs ≡ ws
ended ws vs ok r all =
    let q : used_count vs ≡ used_count ws = omega (arith, r.within) in
    cc (store_is vs r.well, store_is ws ok, r.same, r.long, q)

-- ---- entry by entry: k is at least the number of words that are still to come

module _ (ws : List ℕ) (small : (i : ℕ) → word ws i < 2 ^ 64) (ok : well_formed ws ≡ true) (own : Own (entries (used_words ws))) where
  none : (vs : List ℕ) → Reached ws vs → used_count ws ≤ used_count vs → Grows vs ws
  unfolding leaves all_typed all_makers
  none vs r all = ([], refl, refl, ended ws vs ok r all)

  one : (vs : List ℕ) (c : Call) → typed c ≡ true → is_maker c ≡ true → Grows (run c vs).words ws → Grows vs ws
  unfolding leaves all_typed all_makers
  one vs c fits maker g = (c ∷ g.0, and_both (typed c) (all_typed g.0) fits g.1, and_both (is_maker c) (all_makers g.0) maker g.2, g.3)

  grows : (k : ℕ) (vs : List ℕ) → used_count ws ≤ used_count vs + k → Reached ws vs → Grows vs ws
  grows zero vs h r = none vs r (omega arith)
  grows (suc k) vs h r = go (ltb (used_count vs) (used_count ws)) refl (grows k)
    where
      go : (t : Bool) → ltb (used_count vs) (used_count ws) ≡ t → ((xs : List ℕ) → used_count ws ≤ used_count xs + k → Reached ws xs → Grows xs ws) → Grows vs ws
      go true q on =
          let o = onward ws vs ok r (ltb-true (used_count vs) (used_count ws) q) small own in
          one vs o.does o.fits o.maker (on (run o.does vs).words (omega (arith, o.more)) o.reached)
      go false q on = none vs r (ltb-false (used_count vs) (used_count ws) q)

-- ---- the theorem

pub regrown : Regrown
regrown ws words ok own = grows ws words ok own (used_count ws) (fresh_store (length ws)) (omega arith) (fresh_reached ws ok)

pub regrown_from : RegrownFrom
unfolding fresh_call
regrown_from ws vs long words ok own =
    let t = tests ws ok in
    let low : 94 ≤ length vs = omega (arith, t.least) in
    let high : length vs ≤ 1048576 = omega (arith, t.most) in
    rw (le-leb 94 (length vs) low, le-leb (length vs) 1048576 high, long) (regrown ws words ok own)

-- what calls keep, and what makers grow
pub grown_exactly : GrownExactly
grown_exactly ws words = (
  λ g. let s : Store ws = rw g.4 at (leaves_store g.2 g.3 (fresh_call g.0).words (fresh_store_is g.0 g.1)).0 in (s.well, s.own),
  λ k.
      let t = tests ws k.0 in
      let g = regrown_from ws ws refl words k.0 k.1 in
      (ws, rw (le-leb 94 (length ws) t.least, le-leb (length ws) 1048576 t.most), g.0, g.1, g.3),
)

-- the loader's files, and the writer's
pub takes_just : TakesJust
takes_just f ws bytes right = (
  λ t.
      let k = just_saved f ws t.0 bytes t.1 in
      let vs = (load_call f ws).words in
      (vs, take t.0 f, k.small, (grown_exactly vs k.small).1 (k.well, k.own), omega (arith, k.label, k.short), omega (arith, (tests vs k.well).within, k.long), sym k.file),
  λ w.
      let s = (grown_exactly w.0 w.2).0 w.3 in
      (length w.1, rw w.6 (ap (λ (o : Outcome). o.reply) (round w.0 w.1 w.2 s.0 w.4 s.1 ws right w.5))),
)
