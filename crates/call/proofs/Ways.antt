-- The ways that every call goes: no store, a row that turns it back, and the operation with its end. Assumes nothing.
use mathlib.Core.Path.{◌≡◌, refl, sym, ap, ◌∙◌}
use mathlib.Core.Bool.{Bool, true, false, not, cond}
use mathlib.Core.List.{List, [], append-nil}
use Prim.Native.Nat.{ℕ, zero, suc, ◌-◌, ◌≤◌, ◌<◌}
use native.Mathlib.Omega.{arith}
use borrow.Author.Tests.{lt-ltb, le-ltb, not-true, not-false}
use lib.Dec.{ltb}
use lib.ListN.{length, take, drop, get_or, set, replicate, length-drop, take-append-drop, drop_of_length-le}
use lib.Seq.{take_all, length-take-le}
use borrow.Rule.Slice.PartMut.{put_mid}
use Rattle.words.specs.Made.{Grown}
use Rattle.words.specs.Ran.{Segments, Ran}
use Rattle.std.specs.Prelude.{Option, Some, None}
use Rattle.words.specs.declared.Interned.{Interned}
use Rattle.words.proofs.Room.{fitted, overflowed}
use Rattle.index.specs.Covers.{Covers}
use Rattle.index.proofs.Keep.{covers_none}
use Rattle.wellformed.specs.Form.{well_formed, used_words}
use Rattle.wellformed.specs.Scan.{Verified}
use Rattle.wellformed.proofs.Before.{tests, well_segments}
use Rattle.std.proofs.Common.{Result, Ok, Err}
use Rattle.std.specs.Result.{IsErrAnd}
use Rattle.call.specs.declared.Answer.{Answer}
use Rattle.call.specs.declared.Refusal.{Refusal}
use Rattle.call.specs.declared.Refusal.TheVariants.{NoStore, NoRoom}
use Rattle.call.specs.Refusals.{number_of, row_of}
use Rattle.call.specs.Call.{Reply, refused, Outcome, left, made, answered, told, ◌when◌, settle, call, ask}
use Rattle.call.specs.Steps.{row_1, Beginning, finish_in}
use Rattle.call.proofs.Refusals.{numbered, row_turned, handed_up}
use Rattle.call.proofs.Zeros.{all_zero_is}

-- ---- the end

module _ (used : ℕ) (ws : List ℕ) (r : Option Interned) where
  pub fin_at : (m : Interned) → r ≡ Some m → left (made (Ok m.handle)) (set ws 0 m.used) ≡ finish_in used r ws
  unfolding finish_in
  fin_at m is = rw is

  pub fin_full : r ≡ None → (d : List ℕ) → d ≡ replicate (length (take (length ws - used) (drop used ws))) 0 → left (made (Err NoRoom)) (put_mid used (length ws - used) ws d) ≡ finish_in used r ws
  unfolding finish_in
  fin_full is d e =
      let h : length (drop used ws) ≤ length ws - used = omega (arith, length-drop used ws) in
      rw (is, e, take_all (length ws - used) (drop used ws) h, length-drop used ws, drop_of_length-le (drop used ws) h, append-nil)

-- ---- the beginning

module _ (ws : List ℕ) where
  row_none : well_formed ws ≡ false → row_1 ws ≡ Err NoStore
  unfolding row_1
  row_none e = rw e

  row_some : well_formed ws ≡ true → row_1 ws ≡ Ok (get_or ws 0 0)
  unfolding row_1
  row_some e = rw e

  pub row_passed : well_formed ws ≡ true → Ok (get_or ws 0 0) ≡ row_1 ws
  row_passed e = sym (row_some e)

  -- word 0 may be read
  pub first_word : (t : Bool) → t ≡ well_formed ws → not t ≡ false → 0 < length ws
  first_word t is y = omega (arith, (tests ws (sym is ∙ not-false t y)).least)

  pub no_opening : (bits : List ℕ) (t : Bool) → Verified ws bits t → not t ≡ true → Beginning ws bits (Err NoStore)
  no_opening bits t o n = record { is = sym (row_none (sym o.is ∙ not-true t n)); ready = λ used z. absurd (cc) }

  pub an_opening : (bits : List ℕ) (t : Bool) → Verified ws bits t → not t ≡ false → Beginning ws bits (Ok (get_or ws 0 0))
  an_opening bits t o y = record {
    is = sym (row_some (sym o.is ∙ not-false t y));
    ready = λ used z.
        let e : get_or ws 0 0 ≡ used = cc in
        rw (← e) (record { within = (tests ws (sym o.is ∙ not-false t y)).within; marks = o.marks (not-false t y) });
  }

-- ---- what is known past row 1

pub record Begun (ws : List ℕ) (used : ℕ) : Type 0 where
  pub ok : well_formed ws ≡ true
  pub is : used ≡ get_or ws 0 0
  pub low : 0 < used
  pub some : 0 < length ws
  pub within : used ≤ length ws
  pub segments : Segments [] ws used
  -- without an index
  pub covers : Covers (take used ws) []

pub begun : (ws : List ℕ) (used : ℕ) → Ok used ≡ row_1 ws → Begun ws used
unfolding row_1
begun ws used is = go (well_formed ws) refl is
  where
    go : (t : Bool) → well_formed ws ≡ t → Ok used ≡ cond t (Ok (get_or ws 0 0)) (Err NoStore) → Begun ws used
    go false e q = absurd (cc)
    go true e q =
        let t = tests ws e in
        let n : used ≡ get_or ws 0 0 = cc in
        record { ok = e; is = n; low = omega (arith, t.enough); some = omega (arith, t.least); within = omega (arith, t.within); segments = rw n (well_segments ws e); covers = covers_none (take used ws) [] (omega (arith, length-take-le used ws (omega (arith, t.within)), t.enough)) refl }

-- ---- the ways of a call that makes entries

module _ (rows : List ℕ → ℕ) (op : List ℕ → Grown) (ws : List ℕ) where
  pub no_store : (r s : Result ℕ Refusal) (e : Refusal) → r ≡ row_1 ws → r ≡ Err e → IsErrAnd s (λ x. x ≡ e) → left (made s) ws ≡ call rows op ws
  unfolding call row_1
  no_store r s e is q h = rw (handed_up s e h) (go (well_formed ws) refl (sym q ∙ is))
    where
      go : (t : Bool) → well_formed ws ≡ t → Err e ≡ cond t (Ok (get_or ws 0 0)) (Err NoStore) → left (refused (number_of e)) ws ≡ call rows op ws
      go false w q = let n : e ≡ NoStore = cc in rw (w, n)
      go true w q = absurd (cc)

  module _ (used : ℕ) (is : Ok used ≡ row_1 ws) where
    begin_call : Begun ws used
    begin_call = begun ws used is

    pub turned : {T : Type 0} (r : Result T Refusal) (s : Result ℕ Refusal) (e : Refusal) → row_of r ≡ rows (take used ws) → r ≡ Err e → IsErrAnd s (λ x. x ≡ e) → left (made s) ws ≡ call rows op ws
    unfolding call
    turned r s e q is' h =
        let n : rows (used_words ws) ≡ number_of e = rw begin_call.is at (row_turned r e _ is' q) in
        rw (handed_up s e h) (rw (begin_call.ok, n, numbered e))

    -- The same of a row that has any number.
    pub turned_by : (n : ℕ) → n ≡ rows (take used ws) → (n ≡ 0 → ⊥) → left (refused n) ws ≡ call rows op ws
    unfolding call
    turned_by zero q z = absurd (z refl)
    turned_by (suc n) q z = let r : rows (used_words ws) ≡ suc n = rw begin_call.is at (sym q) in rw (begin_call.ok, r)

    passed : rows (used_words ws) ≡ 0 → call rows op ws ≡ settle (12 when ltb (length ws) (length (op (used_words ws)).words)) (op (used_words ws)) ws
    unfolding call
    passed q = rw (begin_call.ok, q)

    pub ended : rows (take used ws) ≡ 0 → (ws₁ : List ℕ) (r : Option Interned) → length ws₁ ≡ length ws
        → Ran used (op (take used ws)) ws ws₁ r → (o : Outcome) → o ≡ finish_in used r ws₁ → o ≡ call rows op ws
    unfolding finish_in
    ended q ws₁ r len ran o e = go r refl
      where
        g : Grown
        g = op (take used ws)

        same : op (used_words ws) ≡ op (take used ws)
        same = rw begin_call.is

        q' : rows (used_words ws) ≡ 0
        q' = rw begin_call.is at q

        go : (s : Option Interned) → r ≡ s → o ≡ call rows op ws
        go (Some s) k =
            let h = s.handle in
            let end = s.used in
            let f = fitted used g ws ws₁ r ran h end k in
            e ∙ rw (k, passed q', same, le-ltb (length ws) (length g.words) f.room, f.handle, f.end, f.words)
        go None k =
            let more = overflowed used g ws ws₁ r ran k in
            let t = tests ws begin_call.ok in
            let zero : drop used ws ≡ drop (get_or ws 0 0) ws = rw begin_call.is in
            let back : replicate (length ws - used) 0 ≡ drop used ws = sym (rw zero (all_zero_is (drop (get_or ws 0 0) ws) t.zeros) ∙ ap (λ (n : ℕ). replicate n 0) (sym (ap length zero) ∙ length-drop used ws)) in
            e ∙ rw (k, passed q', same, lt-ltb (length ws) (length g.words) more, len, ran.full more, back, take-append-drop used ws)

-- ---- the ways of a call that only reads

module _ (rows : List ℕ → ℕ) (answer : List ℕ → Reply) (ws : List ℕ) where
  pub unread : (r : Result ℕ Refusal) (s : Result Answer Refusal) (e : Refusal) → r ≡ row_1 ws → r ≡ Err e → IsErrAnd s (λ x. x ≡ e) → left (told s) ws ≡ ask rows answer ws
  unfolding ask row_1
  unread r s e is q h = rw (handed_up s e h) (go (well_formed ws) refl (sym q ∙ is))
    where
      go : (t : Bool) → well_formed ws ≡ t → Err e ≡ cond t (Ok (get_or ws 0 0)) (Err NoStore) → left (refused (number_of e)) ws ≡ ask rows answer ws
      go false w q = let n : e ≡ NoStore = cc in rw (w, n)
      go true w q = absurd (cc)

  module _ (used : ℕ) (is : Ok used ≡ row_1 ws) where
    begin_read : Begun ws used
    begin_read = begun ws used is

    pub read_back : {T : Type 0} (r : Result T Refusal) (s : Result Answer Refusal) (e : Refusal) → row_of r ≡ rows (take used ws) → r ≡ Err e → IsErrAnd s (λ x. x ≡ e) → left (told s) ws ≡ ask rows answer ws
    unfolding ask
    read_back r s e q is' h =
        let n : rows (used_words ws) ≡ number_of e = rw begin_read.is at (row_turned r e _ is' q) in
        rw (handed_up s e h) (rw (begin_read.ok, n, numbered e))

    -- The same of a row that has any number.
    pub read_back_by : (n : ℕ) → n ≡ rows (take used ws) → (n ≡ 0 → ⊥) → left (refused n) ws ≡ ask rows answer ws
    unfolding ask
    read_back_by zero q z = absurd (z refl)
    read_back_by (suc n) q z = let n₁ : rows (used_words ws) ≡ suc n = rw begin_read.is at (sym q) in rw (begin_read.ok, n₁)

    -- Whatever reply the definition gives.
    pub answered_by : rows (take used ws) ≡ 0 → (a : Reply) → a ≡ answer (take used ws) → left a ws ≡ ask rows answer ws
    unfolding ask
    answered_by q a e =
        let q' : rows (used_words ws) ≡ 0 = rw begin_read.is at q in
        let a₁ : answer (used_words ws) ≡ a = rw begin_read.is at (sym e) in
        rw (begin_read.ok, q', a₁)

    -- The same of an answer that the code gives.
    pub answered_so : rows (take used ws) ≡ 0 → (a : Answer) → answered a ≡ answer (take used ws) → left (told (Ok a)) ws ≡ ask rows answer ws
    unfolding ask
    answered_so q a e =
        let q' : rows (used_words ws) ≡ 0 = rw begin_read.is at q in
        let a₁ : answer (used_words ws) ≡ answered a = rw begin_read.is at (sym e) in
        rw (begin_read.ok, q', a₁)
