-- What the parts of `meet_list` require and leave: the store is open again at the end. Assumes nothing.
use mathlib.Core.Path.{◌≡◌, refl, sym, ap, ◌∙◌}
use mathlib.Core.Bool.{true}
use mathlib.Core.List.{List, []}
use Prim.Native.Nat.{ℕ, ◌-◌, ◌≤◌, ◌<◌}
use native.Mathlib.Omega.{arith}
use lib.ListN.{length, take, drop, get_or, set, length-set}
use lib.Seq.{take-take}
use Rattle.words.specs.Words.{fills}
use Rattle.words.specs.Ran.{Runs}
use Rattle.std.specs.Prelude.{Option, Some, None}
use Rattle.words.specs.Ran.{interned}
use Rattle.words.specs.declared.Interned.{Interned}
use Rattle.wellformed.specs.Form.{well_formed, used_words}
use Rattle.wellformed.proofs.Before.{tests}
use Rattle.index.specs.Covers.{indexed_to, Opened}
use Rattle.std.proofs.Common.{Result, Ok}
use Rattle.call.specs.declared.Refusal.{Refusal}
use Rattle.call.specs.Call.{Outcome, handle, refused, left, made}
use Rattle.call.specs.Steps.{finish_in}
use Rattle.call.proofs.Ways.{begun, ended}
use Rattle.later.proofs.Keeps.{later_set}
use Rattle.lent_memory.specs.Memory.{Right, RightThen}
use Rattle.lent_memory.proofs.Laws.{right_later}
use Rattle.making.proofs.Kept.{used_then}
use Rattle.every_call.specs.Cleared.{Cleared}
use Rattle.every_call.proofs.Cleared.{whole}
use Rattle.every_call.specs.MeetList.{meet_list_rows, meet_list_of}
use Rattle.every_call.proofs.MeetList.{merge_grows}
use Rattle.every_call.specs.Run.{meet_list, run}
use Rattle.store_index.specs.StoreIndex.{marks_size, index_size, chains_of}
use Rattle.store_index.specs.Steps.{Stale, Unmarked}
use Rattle.store_index.proofs.Index.{used_long, tail_all, back, back_long, back_front, back_rest}
use Rattle.store_index.proofs.Store.{used_is, used_low}
use Rattle.opened.specs.OpenStore.{OpenStore}
use Rattle.opened.proofs.Index.{all_in, covers_later}
use Rattle.opened.proofs.Store.{after_well, after_stale}
use Rattle.words.proofs.Room.{same_interned}
use Rattle.opened_lists.specs.Then.{OpenedThen}

-- ---- a call on an opened store that no row turns back

module _ (ws index memory types : List ℕ) (o : OpenStore ws index memory) (q : meet_list_rows types (take (get_or ws 0 0) ws) ≡ 0) (k : ℕ) (is : k ≡ marks_size (length ws)) where
  abbrev used : ℕ
  used = get_or ws 0 0

  pub list_ready : Cleared (meet_list_rows types) [] ws used
  list_ready = whole (meet_list_rows types) ws used (begun ws used (used_is ws o.well)) q

  pub lent_opened : Opened (take used ws) (take (length index - k) (drop k index))
  lent_opened = rw (tail_all k index, is) o.whole.chains

  pub k_fits : k ≤ length index
  k_fits = omega (arith, is, o.whole.room)

  -- what the merge left, and the end
  module _ (ws₁ : List ℕ) (r : Option Interned) (ran : Runs (meet_list_of types) [] ws used ws₁ r) (same : length ws₁ ≡ length ws) (m : Result ℕ Refusal) (ws₂ : List ℕ) (e : left (made m) ws₂ ≡ finish_in used r ws₁) (long : length ws₂ ≡ length ws₁)
      (d : List ℕ) (lent : length d ≡ length (take (length index - k) (drop k index))) where
    list_ended : left (made m) ws₂ ≡ run (meet_list types) ws
    list_ended = ended (meet_list_rows types) (meet_list_of types) ws used (used_is ws o.well) q ws₁ r same ran (left (made m) ws₂) e

    list_well : well_formed ws₂ ≡ true
    list_well = after_well ws ws₂ (meet_list types) refl o.well (made m) list_ended

    list_room : index_size (length ws₂) ≤ length (back k index d k_fits lent)
    list_room = omega (arith, o.whole.room, back_long k index d k_fits lent, long, same)

    stale : Stale ws₂ index
    stale = after_stale ws ws₂ (meet_list types) refl o.well (made m) list_ended index (long ∙ same) o.whole

    -- the bits have the entries that were there
    marked_to : indexed_to (chains_of ws₂ index) ≡ used
    marked_to = rw (long ∙ same) (all_in ws index o.well o.whole ∙ used_long ws o.well)

    -- an answer that fitted
    record Set (h v : ℕ) : Type 0 where
      at : r ≡ interned h v
      words : used_words ws₂ ≡ set (take v ws₁) 0 v

    settled : (h : ℕ) → m ≡ Ok h → (v : ℕ) × Set h v
    unfolding finish_in
    settled h f = go r refl
      where
        go : (s : Option Interned) → r ≡ s → (v : ℕ) × Set h v
        go (Some s) a =
            let g = s.handle in
            let v = s.used in
            let e₁ : left (handle h) ws₂ ≡ left (handle g) (set ws₁ 0 v) = rw (f, a) at e in
            let y : handle h ≡ handle g = ap (λ (y : Outcome). y.reply) e₁ in
            let hg : h ≡ g = cc in
            let some : 0 < length ws₁ = omega (arith, same, (tests ws o.well).least) in
            let q = used_then ws ws₁ ws₂ used r (meet_list_of types (take used ws)) m (used_low ws o.well) (tests ws o.well).within some (merge_grows 6 types (take used ws)) ran e g v a in
            (v, record { at = rw hg a; words = q })
        go None a =
            let e₁ : left (handle h) ws₂ ≡ finish_in used None ws₁ = rw (f, a) at e in
            let y : handle h ≡ refused 12 = ap (λ (y : Outcome). y.reply) e₁ in
            let z : ◌≡◌ {A = ℕ} 0 1 = cc in
            absurd (omega arith)

    -- what marking the new entries requires, and the memory then
    module _ (h : ℕ) (f : m ≡ Ok h) where
      abbrev v : ℕ
      v = (settled h f).0

      set_is : Set h v
      set_is = (settled h f).1

      list_unmarked : OpenedThen ws₁ r d → Unmarked ws₂ used (back k index d k_fits lent)
      list_unmarked opened =
          let n = marked_to in
          let K : marks_size (length ws₂) ≡ k = rw (long ∙ same) (sym is) in
          let w : length (used_words ws₂) ≡ get_or ws₂ 0 0 = used_long ws₂ list_well in
          let high : used ≤ get_or ws₂ 0 0 = omega (arith, n, w, stale.covers.high) in
          let cut : fills 0 (drop 1 (take used (used_words ws₂))) ≡ true = rw n at stale.covers.cut in
          let op = opened.is h v set_is.at in
          record {
            room = list_room;
            low = used_low ws o.well;
            high = high;
            cut = rw (take-take used (get_or ws₂ 0 0) ws₂ high) at cut;
            marks = rw (K, back_front k index d k_fits lent) (rw (n, K) at stale.marks);
            chains = rw (K, back_rest k index d k_fits lent, set_is.words) (record { covers = covers_later (take v ws₁) (set (take v ws₁) 0 v) d (later_set (take v ws₁) v) op.covers; all = λ room. rw (length-set (take v ws₁) 0 v) (op.all (rw (length-set (take v ws₁) 0 v) at room)) });
          }

      list_right : (memory₁ : List ℕ) → RightThen [] ws₁ r memory₁ → Right (used_words ws₂) memory₁
      list_right memory₁ right = rw set_is.words (right_later (later_set (take v ws₁) v) (right.is h v set_is.at))

    -- all of it
    pub record Ended : Type 0 where
      pub reply : left (made m) ws₂ ≡ run (meet_list types) ws
      pub well : well_formed ws₂ ≡ true
      pub room : index_size (length ws₂) ≤ length (back k index d k_fits lent)
      pub unmarked : (h : ℕ) → m ≡ Ok h → OpenedThen ws₁ r d → Unmarked ws₂ used (back k index d k_fits lent)
      pub right : (h : ℕ) → m ≡ Ok h → (memory₁ : List ℕ) → RightThen [] ws₁ r memory₁ → Right (used_words ws₂) memory₁

    pub list_end : Ended
    list_end = record { reply = list_ended; well = list_well; room = list_room; unmarked = list_unmarked; right = list_right }

-- ---- the chains on the way

-- nothing is promised where the store was full
pub opened_full : {ws' chains : List ℕ} → OpenedThen ws' None chains
opened_full = record { is = λ h v e. let z : ◌≡◌ {A = ℕ} 0 1 = cc in absurd (omega arith) }

pub opened_now : {ws chains : List ℕ} {t v : ℕ} → Opened (take v ws) chains → OpenedThen ws (interned t v) chains
opened_now {v = v} x = record { is = λ h w e. rw (← (same_interned e).1) x }
