-- The two halves of join's memory: what each holds when one of them was lent and came back. Assumes nothing.
use mathlib.Core.Path.{◌≡◌, refl, sym, ◌∙◌}
use mathlib.Core.List.{List, [], ◌∷◌, ◌++◌}
use Prim.Native.Nat.{ℕ, zero, suc, ◌+◌, ◌*◌, ◌-◌, ◌/◌}
use native.Mathlib.Omega.{arith}
use lib.ListN.{length, take, drop, get_or, length-drop}
use lib.Seq.{length-take-le, length_front, take_at, drop_at, get_or-drop}
use borrow.Rule.Slice.PartMut.{put_mid, same_len_mid}
use Rattle.std.specs.Prelude.{Option, None}
use Rattle.words.specs.Ran.{interned}
use Rattle.words.specs.declared.Interned.{Interned}
use Rattle.memo.proofs.Lines.{lines_none}
use Rattle.later.specs.Later.{Later}
use Rattle.later.proofs.Right.{lines_later}
use Rattle.walk_rules.specs.declared.Walk.TheVariants.{Dual}
use Rattle.walk.specs.Remembered.{Remembers as RemembersWalks, Remembered as RememberedWalks}
use Rattle.walk.proofs.Recall.{settled_stays}
use Rattle.later.specs.Right.{RightAfter}
use Rattle.meet_types.specs.Remembered.{Remembers as RemembersMeets, Settled as SettledMeet}
use Rattle.meet_types.proofs.Recall.{settled_stays as meets-stay}
use Rattle.words.proofs.Room.{same_interned}
use Rattle.join.specs.Memory.{Remembers, Remembered}

-- k is half the length of the memory m
module _ (m : List ℕ) (k : ℕ) (half : k ≡ length m / 2) where
  -- each half, as it is lent
  pub lent_duals : {u : List ℕ} → Remembers u m → RemembersWalks Dual u (take k m)
  lent_duals r = rw half r.duals

  pub half_meets : {u : List ℕ} → Remembers u m → RemembersMeets u (take k (drop k m))
  half_meets r = rw half r.meets

  pub lent_meets : {u : List ℕ} → Remembers u m → RemembersMeets u (take (2 * k - k) (drop k m))
  lent_meets r = let n : 2 * k - k ≡ k = omega arith in rw n (half_meets r)

  pub duals_long : k ≡ length (take k m)
  duals_long = sym (length-take-le k m (omega (arith, half)))

  -- d came back in the place of the first half
  module _ (d : List ℕ) (same : length d ≡ length (take k m)) where
    duals_length : length (d ++ drop k m) ≡ length m
    duals_length = length_front m d k same

    duals_part : length d ≡ k
    duals_part = same ∙ sym duals_long

    pub duals_back : {u : List ℕ} → RemembersWalks Dual u d → RemembersMeets u (take k (drop k m)) → Remembers u (d ++ drop k m)
    duals_back ds ms = record {
      duals = rw (duals_length, sym half, take_at d (drop k m) k duals_part) ds;
      meets = rw (duals_length, sym half, drop_at d (drop k m) k duals_part) ms;
    }

    pub duals_left : {old new' : List ℕ} {r : Option Interned} → RememberedWalks Dual old new' r d → RightAfter SettledMeet old new' r (take k (drop k m)) → Remembered old new' r (d ++ drop k m)
    duals_left ds ms = record { is = λ h v e. duals_back (ds.is h v e) (ms.is h v e) }

  -- d came back in the place of the second half
  module _ (d : List ℕ) (same : length d ≡ length (take (2 * k - k) (drop k m))) where
    pub meets_length : length (put_mid k (2 * k - k) m d) ≡ length m
    meets_length = same_len_mid k (2 * k - k) m d same

    meets_part : length d ≡ k
    meets_part = omega (arith, half, same, length-drop k m, length-take-le (2 * k - k) (drop k m) (omega (arith, half, length-drop k m)))

    meets_before : length (take k m) ≡ k
    meets_before = sym duals_long

    pub meets_back : {u : List ℕ} → RemembersWalks Dual u (take k m) → RemembersMeets u d → Remembers u (put_mid k (2 * k - k) m d)
    meets_back ds ms =
        let rest = drop (2 * k - k) (drop k m) in
        record {
          duals = rw (meets_length, sym half, take_at (take k m) (d ++ rest) k meets_before) ds;
          meets = rw (meets_length, sym half, drop_at (take k m) (d ++ rest) k meets_before, take_at d rest k meets_part) ms;
        }

-- a blank memory
take_zeros : (k : ℕ) (l : List ℕ) → ((i : ℕ) → get_or l i 0 ≡ 0) → (i : ℕ) → get_or (take k l) i 0 ≡ 0
take_zeros zero l z i = refl
take_zeros (suc k) [] z i = refl
take_zeros (suc k) (x ∷ l) z zero = z 0
take_zeros (suc k) (x ∷ l) z (suc i) = take_zeros k l (λ j. z (suc j)) i

pub remembers_none : (u m : List ℕ) → ((i : ℕ) → get_or m i 0 ≡ 0) → Remembers u m
remembers_none u m z =
    let k = length m / 2 in
    record {
      duals = lines_none (take_zeros k m z);
      meets = lines_none (take_zeros k (drop k m) (λ i. get_or-drop k m i 0 ∙ z (k + i)));
    }

-- a memory that was not touched stays right
pub remembers_later : {u v memory : List ℕ} → Later u v → Remembers u memory → Remembers v memory
remembers_later x r = record { duals = lines_later (settled_stays Dual) x r.duals; meets = lines_later meets-stay x r.meets }

-- nothing was appended
pub remembered_same : {old new memory : List ℕ} {used h : ℕ} → Remembers (take used (old ++ new)) memory → Remembered old new (interned h used) memory
remembered_same {used = used} m = record { is = λ k v e. rw (← (same_interned e).1) m }

-- nothing is promised where the store was full
pub remembered_full : {old new' memory : List ℕ} → Remembered old new' None memory
remembered_full = record { is = λ h v e. let z : ◌≡◌ {A = ℕ} 0 1 = cc in absurd (omega arith) }
