-- non_zero only appends; on good used words its answer is a type at most 32 deep, new where anything was added; and it keeps what calls keep. Assumes nothing.
use mathlib.Core.Path.{◌≡◌, refl, sym, ap, ◌∙◌}
use mathlib.Core.Bool.{Bool, true, false, cond}
use mathlib.Core.Logic.{inl}
use mathlib.Core.List.{List, [], ◌∷◌, ◌++◌}
use Prim.Native.Nat.{ℕ, suc, ◌+◌, ◌^◌, ◌<◌}
use native.Mathlib.Omega.{arith}
use borrow.Author.Tests.{eqb-true}
use lib.Dec.{eqb}
use lib.ListN.{length, drop, take-append-drop}
use Rattle.words.specs.Words.{words_after, size_of}
use Rattle.words.specs.Table.{rows, entries, starts, is_at}
use Rattle.words.specs.Made.{make, there}
use Rattle.words.specs.Columns.{word, kind_on, min_on, max_on}
use Rattle.words.proofs.Extend.{Extends, ext_same}
use Rattle.words.proofs.Placed.{make_extends}
use Rattle.wellformed.specs.Fresh.{fresh_words}
use Rattle.wellformed.specs.Form.{well_formed, used_words}
use Rattle.call.specs.Call.{call}
use Rattle.call.specs.Handles.{types_rows}
use Rattle.call.specs.Keep.{Ends, Keeps}
use Rattle.call.proofs.Keep.{call_keeps}
use Rattle.call.proofs.Sound.{adds_none}
use Rattle.type_integer.specs.Signed.{less, larger}
use Rattle.makers.specs.Entries.{int_entry}
use Rattle.kept.proofs.Fits.{int_fits}
use Rattle.parts.specs.Parts.{Good, Part}
use Rattle.parts.proofs.Parts.{of_int}
use Rattle.parts.proofs.Good.{well_good, fresh_word, part_below, Answers, old_answers, make_answers}
use Rattle.rules.specs.Column.{◌⇒◌∣◌}
use Rattle.walk_rules.specs.declared.Walk.TheVariants.{Glb}
use Rattle.walk.specs.Walk.{walk_of}
use Rattle.walk.proofs.Grows.{walk_grows}
use Rattle.walk.proofs.Nice.{walk_nice}
use Rattle.every_call.specs.NonZero.{minus_one, non_zero_int, non_zero_of}
use Rattle.every_call.proofs.Parts.{one_part}

-- ---- it only appends

int_grows : (t min max : ℕ) (u : List ℕ) → Extends u (non_zero_int t min max u).words
int_grows t min max u = go (less max min) (eqb min 0) (eqb max 0)
  where
    go : (high low end : Bool) → Extends u (high ⇒ there u t ∣ low ⇒ make u (int_entry 1 (larger max 1)) ∣ end ⇒ make u (int_entry min minus_one) ∣ there u t).words
    go true low end = ext_same u
    go false true end = make_extends u _
    go false false true = make_extends u _
    go false false false = ext_same u

pub non_zero_grows : (u : List ℕ) (a : ℕ) → Extends u (non_zero_of u a).words
unfolding non_zero_of
non_zero_grows u a = go (eqb (kind_on u a) 5) (eqb (kind_on u a) 10)
  where
    go : (int pointer : Bool) → Extends u (int ⇒ non_zero_int a (min_on u a) (max_on u a) u ∣ pointer ⇒ there u 91 ∣ walk_of Glb u a).words
    go true pointer = int_grows a (min_on u a) (max_on u a) u
    go false true = ext_same u
    go false false = walk_grows Glb (suc a) u a

-- ---- "void", a fresh type

module _ {u : List ℕ} (g : Good u) where
  fresh_split : drop 1 u ≡ fresh_words ++ drop 93 (drop 1 u)
  fresh_split = sym (take-append-drop 93 (drop 1 u)) ∙ ap (λ (l : List ℕ). l ++ drop 93 (drop 1 u)) g.fresh

  void_starts : starts u 91 ≡ true
  unfolding entries rows is_at size_of words_after fresh_words
  void_starts = void_in (drop 1 u) (drop 93 (drop 1 u)) fresh_split
    where
      void_in : (l rest : List ℕ) → l ≡ fresh_words ++ rest → is_at (rows 1 0 l) 91 ≡ true
      void_in l rest e = rw e refl

  pub pointer_void_part : (d : ℕ) → 2 < d → Part u 94 d 1 11 91
  unfolding fresh_words
  pointer_void_part d deep =
      let e : word u 91 ≡ 522 = fresh_word g 91 (omega arith) (omega arith) in
      record { entry = void_starts; earlier = omega arith; least = rw e (omega arith); most = rw e (omega arith); shallow = rw e (omega (arith, deep)) }

-- ---- on good used words

module _ (u : List ℕ) (a : ℕ) (g : Good u) (p : Part u (length u) 33 1 11 a) where
  -- an Int, of ends that are 64-bit words where those of the store are
  made_int : (min max : ℕ) → (Ends (entries u) → (min < 2 ^ 64) × (max < 2 ^ 64)) → Answers u 33 1 11 (make u (int_entry min max))
  made_int min max small = make_answers 33 1 11 (adds_none u 0 g.sound) g (int_entry min max) (int_fits u min max small) (inl refl) (omega arith) (omega arith) (omega arith)

  larger_small : (max : ℕ) → max < 2 ^ 64 → larger max 1 < 2 ^ 64
  larger_small max small = go (less max 1)
    where
      go : (t : Bool) → cond t 1 max < 2 ^ 64
      go true = omega arith
      go false = small

  int_answers : kind_on u a ≡ 5 → Answers u 33 1 11 (non_zero_int a (min_on u a) (max_on u a) u)
  int_answers q = go (less max min) (eqb min 0) (eqb max 0)
    where
      min : ℕ
      min = min_on u a

      max : ℕ
      max = max_on u a

      go : (high low end : Bool) → Answers u 33 1 11 (high ⇒ there u a ∣ low ⇒ make u (int_entry 1 (larger max 1)) ∣ end ⇒ make u (int_entry min minus_one) ∣ there u a)
      go true low end = old_answers g p
      go false true end = made_int 1 (larger max 1) (λ ends. (omega arith, larger_small max (of_int g.sound p q ends).1))
      go false false true = made_int min minus_one (λ ends. ((of_int g.sound p q ends).0, omega arith))
      go false false false = old_answers g p

  answers : Answers u 33 1 11 (non_zero_of u a)
  unfolding non_zero_of
  answers = go (eqb (kind_on u a) 5) refl (eqb (kind_on u a) 10)
    where
      go : (int : Bool) → eqb (kind_on u a) 5 ≡ int → (pointer : Bool) → Answers u 33 1 11 (int ⇒ non_zero_int a (min_on u a) (max_on u a) u ∣ pointer ⇒ there u 91 ∣ walk_of Glb u a)
      go true e pointer = int_answers (eqb-true (kind_on u a) 5 e)
      go false e true = old_answers g (pointer_void_part g 33 (omega arith))
      go false e false = (walk_nice Glb (suc a)).types u a 33 g (part_below (suc a) (omega arith) p)

pub non_zero_answers : (u : List ℕ) (a : ℕ) → Good u → types_rows (a ∷ []) u ≡ 0 → Answers u 33 1 11 (non_zero_of u a)
non_zero_answers u a g q = answers u a g (one_part a u g q)

pub non_zero_keeps : (a : ℕ) (ws : List ℕ) → well_formed ws ≡ true → Keeps ws (call (types_rows (a ∷ [])) (λ u. non_zero_of u a) ws)
non_zero_keeps a ws ok = call_keeps (types_rows (a ∷ [])) (λ u. non_zero_of u a) ws ok (λ s q. (non_zero_answers (used_words ws) a (well_good ws ok) q).adds)
