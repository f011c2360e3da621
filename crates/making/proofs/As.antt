-- A call that is known to be one of the values, and `run` of each: its rows, then its operation. Assumes nothing.
use Rattle.std.proofs.Common.{◌≡◌, ℕ, suc, ◌^◌, ◌<◌, true, ◌&&◌, List, [], ◌∷◌, get_or, refl, lt-ltb}
use Rattle.words.specs.Ran.{Ran}
use Rattle.std.specs.Prelude.{Option}
use Rattle.words.specs.declared.Interned.{Interned}
use Rattle.call.specs.Call.{call}
use Rattle.walk_rules.specs.declared.Walk.{Walk}
use Rattle.walk_rules.specs.declared.Walk.TheVariants.{Dual, Glb, Lub}
use Rattle.wellformed.specs.Entry.{all}
use Rattle.every_call.specs.Run.{run, is_word, are_bytes, typed}
use Rattle.making.specs.declared.Making.{Making}
use Rattle.making.specs.declared.Making.TheVariants as Making-variants
use Rattle.making.specs.Making.{walked, appended, rows_of, op_of}
use Rattle.every_call.specs.Cleared.{Cleared}

pub appended_is : (m : Making) (list text ws : List ℕ) → run (appended m list text) ws ≡ call (rows_of m list text) (op_of m list text) ws
appended_is (Making-variants.MakeInt min max) list text ws = refl
appended_is (Making-variants.MakeFloat sz bits) list text ws = refl
appended_is Making-variants.GetStr list text ws = refl
appended_is Making-variants.GetTuple list text ws = refl
appended_is (Making-variants.GetStruct name) list text ws = refl
appended_is (Making-variants.MakeAry len la body ba) list text ws = refl
appended_is (Making-variants.MakeStructFref name) list text ws = refl
appended_is (Making-variants.GetMemPtr to nil) list text ws = refl
appended_is (Making-variants.GetMem alias t) list text ws = refl
appended_is (Making-variants.Meet a b) list text ws = refl
appended_is Making-variants.MeetList list text ws = refl
appended_is (Making-variants.Join a b) list text ws = refl
appended_is (Making-variants.Walk Dual a) list text ws = refl
appended_is (Making-variants.Walk Glb a) list text ws = refl
appended_is (Making-variants.Walk Lub a) list text ws = refl
appended_is (Making-variants.MakeRo a) list text ws = refl
appended_is (Making-variants.NonZero a) list text ws = refl

module _ {m n : Making} (is : m ≡ n) (list text : List ℕ) where
  pub as_rows : (u : List ℕ) {x : ℕ} → x ≡ rows_of n list text u → x ≡ rows_of m list text u
  as_rows u q = rw is q

  pub as_cleared : {old new : List ℕ} {used : ℕ} → Cleared (rows_of m list text) old new used → Cleared (rows_of n list text) old new used
  as_cleared c = rw is at c

  pub as_ran : (u : List ℕ) {used : ℕ} {ws ws' : List ℕ} {r : Option Interned} → Ran used (op_of n list text u) ws ws' r → Ran used (op_of m list text u) ws ws' r
  as_ran u ran = rw is ran

  pub as_typed : typed (appended n list text) ≡ true → typed (appended m list text) ≡ true
  as_typed q = rw is q

-- what the types of the arguments say
pub words_typed : (min max : ℕ) → min < 2 ^ 64 → max < 2 ^ 64 → (is_word min && is_word max) ≡ true
words_typed min max a b = rw (lt-ltb min (2 ^ 64) a, lt-ltb max (2 ^ 64) b)

pub bytes_typed : (text : List ℕ) → ((i : ℕ) → get_or text i 0 < 256) → are_bytes text ≡ true
unfolding all
bytes_typed [] f = refl
bytes_typed (b ∷ text) f = rw (lt-ltb b 256 (f 0)) (bytes_typed text (λ i. f (suc i)))

pub walk_typed : (w : Walk) (a : ℕ) → typed (walked w a) ≡ true
walk_typed Dual a = refl
walk_typed Glb a = refl
walk_typed Lub a = refl
