-- A call that is known to be one of the values, and `run` of each: its rows, then its answer. Assumes nothing.
use mathlib.Core.Path.{◌≡◌, refl}
use mathlib.Core.Bool.{true, not, cond}
use mathlib.Core.List.{List, []}
use Prim.Native.Nat.{ℕ, ◌≤◌, ◌<◌}
use native.Mathlib.Omega.{arith}
use borrow.Author.Tests.{lt-leb, le-leb, leb-true, ne_eqb}
use lib.Dec.{eqb, leb}
use lib.ListN.{length, take}
use Rattle.words.specs.Columns.{kind_on, size_on, bits_on}
use Rattle.wellformed.specs.Entry.{kind_in, is_flag}
use Rattle.wellformed.proofs.Bools.{and_left, and_right}
use Rattle.parts.proofs.Parts.{of_float}
use Rattle.parts.proofs.Good.{handle_part}
use Rattle.makers.proofs.FloatSize.{size_word}
use Rattle.type_float.specs.Float.{is_size_word}
use Rattle.struct_calls.proofs.Callers.{kind_passed, kind_used, within}
use Rattle.call.specs.Call.{Reply, ◌when◌, ask, fill}
use Rattle.every_call.specs.Run.{run}
use Rattle.every_call.specs.Cleared.{Cleared}
use Rattle.asking.specs.declared.Asking.{Asking}
use Rattle.asking.specs.declared.Asking.TheVariants as Asking-variants
use Rattle.of_types.specs.Tells.{of_type_rows, of_type_told}
use Rattle.of_types.specs.declared.OfType.{OfType}
use Rattle.of_types.specs.declared.OfType.TheVariants as OfType-variants
use Rattle.of_values.specs.Tells.{of_int_told, of_float_told}
use Rattle.of_values.specs.declared.OfInt.{OfInt}
use Rattle.of_values.specs.declared.OfInt.TheVariants as OfInt-variants
use Rattle.of_values.specs.declared.OfFloat.{OfFloat}
use Rattle.of_values.specs.declared.OfFloat.TheVariants as OfFloat-variants
use Rattle.struct_calls.specs.Tells.{filling_rows, filled_words, of_struct_rows, of_struct_told}
use Rattle.struct_calls.specs.declared.Filling.{Filling}
use Rattle.struct_calls.specs.declared.Filling.TheVariants as Filling-variants
use Rattle.struct_calls.specs.declared.OfStruct.{OfStruct}
use Rattle.struct_calls.specs.declared.OfStruct.TheVariants as OfStruct-variants
use Rattle.every_call.specs.Others.{int_rows, float_rows}
use Rattle.asking.specs.Asking.{asked_type, asked_int, asked_float, asked_filling, asked_struct, asked, rows_of, answer_of}

type_is : (of : OfType) (a : ℕ) (ws : List ℕ) → run (asked_type of a) ws ≡ ask (of_type_rows of a) (of_type_told of a) ws
type_is OfType-variants.MakeInit a ws = refl
type_is OfType-variants.MakeZero a ws = refl
type_is OfType-variants.IsHigh a ws = refl
type_is OfType-variants.IsHighOrConstant a ws = refl
type_is OfType-variants.IsConstant a ws = refl
type_is OfType-variants.IsFref a ws = refl
type_is OfType-variants.LogSize a ws = refl

int_is : (of : OfInt) (a : ℕ) (ws : List ℕ) → run (asked_int of a) ws ≡ ask (int_rows a) (of_int_told of a) ws
int_is OfInt-variants.Min a ws = refl
int_is OfInt-variants.Max a ws = refl
int_is OfInt-variants.Value a ws = refl
int_is OfInt-variants.Mask a ws = refl

float_is : (of : OfFloat) (a : ℕ) (ws : List ℕ) → run (asked_float of a) ws ≡ ask (float_rows a) (of_float_told of a) ws
float_is OfFloat-variants.Sz a ws = refl
float_is OfFloat-variants.IsF32 a ws = refl
float_is OfFloat-variants.Value a ws = refl
float_is OfFloat-variants.Reading a ws = refl

struct_is : (of : OfStruct) (s : ℕ) (ws : List ℕ) → run (asked_struct of s) ws ≡ ask (of_struct_rows of s) (of_struct_told of s) ws
struct_is OfStruct-variants.Name s ws = refl
struct_is (OfStruct-variants.Find name) s ws = refl
struct_is (OfStruct-variants.FindAlias alias) s ws = refl
struct_is OfStruct-variants.IsAry s ws = refl
struct_is (OfStruct-variants.Offset i) s ws = refl
struct_is OfStruct-variants.AryBase s ws = refl
struct_is OfStruct-variants.AryScale s ws = refl
struct_is (OfStruct-variants.Fill Filling-variants.Fields n) s ws = refl
struct_is (OfStruct-variants.Fill Filling-variants.Offsets n) s ws = refl

pub asked_is : (m : Asking) (ws : List ℕ) → run (asked m) ws ≡ ask (rows_of m) (answer_of m) ws
asked_is (Asking-variants.Kind h) ws = refl
asked_is (Asking-variants.GetBool value) ws = refl
asked_is (Asking-variants.Isa a b) ws = refl
asked_is (Asking-variants.IsFinal a) ws = refl
asked_is (Asking-variants.Type of a) ws = type_is of a ws
asked_is (Asking-variants.Int of a) ws = int_is of a ws
asked_is (Asking-variants.Float of a) ws = float_is of a ws
asked_is (Asking-variants.Struct of s) ws = struct_is of s ws

module _ {m n : Asking} (is : m ≡ n) where
  pub as_rows : (u : List ℕ) {x : ℕ} → x ≡ rows_of n u → x ≡ rows_of m u
  as_rows u q = rw is q

  pub as_cleared : {ws : List ℕ} {used : ℕ} → Cleared (rows_of m) [] ws used → Cleared (rows_of n) [] ws used
  as_cleared c = rw is at c

  pub as_answer : (u : List ℕ) {x : Reply} → x ≡ answer_of n u → x ≡ answer_of m u
  as_answer u q = rw is q

-- get_bool
module _ (v : ℕ) where
  pub flag_off : v ≡ 0 → ◌≡◌ {A = ℕ} 9 (cond (eqb v 0) 9 12)
  flag_off e = rw e

  pub flag_on : (v ≡ 0 → ⊥) → ◌≡◌ {A = ℕ} 12 (cond (eqb v 0) 9 12)
  flag_on n = rw (ne_eqb _ _ n)

-- a call that fills an output of n words
pub filling_is : (filling : Filling) (s n : ℕ) (ws : List ℕ) → run (asked_filling filling s n) ws ≡ fill (filling_rows filling s) (filled_words filling s) n ws
filling_is filling s n ws = struct_is (OfStruct-variants.Fill filling n) s ws

-- ---- what the functions require

module _ {ws : List ℕ} {used : ℕ} (a : ℕ) where
  pub int_need : Cleared (int_rows a) [] ws used → (used ≤ length ws) × (a < used)
  int_need c = (within c, kind_used (kind_in 5 5) a c)

  pub float_need : Cleared (float_rows a) [] ws used → (used ≤ length ws) × (a < used) × (is_size_word (size_on (take used ws) a) ≡ true)
  float_need c =
      let u = take used ws in
      let k = kind_passed (kind_in 6 6) a u c.passed in
      let low = leb-true 6 (kind_on u a) (and_left (leb 6 (kind_on u a)) (leb (kind_on u a) 6) k.1) in
      let high = leb-true (kind_on u a) 6 (and_right (leb 6 (kind_on u a)) (leb (kind_on u a) 6) k.1) in
      let six : kind_on u a ≡ 6 = omega (arith, low, high) in
      let p = handle_part a c.good k.0 (omega (arith, low)) (omega (arith, high)) in
      (within c, kind_used (kind_in 6 6) a c, size_word (size_on u a) (bits_on u a) (of_float c.good.sound p six))
