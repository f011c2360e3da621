-- Each maker's call keeps what every call keeps, and so does a call that only reads. Assumes nothing.
use mathlib.Core.Path.{◌≡◌, refl}
use mathlib.Core.Bool.{true, not}
use mathlib.Core.List.{List}
use Prim.Native.Nat.{ℕ, ◌^◌, ◌<◌}
use native.Mathlib.Omega.{arith}
use borrow.Author.Tests.{ltb-false, not-false}
use lib.Dec.{ltb}
use lib.ListN.{length, get_or}
use Rattle.words.specs.Kinds.{MemPtr, Mem}
use Rattle.words.specs.Made.{make}
use Rattle.wellformed.specs.Entry.{is_type, is_struct, is_flag, is_alias, float_ok}
use Rattle.wellformed.specs.Form.{well_formed, used_words}
use Rattle.call.specs.Call.{Reply, call, ask, ◌when◌}
use Rattle.call.specs.Keep.{Keeps}
use Rattle.call.specs.Adds.{Fitting}
use Rattle.call.proofs.Sound.{make_adds}
use Rattle.call.proofs.Keep.{call_keeps, same_keeps}
use Rattle.names.specs.Name.{name_entry}
use Rattle.makers.specs.Entries.{int_entry, stored_size, float_entry, tuple_entry, fref_entry, pointer_entry, memory_entry, struct_entry}
use Rattle.makers.specs.Makers.{make_int_call, make_float_call, get_tuple_call, tuple_rows, get_str_call, make_struct_fref_call, fref_rows, get_mem_ptr_call, get_mem_call, part_rows, get_struct_call, struct_rows}
use Rattle.kept.proofs.Fits.{int_fits, float_fits, fref_fits, tuple_fits, pointer_fits, memory_fits, struct_fits}
use Rattle.kept.proofs.NameFits.{name_fitting}
use Rattle.kept.proofs.Rows.{off, tuple_parts, fref_right, part_taken, part_parts, struct_values, struct_parts}

-- a call that only reads
pub ask_keeps : (rows : List ℕ → ℕ) (answer : List ℕ → Reply) (ws : List ℕ) → well_formed ws ≡ true → Keeps ws (ask rows answer ws)
unfolding ask
ask_keeps rows answer ws ok = same_keeps ws _ ok

-- a call that makes one entry, which fits where no row applies
module _ (rows : List ℕ → ℕ) (entry : List ℕ → List ℕ) (fits : (u : List ℕ) → rows u ≡ 0 → Fitting u (entry u)) where
  pub maker_keeps : (ws : List ℕ) → well_formed ws ≡ true → Keeps ws (call rows (λ u. make u (entry u)) ws)
  maker_keeps ws ok =
      let u = used_words ws in
      call_keeps rows (λ v. make v (entry v)) ws ok (λ s q. make_adds u (entry u) s (fits u q))

-- the ends of an Int are 64-bit words
pub int_keeps : (min max : ℕ) → min < 2 ^ 64 → max < 2 ^ 64 → (ws : List ℕ) → well_formed ws ≡ true → Keeps ws (make_int_call min max ws)
int_keeps min max low high = maker_keeps (λ u. 0) (λ u. int_entry min max) (λ u q. int_fits u min max (λ _. (low, high)))

pub float_keeps : (sz bits : ℕ) (ws : List ℕ) → well_formed ws ≡ true → Keeps ws (make_float_call sz bits ws)
float_keeps sz bits =
    let ok = float_ok (stored_size sz) bits in
    maker_keeps (λ u. 4 when not ok) (λ u. float_entry (stored_size sz) bits) (λ u q. float_fits u (stored_size sz) bits (not-false ok (off 3 (not ok) q)))

pub tuple_keeps : (types ws : List ℕ) → well_formed ws ≡ true → Keeps ws (get_tuple_call types ws)
tuple_keeps types = maker_keeps (tuple_rows types) (λ u. tuple_entry types u) (λ u q. tuple_fits types u (tuple_parts types u q))

-- the bytes of a name are below 256
pub str_keeps : (name : List ℕ) → ((i : ℕ) → get_or name i 0 < 256) → (ws : List ℕ) → well_formed ws ≡ true → Keeps ws (get_str_call name ws)
str_keeps name bytes =
    let long = ltb 255 (length name) in
    maker_keeps (λ u. 5 when long) (λ u. name_entry name) (λ u q. name_fitting u name (ltb-false 255 (length name) (off 4 long q)) bytes)

pub fref_keeps : (name : ℕ) (ws : List ℕ) → well_formed ws ≡ true → Keeps ws (make_struct_fref_call name ws)
fref_keeps name = maker_keeps (fref_rows name) (λ u. fref_entry name) (λ u q. fref_fits u name (fref_right name u q))

pub pointer_keeps : (to nil : ℕ) (ws : List ℕ) → well_formed ws ≡ true → Keeps ws (get_mem_ptr_call to nil ws)
pointer_keeps to nil =
    let t = is_flag nil in
    maker_keeps (part_rows is_struct t to) (λ u. pointer_entry to nil u)
    (λ u q. pointer_fits to nil u (part_parts is_struct t to u q MemPtr (omega arith) (omega arith) refl) (part_taken is_struct t to u q))

pub memory_keeps : (alias t : ℕ) (ws : List ℕ) → well_formed ws ≡ true → Keeps ws (get_mem_call alias t ws)
memory_keeps alias t =
    let a = is_alias alias in
    maker_keeps (part_rows is_type a t) (λ u. memory_entry alias t u)
    (λ u q. memory_fits alias t u (part_parts is_type a t u q Mem (omega arith) (omega arith) refl) (part_taken is_type a t u q))

pub struct_keeps : (name : ℕ) (fs ws : List ℕ) → well_formed ws ≡ true → Keeps ws (get_struct_call name fs ws)
struct_keeps name fs = maker_keeps (struct_rows name fs) (λ u. struct_entry name fs u) (λ u q. struct_fits name fs u (struct_parts name fs u q) (struct_values name fs u q))
