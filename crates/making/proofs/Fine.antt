-- What the makers require of values and lists, where no row of the call applies. Assumes nothing.
use Rattle.std.proofs.Common.{◌≡◌, ℕ, ◌+◌, ◌≤◌, true, not, ltb, List, length, arith, ltb-false, leb-true}
use borrow.Author.Tests.{not-false}
use Rattle.wellformed.specs.Entry.{most_of, most_counted, float_ok}
use Rattle.call.specs.Call.{◌when◌}
use Rattle.kept.proofs.Rows.{off, tuple_parts, struct_parts, struct_values}
use Rattle.kept.proofs.Array.{ary_parts}
use Rattle.rows.proofs.Arrays.{bracketed}
use Rattle.makers.specs.Entries.{stored_size, field_count}
use Rattle.makers.specs.Fit.{ValuesFit}
use Rattle.makers.specs.Makers.{tuple_rows, struct_rows, ary_rows}

pub float_fine : (sz bits : ℕ) → (4 when not (float_ok (stored_size sz) bits)) ≡ 0 → float_ok (stored_size sz) bits ≡ true
float_fine sz bits q = not-false _ (off 3 _ q)

pub str_fine : (text : List ℕ) → (5 when ltb most_counted (length text)) ≡ 0 → length text ≤ 65535
str_fine text q = let h : length text ≤ 255 = ltb-false 255 (length text) (off 4 _ q) in omega arith

pub tuple_fine : (list u : List ℕ) → tuple_rows list u ≡ 0 → length list ≤ 255
unfolding most_of
tuple_fine list u q = (tuple_parts list u q).few

pub struct_fine : (name : ℕ) (list u : List ℕ) → struct_rows name list u ≡ 0 → (field_count list ≤ 255) × ValuesFit list
unfolding most_of
struct_fine name list u q = ((struct_parts name list u q).few, struct_values name list u q)

pub array_fine : (len la body ba : ℕ) (text u : List ℕ) → ary_rows len la body ba text u ≡ 0 → (2 + length text ≤ 255) × (la ≤ 4294967295) × (ba ≤ 4294967295)
array_fine len la body ba text u q =
    let p = ary_parts len la body ba text u q in
    (omega (arith, bracketed text, p.few), leb-true _ _ p.len_alias, leb-true _ _ p.body_alias)
