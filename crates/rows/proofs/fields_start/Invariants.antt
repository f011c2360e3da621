-- What is left to test is the fields of the rest.
use Rattle.std.proofs.Common.{◌≡◌, ◌/◌, length, take}
use Rattle.std.specs.Slice.Iter.{chunks_exact_rest, chunks_exact_size}
use Rattle.wellformed.specs.Entry.{all}
use Rattle.words.specs.Columns.{every}
use Rattle.bitset.specs.Bitset.{bit_at}
use Rattle.rows.proofs.fields_start.Given as goal

abbrev pub invariant-loop-field : goal.invariant-loop-field
invariant-loop-field l =
    let rest = chunks_exact_rest l.field-iterator in
    let test = bit_at l.bits in
    (chunks_exact_size l.field-iterator ≡ 4) × (all test (every 4 (length l.fields / 4) l.p l.fields) ≡ all test (every 4 (length rest / 4) l.p rest))
