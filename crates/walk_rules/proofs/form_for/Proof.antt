-- `walk_rules::form_for` meets its contract: it answers as the column does.
use Rattle.walk_rules.proofs.Chosen.{an_end, an_int, a_float, a_tuple, a_struct, an_fref, a_pointer, a_memory}
use borrow.Author.Rules.{rules}
use Rattle.walk_rules.proofs.form_for.Statement.{statement}
use Rattle.walk_rules.proofs.form_for.Tie as tie

end_of-requires : tie.Need-end_of-requires
end_of-requires c κs = search rules

returns-then-k-le-XCTRL : tie.Need-returns-then-k-le-XCTRL
returns-then-k-le-XCTRL c = search an_end

returns-then-k-eq-INT : tie.Need-returns-then-k-eq-INT
returns-then-k-eq-INT c = search an_int

returns-then-k-eq-FLOAT : tie.Need-returns-then-k-eq-FLOAT
returns-then-k-eq-FLOAT c = search a_float

tuple_form-requires : tie.Need-tuple_form-requires
tuple_form-requires c κs = search rules

returns-then-k-eq-TUPLE : tie.Need-returns-then-k-eq-TUPLE
returns-then-k-eq-TUPLE c = search a_tuple

struct_form-requires : tie.Need-struct_form-requires
struct_form-requires c κs = search rules

returns-then-k-eq-STRUCT : tie.Need-returns-then-k-eq-STRUCT
returns-then-k-eq-STRUCT c = search a_struct

returns-then-k-eq-FREF : tie.Need-returns-then-k-eq-FREF
returns-then-k-eq-FREF c = search an_fref

returns-then-k-eq-MEM_PTR : tie.Need-returns-then-k-eq-MEM_PTR
returns-then-k-eq-MEM_PTR c = search a_pointer

returns : tie.Need-returns
returns c = search a_memory

pub form_for_spec : {M : Type 1} → statement M
form_for_spec =
    tie.close
    (tie.spec
    end_of-requires
    returns-then-k-le-XCTRL
    returns-then-k-eq-INT
    returns-then-k-eq-FLOAT
    tuple_form-requires
    returns-then-k-eq-TUPLE
    struct_form-requires
    returns-then-k-eq-STRUCT
    returns-then-k-eq-FREF
    returns-then-k-eq-MEM_PTR
    returns)
