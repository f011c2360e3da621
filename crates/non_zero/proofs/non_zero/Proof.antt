-- `non_zero::non_zero` meets its contract, and leaves the memory right.
use Rattle.non_zero.proofs.Ways.{int_ready, an_int, a_pointer, another}
use borrow.Author.Rules.{rules}
use Rattle.non_zero.proofs.non_zero.Statement.{statement}
use Rattle.non_zero.proofs.non_zero.Tie as tie

word-k-requires : tie.Need-word-k-requires
word-k-requires c κs = search rules

overflow_add-a : tie.Need-overflow_add-a
overflow_add-a c = search rules

word-min-requires : tie.Need-word-min-requires
word-min-requires c κs = search rules

overflow_add-a-then-k-eq-INT : tie.Need-overflow_add-a-then-k-eq-INT
overflow_add-a-then-k-eq-INT c = search rules

word-max-requires : tie.Need-word-max-requires
word-max-requires c κs = search rules

non_zero_int-requires : tie.Need-non_zero_int-requires
non_zero_int-requires c κs = int_ready c.requires.0 c.requires.1.1

shape_of-new-then-k-eq-INT : tie.Need-shape_of-new-then-k-eq-INT
shape_of-new-then-k-eq-INT c = search rules

returns-then-k-eq-INT : tie.Need-returns-then-k-eq-INT
returns-then-k-eq-INT c =
    an_int c.requires.0 c.requires.1.0 _ c.word-k.ensures c.if-k-eq-INT.true _ _ c.word-min.ensures c.word-max.ensures c.non_zero_int.ensures

shape_of-new-then-k-eq-MEM_PTR : tie.Need-shape_of-new-then-k-eq-MEM_PTR
shape_of-new-then-k-eq-MEM_PTR c = search rules

returns-then-k-eq-MEM_PTR : tie.Need-returns-then-k-eq-MEM_PTR
returns-then-k-eq-MEM_PTR c =
    a_pointer c.requires.0 c.requires.1.0 _ c.word-k.ensures c.if-k-eq-INT.false c.if-k-eq-MEM_PTR.true

walk-requires : tie.Need-walk-requires
walk-requires c κs = search rules

shape_of-new : tie.Need-shape_of-new
shape_of-new c = search rules

shape_of-memory : tie.Need-shape_of-memory
shape_of-memory c = search rules

returns : tie.Need-returns
returns c =
    another c.requires.0 c.requires.1.0 _ c.word-k.ensures c.if-k-eq-INT.false c.if-k-eq-MEM_PTR.false c.walk.ensures

pub non_zero_spec : {M : Type 1} → statement M
non_zero_spec =
    tie.close
    (tie.spec
    word-k-requires
    overflow_add-a
    word-min-requires
    overflow_add-a-then-k-eq-INT
    word-max-requires
    non_zero_int-requires
    shape_of-new-then-k-eq-INT
    returns-then-k-eq-INT
    shape_of-new-then-k-eq-MEM_PTR
    returns-then-k-eq-MEM_PTR
    walk-requires
    shape_of-new
    shape_of-memory
    returns)
