-- `lent_memory::isa` meets its contract, with a memory of its own and with the lent one.
use Rattle.lent_memory.proofs.Ways.{meets_lent}
use Rattle.lent_memory.proofs.Asked.{used_words_is, ask_ready, ask_covers, ask_right, isa_second, isa_right}
use borrow.Author.Rules.{rules}
use Rattle.lent_memory.proofs.isa.Statement.{statement}
use Rattle.lent_memory.proofs.isa.Tie as tie

slice_bounds-ask-end : tie.Need-slice_bounds-ask-end
slice_bounds-ask-end c = used_words_is c.requires.0

slice_bounds-ask-end-then-n-eq0 : tie.Need-slice_bounds-ask-end-then-n-eq0
slice_bounds-ask-end-then-n-eq0 c = search rules

ask-m-requires : tie.Need-ask-m-requires
ask-m-requires c κs = (ask_ready c.requires.0, ask_covers c.requires.0 c.requires.1.1)

is_second-requires : tie.Need-is_second-requires
is_second-requires c κs = search rules

returns-then-n-eq0 : tie.Need-returns-then-n-eq0
returns-then-n-eq0 c = (isa_second c.requires.0 _ _ c.ask-m.ensures _ c.is_second.ensures, c.requires.1.0)

slice_bounds-meet_type-end : tie.Need-slice_bounds-meet_type-end
slice_bounds-meet_type-end c = used_words_is c.requires.0

slice_bounds-meet_type-end-2 : tie.Need-slice_bounds-meet_type-end-2
slice_bounds-meet_type-end-2 c = search rules

overflow_mul-n : tie.Need-overflow_mul-n
overflow_mul-n c = search rules

offset_bounds-memory-n : tie.Need-offset_bounds-memory-n
offset_bounds-memory-n c = search rules

slice_bounds-meet_type-count : tie.Need-slice_bounds-meet_type-count
slice_bounds-meet_type-count c = search rules

slice_bounds-meet_type-start : tie.Need-slice_bounds-meet_type-start
slice_bounds-meet_type-start c = search rules

slice_bounds-meet_type-end-3 : tie.Need-slice_bounds-meet_type-end-3
slice_bounds-meet_type-end-3 c = search rules

meet_type-m-requires : tie.Need-meet_type-m-requires
meet_type-m-requires c κs = (ask_ready c.requires.0, (meets_lent (ask_right c.requires.0 c.requires.1.0), ask_covers c.requires.0 c.requires.1.1))

is_second-requires-2 : tie.Need-is_second-requires-2
is_second-requires-2 c κs = search rules

shape_of-memory : tie.Need-shape_of-memory
shape_of-memory c = search rules

returns : tie.Need-returns
returns c =
    let m = c.meet_type-m in
    (isa_second c.requires.0 _ _ m.ensures.0 _ c.is_second-2.ensures, isa_right c.requires.0 _ _ m.ensures.0 m.auto.new c.requires.1.0 m.ensures.1 m.auto.memo)

pub isa_spec : {M : Type 1} → statement M
isa_spec =
    tie.close
    (tie.spec
    slice_bounds-ask-end
    slice_bounds-ask-end-then-n-eq0
    ask-m-requires
    is_second-requires
    returns-then-n-eq0
    slice_bounds-meet_type-end
    slice_bounds-meet_type-end-2
    overflow_mul-n
    offset_bounds-memory-n
    slice_bounds-meet_type-count
    slice_bounds-meet_type-start
    slice_bounds-meet_type-end-3
    meet_type-m-requires
    is_second-requires-2
    shape_of-memory
    returns)
