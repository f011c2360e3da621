use Rattle.std.proofs.Common.{not, ap}
use Rattle.catalogue.proofs.Saving.{not_well, long_label, no_room, saved}
use Rattle.catalogue.proofs.save.Goals as goal

pub returns-then-not-well_formed-clause-file_after : goal.returns-then-not-well_formed-clause-file_after
returns-then-not-well_formed-clause-file_after c = (not_well c.args.words.now c.args.label.now c.args.file.now _ c.well_formed-2.ensures (ap not c.if-not-well_formed.true)).1

pub returns-then-label-gt-LONGEST_LABEL-clause-file_after : goal.returns-then-label-gt-LONGEST_LABEL-clause-file_after
returns-then-label-gt-LONGEST_LABEL-clause-file_after c = (long_label c.args.words.now c.args.label.now c.args.file.now _ c.well_formed-2.ensures (ap not c.if-not-well_formed.false) c.if-label-gt-LONGEST_LABEL.true).1

pub returns-then-file-n-clause-file_after : goal.returns-then-file-n-clause-file_after
returns-then-file-n-clause-file_after c = (no_room c.args.words.now c.args.label.now c.args.file.now _ c.well_formed-2.ensures (ap not c.if-not-well_formed.false) c.if-label-gt-LONGEST_LABEL.false _ c.file_length-n.ensures c.if-file-n.true).1

pub returns-clause-words_value : goal.returns-clause-words_value
returns-clause-words_value c = (saved c.args.words.now c.args.label.now c.args.file.now _ c.well_formed-2.ensures (ap not c.if-not-well_formed.false) c.if-label-gt-LONGEST_LABEL.false _ c.file_length-n.ensures c.if-file-n.false _ _ c.write_file.ensures).0

pub returns-clause-file_after : goal.returns-clause-file_after
returns-clause-file_after c = (saved c.args.words.now c.args.label.now c.args.file.now _ c.well_formed-2.ensures (ap not c.if-not-well_formed.false) c.if-label-gt-LONGEST_LABEL.false _ c.file_length-n.ensures c.if-file-n.false _ _ c.write_file.ensures).1
