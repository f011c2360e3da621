-- How yes and no are told.
use Rattle.std.specs.Prelude.{Bool, true, false}
use Rattle.script.specs.declared.answers.Answer.TheVariants.{Yes, No}
use Rattle.replies.specs.declared.Reply.{Reply}
use Rattle.replies.specs.declared.Reply.TheVariants.{Short}

abbrev pub told : Bool → Reply
told true = Short Yes
told false = Short No
