-- The list before and after the one call of `change`.
use Rattle.std.proofs.Common.{rules, refl}
use Rattle.call_lines.proofs.store.Store.close.Goals as goal

pub returns-clause-changed : goal.returns-clause-changed
returns-clause-changed g c = (c.self.inside.words, c.change.new.arg2, search rules, refl, search rules)
