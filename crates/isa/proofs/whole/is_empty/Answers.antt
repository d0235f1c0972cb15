-- None is left where there are none.
use Rattle.std.proofs.Common.{◌∙◌}
use Rattle.isa.proofs.Judged.{none_pending}
use Rattle.isa.proofs.whole.is_empty.Goals as goal

pub returns : goal.returns
returns c = c.is_empty.ensures ∙ none_pending c.args.kinds.now
