use Rattle.std.proofs.Common.{sym, subst}
use Rattle.std.specs.List.{AllByRecursion}
use Rattle.textline.specs.Lines.{lines_of}
use Rattle.hostscript.specs.Acts.{IsAct}
use Rattle.hostscript.proofs.ScriptLaws.{acts_are}
use Rattle.hostscript.proofs.reading.read_lines.Goals as goal

pub from_vec-requires-clause-ranges : goal.from_vec-requires-clause-ranges
from_vec-requires-clause-ranges c =
    let found = c.in_ok-draft.ensures.found in
    subst (AllByRecursion IsAct) (sym found.2.acts) (acts_are (lines_of c.args.bytes.now) found.0 found.1.each)
