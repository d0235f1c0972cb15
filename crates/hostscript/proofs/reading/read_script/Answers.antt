use Rattle.std.proofs.Common.{sym, subst, List, ℕ}
use Rattle.hostscript.specs.Scripts.{IsScript}
use Rattle.hostscript.proofs.ScriptLaws.{gives, printed_is}
use Rattle.hostscript.proofs.reading.read_script.Goals as goal

pub returns-clause-only : goal.returns-clause-only
returns-clause-only c = gives c.args.bytes.now c.read_lines.result c.read_lines.ensures.found c.read_lines.ensures.fault

pub returns-clause-printed : goal.returns-clause-printed
returns-clause-printed c = λ script whole is. gives c.args.bytes.now c.read_lines.result c.read_lines.ensures.found
    c.read_lines.ensures.fault script
    (subst (λ (text : List ℕ). IsScript text script) (sym is) (printed_is script whole))
