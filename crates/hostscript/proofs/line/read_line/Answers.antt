use Rattle.std.proofs.Common.{List, ℕ, Result, Ok, Err, IfOk, IfErr}
use Rattle.hostscript.specs.declared.fault.LineFault.{LineFault}
use Rattle.hostscript.specs.declared.fault.LineFault.TheVariants as faults
use Rattle.hostscript.specs.declared.line.Saying.{Saying}
use Rattle.hostscript.specs.Lines.{Says, Misfits, NamesCore}
use Rattle.hostscript.specs.Reading.{said_in, Reads}
use Rattle.hostscript.proofs.LineLaws.{said_back, misfit, core_named}
use Rattle.hostscript.proofs.line.read_line.Goals as goal

back : (line : List ℕ) (r : Result Saying LineFault) → Reads (λ said. said) r (said_in line) → IfOk r (Says line)
back line (Ok said) h = said_back line said h
back line (Err e) h = tt

core : (line : List ℕ) (r : Result Saying LineFault) → Reads (λ said. said) r (said_in line) → IfOk r NamesCore
core line (Ok said) h = core_named line said (said_back line said h)
core line (Err e) h = tt

fault : (line : List ℕ) (r : Result Saying LineFault) → Reads (λ said. said) r (said_in line) → IfErr r (Misfits line)
fault line (Ok said) h = tt
fault line (Err (faults.Cause cause)) h = misfit line cause h
fault line (Err faults.Memory) h = tt

pub returns-clause-ok : goal.returns-clause-ok
returns-clause-ok c = back c.args.line.now c.read_said.result c.read_said.ensures

pub returns-clause-core : goal.returns-clause-core
returns-clause-core c = core c.args.line.now c.read_said.result c.read_said.ensures

pub returns-clause-fault : goal.returns-clause-fault
returns-clause-fault c = fault c.args.line.now c.read_said.result c.read_said.ensures
