-- A line's fault, with the line's number.
use Rattle.std.specs.Prelude.{ℕ}
use Rattle.hostscript.specs.declared.fault.ScriptFault.{ScriptFault}
use Rattle.hostscript.specs.declared.fault.ScriptFault.TheVariants.{Line, Memory}
use Rattle.hostscript.specs.declared.fault.LineFault.{LineFault}
use Rattle.hostscript.specs.declared.fault.LineFault.TheVariants as lines

abbrev pub at_line : ℕ → LineFault → ScriptFault
at_line number (lines.Cause cause) = Line number cause
at_line number lines.Memory = Memory
