use Rattle.std.proofs.Common.{◌≡◌, ◌++◌, take}
use Rattle.std.specs.String.{string_bytes}
use Rattle.prutrace.specs.Text.{core_trace_text}
use Rattle.prutrace.proofs.print.push_trace.Given as goal

-- the events so far stand behind the text
abbrev pub invariant-loop-stamped : goal.invariant-loop-stamped
invariant-loop-stamped l = string_bytes l.text ≡ string_bytes l.fn.text ++ core_trace_text l.fn.core (take l.stamped-index l.trace)
