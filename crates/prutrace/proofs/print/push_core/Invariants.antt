use Rattle.std.proofs.Common.{◌≡◌, ◌++◌, take}
use Rattle.std.specs.String.{string_bytes}
use Rattle.prutrace.specs.Text.{core_text, events_of}
use Rattle.prutrace.proofs.print.push_core.Given as goal

-- the events so far stand behind the text
abbrev pub invariant-loop-stamped : goal.invariant-loop-stamped
invariant-loop-stamped l = string_bytes l.text ≡ string_bytes l.fn.text ++ core_text l.fn.core (events_of (take l.stamped-index l.trace))
