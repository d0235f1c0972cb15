-- A line that tells no event.
use Rattle.std.proofs.Common.{None, refl, sym, subst, arith}
use Rattle.prutrace.specs.Sections.{IsSoFar}
use Rattle.prutrace.proofs.FileLaws.{section_at_line}
use Rattle.prutrace.proofs.read.read_section.Goals as goal

pub returns-in_default-read_event-clause-section : goal.returns-in_default-read_event-clause-section
returns-in_default-read_event-clause-section c =
    section_at_line c.args.lines.now.text c.args.lines.now.number c.events.events.items c.events.lines.text c.in-Some.line.now
    c.next_whole.new.self.text
    c.number-number.result c.next_whole.new.self.number c.stop_at-stop.result None
    (subst (IsSoFar c.args.lines.now.text c.args.lines.now.number c.events.events.items c.events.lines.text)
    (sym c.number-number.ensures) c.events.invariant)
    c.stop_at-stop.ensures c.in-Some.ensures.some.0 c.in-Some.ensures.some.1
    (omega (arith, c.in-Some.ensures.number, c.number-number.ensures))
    refl c.in_default-read_event.ensures.only
