use Rattle.std.proofs.Common.{◌≡◌, drop}
use Rattle.elfrec.specs.File.{all_contents_of}
use Rattle.elfrec.proofs.Loop.{with_front}
use Rattle.elfrec.proofs.reading.read_all_contents.Given as goal

-- what was read so far and what is still to read is the whole
abbrev pub invariant-loop-section : goal.invariant-loop-section
invariant-loop-section l = with_front l.contents.items (all_contents_of (drop l.section-index l.sections) l.bytes)
    ≡ all_contents_of l.sections l.bytes
