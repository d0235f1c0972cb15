use Rattle.std.proofs.Common.{◌≡◌, ◌++◌, take, drop}
use Rattle.std.specs.List.{AllByRecursion}
use Rattle.elfrec.specs.File.{section_parts, ContentsFit}
use Rattle.elfrec.proofs.writing.append_section_parts.Given as goal

-- the parts so far and those to come are all of them, and what was written fits
abbrev pub invariant-loop-i : goal.invariant-loop-i
invariant-loop-i l =
    (l.parts.items ++ section_parts (drop l.i l.sections) (drop l.i l.contents) ≡ l.fn.parts.items ++ section_parts l.sections l.contents)
    × AllByRecursion ContentsFit (take l.i l.contents)
