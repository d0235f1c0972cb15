use Rattle.std.proofs.Common.{◌≡◌, ◌++◌, take}
use Rattle.std.specs.List.{flat_map}
use Rattle.elfwrite.specs.Written.{section_bytes}
use Rattle.elfwrite.proofs.sections.put_headers.Given as goal

abbrev pub invariant-loop-section : goal.invariant-loop-section
invariant-loop-section l = l.out.items ≡ l.fn.out.items ++ flat_map (λ x. section_bytes x.0 x.1) (take l.section-index l.sections)
