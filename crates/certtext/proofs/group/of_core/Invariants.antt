use Rattle.std.proofs.Common.{◌≡◌, ◌≤◌, length}
use Rattle.certtext.specs.Certs.{of_core}
use Rattle.certtext.proofs.group.of_core.Given as goal

-- the lines before name another core, or none
abbrev pub invariant-lines : goal.invariant-lines
invariant-lines l = (of_core l.core l.rest ≡ of_core l.core l.said) × (length l.rest ≤ length l.said)

abbrev pub decreases-lines : goal.decreases-lines
decreases-lines l = length l.rest
