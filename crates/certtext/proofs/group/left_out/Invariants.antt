use Rattle.std.proofs.Common.{◌≡◌, ◌+◌, ◌≤◌, length}
use Rattle.certtext.specs.Certs.{left_out}
use Rattle.certtext.proofs.group.left_out.Given as goal

-- those counted so far, and those that are left
abbrev pub invariant-lines : goal.invariant-lines
invariant-lines l = (l.count + left_out l.rest ≡ left_out l.said) × (l.count + length l.rest ≤ length l.said)

abbrev pub decreases-lines : goal.decreases-lines
decreases-lines l = length l.rest
