use Rattle.std.proofs.Common.{◌≡◌, ◌++◌, length}
use Rattle.certtext.specs.Certs.{first_labels}
use Rattle.certtext.proofs.group.first_labels.Given as goal

-- the labels so far, and those that are left
abbrev pub invariant-labels : goal.invariant-labels
invariant-labels l = l.labels.items ++ first_labels l.rest ≡ first_labels l.said

abbrev pub decreases-labels : goal.decreases-labels
decreases-labels l = length l.rest
