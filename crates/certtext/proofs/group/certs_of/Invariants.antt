use Rattle.std.proofs.Common.{◌≡◌, ◌++◌, length}
use Rattle.certtext.specs.Certs.{certs_in}
use Rattle.certtext.proofs.group.certs_of.Given as goal

-- the certificates so far, and those that are left
abbrev pub invariant-lines : goal.invariant-lines
invariant-lines l = l.lines.items ++ certs_in l.table l.rest ≡ certs_in l.table l.said

abbrev pub decreases-lines : goal.decreases-lines
decreases-lines l = length l.rest
