use Rattle.std.proofs.Common.{◌≡◌, drop}
use Rattle.cexpr.specs.Member.{member_named}
use Rattle.cexpr.proofs.members.member_named.Given as goal

-- it is among the members to come
abbrev pub invariant-loop-member : goal.invariant-loop-member
invariant-loop-member l = member_named l.name (drop l.member-index l.members) ≡ member_named l.name l.members
