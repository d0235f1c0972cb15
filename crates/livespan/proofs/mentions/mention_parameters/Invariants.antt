use Rattle.std.proofs.Common.{◌≡◌, List, length}
use Rattle.midcode.specs.declared.op.OpKind.{OpKind}
use Rattle.livespan.specs.Live.{AreHulls, Known}
use Rattle.livespan.proofs.mentions.mention_parameters.Given as goal

abbrev pub invariant-loop-number : goal.invariant-loop-number
invariant-loop-number l = record {
  len : length l.hulls.items ≡ l.registers;
  hulls : (ks : List OpKind) → AreHulls (Known ks l.number 0) l.hulls.items;
}
