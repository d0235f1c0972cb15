-- The set has one more label.
use Rattle.std.proofs.Common.{◌∙◌, ap}
use Rattle.isa.specs.Judging.{has}
use Rattle.isa.proofs.Judged.{has_insert_key}
use Rattle.isa.proofs.whole.add.Goals as goal

pub returns : goal.returns
returns c l = ap (λ ls. has ls l) c.in_ok-insert.ensures.keys ∙ has_insert_key c.args.labels.now.keys c.args.l l
