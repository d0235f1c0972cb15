use Rattle.std.proofs.Common.{refl}
use Rattle.cexpr.proofs.Scratchpads.{scratchpad_at_is}
use Rattle.cexpr.proofs.scratchpad.scratchpad_at.Goals as goal

pub returns-then-shift-eq0 : goal.returns-then-shift-eq0
returns-then-shift-eq0 c =
    scratchpad_at_is c.args.device c.args.base c.args.shift _ refl refl c.if-device-ge10.true c.if-device-le12.true c.if-shift-eq0.true
