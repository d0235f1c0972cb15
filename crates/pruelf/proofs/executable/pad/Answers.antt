use Rattle.std.proofs.Common.{◌≡◌, ap, arith, replicate}
use Rattle.std.specs.Int.{w8}
use Rattle.pruelf.specs.declared.fault.LoadCause.TheVariants.{Pad}
use Rattle.pruelf.specs.Fields.{fixed_in}
use Rattle.pruelf.specs.Layout.{padding}
use Rattle.pruelf.proofs.executable.pad.Goals as goal

pub returns : goal.returns
unfolding fixed_in
returns c =
    let e : padding c.args.length ≡ 0 = omega arith in
    ap (λ n. fixed_in Pad w8 (replicate n 0) c.args.end c.args.bytes.now) e
