use Rattle.std.proofs.Common.{◌≡◌, ◌++◌, ◌∙◌, ap, arith, replicate, sym}
use Rattle.std.proofs.lemmas.List.{append-nil}
use Rattle.pruelf.specs.Layout.{padding}
use Rattle.elfwrite.proofs.bytes.put_padding.Goals as goal

pub returns : goal.returns
returns c =
    let e : padding c.args.length ≡ 0 = omega arith in
    sym (append-nil c.args.out.now.items) ∙ ap (λ n. c.args.out.now.items ++ replicate n 0) (sym e)
