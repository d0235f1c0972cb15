use Rattle.std.proofs.Common.{◌≤◌, length, sym, rules}
use Rattle.std.proofs.lemmas.List.{length-take-le}
use Rattle.livespan.proofs.spans.parameter_count.Goals as goal

pub returns : goal.returns
returns c =
    let s = c.args.signature in
    let all : s.count ≤ length s.params = search rules in
    sym (length-take-le s.count s.params all)
