use Rattle.std.proofs.Common.{rules}
use Rattle.asmword.proofs.BlankLaws.{skip_stop}
use Rattle.asmword.proofs.blank.behind_blanks.Goals as goal

pub returns-then-not-is_blank : goal.returns-then-not-is_blank
returns-then-not-is_blank c =
    skip_stop c.blanks.rest.now c.args.text.now c.in-Some.behind.now c.in-Some.byte.now (search rules) (search rules) c.blanks.invariant
