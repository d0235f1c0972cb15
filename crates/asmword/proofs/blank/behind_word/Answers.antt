use Rattle.std.proofs.Common.{rules}
use Rattle.asmword.proofs.BlankLaws.{word_stop}
use Rattle.asmword.proofs.blank.behind_word.Goals as goal

pub returns-then-is_blank : goal.returns-then-is_blank
returns-then-is_blank c =
    word_stop c.bytes.rest.now c.args.text.now c.in-Some.behind.now c.in-Some.byte.now (search rules) (search rules) c.bytes.invariant
