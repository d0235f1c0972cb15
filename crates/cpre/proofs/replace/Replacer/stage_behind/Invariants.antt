use Rattle.std.proofs.Common.{◌≡◌, length}
use Rattle.cpre.specs.Replacing.{stage_behind}
use Rattle.cpre.proofs.replace.Replacer.stage_behind.Given as goal

abbrev pub invariant-loop-rest : goal.invariant-loop-rest
invariant-loop-rest l = stage_behind l.self.macros l.rest ≡ stage_behind l.self.macros l.tokens

abbrev pub decreases-loop-rest : goal.decreases-loop-rest
decreases-loop-rest l = length l.rest
