use Rattle.std.proofs.Common.{subst}
use Rattle.cpre.specs.Held.{Sets}
use Rattle.cpre.proofs.Stages.{left}
use Rattle.cpre.proofs.replace.Replacer.leave.Goals as goal

pub returns-clause-keeps : goal.returns-clause-keeps
returns-clause-keeps c =
    left c.args.self.now.macros c.set_stage.new.self c.args.self.now.frames c.args.frame c.requires
    (subst (λ stage. Sets c.args.self.now.macros c.args.frame.name.now
    (record { tokens = c.args.frame.tokens; stage = stage }) c.set_stage.new.self) c.stage_behind-stage.ensures
    c.in_ok-set_stage.ensures.found)
    c.in_ok-set_stage.ensures.macros
