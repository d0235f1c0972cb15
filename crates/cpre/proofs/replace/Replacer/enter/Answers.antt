use Rattle.std.proofs.Common.{sym, subst}
use Rattle.cpre.specs.Replacing.{Keeps}
use Rattle.cpre.proofs.Stages.{entered}
use Rattle.cpre.proofs.replace.Replacer.enter.Goals as goal

pub returns-clause-keeps : goal.returns-clause-keeps
returns-clause-keeps c =
    subst (Keeps c.args.self.now.macros c.set_stage.new.self) (sym c.in_ok-push_front.ensures.items)
    (entered c.args.self.now.macros c.set_stage.new.self c.args.self.now.frames
    (record { name = c.args.name; tokens = c.args.tokens; rest = c.args.tokens }) c.requires.sound c.requires.idle
    c.in_ok-set_stage.ensures.found c.in_ok-set_stage.ensures.macros)
