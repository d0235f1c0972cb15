use Rattle.std.proofs.Common.{◌++◌, refl}
use Rattle.std.proofs.lemmas.Result.{err_from_is_err_and}
use Rattle.cpre.specs.Held.{macros_of}
use Rattle.cpre.specs.Replacing.{become}
use Rattle.cpre.proofs.Taking.{overflows_on}
use Rattle.cpre.proofs.replace.Replacer.replace.Goals as goal

pub returns-in_err-step-clause-err : goal.returns-in_err-step-clause-err
returns-in_err-step-clause-err c =
    let p = err_from_is_err_and c.from_residual-in_err-step.result c.from_residual-in_err-step.ensures.1 in
    rw (p.1, p.2)
    (overflows_on (macros_of c.args.self.now.macros) c.args.place
    (c.args.self.now.made.items ++ become (macros_of c.args.self.now.macros) c.args.place c.args.token.now) c.loop-frame.self
    (record { macros = c.loop-frame.self.macros; frames = c.pop_front.new.self; made = c.loop-frame.self.made }) c.step.new.self
    c.in-Some.frame c.loop-frame.invariant.so_far c.in-Some.ensures.items refl refl
    c.in_err-step.field-0.0 c.in_err-step.ensures.err)
