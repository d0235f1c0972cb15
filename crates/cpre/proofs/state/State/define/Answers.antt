use Rattle.std.proofs.Common.{refl}
use Rattle.cpre.specs.declared.macros.Stage.TheVariants.{Idle}
use Rattle.cpre.proofs.Stages.{defined}
use Rattle.cpre.proofs.state.State.define.Goals as goal

pub returns-in_default-get-clause-settled : goal.returns-in_default-get-clause-settled
returns-in_default-get-clause-settled c =
    let a = c.in_default-get.ensures.found in
    let b = c.in_default-get.is in
    let d = c.get.ensures.found in
    record {
      sound = defined c.args.self.now.replacer.macros c.define.new.self c.in-Some.name.now
          (record { tokens = c.in-Some.tokens; stage = Idle }) c.in_ok-define.ensures.found refl
          (cc) c.in_ok-define.ensures.macros c.requires.sound;
      none = c.requires.none;
      few = c.requires.few;
    }
