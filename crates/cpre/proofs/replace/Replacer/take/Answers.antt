use Rattle.std.proofs.Common.{refl}
use Rattle.cpre.proofs.Taking.{stays_takes, goes_takes, opens_takes}
use Rattle.cpre.proofs.replace.Replacer.take.Goals as goal

pub returns-in-Stays-clause-takes : goal.returns-in-Stays-clause-takes
returns-in-Stays-clause-takes c =
    stays_takes c.args.place c.args.token.now c.args.self.now c.write.new.self c.requires c.write.result c.in-Stays.ensures
    c.write.ensures.frames c.write.ensures.macros c.write.ensures.made

pub returns-in-Goes-clause-takes : goal.returns-in-Goes-clause-takes
returns-in-Goes-clause-takes c = goes_takes c.args.place c.args.token.now c.args.self.now c.args.self.now c.requires c.in-Goes.ensures

pub returns-in-Opens-clause-takes : goal.returns-in-Opens-clause-takes
returns-in-Opens-clause-takes c =
    opens_takes c.args.place c.args.token.now c.args.self.now c.enter.new.self c.requires c.enter.result
    (record { name = c.in-Opens.name; tokens = c.in-Opens.tokens; rest = c.in-Opens.tokens })
    c.in-Opens.ensures refl c.enter.ensures.made c.enter.ensures.frames c.enter.ensures.keeps
