use Rattle.std.proofs.Common.{◌∙◌}
use Rattle.asmtext.specs.Held.{held}
use Rattle.asmtext.proofs.PlaceLemmas.{put_there}
use Rattle.asmtext.proofs.places.Places.put_new.Goals as goal

pub returns : goal.returns
returns c = λ other. c.in_ok-insert.ensures.updates.0 (record c.args.name { now = other })
    ∙ put_there (held c.args.self.now) c.args.name.now other c.args.number c.requires
