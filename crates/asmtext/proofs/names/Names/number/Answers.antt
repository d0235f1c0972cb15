use Rattle.std.proofs.Common.{ap, sym, ◌∙◌}
use Rattle.std.specs.Str.{bytes_eq}
use Rattle.asmtext.specs.Labels.{number_at}
use Rattle.asmtext.proofs.NameLemmas.{position_map}
use Rattle.asmtext.proofs.names.Names.number.Goals as goal

pub returns-in-Some : goal.returns-in-Some
returns-in-Some c =
    sym (ap number_at (position_map (λ name. name.now) (bytes_eq c.args.name.now) c.args.self.now.by_appearance.keys
    ∙ sym c.in-Some.ensures.index))

pub returns-in-None : goal.returns-in-None
returns-in-None c =
    sym (ap number_at (position_map (λ name. name.now) (bytes_eq c.args.name.now) c.args.self.now.by_appearance.keys
    ∙ sym c.in-None.ensures.index))
