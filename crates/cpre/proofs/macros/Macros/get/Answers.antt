use Rattle.std.proofs.Common.{sym, ap, ◌∙◌}
use Rattle.std.specs.Option.{option_map}
use Rattle.cpre.proofs.Names.{definition_found}
use Rattle.cpre.proofs.macros.Macros.get.Goals as goal

pub returns-clause-definition : goal.returns-clause-definition
returns-clause-definition c = definition_found c.args.self.now c.args.name.now
    ∙ ap (option_map (λ m. m.tokens.now)) (sym (c.copied.ensures ∙ c.get.ensures.value))
