use Rattle.std.proofs.Common.{sym, ap, ◌∙◌, Some}
use Rattle.std.specs.Option.{option_map}
use Rattle.cpre.proofs.Stages.{stays_as_no_name, stays_as_unknown, stays_as_open, goes_as_nothing}
use Rattle.cpre.proofs.replace.Replacer.fate.Goals as goal

pub returns-in-None : goal.returns-in-None
returns-in-None c = λ span. stays_as_no_name c.args.self.now.macros c.args.self.now.frames c.requires c.args.token.now span
    (sym c.in-None.ensures)

pub returns-in-None-get : goal.returns-in-None-get
returns-in-None-get c = λ span. stays_as_unknown c.args.self.now.macros c.args.self.now.frames c.requires c.args.token.now span
    c.in-Some.name.now (sym c.in-Some.ensures) (sym c.in-None-get.ensures.found)

pub returns-in-Open : goal.returns-in-Open
returns-in-Open c = λ span. stays_as_open c.args.self.now.macros c.args.self.now.frames c.requires c.args.token.now span
    c.in-Some.name.now (sym c.in-Some.ensures) (ap (option_map (λ m. m.stage)) (sym c.in-Some-get.ensures.found) ∙ ap Some c.in-Open.is)

pub returns-in-Nothing : goal.returns-in-Nothing
returns-in-Nothing c = λ span. goes_as_nothing c.args.self.now.macros c.args.self.now.frames c.requires c.args.token.now span
    c.in-Some.name.now (sym c.in-Some.ensures) (ap (option_map (λ m. m.stage)) (sym c.in-Some-get.ensures.found) ∙ ap Some c.in-Nothing.is)
