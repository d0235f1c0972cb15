use Rattle.std.proofs.Common.{◌≡◌, ap, ◌∙◌}
use Rattle.cpre.proofs.Entries.{seen, seen_kept}
use Rattle.cpre.proofs.macros.Macros.set_stage.Goals as goal

pub returns-clause-macros : goal.returns-clause-macros
returns-clause-macros c =
    ap (seen (λ k. k.now) (λ v. v.tokens.now)) c.in_ok-insert.ensures.entries
    ∙ seen_kept (λ k. k.now) (λ v. v.tokens.now) _ c.args.self.now.by_name.entries c.args.name _ c.requires

pub returns-clause-found : goal.returns-clause-found
returns-clause-found c = λ other. c.in_ok-insert.ensures.updates.0 (record c.args.name { now = other })
