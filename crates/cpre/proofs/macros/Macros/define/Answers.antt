use Rattle.std.proofs.Common.{◌≡◌, ap, ◌∙◌}
use Rattle.indexmap.proofs.CallerLemmas.{insert_entry-new}
use Rattle.cpre.proofs.Entries.{seen, seen_push}
use Rattle.cpre.proofs.macros.Macros.define.Goals as goal

pub returns-clause-macros : goal.returns-clause-macros
returns-clause-macros c =
    ap (seen (λ k. k.now) (λ v. v.tokens.now)) (c.in_ok-insert.ensures.entries
    ∙ insert_entry-new _ c.args.self.now.by_name c.args.name _ c.requires)
    ∙ seen_push (λ k. k.now) (λ v. v.tokens.now) c.args.self.now.by_name.entries c.args.name _

pub returns-clause-found : goal.returns-clause-found
returns-clause-found c = λ other. c.in_ok-insert.ensures.updates.0 (record c.args.name { now = other })
