use Rattle.std.proofs.Common.{ap, ◌∙◌, map}
use Rattle.std.specs.Str.{bytes_eq}
use Rattle.asmtext.proofs.NameLemmas.{added}
use Rattle.asmtext.proofs.names.Names.add.Goals as goal

pub returns : goal.returns
returns c =
    ap (map (λ name. name.now)) c.in_ok-insert.ensures.keys
    ∙ added (λ name. name.now) (bytes_eq c.args.name.now) c.args.self.now.by_appearance.keys c.args.name
