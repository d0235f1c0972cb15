-- The edition that is read is the one that the line names.
use Rattle.certtext.proofs.FieldLaws.{edition_text_told, edition_told_only}
use Rattle.certtext.proofs.edition.read_edition.Goals as goal

pub returns-clause-text : goal.returns-clause-text
returns-clause-text c = edition_text_told c.args.line.now c.named_edition.result c.named_edition.ensures

pub returns-clause-only : goal.returns-clause-only
returns-clause-only c = edition_told_only c.args.line.now c.named_edition.result c.named_edition.ensures
