-- What is read of a line is what the line says.
use Rattle.certtext.proofs.FieldLaws.{told_fits, told_text, told_only}
use Rattle.certtext.proofs.saying.read_saying.Goals as goal

pub returns-clause-found : goal.returns-clause-found
returns-clause-found c = told_fits c.args.edition c.args.line.now c.said_in_fields.result c.said_in_fields.ensures

pub returns-clause-text : goal.returns-clause-text
returns-clause-text c = told_text c.args.edition c.args.line.now c.said_in_fields.result c.said_in_fields.ensures

pub returns-clause-only : goal.returns-clause-only
returns-clause-only c = told_only c.args.edition c.args.line.now c.said_in_fields.result c.said_in_fields.ensures
