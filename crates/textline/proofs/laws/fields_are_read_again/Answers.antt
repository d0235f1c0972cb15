use Rattle.textline.proofs.SplitLaws.{fields_again, fields_lack, line_back}
use Rattle.textline.proofs.laws.fields_are_read_again.Goals as goal

pub returns : goal.returns
returns c = record { again = fields_again; lack = fields_lack; nothing_else = line_back }
