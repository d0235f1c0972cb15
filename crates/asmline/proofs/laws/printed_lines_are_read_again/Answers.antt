use Rattle.asmline.proofs.LineLaws.{label_line, note_line, whole_line, aimed_line}
use Rattle.asmline.proofs.laws.printed_lines_are_read_again.Goals as goal

pub returns-clause-label : goal.returns-clause-label
returns-clause-label c = label_line

pub returns-clause-note : goal.returns-clause-note
returns-clause-note c = note_line

pub returns-clause-whole : goal.returns-clause-whole
returns-clause-whole c = whole_line

pub returns-clause-aimed : goal.returns-clause-aimed
returns-clause-aimed c = aimed_line
