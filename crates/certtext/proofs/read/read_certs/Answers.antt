-- What is a file is read.
use Rattle.certtext.proofs.FileLaws.{file_gives}
use Rattle.certtext.proofs.PrintLaws.{printed_gives}
use Rattle.certtext.proofs.WholeLaws.{all_whole}
use Rattle.certtext.proofs.read.read_certs.Goals as goal

pub returns-clause-only : goal.returns-clause-only
returns-clause-only c = file_gives c.args.bytes.now c.args.core c.read_core.result c.read_core.ensures.found c.read_core.ensures.fault

pub returns-clause-whole : goal.returns-clause-whole
returns-clause-whole c = all_whole c.args.bytes.now c.args.core c.read_core.result c.read_core.ensures.found

pub returns-clause-printed : goal.returns-clause-printed
returns-clause-printed c =
    printed_gives c.args.bytes.now c.args.core c.read_core.result c.requires.core
    (file_gives c.args.bytes.now c.args.core c.read_core.result c.read_core.ensures.found c.read_core.ensures.fault)
