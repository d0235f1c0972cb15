use Rattle.std.proofs.Common.{Result, subst, arith}
use Rattle.elfrec.specs.declared.fault.ElfFault.{ElfFault}
use Rattle.elfrec.specs.declared.file.ElfFile.{ElfFile}
use Rattle.elfrec.specs.Record.{Gives}
use Rattle.elfrec.proofs.Files.{is_found, file_again}
use Rattle.elfrec.proofs.reading.read_file.Goals as goal

pub returns-clause-found : goal.returns-clause-found
returns-clause-found c = is_found c.args.bytes.now c.read_parts.result (λ i. omega (arith, c.type_inv.bytes i)) c.read_parts.ensures

pub returns-clause-only : goal.returns-clause-only
returns-clause-only c = λ f is. subst (λ (r : Result ElfFile ElfFault). Gives (λ g. g) c.read_parts.result r)
    (file_again c.args.bytes.now f is) c.read_parts.ensures
