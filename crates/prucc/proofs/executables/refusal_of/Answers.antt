use Rattle.std.proofs.Common.{subst}
use Rattle.simrun.specs.Simulation.{IsFaultOf}
use Rattle.prucc.proofs.RunOfExecutables.{of_one}
use Rattle.prucc.proofs.executables.refusal_of.Goals as goal

pub returns-else-core-eq0 : goal.returns-else-core-eq0
returns-else-core-eq0 c = λ zero one script fault.
    of_one c.args.cores.now zero one script c.in-Elf.core c.in-Elf.offset c.in-Elf.cause c.elf_refusal-in-Elf.result
    c.if-core-eq0.false c.elf_refusal-in-Elf.ensures (subst (IsFaultOf zero one script) c.in-Elf.is fault)
