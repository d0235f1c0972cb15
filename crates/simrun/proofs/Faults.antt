-- Whose fault is the first.
use Rattle.std.proofs.Common.{◌≡◌, ℕ, List, Ok}
use Rattle.isa.specs.Image.{Contents}
use Rattle.pruelf.specs.Executable.{image_in}
use Rattle.simrun.specs.declared.fault.SimFault.{SimFault}
use Rattle.simrun.specs.declared.fault.SimFault.TheVariants.{Elf, Script as BadLine, NoMemory}
use Rattle.simrun.specs.Simulation.{IsFaultOf, LoadFails, OfOne}

-- core 0's executable is loaded, so the first fault is of core 1's
pub second_fails : (zero one text : List ℕ) (image : Contents) (fault : SimFault) → image_in zero ≡ Ok image → LoadFails 1 one fault
    → IsFaultOf zero one text fault
second_fails zero one text image (Elf core offset cause) loaded fails = OfOne image loaded fails.0 fails.1
second_fails zero one text image (BadLine number cause) loaded fails = absurd fails
second_fails zero one text image NoMemory loaded fails = tt
