-- A run of two executables under a script, and the first fault of the three.
use Rattle.std.specs.Prelude.{◌≡◌, ℕ, List, Ok, Err}
use Rattle.corestep.specs.declared.table.Table.{Table}
use Rattle.hostscript.specs.declared.cause.ScriptCause.{ScriptCause}
use Rattle.hostscript.specs.declared.script.Script.{Script}
use Rattle.hostscript.specs.Scripts.{IsScript, IsFirstBad}
use Rattle.isa.specs.Image.{Contents}
use Rattle.pruelf.specs.declared.fault.LoadCause.{LoadCause}
use Rattle.pruelf.specs.declared.fault.LoadFault.TheVariants.{At}
use Rattle.pruelf.specs.Executable.{image_in}
use Rattle.twocore.specs.Machine.{M}
use Rattle.simrun.specs.declared.fault.SimFault.{SimFault}
use Rattle.simrun.specs.declared.fault.SimFault.TheVariants.{Elf, Script as BadLine, NoMemory}
use Rattle.simrun.specs.declared.texts.Texts.{Texts}
use Rattle.simrun.specs.Texts.{AreTexts}

-- the executables hold these images, and the text is this script
pub record AreInputs (zero one text : List ℕ) (image0 image1 : Contents) (script : Script) : Type 0 where
  pub loaded0 : image_in zero ≡ Ok image0
  pub loaded1 : image_in one ≡ Ok image1
  pub read : IsScript text script

-- the texts of so many cycles of what the three hold, by the table
pub record Leaves (table : Table) (zero one text : List ℕ) (cycles : ℕ) (texts : Texts) : Type 0 where
  pub image0 : Contents
  pub image1 : Contents
  pub script : Script
  pub inputs : AreInputs zero one text image0 image1 script
  pub shown : AreTexts (M table image0 image1 script cycles) texts

-- The first of the two executables that is at fault, by its core, with its first fault.
pub data IsElfFault (zero one : List ℕ) (core offset : ℕ) (cause : LoadCause) : Type 0 where
  OfZero : (is_zero : core ≡ 0) (fault : image_in zero ≡ Err (At offset cause)) → IsElfFault zero one core offset cause
  OfOne : (image : Contents) (loaded : image_in zero ≡ Ok image) (is_one : core ≡ 1) (fault : image_in one ≡ Err (At offset cause))
      → IsElfFault zero one core offset cause

-- Both executables are loaded, and this is the first bad line of the script.
pub record IsScriptFault (zero one text : List ℕ) (number : ℕ) (cause : ScriptCause) : Type 0 where
  pub image0 : Contents
  pub image1 : Contents
  pub loaded0 : image_in zero ≡ Ok image0
  pub loaded1 : image_in one ≡ Ok image1
  pub bad : IsFirstBad text number cause

-- the first fault, or want of memory, which may always be answered
abbrev pub IsFaultOf : List ℕ → List ℕ → List ℕ → SimFault → Type 0
IsFaultOf zero one text (Elf core offset cause) = IsElfFault zero one core offset cause
IsFaultOf zero one text (BadLine number cause) = IsScriptFault zero one text number cause
IsFaultOf zero one text NoMemory = Unit {0}

-- ---- the parts' answers

-- why a core's executable isn't loaded
abbrev pub LoadFails : ℕ → List ℕ → SimFault → Type 0
LoadFails core bytes (Elf number offset cause) = (number ≡ core) × (image_in bytes ≡ Err (At offset cause))
LoadFails core bytes (BadLine number cause) = ⊥
LoadFails core bytes NoMemory = Unit {0}

-- why the script isn't read
abbrev pub ScriptFails : List ℕ → SimFault → Type 0
ScriptFails text (Elf core offset cause) = ⊥
ScriptFails text (BadLine number cause) = IsFirstBad text number cause
ScriptFails text NoMemory = Unit {0}
