-- The program's exit statuses, this project's own, and what each fault comes to.
use Rattle.std.specs.Prelude.{ℕ}
use Rattle.modefiles.specs.declared.fault.InputFault.{InputFault}
use Rattle.modefiles.specs.declared.fault.InputFault.TheVariants as input
use Rattle.modefiles.specs.declared.fault.OutputFault.{OutputFault}
use Rattle.modefiles.specs.declared.fault.OutputFault.TheVariants as output
use Rattle.prucc.specs.declared.refusal.Refusal.{Refusal}
use Rattle.prucc.specs.declared.refusal.Refusal.TheVariants as refusal
use Rattle.prucc.specs.declared.status.Status.{Status}
use Rattle.prucc.specs.declared.status.Status.TheVariants.{Done, Source, Words, Script, ReadFault, WriteFault, TooLong, Elf, NoMemory, NotBuilt}

abbrev pub number_of : Status → ℕ
number_of Done = 0
number_of (Source core span cause) = 1
number_of Words = 2
number_of (Script line cause) = 5
number_of (ReadFault name) = 6
number_of (WriteFault name) = 7
number_of (TooLong name max) = 8
number_of (Elf name offset cause) = 9
number_of NoMemory = 14
number_of (NotBuilt name span) = 16

-- files aren't read
abbrev pub unread : InputFault → Status
unread (input.Failed name) = ReadFault name
unread (input.TooLong name max) = TooLong name max
unread input.NoMemory = NoMemory

-- nothing is made of them
abbrev pub status_of : Refusal → Status
status_of (refusal.Source core span cause) = Source core span cause
status_of (refusal.Script line cause) = Script line cause
status_of (refusal.Elf name offset cause) = Elf name offset cause
status_of (refusal.NotBuilt name span) = NotBuilt name span
status_of refusal.NoMemory = NoMemory

-- files or lines aren't written
abbrev pub unwritten : OutputFault → Status
unwritten (output.Failed name) = WriteFault name
unwritten output.NoMemory = NoMemory
