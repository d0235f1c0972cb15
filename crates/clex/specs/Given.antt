-- What a function that may want memory gives.
use Rattle.std.specs.Prelude.{◌≡◌, Result, Ok, Err}
use Rattle.csyn.specs.declared.cause.Cause.{Cause}
use Rattle.csyn.specs.declared.span.Span.{Span}
use Rattle.csyn.specs.declared.fault.SourceFault.{SourceFault}
use Rattle.csyn.specs.declared.fault.SourceFault.TheVariants as source
use Rattle.clex.specs.declared.fault.PieceFault.{PieceFault}
use Rattle.clex.specs.declared.fault.PieceFault.TheVariants.{Broken, Memory}

-- Memory may always be wanting; else the cause is that of the reading.
abbrev pub Fails : {A : Type 0} → PieceFault → Result A Cause → Type 0
Fails Memory read = Unit {0}
Fails (Broken cause) read = read ≡ Err cause

-- The result, seen by view, is what the reading gives, or memory is wanting.
abbrev pub Gives : {A B : Type 0} → (A → B) → Result A PieceFault → Result B Cause → Type 0
Gives view (Ok x) read = read ≡ Ok (view x)
Gives view (Err fault) read = Fails fault read

-- the fault of a source, at the place where the piece is wanted
abbrev pub fault_at : PieceFault → Span → SourceFault
fault_at (Broken cause) span = source.Broken span cause
fault_at Memory span = source.Memory
