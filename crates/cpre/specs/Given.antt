-- What a function that may want memory gives.
use Rattle.std.specs.Prelude.{◌≡◌, Result, Ok, Err}
use Rattle.csyn.specs.declared.cause.Cause.{Cause}
use Rattle.csyn.specs.declared.fault.SourceFault.{SourceFault}
use Rattle.csyn.specs.declared.fault.SourceFault.TheVariants as source
use Rattle.csyn.specs.declared.span.Span.{Span}
use Rattle.cpre.specs.declared.fault.ItemFault.{ItemFault}
use Rattle.cpre.specs.declared.fault.ItemFault.TheVariants.{Broken, Memory}

-- the fault of a source, at the place of the item
abbrev pub fault_at : ItemFault → Span → SourceFault
fault_at (Broken cause) span = source.Broken span cause
fault_at Memory span = source.Memory

abbrev pub Fails : {S : Type 0} → ItemFault → Result S Cause → Type 0
Fails (Broken cause) wanted = wanted ≡ Err cause
Fails Memory wanted = Unit {0}

-- The state behind an item is the wanted one, or the item has the wanted fault, or memory is wanting.
abbrev pub Gives : {A S : Type 0} → Result A ItemFault → S → Result S Cause → Type 0
Gives (Ok x) behind wanted = wanted ≡ Ok behind
Gives (Err fault) behind wanted = Fails fault wanted

-- the wanted fault, or memory is wanting
abbrev pub Refuses : {B : Type 0} → SourceFault → Result B (Span × Cause) → Type 0
Refuses (source.Broken span cause) wanted = wanted ≡ Err (span, cause)
Refuses source.Memory wanted = Unit {0}

-- The result, seen by view, is this one, or memory is wanting.
abbrev pub Answers : {A B : Type 0} → (A → B) → Result A SourceFault → Result B (Span × Cause) → Type 0
Answers view (Ok x) wanted = wanted ≡ Ok (view x)
Answers view (Err fault) wanted = Refuses fault wanted
