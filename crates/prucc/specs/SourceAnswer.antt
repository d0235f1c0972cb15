-- The answers of reading a source: inner words of `form` and `source`.
use Rattle.std.specs.Prelude.{◌≡◌, ℕ, List, Option, Some, None, Result, Ok, Err}
use Rattle.std.specs.Global.{Vec}
use Rattle.csyn.specs.declared.fault.SourceFault.{SourceFault}
use Rattle.csyn.specs.declared.fault.SourceFault.TheVariants as source
use Rattle.csyn.specs.declared.span.Span.{Span}
use Rattle.csyn.specs.declared.statement.Items as items
use Rattle.csyn.specs.declared.unit.UnitKind.{UnitKind}
use Rattle.csyn.specs.declared.unit.Units as units
use Rattle.csyn.specs.Tree.{Contents}
use Rattle.prucc.specs.declared.form.FormFault.{FormFault}
use Rattle.prucc.specs.declared.form.FormFault.TheVariants as form
use Rattle.prucc.specs.declared.source.SourceRefusal.{SourceRefusal}
use Rattle.prucc.specs.declared.source.SourceRefusal.TheVariants.{Broken, NotBuilt, Memory}
use Rattle.prucc.specs.Form.{IsMain, body_departure, departure}
use Rattle.prucc.specs.Source.{IsSourceFault, IsUnbuilt}

-- the body, where the unit is a function `void main(void)`
abbrev pub MainOf : UnitKind → Option items.Items → Type 0
MainOf kind (Some body) = IsMain kind body
MainOf kind None = (body : items.Items) → IsMain kind body → ⊥

-- where the first unit begins
abbrev pub first_begin : units.Units → Option Span
first_begin units.End = None
first_begin (units.More' u _ _) = Some u.value.mark.span

-- why the items of a body aren't read
abbrev pub BodyFails : Span → items.Items → FormFault → Type 0
BodyFails end body (form.At span) = body_departure end 0 body ≡ Some span
BodyFails end body form.Memory = Unit {0}

-- why a tree isn't read
abbrev pub FormFails : Contents → FormFault → Type 0
FormFails tree (form.At span) = departure tree ≡ Some span
FormFails tree form.Memory = Unit {0}

-- the tree is read as writing these numbers, or memory is wanting
abbrev pub ReadsAs : List ℕ → Result (Vec ℕ) FormFault → Type 0
ReadsAs ks (Ok writes) = writes.items ≡ ks
ReadsAs ks (Err (form.At _)) = ⊥
ReadsAs ks (Err form.Memory) = Unit {0}

-- why a source isn't read
abbrev pub Refuses : List ℕ → SourceRefusal → Type 0
Refuses source (Broken span cause) = IsSourceFault source span cause
Refuses source (NotBuilt span) = IsUnbuilt source span
Refuses source Memory = Unit {0}

-- the refusals for these faults
abbrev pub refusal_of : SourceFault → SourceRefusal
refusal_of (source.Broken span cause) = Broken span cause
refusal_of source.Memory = Memory

abbrev pub refusal_at : FormFault → SourceRefusal
refusal_at (form.At span) = NotBuilt span
refusal_at form.Memory = Memory
