-- What an early return answers.
use Rattle.std.proofs.Common.{◌≡◌, ◌∙◌, sym, Option, None, Result, Ok, Err}
use Rattle.std.specs.Result.{IsErr, IsErrAnd}
use Rattle.cparts.specs.declared.fault.MakeFault.{MakeFault}
use Rattle.cparts.specs.declared.fault.MakeFault.TheVariants as fault
use Rattle.cparts.specs.declared.value.Value.{Value}
use Rattle.caction.specs.Make.{IsMade}

-- a fault that is handed on
pub handed_on : (made : Option Value) (result : Result Value MakeFault) (e : MakeFault) → IsErr result × IsErrAnd result (λ y. y ≡ e)
    → (e ≡ fault.Parts → made ≡ None) → IsMade made result
handed_on made (Ok v) e (h, p) k = absurd p
handed_on made (Err y) e (h, p) k = λ q. k (sym p ∙ q)

-- want of memory
pub no_memory : (made : Option Value) (result : Result Value MakeFault) → IsErr result × IsErrAnd result (λ y. y ≡ fault.Memory)
    → IsMade made result
no_memory made (Ok v) (h, p) = absurd p
no_memory made (Err y) (h, p) = λ q. (cc)
