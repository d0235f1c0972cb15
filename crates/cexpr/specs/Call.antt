-- Calls of functions. How the arguments are kept together is left open: `A` is a list of them.
use Rattle.std.specs.Prelude.{None, Option, Some, option_map, ◌++◌}
use Rattle.csyn.specs.declared.cause.Cause.TheVariants.{S18, S4, S6}
use Rattle.csyn.specs.declared.mark.Mark.{Mark}
use Rattle.cfault.specs.Asked.{asked_of, found, judged}
use Rattle.cfault.specs.Ruled.{Ruled, broken}
use Rattle.cfault.specs.declared.asked.Asked.{Asked}
use Rattle.cprogram.specs.declared.number.FunctionId.{FunctionId}
use Rattle.cprogram.specs.declared.scalar.Scalar.{Scalar}
use Rattle.cprogram.specs.declared.value.CallResult.TheVariants.{Used, Void}
use Rattle.cprogram.specs.declared.value.CallResult.{CallResult}
use Rattle.ctypes.specs.Shape.{Shape, scalar_of}
use Rattle.cexpr.specs.Ask.{at_node}
use Rattle.cexpr.specs.Assign.{implied_to, written}
use Rattle.cexpr.specs.Number.{void_type}
use Rattle.cexpr.specs.declared.item.OperandItem.{OperandItem}
use Rattle.cexpr.specs.declared.item.ValueItem.{ValueItem}
use Rattle.cexpr.specs.declared.meaning.Signature.{Signature}
use Rattle.cexpr.specs.declared.node.Call.{Call}

-- an argument, which becomes what its parameter's type is
abbrev pub argument : {V : Type 0} → Shape → Option (ValueItem V) → Asked (OperandItem V)
argument t a = asked_of a (implied_to t)

abbrev pub call_result : Option Scalar → CallResult
call_result None = Void
call_result (Some s) = Used s

abbrev pub type_result : Option Shape → CallResult
type_result None = Void
type_result (Some t) = call_result (scalar_of t.base t.steps)

abbrev pub result_type : Option Shape → Shape
result_type None = void_type
result_type (Some t) = t

abbrev pub call_made : {A : Type 0} → Mark → Signature → A → FunctionId → ValueItem (Call A)
call_made m s all f =
    written (result_type s.result) m (record { function = f; result = type_result s.result; arguments = all })

abbrev pub call_pair : {A : Type 0} → Option A → Option FunctionId → Option (A × FunctionId)
call_pair (Some a) (Some f) = Some (a, f)
call_pair _ _ = None

abbrev pub call_both : {A : Type 0} → Mark → Signature → Ruled A → Ruled FunctionId → Ruled (ValueItem (Call A))
call_both m s a f = record { faults = a.faults ++ f.faults; gives = option_map (λ p. call_made m s p.0 p.1) (call_pair a.gives f.gives) }

-- of as many arguments as there are parameters, each of which converts; and of a function that is defined
unfoldable pub called : {A : Type 0} → Mark → Signature → Asked A → Ruled (ValueItem (Call A))
called m s all = call_both m s (judged (at_node m S6) all) (judged (at_node m S18) (found s.definition))

-- what is called is no function
abbrev pub no_function : {N : Type 0} → Mark → Ruled (ValueItem N)
no_function m = broken (at_node m S4)
