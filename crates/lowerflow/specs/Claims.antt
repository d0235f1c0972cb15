-- What is claimed of the code of an expression and of a statement.
use Rattle.std.specs.Prelude.{ℕ, ◌≡◌, ◌+◌, List, Option, Some, None, slice_get}
use Rattle.cprogram.specs.Layout.{Shape}
use Rattle.cprogram.specs.declared.value.ValueKind.{ValueKind}
use Rattle.cprogram.specs.declared.statement.StmtKind.{StmtKind}
use Rattle.csyn.specs.declared.span.Span.{Span}
use Rattle.cmean.specs.State.{Run, node}
use Rattle.cmean.specs.Expression.{Valued, Calls, value_kind}
use Rattle.cmean.specs.Statement.{stmt_kind}
use Rattle.lowerstate.specs.Held.{Meant, Laid, Home, InRegister}
use Rattle.lowerstate.specs.Related.{Fixed, Call}
use Rattle.lowerstate.specs.Piece.{Code, Free, node_back, Evaluates, IsValue}
use Rattle.lowerflow.specs.Goes.{Exits, no_exits, Goes, Begins, always_next}
use Rattle.lowerflow.specs.Nodes.{value_nodes, stmt_nodes}
use Rattle.lowerflow.specs.Typed.{Declared, IsValueOf, IsStatement}
use Rattle.lowerflow.specs.Code.{value_code, stmt_code}

-- it holds of the code, where there is one
abbrev pub Meets : (Code → Type 0) → Option Code → Type 0
Meets P None = Unit {0}
Meets P (Some code) = P code

-- Code for a run that gives a value of a type, or none where it is of type void.
abbrev pub Values : Fixed → Call → Free → Code → Option Meant → Run Valued → ℕ → ℕ → Type 0
Values r c f code (Some t) run nodes back = Evaluates r c f code IsValue t run nodes back
Values r c f code None run nodes back = Goes r c no_exits f code always_next run nodes back

-- a local that is a register is declared as a scalar of its type
abbrev pub AreDeclared : Declared → List Home → Type 0
AreDeclared d homes = (k q : ℕ) (t : Meant) → slice_get homes k ≡ Some (InRegister q t)
    → (laid : Laid) × (slice_get d.locals k ≡ Some laid) × (slice_get laid.parts 0 ≡ Some (record { meant = t; offset = 0 }))

-- what the code of an expression does
abbrev pub ValueLaw : Fixed → Call → Declared → Calls → Type 0
ValueLaw r c d calls = (v : ValueKind) (span : Span) (f : Free) (t : Option Meant) → IsValueOf d v t
    → Meets (λ code. Values r c f code t (node (value_kind calls span v)) (value_nodes v) node_back) (value_code c.own f v)

-- what the code of a statement does behind the statement's own step
abbrev pub StatementLaw : Fixed → Call → Declared → Calls → List Shape → Type 0
StatementLaw r c d calls shapes = (v : StmtKind) (e : Exits) (f : Free) → IsStatement d v
    → Meets (λ code. Begins r c e f code (stmt_kind calls shapes v) (stmt_nodes v)) (stmt_code c.own e f v)
