-- The calls between a program's functions, and those that stand in a cycle. A list has the calls in each function, by its number.
use Rattle.std.specs.Prelude.{◌≡◌, ◌<◌, ◌≤◌, ℕ, List, [], Option, Some, None, Contains, slice_get, length, ◌⊎◌}
use Rattle.std.specs.Global.{Vec}
use Rattle.csyn.specs.declared.span.Span.{Span}
use Rattle.callcycle.specs.declared.call.Call.{Call}

abbrev pub calls_in : Option (Vec Call) → List Call
calls_in None = []
calls_in (Some v) = v.items

-- the calls in a function; none where the number is no function's
abbrev pub calls_of : List (Vec Call) → ℕ → List Call
calls_of functions f = calls_in (slice_get functions f)

-- by calls, in any number of steps, none included
pub data Reaches (functions : List (Vec Call)) : ℕ → ℕ → Type 0 where
  here : (f : ℕ) → Reaches functions f f
  calls : (f g : ℕ) (c : Call) → Contains (calls_of functions f) c → Reaches functions c.callee g → Reaches functions f g

-- a call in a function that the called function reaches
pub record InCycle (functions : List (Vec Call)) (f : ℕ) (c : Call) : Type 0 where
  pub is : Contains (calls_of functions f) c
  pub back : Reaches functions c.callee f

abbrev pub HasNoCycle : List (Vec Call) → Type 0
HasNoCycle functions = (f : ℕ) (c : Call) → InCycle functions f c → ⊥

-- by line, then column: the first place is the second or stands before it
abbrev pub IsUpTo : Span → Span → Type 0
IsUpTo p q = (p.line < q.line) ⊎ ((p.line ≡ q.line) × (p.column ≤ q.column))

-- the place of a call in a cycle, before which no other stands
pub record IsFirst (functions : List (Vec Call)) (place : Span) : Type 0 where
  pub caller : ℕ
  pub call : Call
  pub in_cycle : InCycle functions caller call
  pub at : call.place ≡ place
  pub first : (f : ℕ) (c : Call) → InCycle functions f c → IsUpTo place c.place

-- numbers of the functions that fall along each call between them, below the count of functions
pub record IsDepth (functions : List (Vec Call)) (depth : ℕ → ℕ) : Type 0 where
  pub falls : (f : ℕ) (c : Call) → Contains (calls_of functions f) c → c.callee < length functions → depth c.callee < depth f
  pub within : (f : ℕ) → f < length functions → depth f < length functions

abbrev pub HasDepth : List (Vec Call) → Type 0
HasDepth functions = (depth : ℕ → ℕ) × IsDepth functions depth
