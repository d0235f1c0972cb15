-- What a program means: what its `main` shows, given what its reads are answered with, in so many source steps.
use Rattle.std.specs.Prelude.{ℕ, zero, suc, ◌+◌, ◌*◌, true, List, [], ◌∷◌, ◌++◌, length, map, drop, Option, Some, None, slice_get}
use Rattle.std.specs.Option.{option_map}
use Rattle.cprogram.specs.Layout.{Shape, leaf_at, leaf_count}
use Rattle.cprogram.specs.declared.constant.Constant.{Constant}
use Rattle.cprogram.specs.declared.constant.Constant.TheVariants as constant
use Rattle.cprogram.specs.declared.constant.FirstValue.{FirstValue}
use Rattle.cprogram.specs.declared.constant.FirstValue.TheVariants as first
use Rattle.cprogram.specs.declared.program.Storage.{Storage}
use Rattle.cprogram.specs.declared.program.Storage.TheVariants as storage
use Rattle.cprogram.specs.declared.program.FileObject.{FileObject}
use Rattle.cprogram.specs.declared.program.Function.{Function}
use Rattle.cprogram.specs.declared.program.Program.{Program}
use Rattle.behaviour.specs.Ran.{Ran}
use Rattle.cmean.specs.declared.undefined.UndefinedStep.{UndefinedStep}
use Rattle.cmean.specs.Datum.{zero_of, Datum, Number, Null, Plain, Address}
use Rattle.cmean.specs.State.{State, Run, Object, Leaves, give, change, with_state, then_with}
use Rattle.cmean.specs.State.{then_do, entered, never, halt, unset, ended_from}
use Rattle.cmean.specs.Expression.{Valued, Calls}
use Rattle.cmean.specs.Statement.{Flow, Returned, run_items}

-- ---- calls

abbrev pub result_of : Flow → Valued
result_of (Returned v) = v
result_of flow = None

abbrev pub parameter : Datum → Object
parameter d = record { is_alive = true; leaves = Some d ∷ [] }

-- the parameters with their values, and the other locals, unset
abbrev pub locals_of : Function → List Datum → List Object
locals_of f ds = map parameter ds ++ map (λ shape. unset (leaf_count shape)) (drop f.parameters f.locals)

-- a call makes an object for each local; behind it these are gone, and the caller's locals are those at hand again
abbrev pub called : Function → List Datum → Run Flow → Run Valued
called f ds body = with_state (λ s.
    then_do (change (λ t. record t { objects = t.objects ++ locals_of f ds; locals = length t.objects }))
    (then_with body (λ flow.
    then_do (change (λ t. record t { objects = ended_from (length s.objects) t.objects; locals = s.locals }))
    (give (result_of flow)))))

-- a function by its number, where there is one; the body of a function is one statement
abbrev pub call_of : Calls → List Datum → Option Function → Run Valued
call_of calls ds None = never
call_of calls ds (Some f) = called f ds (entered (run_items calls f.locals f.body))

module _ (p : Program) where
  -- the function with a number, called where so many calls may be open. No function reaches itself, so as many as there are functions do.
  abbrev pub calls_within : ℕ → Calls
  calls_within zero f ds = never
  calls_within (suc depth) f ds = call_of (calls_within depth) ds (slice_get p.functions f)

  abbrev pub calls : Calls
  calls = calls_within (suc (length p.functions))

-- ---- the beginning

abbrev pub constant_datum : Constant → Datum
constant_datum (constant.Number n) = Number n
constant_datum constant.Null = Null
constant_datum (constant.Address a) = Address a
constant_datum (constant.Pointer c) = Plain (record {
  object = c.object.0;
  first = c.first.leaves;
  count = c.count;
  index = c.index;
  leaf = c.first.leaves + c.index * c.element.leaves;
  byte = c.first.bytes + c.index * c.element.bytes;
})

-- so many leaves of 0, from this one on
abbrev pub zero_leaves : Shape → ℕ → ℕ → Leaves
zero_leaves shape leaf zero = []
zero_leaves shape leaf (suc n) = option_map (λ l. zero_of l.scalar) (leaf_at shape leaf) ∷ zero_leaves shape (suc leaf) n

-- the leaves of a file object at first, from this one on
abbrev pub first_leaves : Shape → ℕ → List FirstValue → Leaves
first_leaves shape leaf [] = []
first_leaves shape leaf (first.Constant c ∷ rest) = Some (constant_datum c) ∷ first_leaves shape (suc leaf) rest
first_leaves shape leaf (first.Zeros n ∷ rest) = zero_leaves shape leaf n ++ first_leaves shape (leaf + n) rest

-- a volatile object has no leaves: what it holds is asked of the outside each time
abbrev pub stored : Shape → Storage → Leaves
stored shape (storage.Plain values) = first_leaves shape 0 values
stored shape (storage.Volatile address) = []

abbrev pub file_object : FileObject → Object
file_object o = record { is_alive = true; leaves = stored o.layout o.storage }

module _ (p : Program) where
  abbrev pub start : List ℕ → State
  start values = record { objects = map file_object p.objects; locals = 0; values = values; shown = []; steps = 0 }

  -- `main` is called, and leaving it is the same as a halt
  abbrev pub run_main : Run Valued
  run_main = then_do (calls p p.main.0 []) halt

  -- the meaning, given what reads are answered with, within a number of steps
  unfoldable pub mean : List ℕ → ℕ → Ran UndefinedStep State Valued
  mean values budget = run_main budget (start values)
