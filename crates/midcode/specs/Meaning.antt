-- What operations do, and the run of a program.
use Rattle.std.specs.Prelude.{ℕ, ◌+◌, ◌%◌, ◌^◌, ◌==◌, ◌&&◌, not, Bool, true, false, nat_lt, nat_le, List, [], ◌∷◌, ◌++◌}
use Rattle.std.specs.Prelude.{replicate, Option, Some, None, slice_get, slice_index, if◌then◌else◌}
use Rattle.behaviour.specs.declared.stop.Stop.TheVariants.{Ended, Stuck}
use Rattle.behaviour.specs.Ran.{Ran, Done, Stopped}
use Rattle.behaviour.specs.Machine.{exec}
use Rattle.prunum.specs.Bytes.{little_bytes}
use Rattle.prunum.specs.Number.{wrap, wrap_signed, sext}
use Rattle.prunum.specs.Width.{byte_count}
use Rattle.prunum.specs.declared.width.Width.{Width}
use Rattle.prunum.specs.declared.width.Width.TheVariants.{B1, B2, B4}
use Rattle.prutrace.specs.declared.event.Event.TheVariants as event
use Rattle.prutrace.specs.declared.event.Place.{Place}
use Rattle.prutrace.specs.declared.event.Place.TheVariants as place
use Rattle.midcode.specs.declared.object.FirstPart.{FirstPart}
use Rattle.midcode.specs.declared.object.FirstPart.TheVariants as first
use Rattle.midcode.specs.declared.register.VReg.{VReg}
use Rattle.midcode.specs.declared.register.Label.{Label}
use Rattle.midcode.specs.declared.op.Base.{Base}
use Rattle.midcode.specs.declared.op.Base.TheVariants as base
use Rattle.midcode.specs.declared.op.VolatileBase.{VolatileBase}
use Rattle.midcode.specs.declared.op.VolatileBase.TheVariants as volatile
use Rattle.midcode.specs.declared.op.CoreRegister.{CoreRegister}
use Rattle.midcode.specs.declared.op.CoreRegister.TheVariants.{R30, R31}
use Rattle.midcode.specs.declared.op.Operand.{Operand}
use Rattle.midcode.specs.declared.op.Operand.TheVariants as operand
use Rattle.midcode.specs.declared.op.Test.{Test}
use Rattle.midcode.specs.declared.op.Test.TheVariants as test
use Rattle.midcode.specs.declared.op.Mark.TheVariants as mark
use Rattle.midcode.specs.declared.op.OpKind.{OpKind}
use Rattle.midcode.specs.declared.op.OpKind.TheVariants as op
use Rattle.midcode.specs.Operation.{listed}
use Rattle.midcode.specs.Value.{unary_value, binary_value}
use Rattle.midcode.specs.Function.{Function, kinds, size_at}
use Rattle.midcode.specs.Program.{Program}
use Rattle.midcode.specs.Stored.{Stored}
use Rattle.midcode.specs.Cost.{charge}
use Rattle.midcode.specs.Machine.{Wild, MoreTurns, FewerTurns, Frame, Caller, State, Does, giving, done, with_state, in_turn}
use Rattle.midcode.specs.Machine.{sure, get, put, at_place, onwards, load, store, stored, show, read, allowed}

-- ---- the program at hand

abbrev pub function_at : Program → ℕ → Option Function
function_at p f = slice_get p.functions f

abbrev pub kinds_of_function : Option Function → List OpKind
kinds_of_function None = []
kinds_of_function (Some f) = kinds f

abbrev pub registers_of : Option Function → List Width
registers_of None = []
registers_of (Some f) = f.registers

-- the operations of the function that runs
abbrev pub running : Program → State → List OpKind
running p s = kinds_of_function (function_at p s.frame.function)

abbrev pub width_of_size : ℕ → Width
width_of_size n = if n == 1 then B1 else (if n == 2 then B2 else B4)

-- the width of a register of the function that runs
abbrev pub width_of : Program → State → VReg → Width
width_of p s r = width_of_size (size_at (registers_of (function_at p s.frame.function)) r)

-- ---- parts of operations

-- a result, cut to its register
abbrev pub set : Program → VReg → ℕ → Does (Unit {0})
set p r v s = put r (wrap (width_of p s r) v) s

abbrev pub value : Operand → Does ℕ
value (operand.Register r) = get r
value (operand.Constant n) = giving n

abbrev pub plain_address : List ℕ → Base → ℕ → Does ℕ
plain_address addresses (base.Object object) offset = giving (slice_index addresses object + offset)
plain_address addresses (base.Register r) offset = in_turn (get r) (λ v. giving ((v + offset) % 2 ^ 32))

abbrev pub volatile_address : VolatileBase → ℕ → Does ℕ
volatile_address (volatile.Address address) offset = giving ((address + offset) % 2 ^ 32)
volatile_address (volatile.Register r) offset = in_turn (get r) (λ v. giving ((v + offset) % 2 ^ 32))

abbrev pub core_place : CoreRegister → Place
core_place R30 = place.Reg30
core_place R31 = place.Reg31

abbrev pub is_met : Test → ℕ → ℕ → Bool
is_met test.Equal a b = a == b
is_met test.NotEqual a b = not (a == b)

-- the place of a label's operation
abbrev pub standing_at : List OpKind → ℕ → ℕ
standing_at [] l = 0
standing_at (op.Label m ∷ ks) l = if m.0 == l then 0 else 1 + standing_at ks l
standing_at (_ ∷ ks) l = 1 + standing_at ks l

abbrev pub go_to : Program → Label → Does (Unit {0})
go_to p l s = at_place (standing_at (running p s) l.0) s

-- ---- turns

abbrev pub with_taken : (ℕ → ℕ) → ℕ → ℕ → ℕ → ℕ
with_taken taken at n q = if q == at then n else taken q

abbrev pub turns_taken : State → ℕ
turns_taken s = s.frame.taken s.frame.place

abbrev pub count_turn : ℕ → Does (Unit {0})
count_turn n s = Done tt (record s { frame = record s.frame { taken = with_taken s.frame.taken s.frame.place n } })

-- A jump back that carries n turns may be taken n - 1 times, and then its loop is left.
abbrev pub taking : Option ℕ → Does (Unit {0})
taking None = done
taking (Some n) = with_state (λ s.
    in_turn (sure MoreTurns (nat_lt (turns_taken s + 1) n)) (λ _. count_turn (turns_taken s + 1)))

abbrev pub passing : Option ℕ → Does (Unit {0})
passing None = done
passing (Some n) = with_state (λ s. in_turn (sure FewerTurns (turns_taken s + 1 == n)) (λ _. count_turn 0))

abbrev pub branch : Program → Option ℕ → Label → Bool → Does (Unit {0})
branch p turns to true = in_turn (taking turns) (λ _. go_to p to)
branch p turns to false = in_turn (passing turns) (λ _. onwards)

-- ---- calls

abbrev pub get_all : List VReg → Does (List ℕ)
get_all [] = giving []
get_all (r ∷ rs) = in_turn (get r) (λ v. in_turn (get_all rs) (λ vs. giving (v ∷ vs)))

-- the parameters hold the arguments, and no other register was written
abbrev pub parameters_hold : List ℕ → ℕ → Option ℕ
parameters_hold vs r = slice_get vs r

abbrev pub first_frame : ℕ → List ℕ → Frame
first_frame f vs = record { function = f; place = 0; registers = parameters_hold vs; taken = λ _. 0 }

abbrev pub call : ℕ → List ℕ → Option VReg → Does (Unit {0})
call f vs to s = Done tt (record s { frame = first_frame f vs; callers = record { frame = s.frame; to = to } ∷ s.callers })

abbrev pub get_option : Option VReg → Does (Option ℕ)
get_option None = giving None
get_option (Some r) = in_turn (get r) (λ v. giving (Some v))

-- the value of a call goes to its register, where there are both
abbrev pub hand_over : Program → Option ℕ → Option VReg → Does (Unit {0})
hand_over p (Some v) (Some r) = set p r v
hand_over p _ _ = done

-- the program is over
abbrev pub halt : Does (Unit {0})
halt = in_turn (show event.Halted) (λ _ s. Stopped Ended s)

abbrev pub back_to : Frame → List Caller → Does (Unit {0})
back_to frame callers s = Done tt (record s { frame = frame; callers = callers })

-- The first function's return ends the program.
abbrev pub return_to : Program → Option ℕ → List Caller → Does (Unit {0})
return_to p v [] = halt
return_to p v (caller ∷ callers) = in_turn (back_to caller.frame callers) (λ _. in_turn (hand_over p v caller.to) (λ _. onwards))

-- ---- operations

abbrev pub effect : Program → List ℕ → OpKind → Does (Unit {0})
effect p a (op.Constant to n) = in_turn (set p to n) (λ _. onwards)
effect p a (op.Address to object offset) = in_turn (set p to (slice_index a object + offset)) (λ _. onwards)
effect p a (op.Copy to from) = in_turn (get from) (λ v. in_turn (set p to v) (λ _. onwards))
effect p a (op.Unary o to from) = in_turn (get from) (λ v. in_turn (set p to (unary_value o v)) (λ _. onwards))
effect p a (op.Binary o to left right) =
    in_turn (get left) (λ v. in_turn (value right) (λ w. in_turn (set p to (binary_value o v w)) (λ _. onwards)))
effect p a (op.Widen to from) =
    in_turn (get from) (λ v. with_state (λ s. in_turn (set p to (wrap_signed B4 (sext (width_of p s from) v))) (λ _. onwards)))
effect p a (op.Load to b offset) =
    in_turn (plain_address a b offset) (λ at. with_state (λ s.
    in_turn (load a p.objects (width_of p s to) at) (λ v. in_turn (set p to v) (λ _. onwards))))
effect p a (op.Store b offset from width) =
    in_turn (plain_address a b offset) (λ at. in_turn (get from) (λ v.
    in_turn (store a p.objects at (little_bytes (byte_count width) v)) (λ _. onwards)))
effect p a (op.Zero object offset bytes) =
    in_turn (store a p.objects (slice_index a object + offset) (replicate bytes 0)) (λ _. onwards)
effect p a (op.Read to b offset own) =
    in_turn (volatile_address b offset) (λ at. with_state (λ s.
    in_turn (allowed own (width_of p s to) at) (λ _.
    in_turn (read (place.Addr at) (width_of p s to)) (λ v. in_turn (set p to v) (λ _. onwards)))))
effect p a (op.Write b offset from width own) =
    in_turn (volatile_address b offset) (λ at. in_turn (get from) (λ v.
    in_turn (allowed own width at) (λ _. in_turn (show (event.Write (place.Addr at) width (wrap width v))) (λ _. onwards))))
effect p a (op.ReadRegister to register) = in_turn (read (core_place register) B4) (λ v. in_turn (set p to v) (λ _. onwards))
effect p a (op.WriteRegister register from) =
    in_turn (get from) (λ v. in_turn (show (event.Write (core_place register) B4 v)) (λ _. onwards))
effect p a (op.ReadPad to bank register) = in_turn (read (place.Pad bank register) B4) (λ v. in_turn (set p to v) (λ _. onwards))
effect p a (op.WritePad bank register from) =
    in_turn (get from) (λ v. in_turn (show (event.Write (place.Pad bank register) B4 v)) (λ _. onwards))
effect p a (op.Call function arguments to) = in_turn (get_all (listed arguments)) (λ vs. call function vs to)
effect p a (op.Return r) = in_turn (get_option r) (λ v. with_state (λ s. return_to p v s.callers))
effect p a (op.Label l) = onwards
effect p a (op.Jump l) = go_to p l
effect p a (op.Branch left t right to turns) = in_turn (get left) (λ v. branch p turns to (is_met t v right))
effect p a (op.Mark (mark.Enter region)) = in_turn (show (event.Enter region)) (λ _. onwards)
effect p a (op.Mark (mark.Leave region)) = in_turn (show (event.Leave region)) (λ _. onwards)
effect p a (op.Delay n) = in_turn (show (event.DelayIn n)) (λ _. in_turn (show (event.DelayOut n)) (λ _. onwards))
effect p a op.Halt = halt

-- ---- runs

abbrev pub charged : OpKind → State → State
charged k s = record s { charge = s.charge + charge k }

abbrev pub performed : Program → List ℕ → Option OpKind → Does (Unit {0})
performed p a None s = Stopped Stuck s
performed p a (Some k) s = effect p a k (charged k s)

-- one operation, where object k has the address k of a
unfoldable pub step : Program → List ℕ → Does (Unit {0})
step p a s = performed p a (slice_get (running p s) s.frame.place) s

abbrev pub part_bytes : List ℕ → FirstPart → List ℕ
part_bytes a (first.Number width n) = little_bytes (byte_count width) n
part_bytes a (first.Address object offset) = little_bytes 4 (slice_index a object + offset)
part_bytes a (first.Zeros n) = replicate n 0

abbrev pub parts_bytes : List ℕ → List FirstPart → List ℕ
parts_bytes a [] = []
parts_bytes a (part ∷ parts) = part_bytes a part ++ parts_bytes a parts

-- the private memory at first: 0 but for what the objects hold
abbrev pub first_memory : List ℕ → List ℕ → List Stored → ℕ → ℕ
first_memory all (a ∷ rest) (o ∷ os) = stored (first_memory all rest os) a (parts_bytes all o.first)
first_memory all _ _ = λ _. 0

abbrev pub start : Program → List ℕ → List ℕ → State
start p a values = record {
  frame = first_frame p.main [];
  callers = [];
  memory = first_memory a a p.objects;
  values = values;
  events = [];
  charge = 0;
}

-- the run of a program over the values that it reads, for at most m operations
abbrev pub mid : Program → List ℕ → List ℕ → ℕ → Ran Wild State (Unit {0})
mid p a values m = exec (step p a) m (start p a values)

-- ---- addresses

abbrev pub overlap : ℕ → Stored → ℕ → Stored → Bool
overlap a o b q = nat_lt a (b + q.bytes) && nat_lt b (a + o.bytes)

abbrev pub is_free : ℕ → Stored → List ℕ → List Stored → Bool
is_free a o (b ∷ bs) (q ∷ qs) = not (overlap a o b q) && is_free a o bs qs
is_free a o _ _ = true

-- Each object has an address, a multiple of 4 from 0x10 on. All are disjoint, and in the private part, below 0x1E00.
abbrev pub are_addresses : List ℕ → List Stored → Bool
are_addresses [] [] = true
are_addresses (a ∷ rest) (o ∷ os) =
    nat_le 0x10 a && a % 4 == 0 && nat_le (a + o.bytes) 0x1E00 && is_free a o rest os && are_addresses rest os
are_addresses _ _ = false
