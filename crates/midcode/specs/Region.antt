-- Solid operations, and plain and straight regions of operations.
use Rattle.std.specs.Prelude.{ℕ, zero, suc, ◌==◌, ◌&&◌, not, Bool, true, false, List, [], ◌∷◌, length, Option, Some, None, if◌then◌else◌}
use Rattle.std.specs.List.{list_all, list_any}
use Rattle.midcode.specs.declared.op.OpKind.{OpKind}
use Rattle.midcode.specs.declared.op.OpKind.TheVariants as op
use Rattle.midcode.specs.declared.op.Mark.TheVariants as mark
use Rattle.midcode.specs.Function.{kinds}
use Rattle.midcode.specs.Program.{Program}
use Rattle.midcode.specs.Meaning.{function_at, kinds_of_function}

-- The labels that stand before an operation are given: a jump to one of them goes back.
abbrev pub is_before : List ℕ → ℕ → Bool
is_before before l = list_any (λ m. m == l) before

-- Calls, jumps back, delays, marks and accesses that are events: each of these comes from one step of the source, and has a word on
-- each way through it.
abbrev pub is_solid : List ℕ → OpKind → Bool
is_solid before (op.Call function arguments to) = true
is_solid before (op.Jump l) = is_before before l.0
is_solid before (op.Branch left test right to turns) = is_before before to.0
is_solid before (op.Delay n) = true
is_solid before (op.Mark m) = true
is_solid before (op.Read to b offset own) = true
is_solid before (op.Write b offset from width own) = true
is_solid before (op.ReadRegister to register) = true
is_solid before (op.WriteRegister register from) = true
is_solid before (op.ReadPad to bank register) = true
is_solid before (op.WritePad bank register from) = true
is_solid before k = false

abbrev pub turns_back : List ℕ → ℕ → Option ℕ → Bool
turns_back before l None = not (is_before before l)
turns_back before l (Some n) = true

-- no halt, no volatile access that isn't marked own, no jump back without turns, and no call but of such a function
abbrev pub is_plain_op : (ℕ → Bool) → List ℕ → OpKind → Bool
is_plain_op plain before (op.Call function arguments to) = plain function
is_plain_op plain before (op.Read to b offset own) = own
is_plain_op plain before (op.Write b offset from width own) = own
is_plain_op plain before (op.Jump l) = not (is_before before l.0)
is_plain_op plain before (op.Branch left test right to turns) = turns_back before to.0 turns
is_plain_op plain before op.Halt = false
is_plain_op plain before k = true

-- besides, no branch but jumps back
abbrev pub is_straight_op : (ℕ → Bool) → List ℕ → OpKind → Bool
is_straight_op straight before (op.Branch left test right to turns) = is_before before to.0 && turns_back before to.0 turns
is_straight_op straight before k = is_plain_op straight before k

abbrev pub are_all : (List ℕ → OpKind → Bool) → List ℕ → List OpKind → Bool
are_all test before [] = true
are_all test before (op.Label l ∷ ks) = are_all test (l.0 ∷ before) ks
are_all test before (k ∷ ks) = test before k && are_all test before ks

-- a function all of whose operations are so, and those of the functions that it calls, at a depth below n
abbrev pub is_function_so : ((ℕ → Bool) → List ℕ → OpKind → Bool) → Program → ℕ → ℕ → Bool
is_function_so test p zero f = false
is_function_so test p (suc n) f = are_all (test (is_function_so test p n)) [] (kinds_of_function (function_at p f))

abbrev pub up_to_leave : ℕ → List OpKind → List OpKind
up_to_leave region [] = []
up_to_leave region (op.Mark (mark.Leave r) ∷ ks) = if r == region then [] else op.Mark (mark.Leave r) ∷ up_to_leave region ks
up_to_leave region (k ∷ ks) = k ∷ up_to_leave region ks

-- the operations between a region's marks, or none
abbrev pub inside_of : ℕ → List OpKind → List OpKind
inside_of region [] = []
inside_of region (op.Mark (mark.Enter r) ∷ ks) = if r == region then up_to_leave region ks else inside_of region ks
inside_of region (k ∷ ks) = inside_of region ks

-- No function reaches itself, so that calls are no deeper than there are functions.
abbrev pub is_region_so : ((ℕ → Bool) → List ℕ → OpKind → Bool) → Program → ℕ → Bool
is_region_so test p region =
    list_all (λ f. are_all (test (is_function_so test p (length p.functions))) [] (inside_of region (kinds f))) p.functions

abbrev pub is_plain : Program → ℕ → Bool
is_plain = is_region_so is_plain_op

abbrev pub is_straight : Program → ℕ → Bool
is_straight = is_region_so is_straight_op
