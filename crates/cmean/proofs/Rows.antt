-- Small programs, and what they show: each is worked out by hand and checked by computing.
use Rattle.std.proofs.Common.{◌≡◌, ℕ, List, [], ◌∷◌, refl, arith, Some, None}
use Rattle.csyn.specs.Bare.{at_null, nowhere}
use Rattle.csyn.specs.declared.mark.Mark.{Mark}
use Rattle.csyn.specs.declared.specifiers.Sign.{Sign}
use Rattle.csyn.specs.declared.specifiers.Sign.TheVariants.{Signed, Unsigned}
use Rattle.csyn.specs.declared.operator.BinaryOperator.{BinaryOperator}
use Rattle.csyn.specs.declared.operator.BinaryOperator.TheVariants as op
use Rattle.prunum.specs.declared.width.Width.TheVariants.{B1, B4}
use Rattle.prunum.specs.Number as numbers
use Rattle.prutrace.specs.declared.event.Event.{Event}
use Rattle.prutrace.specs.declared.event.Event.TheVariants.{Read, Write, Halted}
use Rattle.prutrace.specs.declared.event.Place.TheVariants.{Reg30}
use Rattle.cprogram.specs.Layout.{Shape}
use Rattle.cprogram.specs.Scalar.{arithmetic}
use Rattle.cprogram.specs.declared.access.Access.{Access}
use Rattle.cprogram.specs.declared.access.AccessKind.TheVariants as access
use Rattle.cprogram.specs.declared.access.Register.TheVariants.{R30}
use Rattle.cprogram.specs.declared.pointer.Direction.TheVariants.{Up}
use Rattle.cprogram.specs.declared.scalar.Scalar.{Scalar}
use Rattle.cprogram.specs.declared.scalar.Scalar.TheVariants as scalar
use Rattle.cprogram.specs.declared.scalar.Integer.{Integer}
use Rattle.cprogram.specs.declared.scalar.Conversion.{Conversion}
use Rattle.cprogram.specs.declared.scalar.Conversion.TheVariants as conversion
use Rattle.cprogram.specs.declared.value.StepValue.TheVariants.{Old}
use Rattle.cprogram.specs.declared.value.UnaryOperator.TheVariants.{Minus}
use Rattle.cprogram.specs.declared.statement.Initialiser.TheVariants as initialiser
use Rattle.cprogram.specs.declared.statement.SwitchItems as switch
use Rattle.cmean.specs.declared.undefined.UndefinedCause.TheVariants.{Unset}
use Rattle.cprogram.specs.declared.value.Value.{Value}
use Rattle.cprogram.specs.declared.value.PlaceKind as place
use Rattle.cprogram.specs.declared.value.ValueKind as kind
use Rattle.cprogram.specs.declared.statement.Items as items
use Rattle.cprogram.specs.declared.statement.StmtKind as stmt
use Rattle.cprogram.specs.declared.program.Program.{Program}
use Rattle.cmean.specs.Meaning.{mean}
use Rattle.cmean.specs.Outcome.{Dry, Ended, Undefined, outcome, events}

abbrev at : Mark
at = record { number = 0; span = record { line = 1; column = 1 }; tokens = 1 }

abbrev register : Access
register = record { kind = access.Register; scalar = arithmetic Unsigned }

-- a plain scalar of this type
abbrev plain : Scalar → Access
plain t = record { kind = access.Plain; scalar = t }

abbrev byte : Integer
byte = record { width = B1; sign = Unsigned }

abbrev int : Integer
int = record { width = B4; sign = Signed }

abbrev node : kind.ValueKind → Value
node k = record { mark = at; kind = k }

-- a statement of an expression
abbrev does : kind.ValueKind → items.Items → items.Items
does k rest = items.Statement' nowhere at (stmt.Expression (Some (at_null (node k)))) nowhere rest

-- __R30 = this, converted so
abbrev put_as : Conversion → kind.ValueKind → kind.ValueKind
put_as c k = kind.Assign' register nowhere at (place.Register R30) nowhere c at k

abbrev put : kind.ValueKind → kind.ValueKind
put k = put_as conversion.Same k

abbrev number : ℕ → kind.ValueKind
number n = kind.Number n Signed

-- the local with a number, and what it holds
abbrev local : ℕ → place.PlaceKind
local n = place.Local (record { 0 = n })

abbrev read : Integer → ℕ → kind.ValueKind
read t n = kind.Read' (plain (scalar.Integer t)) nowhere (local n)

abbrev set : Integer → ℕ → kind.ValueKind → kind.ValueKind
set t n k = kind.Assign' (plain (scalar.Integer t)) nowhere at (local n) nowhere conversion.Same at k

-- a declaration with this initial value, converted so
abbrev declares : ℕ → Conversion → kind.ValueKind → items.Items → items.Items
declares n c k rest = items.Declaration' (at_null (record {
  mark = at;
  local = record { 0 = n };
  initialiser = Some (initialiser.Scalar (at_null (record { conversion = c; value = node k })));
})) nowhere rest

abbrev minus : kind.ValueKind → kind.ValueKind
minus k = kind.Unary' Minus Signed nowhere conversion.Same at k

abbrev calculates : BinaryOperator → Sign → kind.ValueKind → kind.ValueKind → kind.ValueKind
calculates o sign a b = kind.Binary' o sign nowhere conversion.Same at a nowhere conversion.Same at b

-- an object of one scalar
abbrev one : Integer → Shape
one t = record { leaves = record { scalar = scalar.Integer t; offset = 0 } ∷ []; bytes = 4; count = 1 }

-- a program of one function with these locals and items
abbrev program : List Shape → items.Items → Program
program locals body = record {
  objects = [];
  regions = [];
  main = record { 0 = 0 };
  few_regions = omega arith;
  main_is_defined = omega arith;
  functions = record {
    mark = at;
    name = [];
    result = None;
    locals = locals;
    parameters = 0;
    body = body;
    few_parameters = omega arith;
    among_locals = omega arith;
  } ∷ [];
}

abbrev write : ℕ → Event
write n = Write Reg30 B4 n

-- void main(void){ __R30 = 5; }: the body, the statement, the number, the place and the assignment are five steps
abbrev writes_five : Program
writes_five = program [] (does (put (number 5)) items.End)

five : events writes_five [] 100 ≡ write 5 ∷ Halted ∷ []
unfolding mean
five = refl

five-ends : outcome writes_five [] 5 ≡ Ended 5
unfolding mean
five-ends = refl

five-more : events writes_five [] 4 ≡ []
unfolding mean
five-more = refl

-- unsigned char a = 255; a++; __R30 = a;
byte-wraps : events (program (one byte ∷ []) (declares 0 (conversion.Integer int B1) (number 255)
    (does (kind.Step' Old Up (plain (scalar.Integer byte)) nowhere at (local 0))
    (does (put_as (conversion.Integer byte B4) (read byte 0)) items.End)))) [] 100
    ≡ write 0 ∷ Halted ∷ []
unfolding mean numbers.sext
byte-wraps = refl

-- int x = 0x80000000; x = -x; __R30 = x >> 33;
shifted : events (program (one int ∷ []) (declares 0 conversion.Same (number 0x80000000)
    (does (set int 0 (minus (read int 0))) (does (put (calculates op.ShiftRight Signed (read int 0) (number 33))) items.End)))) [] 100
    ≡ write 0xC0000000 ∷ Halted ∷ []
unfolding mean numbers.shr_s numbers.sext
shifted = refl

-- __R30 = a / b; of these numbers
abbrev divides : BinaryOperator → Sign → ℕ → ℕ → Program
divides o sign a b = program [] (does (put (calculates o sign (number a) (number b))) items.End)

quotients : (events (divides op.Divide Unsigned 7 0) [] 100 ≡ write 0xFFFFFFFF ∷ Halted ∷ [])
    × (events (divides op.Remainder Unsigned 7 0) [] 100 ≡ write 7 ∷ Halted ∷ [])
    × (events (divides op.Remainder Signed 0xFFFFFFF9 0) [] 100 ≡ write 0xFFFFFFF9 ∷ Halted ∷ [])
    × (events (divides op.Divide Signed 0xFFFFFFF9 2) [] 100 ≡ write 0xFFFFFFFD ∷ Halted ∷ [])
    × (events (divides op.Remainder Signed 0xFFFFFFF9 2) [] 100 ≡ write 0xFFFFFFFF ∷ Halted ∷ [])
    × (events (divides op.Multiply Unsigned 7 0xFFFFFFF9) [] 100 ≡ write 0xFFFFFFCF ∷ Halted ∷ [])
unfolding mean numbers.rem_s numbers.quot_s numbers.sext
quotients = (refl, refl, refl, refl, refl, refl)

-- __R30 |= 1 << 5;
abbrev sets_bit : Program
sets_bit = program [] (does (kind.AssignWith' op.BitOr Unsigned register nowhere at (place.Register R30) nowhere conversion.Same at
    (calculates op.ShiftLeft Signed (number 1) (number 5))) items.End)

bit-set : events sets_bit (0 ∷ []) 100 ≡ Read Reg30 B4 0 ∷ write 0x20 ∷ Halted ∷ []
unfolding mean
bit-set = refl

-- the read is due behind the body, the statement and the place
bit-dry : outcome sets_bit [] 100 ≡ Dry 4
unfolding mean
bit-dry = refl

-- int x; __R30 = x;: the read of x is the fourth step
unset-read : outcome (program (one int ∷ []) (does (put (read int 0)) items.End)) [] 100 ≡ Undefined at.span Unset 4
unfolding mean
unset-read = refl

-- switch (2) { case 1: __R30 = 10; case 2: __R30 = 20; break; default: __R30 = 30; }
abbrev chooses : ℕ → Program
chooses n = program [] (items.Statement' nowhere at (stmt.Switch
    (at_null (record { conversion = conversion.Same; value = node (number n) }))
    (switch.Case' at 1 nowhere (puts 10 (switch.Case' at 2 nowhere (puts 20 (switch.Statement' nowhere at stmt.Break nowhere
    (switch.Default' at nowhere (puts 30 switch.End)))))))) nowhere items.End)
  where
    puts : ℕ → switch.SwitchItems → switch.SwitchItems
    puts k rest = switch.Statement' nowhere at (stmt.Expression (Some (at_null (node (put (number k)))))) nowhere rest

falls-through : (events (chooses 1) [] 100 ≡ write 10 ∷ write 20 ∷ Halted ∷ [])
    × (events (chooses 2) [] 100 ≡ write 20 ∷ Halted ∷ []) × (events (chooses 3) [] 100 ≡ write 30 ∷ Halted ∷ [])
unfolding mean
falls-through = (refl, refl, refl)
