-- A piece of code: its operations, with the registers that are its own, and that they do their part of the meaning.
use Rattle.std.specs.Prelude.{ℕ, ◌≡◌, ◌+◌, ◌<◌, ◌≤◌, List, [], ◌∷◌, ◌++◌, length, Option, Some, slice_get}
use Rattle.std.specs.List.{AllByRecursion}
use Rattle.prunum.specs.declared.width.Width.{Width}
use Rattle.prunum.specs.declared.width.Width.TheVariants.{B4}
use Rattle.csyn.specs.declared.specifiers.Sign.{Sign}
use Rattle.midcode.specs.declared.register.VReg.{VReg}
use Rattle.midcode.specs.declared.op.OpKind.{OpKind}
use Rattle.cmean.specs.Datum.{Datum, Number}
use Rattle.cmean.specs.State.{State, Run}
use Rattle.lowerstate.specs.Counted.{Counted}
use Rattle.lowerstate.specs.Held.{Meant, OfInteger, meant_width}
use Rattle.lowerstate.specs.Related.{Fixed, Call, Point, Related}
use Rattle.lowerstate.specs.Stands.{Does}

-- ---- code

pub record Code : Type 0 where
  pub ops : List OpKind
  pub widths : List Width  -- of its registers, which are those from the first free one on
  pub labels : ℕ  -- how many labels are its own, which are those from the first free one on
  pub result : ℕ  -- the register of its value

-- the registers and labels that are given out before it
pub record Free : Type 0 where
  pub register : ℕ
  pub label : ℕ

abbrev pub behind : Free → Code → Free
behind f code = record { register = f.register + length code.widths; label = f.label + code.labels }

-- one code behind another
abbrev pub joined : Code → Code → Code
joined a b = record { ops = a.ops ++ b.ops; widths = a.widths ++ b.widths; labels = a.labels + b.labels; result = b.result }

-- the first register that is free behind the code
abbrev pub next_register : Free → Code → ℕ
next_register f code = f.register + length code.widths

-- an operation behind the code, which writes its result to the next register, of this width
abbrev pub followed : Free → Code → OpKind → Width → Code
followed f code k w = record {
  ops = code.ops ++ k ∷ [];
  widths = code.widths ++ w ∷ [];
  labels = code.labels;
  result = next_register f code;
}

-- a list stands in another, at a place
pub record StandsAt {A : Type 0} (all part : List A) (place : ℕ) : Type 0 where
  pub front : List A
  pub back : List A
  pub whole : all ≡ front ++ (part ++ back)
  pub before : length front ≡ place

-- the code stands in its function, at a place
pub record IsIn (c : Call) (f : Free) (code : Code) (place : ℕ) : Type 0 where
  pub ops : StandsAt c.ops code.ops place
  pub widths : StandsAt c.widths code.widths f.register
  pub free : c.variables ≤ f.register

-- ---- its meaning

-- what is in hand behind every node
abbrev pub node_back : ℕ
node_back = 320

-- what is in hand before every expression, so that a node without parts can be paid for
abbrev pub least_hand : ℕ
least_hand = 64

-- Where an evaluation can begin: cycles are in hand, the steps of these nodes are within those between two solid operations, and the
-- values on the way are in registers that are given out, which aren't those of locals.
pub record IsReady (r : Fixed) (c : Call) (f : Free) (nodes hand : ℕ) (x : Point) : Type 0 where
  pub in_hand : x.hand ≡ least_hand + hand
  pub owed : x.owed + nodes ≤ r.most
  pub kept : AllByRecursion (λ k. k.register < f.register) x.kept
  pub apart : AllByRecursion (λ k. c.variables ≤ k.register) x.kept

-- behind the code, its value being kept
abbrev pub onwards : Point → Code → ℕ → ℕ → ℕ → Meant → Datum → Point
onwards x code nodes hand back t d = record {
  place = x.place + length code.ops;
  kept = record { register = code.result; meant = t; datum = d } ∷ x.kept;
  hand = hand + back;
  owed = x.owed + nodes;
  steps = x.steps;
}

-- The run has given the value of a datum, which is kept.
abbrev pub Given : Fixed → Call → Code → {A : Type 0} → (A → Datum → Type 0) → Meant → ℕ → ℕ → Point → ℕ → A → State → Counted → Type 0
Given r c code Is t nodes back x hand a s m = (d : Datum) × Is a d × Related r c (onwards x code nodes hand back t d) s m

-- Code for a run that gives a value of a type. Its evaluation leaves so many cycles in hand, and is so many steps at the most. `Is` tells
-- which datum what the run gives is.
pub record Evaluates (r : Fixed) (c : Call) (f : Free) (code : Code) {A : Type 0} (Is : A → Datum → Type 0) (t : Meant) (run : Run A)
    (nodes back : ℕ) : Type 0 where
  pub typed : (i : ℕ) × (code.result ≡ f.register + i) × (slice_get code.widths i ≡ Some (meant_width t))
  pub does : (x : Point) (hand : ℕ) (s : State) (m : Counted) → IsIn c f code x.place → IsReady r c f nodes hand x → Related r c x s m
      → Does r (Given r c code Is t nodes back x hand) (run r.budget s) m

-- ---- which datum is given

abbrev pub IsValue : Option Datum → Datum → Type 0
IsValue v d = v ≡ Some d

abbrev pub IsDatum : Datum → Datum → Type 0
IsDatum e d = e ≡ d

abbrev pub IsNumber : ℕ → Datum → Type 0
IsNumber n d = d ≡ Number n

-- ---- numbers

-- those of four bytes, as arithmetic has them
abbrev pub word : Sign → Meant
word sign = OfInteger (record { width = B4; sign = sign })

abbrev pub register : ℕ → VReg
register n = record { 0 = n }
