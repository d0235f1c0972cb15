-- The code of each construct, made of the codes of its parts. A construct's own labels come before those of its parts.
use Rattle.std.specs.Prelude.{ℕ, ◌+◌, Bool, true, false, List, [], ◌∷◌, ◌++◌, Option, Some, None}
use Rattle.prunum.specs.declared.width.Width.{Width}
use Rattle.prunum.specs.declared.width.Width.TheVariants.{B4}
use Rattle.csyn.specs.declared.operator.LogicalOperator.{LogicalOperator}
use Rattle.csyn.specs.declared.operator.LogicalOperator.TheVariants.{And, Or}
use Rattle.midcode.specs.declared.register.Label.{Label}
use Rattle.midcode.specs.declared.op.Test.{Test}
use Rattle.midcode.specs.declared.op.Test.TheVariants as test
use Rattle.midcode.specs.declared.op.Mark.TheVariants as mark
use Rattle.midcode.specs.declared.op.OpKind.{OpKind}
use Rattle.midcode.specs.declared.op.OpKind.TheVariants as op
use Rattle.lowerstate.specs.Piece.{Code, Free, joined, next_register, register}
use Rattle.lowerflow.specs.Goes.{Exits}

abbrev pub label : ℕ → Label
label n = record { 0 = n }

-- behind so many labels
abbrev pub reserve : ℕ → Free → Free
reserve n f = record f { label = f.label + n }

abbrev pub no_code : Code
no_code = record { ops = []; widths = []; labels = 0; result = 0 }

abbrev pub op_code : OpKind → Code
op_code k = record { ops = k ∷ []; widths = []; labels = 0; result = 0 }

-- what stands in a region, between its marks
abbrev pub region_code : ℕ → Code → Code
region_code n a = record a { ops = op.Mark (mark.Enter n) ∷ (a.ops ++ op.Mark (mark.Leave n) ∷ []) }

-- ---- conditions

abbrev pub test_at : Bool → Test
test_at true = test.NotEqual
test_at false = test.Equal

abbrev pub test_op : Bool → ℕ → ℕ → OpKind
test_op sense l q = op.Branch (register q) (test_at sense) 0 (label l) None

-- a value, and a jump where its truth is this
abbrev pub test_code : Bool → ℕ → Code → Code
test_code sense l a = record a { ops = a.ops ++ test_op sense l a.result ∷ [] }

-- ---- choices of values

-- what `&&` and `||` jump at, and have then
abbrev pub decided : LogicalOperator → Bool
decided And = false
decided Or = true

abbrev pub truth_value : Bool → ℕ
truth_value true = 1
truth_value false = 0

abbrev pub undecided : LogicalOperator → Bool
undecided And = true
undecided Or = false

-- Both sides, of which the second is left out where the first decides: labels are where one has decided, and the end.
abbrev pub logical_code : LogicalOperator → Free → Code → Code → Code
logical_code o f a b =
    let to = register (next_register f (joined a b)) in
    record {
      ops = (test_code (decided o) f.label a).ops ++ ((test_code (decided o) f.label b).ops ++
          op.Constant to (truth_value (undecided o)) ∷ op.Jump (label (f.label + 1)) ∷ op.Label (label f.label) ∷
          op.Constant to (truth_value (decided o)) ∷ op.Label (label (f.label + 1)) ∷ []);
      widths = (a.widths ++ b.widths) ++ B4 ∷ [];
      labels = 2 + (a.labels + b.labels);
      result = next_register f (joined a b);
    }

-- A value by a test: labels are the second arm, and the end.
abbrev pub conditional_code : Width → Free → Code → Code → Code → Code
conditional_code w f k a b =
    let to = register (next_register f (joined k (joined a b))) in
    record {
      ops = k.ops ++ (a.ops ++ op.Copy to (register a.result) ∷ op.Jump (label (f.label + 1)) ∷
          op.Label (label f.label) ∷ (b.ops ++ op.Copy to (register b.result) ∷ op.Label (label (f.label + 1)) ∷ []));
      widths = (k.widths ++ (a.widths ++ b.widths)) ++ w ∷ [];
      labels = 2 + (k.labels + (a.labels + b.labels));
      result = next_register f (joined k (joined a b));
    }

-- ---- choices of what is done

-- One of two by a test: labels are the second arm, and the end.
abbrev pub either_code : Free → Code → Code → Code → Code
either_code f k a b = record {
  ops = k.ops ++ (a.ops ++ op.Jump (label (f.label + 1)) ∷ op.Label (label f.label) ∷ (b.ops ++ op.Label (label (f.label + 1)) ∷ []));
  widths = k.widths ++ (a.widths ++ b.widths);
  labels = 2 + (k.labels + (a.labels + b.labels));
  result = 0;
}

-- What is done where a test doesn't jump: the label is the end.
abbrev pub if_code : Free → Code → Code → Code
if_code f k a = record {
  ops = k.ops ++ (a.ops ++ op.Label (label f.label) ∷ []);
  widths = k.widths ++ a.widths;
  labels = 1 + (k.labels + a.labels);
  result = 0;
}

-- ---- loops: labels are their beginning, where a continue goes, and their end

abbrev pub loop_exits : Free → Exits
loop_exits f = record { broke = Some (f.label + 2); continued = Some (f.label + 1) }

-- a test that jumps out, the body, and what is done behind each turn
abbrev pub loop_code : Free → Code → Code → Code → Code
loop_code f k a third = record {
  ops = op.Label (label f.label) ∷ (k.ops ++ (a.ops ++ op.Label (label (f.label + 1)) ∷ (third.ops ++
      op.Jump (label f.label) ∷ op.Label (label (f.label + 2)) ∷ [])));
  widths = k.widths ++ (a.widths ++ third.widths);
  labels = 3 + (k.labels + (a.labels + third.labels));
  result = 0;
}

-- the body, and the test behind it, which jumps back
abbrev pub do_code : Free → Code → Code → Code
do_code f a k = record {
  ops = op.Label (label f.label) ∷ (a.ops ++ op.Label (label (f.label + 1)) ∷ (k.ops ++ op.Label (label (f.label + 2)) ∷ []));
  widths = a.widths ++ k.widths;
  labels = 3 + (a.labels + k.labels);
  result = 0;
}
