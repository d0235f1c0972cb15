-- `&&` and `||`.
use Rattle.std.proofs.Common.{◌≡◌, ℕ, ◌+◌, ◌^◌, ◌<◌, ◌≤◌, Bool, true, false, if◌then◌else◌, List, [], ◌∷◌, ◌++◌, length, refl, subst, ap, ◌∙◌, arith}
use Rattle.std.proofs.Common.{lit<, Option, Some, slice_get}
use Rattle.std.specs.List.{AllByRecursion}
use Rattle.behaviour.specs.Ran.{Done}
use Rattle.prunum.specs.declared.width.Width.TheVariants.{B4}
use Rattle.csyn.specs.declared.specifiers.Sign.{Sign}
use Rattle.csyn.specs.declared.operator.LogicalOperator.{LogicalOperator}
use Rattle.csyn.specs.declared.operator.LogicalOperator.TheVariants.{And, Or}
use Rattle.midcode.specs.declared.op.OpKind.TheVariants as op
use Rattle.midcode.specs.Meaning.{standing_at}
use Rattle.cmean.specs.Datum.{Datum, Number, truth_number}
use Rattle.cmean.specs.State.{State, Run, then_with}
use Rattle.cmean.specs.Expression.{Valued, truth, logical, number_value}
use Rattle.lowerstate.specs.Counted.{Counted}
use Rattle.lowerstate.specs.Held.{Meant}
use Rattle.lowerstate.specs.Related.{Fixed, Call, IsCall, Point, homes_with, IsKept, Related}
use Rattle.lowerstate.specs.Stands.{Does}
use Rattle.lowerstate.specs.Piece.{Code, Free, behind, joined, next_register, node_back, least_hand, IsIn, IsReady, onwards, Given, Evaluates}
use Rattle.lowerstate.specs.Piece.{IsValue, word, register}
use Rattle.lowerstate.proofs.Places.{stands-first, stands-left, stands-right, get-last}
use Rattle.lowerstate.proofs.Pieces.{below-more, adjust}
use Rattle.lowerflow.specs.Goes.{past, jumps, Tests}
use Rattle.lowerflow.specs.Codes.{label, reserve, test_code, decided, undecided, truth_value, logical_code}
use Rattle.lowerflow.proofs.Walk.{Part, Piece, One, Rest, rest-of, piece, behind-piece, operation, behind-op, at-end}
use Rattle.lowerflow.proofs.Walk.{label-place, go-label, go-jump, go-constant}
use Rattle.lowerflow.proofs.Ways.{does-here, does-then, ready-behind}
use Rattle.lowerflow.proofs.Testing.{test-of}

truth-small : (b : Bool) → truth_value b < 2 ^ 32
truth-small true = lit< tt
truth-small false = lit< tt

module _ (r : Fixed) (c : Call) (call : IsCall r c) (o : LogicalOperator) (f : Free) (a b : Code) (t u : Meant) (sign : Sign)
    (run second : Run Valued) (nodes others : ℕ) (first : Evaluates r c (reserve 2 f) a IsValue t run nodes node_back)
    (then' : Evaluates r c (behind (reserve 2 f) a) b IsValue u second others node_back) where
  abbrev code : Code
  code = logical_code o f a b

  abbrev left-test : Code
  left-test = test_code (decided o) f.label a

  abbrev right-test : Code
  right-test = test_code (decided o) f.label b

  abbrev to : ℕ
  to = next_register f (joined a b)

  abbrev parts : List Part
  parts = Piece left-test.ops ∷ Piece right-test.ops ∷ One (op.Constant (register to) (truth_value (undecided o))) ∷
      One (op.Jump (label (f.label + 1))) ∷ One (op.Label (label f.label)) ∷ One (op.Constant (register to) (truth_value (decided o))) ∷
      One (op.Label (label (f.label + 1))) ∷ []

  module _ (x : Point) (hand : ℕ) (stands : IsIn c f code x.place) (ready : IsReady r c f (nodes + others) hand x) where
    abbrev D : Option Datum → State → Counted → Type 0
    D = Given r c code IsValue (word sign) (nodes + others) 300 x hand

    abbrev end : ℕ
    end = x.place + length code.ops

    abbrev behind-tests : ℕ
    behind-tests = x.place + length left-test.ops + length right-test.ops

    all : Rest c.ops parts x.place end
    all = rest-of c.ops parts x.place stands.ops

    tail : Rest c.ops (One (op.Constant (register to) (truth_value (undecided o))) ∷ One (op.Jump (label (f.label + 1))) ∷
        One (op.Label (label f.label)) ∷ One (op.Constant (register to) (truth_value (decided o))) ∷
        One (op.Label (label (f.label + 1))) ∷ []) behind-tests end
    tail = behind-piece (behind-piece all)

    short : Rest c.ops (One (op.Label (label f.label)) ∷ One (op.Constant (register to) (truth_value (decided o))) ∷
        One (op.Label (label (f.label + 1))) ∷ []) (behind-tests + 1 + 1) end
    short = behind-op (behind-op tail)

    last : Rest c.ops (One (op.Label (label (f.label + 1))) ∷ []) (behind-tests + 1 + 1 + 1 + 1) end
    last = behind-op (behind-op short)

    free : c.variables ≤ to
    free = let free = stands.free in omega (arith, free)

    below : AllByRecursion (λ k. k.register < to) x.kept
    below = below-more x.kept f.register to (omega arith) ready.kept

    width : slice_get c.widths to ≡ Some B4
    width = stands-first c.widths [] to B4 (stands-right c.widths (a.widths ++ b.widths) (B4 ∷ []) f.register stands.widths)

    few : (y : Point) → y.owed ≤ x.owed + (nodes + others) → y.owed ≤ r.most
    few y less = let owed = ready.owed in omega (arith, owed, less)

    -- at the last label, the value in its register
    at-last : (b : Bool) (y : Point) → y.place ≡ behind-tests + 1 + 1 + 1 + 1 → hand + 300 ≤ y.hand → y.owed ≤ x.owed + (nodes + others)
        → x.steps ≤ y.steps
        → y.kept ≡ record { register = to; meant = word sign; datum = Number (truth_value b) } ∷ x.kept → (s : State) (m : Counted)
        → Related r c y s m → Does r D (Done (Some (Number (truth_value b))) s) m
    at-last b y there enough less fewer same s m at =
        go-label r c call D (Done (Some (Number (truth_value b))) s) y s m (few y less) at (label (f.label + 1))
        (ap (λ n. slice_get c.ops n) there ∙ operation last)
        (λ m' on. does-here r D (Some (Number (truth_value b))) s m' (
          Number (truth_value b),
          refl,
          adjust r c (record y { place = y.place + 1 })
              (onwards x code (nodes + others) hand 300 (word sign) (Number (truth_value b))) s m'
              (ap (λ n. n + 1) there ∙ at-end (behind-op last)) enough less fewer on
              (subst (λ ks. AllByRecursion (IsKept r
              (homes_with c on.later) m'.state.frame.registers) ks) same on.kept),
        ))

    -- where one side has decided
    decide : (h owed : ℕ) → hand + 306 ≤ h → owed ≤ x.owed + (nodes + others) → (s : State) (m : Counted)
        → Related r c (record x { place = standing_at c.ops f.label; hand = h; owed = owed }) s m
        → Does r D (Done (Some (Number (truth_value (decided o)))) s) m
    decide h owed enough less s m at =
        let v = truth_value (decided o) in
        let y : Point = record x { place = behind-tests + 1 + 1; hand = h; owed = owed } in
        let here : Related r c y s m =
        adjust r c (record x { place = standing_at c.ops f.label; hand = h; owed = owed }) y s m
        (label-place r c call (label f.label) (behind-tests + 1 + 1) (operation short)) (omega arith) (omega arith) (omega arith) at at.kept in
        go-label r c call D (Done (Some (Number v)) s) y s m (few y less) here (label f.label) (operation short)
        (λ m' on. go-constant r c call D (Done (Some (Number v)) s) (record y { place = behind-tests + 1 + 1 + 1 }) s m' to (hand + 300) free
        below v sign (truth-small (decided o)) (operation (behind-op short)) width (omega (arith, enough)) on
        (λ m' next. at-last (decided o) (record y {
          place = behind-tests + 1 + 1 + 1 + 1;
          kept = record { register = to; meant = word sign; datum = Number v } ∷ x.kept;
          hand = hand + 300;
        }) refl (omega arith) less (omega arith) refl s m' next))

    -- where neither has
    undecide : (h owed : ℕ) → hand + 307 ≤ h → owed ≤ x.owed + (nodes + others) → (s : State) (m : Counted)
        → Related r c (record x { place = behind-tests; hand = h; owed = owed }) s m
        → Does r D (Done (Some (Number (truth_value (undecided o)))) s) m
    undecide h owed enough less s m at =
        let v = truth_value (undecided o) in
        let y : Point = record x { place = behind-tests; hand = h; owed = owed } in
        let z : Point = record y {
          place = behind-tests + 1;
          kept = record { register = to; meant = word sign; datum = Number v } ∷ x.kept;
          hand = hand + 301;
        } in
        go-constant r c call D (Done (Some (Number v)) s) y s m to (hand + 301) free below v sign (truth-small (undecided o)) (operation tail)
        width (omega (arith, enough)) at
        (λ m' on. go-jump r c call D (Done (Some (Number v)) s) z s m' (few z less) on (label (f.label + 1)) (hand + 300)
        (operation (behind-op tail)) (omega arith)
        (λ m' next. at-last (undecided o) (record z { place = standing_at c.ops (f.label + 1); hand = hand + 300 })
        (label-place r c call (label (f.label + 1)) (behind-tests + 1 + 1 + 1 + 1) (operation last)) (omega arith) less (omega arith) refl s m'
        next))

    left-in : IsIn c (reserve 2 f) left-test x.place
    left-in = record {
      ops = piece all;
      widths = stands-left c.widths a.widths b.widths f.register
          (stands-left c.widths (a.widths ++ b.widths) (B4 ∷ []) f.register stands.widths);
      free = stands.free;
    }

    right-in : IsIn c (behind (reserve 2 f) a) right-test (x.place + length left-test.ops)
    right-in = record {
      ops = piece (behind-piece all);
      widths = stands-right c.widths a.widths b.widths f.register
          (stands-left c.widths (a.widths ++ b.widths) (B4 ∷ []) f.register stands.widths);
      free = let free = stands.free in omega (arith, free);
    }

    left-ready : IsReady r c (reserve 2 f) nodes hand x
    left-ready = ready-behind r c f (reserve 2 f) (nodes + others) nodes hand hand x x ready (omega arith) refl ready.in_hand (omega arith)

    abbrev middle : Point
    middle = record (past x left-test nodes (hand + 311)) { place = x.place + length left-test.ops }

    right-ready : IsReady r c (behind (reserve 2 f) a) others (hand + 247) middle
    right-ready =
        ready-behind r c f (behind (reserve 2 f) a) (nodes + others) others hand (hand + 247) x middle ready (omega arith) refl (omega arith)
        (omega arith)

    abbrev second-tested : Bool → State → Counted → Type 0
    second-tested y = Related r c (record (past middle right-test others (hand + 247 + 311)) {
      place = if jumps (decided o) y then standing_at c.ops f.label else behind-tests;
    })

    -- the second side decides
    second-does : ((y : Bool) (s : State) (m : Counted) → second-tested y s m → Does r D (Done (Some (Number (truth_number y))) s) m)
        → (s : State) (m : Counted) → Related r c middle s m
        → Does r D (then_with (truth second) (λ y. number_value (truth_number y)) r.budget s) m
    second-does each s m at =
        does-then r second-tested D (truth second r.budget s) (λ y. number_value (truth_number y) r.budget) m
        ((test-of r c call (behind (reserve 2 f) a) b u (decided o) f.label second others 311 then').does middle (hand + 247) s m right-in
        right-ready at) each

-- the cases of the operator
module _ (r : Fixed) (c : Call) (call : IsCall r c) (f : Free) (a b : Code) (t u : Meant) (sign : Sign)
    (run second : Run Valued) (nodes others : ℕ) (first : Evaluates r c (reserve 2 f) a IsValue t run nodes node_back)
    (then' : Evaluates r c (behind (reserve 2 f) a) b IsValue u second others node_back) where
  module _ (x : Point) (hand : ℕ) where
    and-second : (stands : IsIn c f (logical_code And f a b) x.place) (ready : IsReady r c f (nodes + others) hand x) (y : Bool) (s : State)
        (m : Counted) → second-tested r c call And f a b t u sign run second nodes others first then' x hand stands ready y s m
        → Does r (D r c call And f a b t u sign run second nodes others first then' x hand stands ready)
        (Done (Some (Number (truth_number y))) s) m
    and-second stands ready true s m at =
        undecide r c call And f a b t u sign run second nodes others first then' x hand stands ready (hand + 247 + 311)
        (x.owed + nodes + others) (omega arith) (omega arith) s m at
    and-second stands ready false s m at =
        decide r c call And f a b t u sign run second nodes others first then' x hand stands ready (hand + 247 + 311)
        (x.owed + nodes + others) (omega arith) (omega arith) s m at

    or-second : (stands : IsIn c f (logical_code Or f a b) x.place) (ready : IsReady r c f (nodes + others) hand x) (y : Bool) (s : State)
        (m : Counted) → second-tested r c call Or f a b t u sign run second nodes others first then' x hand stands ready y s m
        → Does r (D r c call Or f a b t u sign run second nodes others first then' x hand stands ready)
        (Done (Some (Number (truth_number y))) s) m
    or-second stands ready true s m at =
        decide r c call Or f a b t u sign run second nodes others first then' x hand stands ready (hand + 247 + 311)
        (x.owed + nodes + others) (omega arith) (omega arith) s m at
    or-second stands ready false s m at =
        undecide r c call Or f a b t u sign run second nodes others first then' x hand stands ready (hand + 247 + 311)
        (x.owed + nodes + others) (omega arith) (omega arith) s m at

    abbrev first-tested : Bool → Bool → State → Counted → Type 0
    first-tested sense y = Related r c (record (past x (test_code sense f.label a) nodes (hand + 311)) {
      place = if jumps sense y then standing_at c.ops f.label else x.place + length (test_code sense f.label a).ops;
    })

    and-first : (stands : IsIn c f (logical_code And f a b) x.place) (ready : IsReady r c f (nodes + others) hand x) (y : Bool) (s : State)
        (m : Counted) → first-tested false y s m
        → Does r (D r c call And f a b t u sign run second nodes others first then' x hand stands ready)
        ((if y then then_with (truth second) (λ y. number_value (truth_number y)) else number_value 0) r.budget s) m
    and-first stands ready true s m at =
        second-does r c call And f a b t u sign run second nodes others first then' x hand stands ready (and-second stands ready) s m at
    and-first stands ready false s m at =
        decide r c call And f a b t u sign run second nodes others first then' x hand stands ready (hand + 311) (x.owed + nodes) (omega arith)
        (omega arith) s m at

    or-first : (stands : IsIn c f (logical_code Or f a b) x.place) (ready : IsReady r c f (nodes + others) hand x) (y : Bool) (s : State)
        (m : Counted) → first-tested true y s m
        → Does r (D r c call Or f a b t u sign run second nodes others first then' x hand stands ready)
        ((if y then number_value 1 else then_with (truth second) (λ y. number_value (truth_number y))) r.budget s) m
    or-first stands ready true s m at =
        decide r c call Or f a b t u sign run second nodes others first then' x hand stands ready (hand + 311) (x.owed + nodes) (omega arith)
        (omega arith) s m at
    or-first stands ready false s m at =
        second-does r c call Or f a b t u sign run second nodes others first then' x hand stands ready (or-second stands ready) s m at

  pub logical-of : (o : LogicalOperator) → Evaluates r c f (logical_code o f a b) IsValue (word sign) (logical o run second) (nodes + others) 300
  logical-of And = record {
    typed = (length (a.widths ++ b.widths), refl, get-last (a.widths ++ b.widths) B4);
    does = λ x hand s m stands ready related.
        does-then r (first-tested x hand false) (D r c call And f a b t u sign run second nodes others first then' x hand stands ready)
        (truth run r.budget s)
        (λ y. (if y then then_with (truth second) (λ y. number_value (truth_number y)) else number_value 0) r.budget) m
        ((test-of r c call (reserve 2 f) a t false f.label run nodes 311 first).does x hand s m
        (left-in r c call And f a b t u sign run second nodes others first then' x hand stands ready)
        (left-ready r c call And f a b t u sign run second nodes others first then' x hand stands ready) related)
        (and-first x hand stands ready);
  }
  logical-of Or = record {
    typed = (length (a.widths ++ b.widths), refl, get-last (a.widths ++ b.widths) B4);
    does = λ x hand s m stands ready related.
        does-then r (first-tested x hand true) (D r c call Or f a b t u sign run second nodes others first then' x hand stands ready)
        (truth run r.budget s)
        (λ y. (if y then number_value 1 else then_with (truth second) (λ y. number_value (truth_number y))) r.budget) m
        ((test-of r c call (reserve 2 f) a t true f.label run nodes 311 first).does x hand s m
        (left-in r c call Or f a b t u sign run second nodes others first then' x hand stands ready)
        (left-ready r c call Or f a b t u sign run second nodes others first then' x hand stands ready) related)
        (or-first x hand stands ready);
  }
