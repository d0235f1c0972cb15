-- What the acts of the meaning and the operations of the machine do to related states.
use Rattle.std.proofs.Common.{◌≡◌, ℕ, suc, ◌+◌, ◌*◌, ◌<◌, ◌≤◌, ◌==◌, Bool, true, false, if◌then◌else◌, nat_lt, List, [], ◌∷◌}
use Rattle.std.proofs.Common.{map, refl, sym, subst, ap, ◌∙◌, arith, Option, Some, slice_get}
use Rattle.std.specs.List.{AllByRecursion}
use Rattle.std.proofs.lemmas.List.{append-nil}
use Rattle.std.proofs.lemmas.Bool.{ltb-true, ltb-false, eq-eqb, ne_eqb}
use Rattle.std.proofs.lemmas.Nat.{mul-le}
use Rattle.behaviour.specs.declared.stop.Stop.TheVariants as stop
use Rattle.behaviour.specs.Ran.{Done, Stopped}
use Rattle.behaviour.specs.Machine.{Reaches}
use Rattle.behaviour.proofs.MachineLemmas.{reaches-step}
use Rattle.behaviour.proofs.SimulatesLemmas.{simulates-here}
use Rattle.prunum.specs.Number.{wrap}
use Rattle.prunum.specs.declared.width.Width.{Width}
use Rattle.prunum.specs.declared.width.Width.TheVariants.{B1, B2, B4}
use Rattle.csyn.specs.declared.span.Span.{Span}
use Rattle.midcode.specs.declared.register.VReg.{VReg}
use Rattle.midcode.specs.declared.op.OpKind.{OpKind}
use Rattle.midcode.specs.Cost.{charge}
use Rattle.midcode.specs.Function.{size_of}
use Rattle.midcode.specs.Program.{Program}
use Rattle.midcode.specs.Machine as machine
use Rattle.midcode.specs.Machine.{Wild, with_register}
use Rattle.midcode.specs.Meaning.{function_at, kinds_of_function, registers_of, running, width_of_size, width_of, effect}
use Rattle.midcode.specs.Meaning.{charged, performed, step}
use Rattle.cmean.specs.declared.undefined.UndefinedCause.{UndefinedCause}
use Rattle.cmean.specs.Datum.{Datum}
use Rattle.cmean.specs.State.{State, Run, change, in_budget, tick, undefined}
use Rattle.lowerstate.specs.Counted.{Counted, counting, counted, least_at}
use Rattle.lowerstate.specs.Held.{Meant, Held}
use Rattle.lowerstate.specs.Related.{Fixed, Call, IsCall, Kept, Point, homes_with, IsKept, Related, stepped}
use Rattle.lowerstate.specs.Stands.{IsEven, IsWaiting, Ends, Does}

-- ---- acts of the meaning

module _ (r : Fixed) (c : Call) where
  late-all : (steps product owed : ℕ) → owed ≤ r.most → steps ≤ product + owed → steps ≤ product + r.most
  late-all steps product owed few late = omega (arith, few, late)

  pub even : (x : Point) (s : State) (m : Counted) → x.owed ≤ r.most → Related r c x s m → IsEven r s m
  even x s m few related = record {
    events = related.events;
    paid = let paid = related.paid in omega (arith, paid);
    late = late-all s.steps (r.most * m.least) x.owed few related.late;
  }

  pub waiting : (x : Point) (s : State) (m : Counted) → x.owed ≤ r.most → r.budget ≤ s.steps → Related r c x s m → IsWaiting r s m
  waiting x s m few over related = record {
    rest = [];
    cycles = 0;
    ahead = refl;
    events = append-nil (map (λ e. e.event) s.shown) ∙ related.events;
    paid = let paid = related.paid in omega (arith, paid);
    late = late-all s.steps (r.most * m.least) x.owed few related.late;
    all = let left = related.left in omega (arith, left, over);
  }

  module _ {A : Type 0} (D : A → State → Counted → Type 0) where
    budget-case : (b : Bool) (run : Run A) (x : Point) (s : State) (m : Counted) → x.owed ≤ r.most → Related r c x s m
        → (b ≡ false → r.budget ≤ s.steps) → (b ≡ true → Does r D (run r.budget s) m)
        → Does r D (if b then run r.budget s else Stopped stop.More s) m
    budget-case true run x s m few related over does = does refl
    budget-case false run x s m few related over does =
        simulates-here (counted r.program r.addresses) (Ends r) D (Stopped stop.More s) m (waiting x s m few (over refl) related)

    -- what is within the budget, or waits for more
    pub in_budget-does : (run : Run A) (x : Point) (s : State) (m : Counted) → x.owed ≤ r.most → Related r c x s m
        → (s.steps < r.budget → Does r D (run r.budget s) m) → Does r D (in_budget run r.budget s) m
    in_budget-does run x s m few related does =
        budget-case (nat_lt s.steps r.budget) run x s m few related (ltb-false s.steps r.budget)
        (λ below. does (ltb-true s.steps r.budget below))

    -- an undefined step
    pub undefined-does : (span : Span) (cause : UndefinedCause) (x : Point) (s : State) (m : Counted) → x.owed ≤ r.most → Related r c x s m
        → Does r D (undefined span cause r.budget s) m
    undefined-does span cause x s m few related =
        in_budget-does (λ budget t. Stopped (stop.Undefined (record { span = span; cause = cause })) t) x s m few related
        (λ _. simulates-here (counted r.program r.addresses) (Ends r) D
        (Stopped (stop.Undefined (record { span = span; cause = cause })) s) m (even x s m few related))

  one-more : (x : Point) (s : State) (m : Counted) (hand : ℕ) → hand ≤ x.hand + 512 → s.steps < r.budget → Related r c x s m
      → Related r c (stepped x hand) (record s { steps = suc s.steps }) m
  one-more x s m hand most below related = record {
    later = related.later;
    place = related.place;
    function = related.function;
    callers = related.callers;
    locals = related.locals;
    events = related.events;
    values = related.values;
    stored = record {
      all = related.stored.all;
      leaf = related.stored.leaf;
      room = related.stored.room;
      disjoint =
          related.stored.disjoint;
    };
    variables = related.variables;
    outer = related.outer;
    kept = related.kept;
    paid = let paid = related.paid in omega (arith, paid, most);
    late = let late = related.late in omega (arith, late);
    left = below;
    done = let done = related.done in omega (arith, done);
  }

  -- one step
  pub tick-does : (x : Point) (s : State) (m : Counted) (hand : ℕ) → hand ≤ x.hand + 512 → x.owed ≤ r.most → Related r c x s m
      → Does r (λ _. Related r c (stepped x hand)) (tick r.budget s) m
  tick-does x s m hand most few related =
      in_budget-does (λ _. Related r c (stepped x hand)) (change (λ s. record s { steps = suc s.steps })) x s m few related
      (λ below. simulates-here (counted r.program r.addresses) (Ends r) (λ _. Related r c (stepped x hand))
      (Done tt (record s { steps = suc s.steps })) m (one-more x s m hand most below related))

-- ---- operations

-- a register is written and the operation behind is next
abbrev pub written : Program → VReg → ℕ → machine.State → machine.State
written p to n s = record s {
  frame = record s.frame {
    place = s.frame.place + 1;
    registers = with_register s.frame.registers to.0 (wrap (width_of p s to) n);
  };
}

size-width : (w : Width) → width_of_size (size_of (Some w)) ≡ w
size-width B1 = refl
size-width B2 = refl
size-width B4 = refl

if-same : {A : Type 0} (b : Bool) (x y : A) → b ≡ true → (if b then x else y) ≡ x
if-same true x y is = refl
if-same false x y is = absurd cc

pub if-other : {A : Type 0} (b : Bool) (x y : A) → b ≡ false → (if b then x else y) ≡ y
if-other false x y is = refl
if-other true x y is = absurd cc

pub with-same : (registers : ℕ → Option ℕ) (q v : ℕ) → with_register registers q v q ≡ Some v
with-same registers q v = if-same (q == q) (Some v) (registers q) (eq-eqb q q refl)

with-other : (registers : ℕ → Option ℕ) (q v p : ℕ) → p < q → with_register registers q v p ≡ registers p
with-other registers q v p below = if-other (p == q) (Some v) (registers p) (ne_eqb p q (λ same. omega (arith, same, below)))

pub late-more : (most least more steps owed : ℕ) → steps ≤ most * least + owed → steps ≤ most * (least + more) + owed
late-more most least more steps owed late =
    let grown : most * least ≤ most * (least + more) = mul-le most least most (least + more) (omega arith) (omega arith) in
    omega (arith, late, grown)

module _ (r : Fixed) (c : Call) (call : IsCall r c) where
  pub runs : (x : Point) (s : State) (m : Counted) → Related r c x s m → running r.program m.state ≡ c.ops
  runs x s m related = ap (λ f. kinds_of_function (function_at r.program f)) related.function ∙ call.ops

  pub op-at : (x : Point) (s : State) (m : Counted) (k : OpKind) → Related r c x s m → slice_get c.ops x.place ≡ Some k
      → slice_get (running r.program m.state) m.state.frame.place ≡ Some k
  op-at x s m k related is =
      ap (λ ks. slice_get ks m.state.frame.place) (runs x s m related) ∙ (ap (λ n. slice_get c.ops n) related.place ∙ is)

  -- the width of a register
  pub width-at : (x : Point) (s : State) (m : Counted) (k : OpKind) (q : VReg) (w : Width) → Related r c x s m
      → slice_get c.widths q.0 ≡ Some w → width_of r.program (charged k m.state) q ≡ w
  width-at x s m k q w related is =
      ap (λ f. width_of_size (size_of (slice_get (registers_of (function_at r.program f)) q.0))) related.function
      ∙ (ap (λ ws. width_of_size (size_of (slice_get ws q.0))) call.widths
      ∙ (ap (λ o. width_of_size (size_of o)) is ∙ size-width w))

  -- the state behind an operation that comes to t
  abbrev pub counted_to : Counted → machine.State → Counted
  counted_to m t = record {
    state = t;
    least = m.least + least_at (running r.program m.state) m.state.frame.place
        (slice_get (running r.program m.state) m.state.frame.place);
  }

  pub op-reaches : (m : Counted) (k : OpKind) (t : machine.State) → slice_get (running r.program m.state) m.state.frame.place ≡ Some k
      → effect r.program r.addresses k (charged k m.state) ≡ Done tt t
      → Reaches (counted r.program r.addresses) m (counted_to m t)
  unfolding step
  op-reaches m k t is does =
      reaches-step (counted r.program r.addresses) m (counted_to m t)
      (ap (counting (counted_to m t).least) (ap (λ o. performed r.program r.addresses o m.state) is ∙ does))

  module _ (homes : List _) where
    kept-below : (registers : ℕ → Option ℕ) (q v : ℕ) (ks : List Kept) → AllByRecursion (λ k. k.register < q) ks
        → AllByRecursion (IsKept r homes registers) ks → AllByRecursion (IsKept r homes (with_register registers q v)) ks
    kept-below registers q v [] below kept = tt
    kept-below registers q v (k ∷ ks) below kept =
        ((kept.0.0, with-other registers q v k.register below.0 ∙ kept.0.1, kept.0.2), kept-below registers q v ks below.1 kept.1)

  -- An operation writes a value to a register that is free. What is kept besides may be less than before.
  pub wrote : (x : Point) (s : State) (m : Counted) (k : OpKind) (q : VReg) (w : Width) (t : Meant) (d : Datum) (n hand : ℕ)
      (kept : List Kept) (related : Related r c x s m) → slice_get c.ops x.place ≡ Some k → slice_get c.widths q.0 ≡ Some w
      → c.variables ≤ q.0 → AllByRecursion (λ k. k.register < q.0) kept
      → AllByRecursion (IsKept r (homes_with c related.later) m.state.frame.registers) kept
      → effect r.program r.addresses k (charged k m.state) ≡ Done tt (written r.program q n (charged k m.state))
      → Held r.layouts (homes_with c related.later) t d (wrap w n)
      → charge k + hand ≤ x.hand
      → (m' : Counted) × Reaches (counted r.program r.addresses) m m'
      × Related r c (record x { place = x.place + 1; kept = record { register = q.0; meant = t; datum = d } ∷ kept; hand = hand }) s m'
  wrote x s m k q w t d n hand kept related is width free below holds does held paid = (
    counted_to m (written r.program q n (charged k m.state)),
    op-reaches m k (written r.program q n (charged k m.state)) (op-at x s m k related is) does,
    record {
      later = related.later;
      place = ap (λ n. n + 1) related.place;
      function = related.function;
      callers = related.callers;
      locals = related.locals;
      events = related.events;
      values = related.values;
      stored = related.stored;
      variables = λ i p u e home leaf.
          let old = related.variables i p u e home leaf in (
            old.0,
            with-other m.state.frame.registers q.0 v p (let own = (call.local i p u home).0 in omega (arith, own, free)) ∙ old.1,
            old.2,
          );
      outer = related.outer;
      kept = (
        (v, with-same m.state.frame.registers q.0 v, new),
        kept-below (homes_with c related.later) m.state.frame.registers q.0 v kept
            below holds,
      );
      paid = let before = related.paid in omega (arith, before, paid);
      late = late-more r.most m.least (least_at (running r.program m.state) m.state.frame.place
          (slice_get (running r.program m.state) m.state.frame.place)) s.steps x.owed related.late;
      left = related.left;
      done = related.done;
    },
  )
    where
      v : ℕ
      v = wrap (width_of r.program (charged k m.state) q) n

      new : Held r.layouts (homes_with c related.later) t d v
      new = subst (λ (u : Width). Held r.layouts (homes_with c related.later) t d (wrap u n)) (sym (width-at x s m k q w related width))
          held

pub ruleset act_rules = (tick-does, even)
