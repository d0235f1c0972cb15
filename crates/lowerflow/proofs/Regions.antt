-- Marks of regions: each is one operation and one event, and the steps round a region pay for both.
use Rattle.std.proofs.Common.{◌≡◌, ℕ, ◌+◌, ◌≤◌, [], ◌∷◌, ◌++◌, List, length, refl, ap, ◌∙◌, arith, Some, slice_get}
use Rattle.std.proofs.lemmas.List.{map-append}
use Rattle.behaviour.specs.Ran.{Ran, Done}
use Rattle.behaviour.proofs.SimulatesLemmas.{simulates-from}
use Rattle.prutrace.specs.declared.event.Event.{Event}
use Rattle.prutrace.specs.declared.event.Event.TheVariants as event
use Rattle.midcode.specs.declared.op.Mark.{Mark}
use Rattle.midcode.specs.declared.op.Mark.TheVariants as mark
use Rattle.midcode.specs.declared.op.OpKind.{OpKind}
use Rattle.midcode.specs.declared.op.OpKind.TheVariants as op
use Rattle.midcode.specs.Machine as machine
use Rattle.midcode.specs.Meaning.{running, effect, charged}
use Rattle.cmean.specs.declared.undefined.UndefinedStep.{UndefinedStep}
use Rattle.cmean.specs.State.{State, Run, give, then_with, then_do, tick, mark_now, showing}
use Rattle.cmean.specs.Statement.{Flow, Next, Broke, Continued, Returned}
use Rattle.lowerstate.specs.Counted.{Counted, counted, least_at}
use Rattle.lowerstate.specs.Related.{Fixed, Call, IsCall, Point, Related, stepped}
use Rattle.lowerstate.specs.Stands.{Ends, Does}
use Rattle.lowerstate.specs.Piece.{Code, Free, least_hand, IsIn, IsReady}
use Rattle.lowerstate.specs.PieceLaws.{shown_to}
use Rattle.lowerstate.proofs.Laws.{tick-does, counted_to, op-at, op-reaches, late-more}
use Rattle.lowerstate.proofs.Pieces.{adjust}
use Rattle.lowerflow.specs.Goes.{Exits, no_exits, past, Ended, Goes, Begins, step_hand, itself}
use Rattle.lowerflow.specs.Codes.{region_code}
use Rattle.lowerflow.proofs.Walk.{Part, Piece, One, Rest, rest-of, piece, behind-piece, operation, behind-op, at-end}
use Rattle.lowerflow.proofs.Ways.{does-here, does-then, ready-behind}

abbrev event_of : Mark → Event
event_of (mark.Enter n) = event.Enter n
event_of (mark.Leave n) = event.Leave n

module _ (r : Fixed) (c : Call) (call : IsCall r c) where
  marks : (k : Mark) (t : machine.State)
      → effect r.program r.addresses (op.Mark k) t ≡ Done tt (shown_to (event_of k) t)
  marks (mark.Enter n) t = refl
  marks (mark.Leave n) t = refl

  -- an event with the number of the step at hand
  marked : (x : Point) (s : State) (m : Counted) (k : Mark) (hand : ℕ) → Related r c x s m → 1 + hand ≤ x.hand
      → Related r c (record x { place = x.place + 1; hand = hand }) (showing s.steps (event_of k) s)
      (counted_to r c call m (shown_to (event_of k) (charged (op.Mark k) m.state)))
  marked x s m k hand related paid = record {
    later = related.later;
    place = ap (λ n. n + 1) related.place;
    function = related.function;
    callers = related.callers;
    locals = related.locals;
    events = map-append (λ e. e.event) s.shown (record { step = s.steps; event = event_of k } ∷ [])
        ∙ ap (λ es. es ++ event_of k ∷ []) related.events;
    values = related.values;
    stored = record {
      all = related.stored.all;
      leaf = related.stored.leaf;
      room = related.stored.room;
      disjoint =
          related.stored.disjoint;
    };
    variables = related.variables;
    outer = related.outer;
    kept = related.kept;
    paid = let before = related.paid in omega (arith, before, paid);
    late = late-more r.most m.least (least_at (running r.program m.state) m.state.frame.place
        (slice_get (running r.program m.state) m.state.frame.place)) s.steps x.owed related.late;
    left = related.left;
    done = related.done;
  }

  go-mark : {A : Type 0} (D : A → State → Counted → Type 0) (run : Ran UndefinedStep State A) (x : Point) (s : State) (m : Counted)
      (k : Mark) (hand : ℕ) → Related r c x s m → slice_get c.ops x.place ≡ Some (op.Mark k) → 1 + hand ≤ x.hand
      → ((m' : Counted) → Related r c (record x { place = x.place + 1; hand = hand }) (showing s.steps (event_of k) s) m' → Does r D run m')
      → Does r D run m
  go-mark D run x s m k hand related is paid rest =
      let m' : Counted = counted_to r c call m (shown_to (event_of k) (charged (op.Mark k) m.state)) in
      simulates-from (counted r.program r.addresses) (Ends r) D run m m'
      (op-reaches r c call m (op.Mark k) (shown_to (event_of k) (charged (op.Mark k) m.state)) (op-at r c call x s m (op.Mark k) related is)
      (marks k (charged (op.Mark k) m.state)))
      (rest m' (marked x s m k hand related paid))

  -- ---- a region

  module _ (e : Exits) (f : Free) (n : ℕ) (a : Code) (run : Run Flow) (nodes : ℕ)
      (body : Goes r c no_exits f a itself run nodes least_hand) where
    abbrev code : Code
    code = region_code n a

    abbrev parts : List Part
    parts = One (op.Mark (mark.Enter n)) ∷ Piece a.ops ∷ One (op.Mark (mark.Leave n)) ∷ []

    module _ (x : Point) (hand : ℕ) (stands : IsIn c f code x.place) (ready : IsReady r c f (nodes + 1) (step_hand + hand) x) where
      abbrev z : Point
      z = past x code (nodes + 1) hand

      abbrev D : Flow → State → Counted → Type 0
      D = Ended r c e z

      abbrev end : ℕ
      end = x.place + length code.ops

      all : Rest c.ops parts x.place end
      all = rest-of c.ops parts x.place stands.ops

      last : Rest c.ops (One (op.Mark (mark.Leave n)) ∷ []) (x.place + 1 + length a.ops) end
      last = behind-piece (behind-op all)

      abbrev inside : Point
      inside = record x { place = x.place + 1; hand = least_hand + (hand + 50) }

      abbrev behind-body : Point
      behind-body = past inside a nodes (hand + 50 + least_hand)

      leave : (s : State) (m : Counted) → Related r c behind-body s m
          → Does r D (then_do tick (then_do (mark_now (event.Leave n)) (give Next)) r.budget s) m
      leave s m at =
          let y : Point = stepped behind-body (hand + 300) in
          does-then r (λ _. Related r c y) D (tick r.budget s) (λ _. then_do (mark_now (event.Leave n)) (give Next) r.budget) m
          (tick-does r c behind-body s m (hand + 300) (omega arith) (let owed = ready.owed in omega (arith, owed)) at)
          (λ _ s m on. go-mark D (Done Next (showing s.steps (event.Leave n) s)) y s m (mark.Leave n) (hand + 200) on (operation last)
          (omega arith)
          (λ m' there. does-here r D Next (showing s.steps (event.Leave n) s) m'
          (adjust r c (record y { place = y.place + 1; hand = hand + 200 }) z (showing s.steps (event.Leave n) s) m'
          (at-end (behind-op last)) (omega arith) (omega arith) (omega arith) there there.kept)))

      -- a region is left at its end alone
      left : (flow : Flow) (s : State) (m : Counted) → Ended r c no_exits behind-body flow s m
          → Does r D (then_do tick (then_do (mark_now (event.Leave n)) (give flow)) r.budget s) m
      left Next s m at = leave s m at
      left Broke s m at = let none = at.1 in absurd cc
      left Continued s m at = let none = at.1 in absurd cc
      left (Returned v) s m at = absurd at

      region-does : (s : State) (m : Counted) → Related r c x s m
          → Does r D (then_do (mark_now (event.Enter n)) (then_with run (λ flow. then_do tick (then_do (mark_now (event.Leave n))
          (give flow)))) r.budget s) m
      region-does s m at =
          let t : State = showing s.steps (event.Enter n) s in
          go-mark D (then_with run (λ flow. then_do tick (then_do (mark_now (event.Leave n)) (give flow))) r.budget t) x s m (mark.Enter n)
          (least_hand + (hand + 50)) at (operation all) (let in_hand = ready.in_hand in omega (arith, in_hand))
          (λ m' on. does-then r (Ended r c no_exits behind-body) D (run r.budget t)
          (λ flow. then_do tick (then_do (mark_now (event.Leave n)) (give flow)) r.budget) m'
          (body.does inside (hand + 50) t m'
          (record { ops = piece (behind-op all); widths = stands.widths; free = stands.free })
          (ready-behind r c f f (nodes + 1) nodes (step_hand + hand) (hand + 50) x inside ready (omega arith) refl refl (omega arith)) on) left)

    pub region-of : Begins r c e f code (then_do (mark_now (event.Enter n)) (then_with run (λ flow. then_do tick
        (then_do (mark_now (event.Leave n)) (give flow))))) (nodes + 1)
    region-of = record { does = λ x hand s m stands ready related. region-does x hand stands ready s m related }
