-- Events: what the meaning shows and what an operation shows.
use Rattle.std.proofs.Common.{◌≡◌, ℕ, suc, ◌+◌, ◌≤◌, [], ◌∷◌, ◌++◌, ap, ◌∙◌, arith, Some, slice_get}
use Rattle.std.proofs.lemmas.List.{map-append}
use Rattle.behaviour.specs.Ran.{Done}
use Rattle.behaviour.proofs.SimulatesLemmas.{simulates-here, simulates-from}
use Rattle.prutrace.specs.declared.event.Event.{Event}
use Rattle.midcode.specs.declared.op.OpKind.{OpKind}
use Rattle.midcode.specs.Cost.{charge}
use Rattle.midcode.specs.Meaning.{running, effect, charged}
use Rattle.cmean.specs.State.{State, showing, change, show}
use Rattle.lowerstate.specs.Counted.{Counted, counted, least_at}
use Rattle.lowerstate.specs.Related.{Fixed, Call, IsCall, Point, Related}
use Rattle.lowerstate.specs.Stands.{Ends, Does}
use Rattle.lowerstate.specs.PieceLaws.{shown_to}
use Rattle.lowerstate.proofs.Laws.{in_budget-does, counted_to, op-at, op-reaches, late-more}

module _ (r : Fixed) (c : Call) (call : IsCall r c) where
  shown : (x : Point) (s : State) (m : Counted) (k : OpKind) (e : Event) (hand : ℕ) → Related r c x s m → charge k + hand ≤ x.hand
      → Related r c (record x { place = x.place + 1; hand = hand }) (showing (suc s.steps) e s)
      (counted_to r c call m (shown_to e (charged k m.state)))
  shown x s m k e hand related paid = record {
    later = related.later;
    place = ap (λ n. n + 1) related.place;
    function = related.function;
    callers = related.callers;
    locals = related.locals;
    events = map-append (λ e. e.event) s.shown (record { step = suc s.steps; event = e } ∷ []) ∙ ap (λ es. es ++ e ∷ []) related.events;
    values = related.values;
    stored = record {
      all = related.stored.all;
      leaf = related.stored.leaf;
      room = related.stored.room;
      disjoint =
          related.stored.disjoint;
    };
    variables = related.variables;
    outer = related.outer;
    kept = related.kept;
    paid = let before = related.paid in omega (arith, before, paid);
    late = late-more r.most m.least (least_at (running r.program m.state) m.state.frame.place
        (slice_get (running r.program m.state) m.state.frame.place)) s.steps x.owed related.late;
    left = related.left;
    done = related.done;
  }

  -- an event with the number of the next step
  pub show-does : (x : Point) (s : State) (m : Counted) (k : OpKind) (e : Event) (hand : ℕ) → x.owed ≤ r.most → Related r c x s m
      → slice_get c.ops x.place ≡ Some k
      → effect r.program r.addresses k (charged k m.state) ≡ Done tt (shown_to e (charged k m.state))
      → charge k + hand ≤ x.hand
      → Does r (λ _. Related r c (record x { place = x.place + 1; hand = hand })) (show e r.budget s) m
  show-does x s m k e hand few related is does paid =
      in_budget-does r c (λ _. Related r c (record x { place = x.place + 1; hand = hand })) (change (λ s. showing (suc s.steps) e s)) x s m
      few
      related
      (λ _. simulates-from (counted r.program r.addresses) (Ends r) (λ _. Related r c (record x { place = x.place + 1; hand = hand }))
      (Done tt (showing (suc s.steps) e s)) m (counted_to r c call m (shown_to e (charged k m.state)))
      (op-reaches r c call m k (shown_to e (charged k m.state)) (op-at r c call x s m k related is) does)
      (simulates-here (counted r.program r.addresses) (Ends r) (λ _. Related r c (record x { place = x.place + 1; hand = hand }))
      (Done tt (showing (suc s.steps) e s)) (counted_to r c call m (shown_to e (charged k m.state))) (shown x s m k e hand related paid)))
