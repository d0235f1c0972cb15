-- A step that turns a loop, joined to the loop's turn.
use Rattle.std.proofs.Common.{◌≡◌, ℕ, ◌+◌, ◌⊎◌, inl, inr, List, Option, IsSome}
use Rattle.std.proofs.Common.{sym, ap, ◌∙◌, subst, arith, Contains}
use Rattle.std.specs.List.{AllByRecursion}
use Rattle.loopbound.specs.declared.graph.Bounds.{Bounds}
use Rattle.loopbound.specs.declared.graph.Loop.{Loop}
use Rattle.loopbound.specs.declared.graph.Move.TheVariants.{Turn}
use Rattle.loopbound.specs.declared.graph.Side.{Side}
use Rattle.loopbound.specs.declared.graph.Side.TheVariants.{Least, Most}
use Rattle.loopbound.specs.declared.graph.Step.{Step}
use Rattle.loopbound.specs.declared.graph.TimedLoop.{TimedLoop}
use Rattle.loopbound.specs.Loops.{move}
use Rattle.loopbound.specs.Path.{at}
use Rattle.loopbound.specs.Table.{shapes, side_of, gains, dues, CanGo, Labels, KeepsBounds, Meets, TurnsNone, NoTurn, AtMostOne}
use Rattle.loopbound.specs.Table.{Reason, at_entry, by_step, TurnReason}
use Rattle.loopbound.specs.Joining.{joined, turned, turn_all, sum_behind}
use Rattle.loopbound.proofs.EachLemmas.{contained-each, each-contained, each-shape, shape-each, turns_or}
use Rattle.loopbound.proofs.JoinLemmas.{low_new, high_new, one_of, no_dues, dues_one, OneDue, same_shapes, Kept}
use Rattle.loopbound.proofs.JoinLemmas.{gains_same, can_then, can_now, have_now, dues_low, dues_high, have_all, Updated, each-updated}
use Rattle.loopbound.proofs.JoinLemmas.{updated-each, turned_it, not_turned}
use Rattle.loopbound.proofs.Made.{Made}

module _ (Has More : Step → Type 0) (loops : List TimedLoop) (label : Labels) (entry : ℕ) (s : Step) (x : Bounds) (it : TimedLoop)
    (old : (t : Step) → Has t → More t) (new : More s) (either : (t : Step) → More t → Has t ⊎ (t ≡ s))
    (made : Made Has loops label entry)
    (stands : Contains loops it) (it_turns : move it.shape s.from s.to ≡ Turn)
    (one : (t : Step) → More t → AtMostOne t.from t.to (shapes loops))
    (kept : (t : Step) → More t → AllByRecursion (Kept t.from t.to s.from s.to) (shapes loops))
    (known : IsSome (label s.from)) (known_to : IsSome (label s.to)) (can : CanGo s.from s.to loops)
    (value : (side : Side) → at side x + side_of side (label s.to) ≡ sum_behind side loops label s) where
  abbrev after : List TimedLoop
  after = turn_all s.from s.to x loops

  shapes_same : shapes after ≡ shapes loops
  shapes_same = same_shapes s.from s.to x loops

  gained : (side : Side) (t : Step) → More t → gains side t.from t.to after ≡ gains side t.from t.to loops
  gained side t more = gains_same t.from t.to s.from s.to x side loops (kept t more)

  one_after : (t : Step) → More t → AtMostOne t.from t.to (shapes after)
  one_after t more = subst (λ (ls : List Loop). AtMostOne t.from t.to ls) (sym shapes_same) (one t more)

  -- what a step owes where it turns a loop of the list, before and after
  due_before : (side : Side) (t : Step) → More t → (l : TimedLoop) → Contains loops l → move l.shape t.from t.to ≡ Turn
      → dues side t.from t.to loops ≡ side_of side l.turn
  due_before side t more l has turns =
      each-contained (OneDue t.from t.to side (dues side t.from t.to loops)) loops
      (dues_one t.from t.to side loops (one t more)) l has turns

  due_after : (side : Side) (t : Step) → More t → (l : TimedLoop) → Contains loops l → move l.shape t.from t.to ≡ Turn
      → dues side t.from t.to after ≡ side_of side (turned (move l.shape s.from s.to) x l.turn)
  due_after side t more l has turns =
      each-contained (Updated s.from s.to x (OneDue t.from t.to side (dues side t.from t.to after))) loops
      (each-updated s.from s.to x (OneDue t.from t.to side (dues side t.from t.to after)) loops
      (dues_one t.from t.to side after (one_after t more)))
      l has turns

  new_due : (side : Side) (l : TimedLoop) → Contains loops l → move l.shape s.from s.to ≡ Turn
      → dues side s.from s.to after ≡ at side (joined l.turn x)
  new_due side l has turns =
      due_after side s new l has turns ∙ turned_it (move l.shape s.from s.to) side x l.turn turns

  -- ---- it fits

  old_keeps : (t : Step) → Has t → KeepsBounds after label t
  old_keeps t has some can_after =
      let f = made.fits.steps t has some (can_then t.from t.to s.from s.to x loops (kept t (old t has)) can_after) in
      let low = f.low in let high = f.high in
      let lower = dues_low t.from t.to s.from s.to x loops f.turns in
      let higher = dues_high t.from t.to s.from s.to x loops in
      let least = gained Least t (old t has) in let most = gained Most t (old t has) in
      record {
        known = f.known;
        turns = have_now t.from t.to s.from s.to x loops f.turns;
        low = omega (arith, low, lower, least);
        high = omega (arith, high, higher, most);
      }

  new_keeps : KeepsBounds after label s
  new_keeps some can_after =
      let least_due = new_due Least it stands it_turns in let most_due = new_due Most it stands it_turns in
      let low = low_new it.turn x in let high = high_new it.turn x in
      let least = gained Least s new in let most = gained Most s new in
      let least_value = value Least in let most_value = value Most in
      record {
        known = known_to;
        turns = have_all s.from s.to x loops;
        low = omega (arith, least_due, low, least, least_value);
        high = omega (arith, most_due, high, most, most_value);
      }

  keeps : (t : Step) → More t → KeepsBounds after label t
  keeps t more = by (either t more)
    where
      by : Has t ⊎ (t ≡ s) → KeepsBounds after label t
      by (inl has) = old_keeps t has
      by (inr is) = subst (λ (y : Step). KeepsBounds after label y) (sym is) new_keeps

  -- ---- it is tight

  old_meets : (side : Side) (t : Step) → Has t → dues side t.from t.to after ≡ dues side t.from t.to loops → Meets loops label side t
      → Meets after label side t
  old_meets side t has due m =
      let gain = gained side t (old t has) in
      let same = m.same in
      record {
        known = m.known;
        can = can_now t.from t.to s.from s.to x loops (kept t (old t has)) m.can;
        same = omega (arith, due, gain, same);
      }

  none_after : (t : Step) → TurnsNone loops t → AllByRecursion (NoTurn t.from t.to) (shapes after)
  none_after t none =
      subst (λ (ls : List Loop). AllByRecursion (NoTurn t.from t.to) ls) (sym shapes_same) (each-shape (NoTurn t.from t.to) loops none)

  words : (side : Side) (w : ℕ) → Reason Has loops label entry side w → Reason More after label entry side w
  words side w (at_entry is zero) = at_entry is zero
  words side w (by_step t has to meets none) =
      let before = no_dues t.from t.to side loops (each-shape (NoTurn t.from t.to) loops none) in
      let now = no_dues t.from t.to side after (none_after t none) in
      by_step t (old t has) to
      (old_meets side t has (omega (arith, before, now)) meets)
      (shape-each (NoTurn t.from t.to) after (none_after t none))

  abbrev Turns : TimedLoop → Side → Type 0
  Turns l side = IsSome l.turn → TurnReason Has loops label side l.shape

  abbrev Now : Side → TimedLoop → Type 0
  Now side l = IsSome l.turn → TurnReason More after label side l.shape

  kept_reason : (side : Side) (l : TimedLoop) → Contains loops l
      → side_of side (turned (move l.shape s.from s.to) x l.turn) ≡ side_of side l.turn
      → TurnReason Has loops label side l.shape → TurnReason More after label side l.shape
  kept_reason side l has same r =
      let t = r.step in
      let now = due_after side t (old t r.has) l has r.turns in
      let before = due_before side t (old t r.has) l has r.turns in
      record {
        step = t;
        has = old t r.has;
        meets = old_meets side t r.has (omega (arith, now, before, same)) r.meets;
        turns = r.turns;
      }

  new_reason : (side : Side) (l : TimedLoop) → Contains loops l → move l.shape s.from s.to ≡ Turn
      → at side (joined l.turn x) ≡ at side x → TurnReason More after label side l.shape
  new_reason side l has turns is =
      let due = new_due side l has turns in
      let gain = gained side s new in
      let sum = value side in
      record {
        step = s;
        has = new;
        meets = record {
          known = known;
          can = can_now s.from s.to s.from s.to x loops (kept s new) can;
          same = omega (arith, due, gain, sum, is);
        };
        turns = turns;
      }

  updated_turn : (side : Side) (l : TimedLoop) → Contains loops l → Updated s.from s.to x (Now side) l
  updated_turn side l has some = by (turns_or (move l.shape s.from s.to))
    where
      reason : IsSome l.turn → TurnReason Has loops label side l.shape
      reason = each-contained (λ l. Turns l side) loops (made.tight side).turns l has

      turning : move l.shape s.from s.to ≡ Turn → (IsSome l.turn × (at side (joined l.turn x) ≡ side_of side l.turn))
          ⊎ (at side (joined l.turn x) ≡ at side x) → TurnReason More after label side l.shape
      turning turns (inl was) =
          kept_reason side l has (turned_it (move l.shape s.from s.to) side x l.turn turns ∙ was.1) (reason was.0)
      turning turns (inr is) = new_reason side l has turns is

      by : (move l.shape s.from s.to ≡ Turn) ⊎ (move l.shape s.from s.to ≡ Turn → ⊥) → TurnReason More after label side l.shape
      by (inl turns) = turning turns (one_of side l.turn x)
      by (inr not) =
          let same : turned (move l.shape s.from s.to) x l.turn ≡ l.turn = not_turned (move l.shape s.from s.to) x l.turn not in
          kept_reason side l has (ap (side_of side) same) (reason (subst (λ (o : Option Bounds). IsSome o) same some))

  turns : (side : Side) → AllByRecursion (Now side) after
  turns side =
      updated-each s.from s.to x (Now side) loops
      (contained-each (Updated s.from s.to x (Now side)) loops (λ l has. updated_turn side l has))

  pub turn_made : Made More (turn_all s.from s.to x loops) label entry
  turn_made = record {
    fits = record { known = made.fits.known; zero = made.fits.zero; steps = keeps };
    tight = λ side. record { words = λ w some. words side w ((made.tight side).words w some); turns = turns side };
    rises = λ l has. made.rises l (subst (λ (ls : List Loop). Contains ls l) shapes_same has);
  }
