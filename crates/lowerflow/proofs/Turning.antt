-- Loops. A turn begins with the step of its body at the latest, which pays for its jumps.
use Rattle.std.proofs.Common.{◌≡◌, ◌⊎◌, ℕ, ◌+◌, ◌<◌, ◌≤◌, Bool, true, false, if◌then◌else◌, List, [], ◌∷◌, ◌++◌, length, refl, sym, subst}
use Rattle.std.proofs.Common.{ap, ◌∙◌, arith, Option, Some, slice_get}
use Rattle.behaviour.specs.Ran.{Done, Turn, Again, Over}
use Rattle.behaviour.specs.Simulates.{AfterTurn}
use Rattle.midcode.specs.declared.op.OpKind.{OpKind}
use Rattle.midcode.specs.declared.op.OpKind.TheVariants as op
use Rattle.midcode.specs.Meaning.{standing_at}
use Rattle.cmean.specs.State.{State, Run, give, then_with, then_do, tick, entered}
use Rattle.cmean.specs.Statement.{Flow, Next, Broke, Continued, Returned, loop, if_true, after_body, behind_body, while_loop, for_loop, do_loop}
use Rattle.cmean.specs.Expression.{Valued, truth}
use Rattle.lowerstate.specs.Counted.{Counted}
use Rattle.lowerstate.specs.Held.{Meant}
use Rattle.lowerstate.specs.Related.{Fixed, Call, IsCall, Point, Related, stepped}
use Rattle.lowerstate.specs.Stands.{Does}
use Rattle.lowerstate.specs.Piece.{Code, Free, behind, node_back, least_hand, IsIn, IsReady, Evaluates, IsValue}
use Rattle.lowerstate.proofs.Laws.{tick-does}
use Rattle.lowerstate.proofs.Places.{stands-left, stands-right}
use Rattle.lowerstate.proofs.Pieces.{adjust}
use Rattle.lowerstate.proofs.Turns.{loop-does}
use Rattle.lowerflow.specs.Goes.{Exits, no_exits, past, Landed, Ended, Goes, Begins, step_hand, always_next, itself, jumps, Tests}
use Rattle.lowerflow.specs.Codes.{label, reserve, test_code, loop_exits, loop_code, do_code}
use Rattle.lowerflow.proofs.Walk.{Part, Piece, One, Rest, rest-of, piece, behind-piece, operation, behind-op, at-end}
use Rattle.lowerflow.proofs.Walk.{label-place, go-label, go-back}
use Rattle.lowerflow.proofs.Ways.{does-here, does-more, does-then, ready-behind, ended-less}
use Rattle.lowerflow.proofs.Testing.{test-back}

exit-same : (l k : ℕ) → Some l ≡ Some k → l ≡ k
exit-same l k is = cc

-- ---- what both kinds share: a turn at x, and the end behind the label out

module _ (r : Fixed) (c : Call) (call : IsCall r c) (e : Exits) (f : Free) (x z : Point) (total hand : ℕ)
    (few : x.owed + total ≤ r.most) (in_hand : x.hand ≡ least_hand + hand)
    (same : z ≡ record x { place = z.place; hand = hand; owed = x.owed + total }) where
  abbrev Before : ℕ → State → Counted → Type 0
  Before steps = Related r c (record x { steps = steps })

  abbrev After : ℕ → Turn Flow → State → Counted → Type 0
  After steps = AfterTurn (Before steps) (Ended r c e z)

  -- at the label of the end
  leave : (steps at place h owed : ℕ) → place ≡ at → slice_get c.ops at ≡ Some (op.Label (label (f.label + 2))) → at + 1 ≡ z.place
      → hand ≤ h → owed ≤ x.owed + total → x.steps ≤ steps → (s : State) (m : Counted)
      → Related r c (record x { place = place; hand = h; owed = owed; steps = steps }) s m → (next : ℕ)
      → Does r (After next) (Done (Over Next) s) m
  leave steps at place h owed there is end enough less more s m related next =
      let y : Point = record x { place = place; hand = h; owed = owed; steps = steps } in
      go-label r c call (After next) (Done (Over Next) s) y s m (omega (arith, less, few)) related (label (f.label + 2))
      (ap (λ n. slice_get c.ops n) there ∙ is)
      (λ m' on. does-here r (After next) (Over Next) s m' (subst (λ w. Related r c w s m') (sym same)
      (adjust r c (record y { place = place + 1 }) (record x { place = z.place; hand = hand; owed = x.owed + total }) s m'
      (ap (λ n. n + 1) there ∙ end) enough less more on on.kept)))

-- ---- a test, the body, and what is done behind it

module _ (r : Fixed) (c : Call) (call : IsCall r c) (e : Exits) (f : Free) (k a third : Code) (cond : Run Bool) (run : Run Flow)
    (behind_run : Run (Unit {0})) (rest : Flow → Run (Turn Flow)) (nodes n1 n2 : ℕ)
    (test : Tests r c (reserve 3 f) k false (f.label + 2) cond nodes least_hand)
    (body : Begins r c (loop_exits f) (behind (reserve 3 f) k) a run n1)
    (last : Goes r c no_exits (behind (behind (reserve 3 f) k) a) third always_next behind_run n2 least_hand)
    (on-next : rest Next ≡ then_do behind_run (give Again)) (on-continue : rest Continued ≡ then_do behind_run (give Again))
    (on-break : rest Broke ≡ give (Over Next)) where
  abbrev code : Code
  code = loop_code f k a third

  abbrev total : ℕ
  total = nodes + (n1 + 1 + n2)

  abbrev turn : Run (Turn Flow)
  turn = if_true cond (then_with (entered run) rest) Next

  abbrev parts : List Part
  parts = One (op.Label (label f.label)) ∷ Piece k.ops ∷ Piece a.ops ∷ One (op.Label (label (f.label + 1))) ∷ Piece third.ops ∷
      One (op.Jump (label f.label)) ∷ One (op.Label (label (f.label + 2))) ∷ []

  module _ (x : Point) (hand : ℕ) (stands : IsIn c f code x.place) (ready : IsReady r c f total hand x) where
    abbrev z : Point
    z = past x code total (hand + 0)

    abbrev end : ℕ
    end = x.place + length code.ops

    all : Rest c.ops parts x.place end
    all = rest-of c.ops parts x.place stands.ops

    abbrev at-body : ℕ
    at-body = x.place + 1 + length k.ops

    abbrev at-third : ℕ
    at-third = at-body + length a.ops

    tail : Rest c.ops (One (op.Label (label (f.label + 1))) ∷ Piece third.ops ∷ One (op.Jump (label f.label)) ∷
        One (op.Label (label (f.label + 2))) ∷ []) at-third end
    tail = behind-piece (behind-piece (behind-op all))

    abbrev at-jump : ℕ
    at-jump = at-third + 1 + length third.ops

    jump-tail : Rest c.ops (One (op.Jump (label f.label)) ∷ One (op.Label (label (f.label + 2))) ∷ []) at-jump end
    jump-tail = behind-piece (behind-op tail)

    out-tail : Rest c.ops (One (op.Label (label (f.label + 2))) ∷ []) (at-jump + 1) end
    out-tail = behind-op jump-tail

    few : x.owed + total ≤ r.most
    few = ready.owed

    z-same : z ≡ record x { place = z.place; hand = hand; owed = x.owed + total }
    z-same = let e : hand + 0 ≡ hand = omega arith in ap (λ h. record x { place = x.place + length code.ops; hand = h; owed = x.owed + total }) e

    abbrev D : ℕ → Turn Flow → State → Counted → Type 0
    D = After r c call e f x z total hand few ready.in_hand z-same

    away : (steps place h owed : ℕ) → place ≡ at-jump + 1 → hand ≤ h → owed ≤ x.owed + total → x.steps ≤ steps → (s : State) (m : Counted)
        → Related r c (record x { place = place; hand = h; owed = owed; steps = steps }) s m → (next : ℕ)
        → Does r (D next) (Done (Over Next) s) m
    away steps place h owed there =
        leave r c call e f x z total hand few ready.in_hand z-same steps (at-jump + 1) place h owed there (operation out-tail)
        (at-end (behind-op out-tail))

    test-in : IsIn c (reserve 3 f) k (x.place + 1)
    test-in = record {
      ops = piece (behind-op all);
      widths = stands-left c.widths k.widths (a.widths ++ third.widths) f.register stands.widths;
      free = stands.free;
    }

    body-in : IsIn c (behind (reserve 3 f) k) a at-body
    body-in = record {
      ops = piece (behind-piece (behind-op all));
      widths = stands-left c.widths a.widths third.widths (f.register + length k.widths)
          (stands-right c.widths k.widths (a.widths ++ third.widths) f.register stands.widths);
      free = let free = stands.free in omega (arith, free);
    }

    third-in : IsIn c (behind (behind (reserve 3 f) k) a) third (at-third + 1)
    third-in = record {
      ops = piece (behind-op tail);
      widths = stands-right c.widths a.widths third.widths (f.register + length k.widths)
          (stands-right c.widths k.widths (a.widths ++ third.widths) f.register stands.widths);
      free = let free = stands.free in omega (arith, free);
    }

    -- in a turn, before which these steps are done
    module _ (steps : ℕ) (more : x.steps ≤ steps) where
      -- behind the code of the body
      abbrev behind-body : Point
      behind-body = record x { place = at-third; hand = hand + 400; owed = x.owed + nodes + 1 + n1; steps = steps + 1 }

      again : (s : State) (m : Counted) → Related r c behind-body s m
          → Does r (D (steps + 1)) (then_do behind_run (give Again) r.budget s) m
      again s m at =
          let y : Point = record behind-body { place = at-third + 1 } in
          let w : Point = past y third n2 (hand + 336 + least_hand) in
          go-label r c call (D (steps + 1)) (then_do behind_run (give Again) r.budget s) behind-body s m (omega (arith, few)) at
          (label (f.label + 1)) (operation tail)
          (λ m' on. does-then r (λ _. Related r c w) (D (steps + 1)) (behind_run r.budget s) (λ _. give Again r.budget) m'
          (last.does y (hand + 336) s m' third-in
          (ready-behind r c f (behind (behind (reserve 3 f) k) a) total n2 hand (hand + 336) x y ready (omega arith) refl (omega arith)
          (omega arith)) on)
          (λ _ s m there. go-back r c call (D (steps + 1)) (Done Again s) w s m (omega (arith, few)) there (label f.label) x.place (hand + 300)
          (operation jump-tail) (operation all) (omega arith) (omega arith)
          (λ m' back. does-here r (D (steps + 1)) Again s m'
          (adjust r c (record w { place = standing_at c.ops f.label; hand = hand + 300; owed = 0 }) (record x { steps = steps + 1 }) s m'
          (label-place r c call (label f.label) x.place (operation all)) (let in_hand = ready.in_hand in omega (arith, in_hand)) (omega arith)
          (omega arith) back back.kept))))

      -- behind the body
      body-ends : (flow : Flow) (s : State) (m : Counted) → Ended r c (loop_exits f) behind-body flow s m
          → Does r (D (steps + 1)) (rest flow r.budget s) m
      body-ends Next s m at =
          subst (λ g. Does r (D (steps + 1)) (g r.budget s) m) (sym on-next) (again s m at)
      body-ends Continued s m at =
          subst (λ g. Does r (D (steps + 1)) (g r.budget s) m) (sym on-continue)
          (again s m (adjust r c (record behind-body { place = standing_at c.ops at.0 }) behind-body s m
          (ap (λ l. standing_at c.ops l) (sym (exit-same (f.label + 1) at.0 at.1))
          ∙ label-place r c call (label (f.label + 1)) at-third (operation tail)) (omega arith) (omega arith) (omega arith) at.2 at.2.kept))
      body-ends Broke s m at =
          subst (λ g. Does r (D (steps + 1)) (g r.budget s) m) (sym on-break)
          (away (steps + 1) (standing_at c.ops at.0) (hand + 400) (x.owed + nodes + 1 + n1)
          (ap (λ l. standing_at c.ops l) (sym (exit-same (f.label + 2) at.0 at.1))
          ∙ label-place r c call (label (f.label + 2)) (at-jump + 1) (operation out-tail)) (omega arith) (omega arith) (omega (arith, more))
          s m at.2 (steps + 1))
      body-ends (Returned v) s m at = absurd at

      abbrev tested : Bool → Point
      tested y = record (past (record x { place = x.place + 1; steps = steps }) k nodes (hand + least_hand)) {
        place = if jumps false y then standing_at c.ops (f.label + 2) else x.place + 1 + length k.ops;
      }

      body-does : (s : State) (m : Counted) → Related r c (tested true) s m
          → Does r (D (steps + 1)) (then_with (entered run) rest r.budget s) m
      body-does s m at =
          let y : Point = stepped (tested true) (least_hand + (hand + 500)) in
          does-then r (Ended r c (loop_exits f) behind-body) (D (steps + 1)) (entered run r.budget s) (λ flow. rest flow r.budget) m
          (does-then r (λ _. Related r c y) (Ended r c (loop_exits f) behind-body) (tick r.budget s) (λ _. run r.budget) m
          (tick-does r c (tested true) s m (least_hand + (hand + 500)) (omega arith) (omega (arith, few)) at)
          (λ _ s m on. does-more r (Ended r c (loop_exits f) (past y a n1 (hand + 400))) (Ended r c (loop_exits f) behind-body)
          (run r.budget s) m
          (body.does y (hand + 400) s m body-in
          (ready-behind r c f (behind (reserve 3 f) k) total n1 hand (step_hand + (hand + 400)) x y ready (omega arith) refl (omega arith)
          (omega arith)) on)
          (λ flow s m there. does-here r (Ended r c (loop_exits f) behind-body) flow s m
          (ended-less r c (loop_exits f) (past y a n1 (hand + 400)) at-third (hand + 400)
          (x.owed + nodes + 1 + n1) (steps + 1) refl (omega arith) (omega arith) (omega arith) flow s m there)))) body-ends

      chosen : (y : Bool) (s : State) (m : Counted) → Related r c (tested y) s m
          → Does r (D (steps + 1)) ((if y then then_with (entered run) rest else give (Over Next)) r.budget s) m
      chosen true s m at = body-does s m at
      chosen false s m at =
          away steps (standing_at c.ops (f.label + 2)) (hand + least_hand) (x.owed + nodes)
          (label-place r c call (label (f.label + 2)) (at-jump + 1) (operation out-tail)) (omega arith) (omega arith) more s m at (steps + 1)

      each : (s : State) (m : Counted) → Related r c (record x { steps = steps }) s m → Does r (D (steps + 1)) (turn r.budget s) m
      each s m at =
          let y : Point = record x { place = x.place + 1; steps = steps } in
          go-label r c call (D (steps + 1)) (turn r.budget s) (record x { steps = steps }) s m (omega (arith, few)) at (label f.label)
          (operation all)
          (λ m' on. does-then r (λ y. Related r c (tested y)) (D (steps + 1)) (cond r.budget s)
          (λ y. (if y then then_with (entered run) rest else give (Over Next)) r.budget) m'
          (test.does y hand s m' test-in
          (ready-behind r c f (reserve 3 f) total nodes hand hand x y ready (omega arith) refl ready.in_hand (omega arith)) on) chosen)

  pub loop-of : Goes r c e f code itself (loop turn) total 0
  loop-of = record {
    does = λ x hand s m stands ready related.
        loop-does r c x (Ended r c e (past x code total (hand + 0))) turn
        (λ steps s m more at. each x hand stands ready steps more s m at) s m related;
  }

-- ---- the body, and a test behind it

module _ (r : Fixed) (c : Call) (call : IsCall r c) (e : Exits) (f : Free) (a k : Code) (t : Meant) (run : Run Flow) (value : Run Valued)
    (n1 nodes : ℕ) (body : Begins r c (loop_exits f) (reserve 3 f) a run n1)
    (cond : Evaluates r c (behind (reserve 3 f) a) k IsValue t value nodes node_back) where
  abbrev test : Code
  test = test_code true f.label k

  abbrev whole : Code
  whole = do_code f a test

  abbrev steps-of : ℕ
  steps-of = n1 + 1 + nodes

  abbrev doing : Run (Turn Flow)
  doing = then_with (entered run) (behind_body (if_true (truth value) (give Again) Next))

  abbrev pieces : List Part
  pieces = One (op.Label (label f.label)) ∷ Piece a.ops ∷ One (op.Label (label (f.label + 1))) ∷ Piece test.ops ∷
      One (op.Label (label (f.label + 2))) ∷ []

  module _ (x : Point) (hand : ℕ) (stands : IsIn c f whole x.place) (ready : IsReady r c f steps-of hand x) where
    abbrev y : Point
    y = past x whole steps-of (hand + 0)

    abbrev ending : ℕ
    ending = x.place + length whole.ops

    full : Rest c.ops pieces x.place ending
    full = rest-of c.ops pieces x.place stands.ops

    abbrev at-label : ℕ
    at-label = x.place + 1 + length a.ops

    label-tail : Rest c.ops (One (op.Label (label (f.label + 1))) ∷ Piece test.ops ∷ One (op.Label (label (f.label + 2))) ∷ []) at-label ending
    label-tail = behind-piece (behind-op full)

    abbrev at-out : ℕ
    at-out = at-label + 1 + length test.ops

    last-label : Rest c.ops (One (op.Label (label (f.label + 2))) ∷ []) at-out ending
    last-label = behind-piece (behind-op label-tail)

    bound : x.owed + steps-of ≤ r.most
    bound = ready.owed

    y-same : y ≡ record x { place = y.place; hand = hand; owed = x.owed + steps-of }
    y-same = let e : hand + 0 ≡ hand = omega arith in
        ap (λ h. record x { place = x.place + length whole.ops; hand = h; owed = x.owed + steps-of }) e

    abbrev F : ℕ → Turn Flow → State → Counted → Type 0
    F = After r c call e f x y steps-of hand bound ready.in_hand y-same

    off : (steps place h owed : ℕ) → place ≡ at-out → hand ≤ h → owed ≤ x.owed + steps-of → x.steps ≤ steps → (s : State) (m : Counted)
        → Related r c (record x { place = place; hand = h; owed = owed; steps = steps }) s m → (next : ℕ)
        → Does r (F next) (Done (Over Next) s) m
    off steps place h owed there =
        leave r c call e f x y steps-of hand bound ready.in_hand y-same steps at-out place h owed there (operation last-label)
        (at-end (behind-op last-label))

    body-place : IsIn c (reserve 3 f) a (x.place + 1)
    body-place = record {
      ops = piece (behind-op full);
      widths = stands-left c.widths a.widths k.widths f.register stands.widths;
      free = stands.free;
    }

    test-place : IsIn c (behind (reserve 3 f) a) test (at-label + 1)
    test-place = record {
      ops = piece (behind-op label-tail);
      widths = stands-right c.widths a.widths k.widths f.register stands.widths;
      free = let free = stands.free in omega (arith, free);
    }

    module _ (steps : ℕ) (more : x.steps ≤ steps) where
      abbrev body-behind : Point
      body-behind = record x { place = at-label; hand = hand + 400; owed = x.owed + 1 + n1; steps = steps + 1 }

      abbrev in-test : Point
      in-test = record body-behind { place = at-label + 1 }

      abbrev judged : Bool → Point
      judged b = record (past in-test test nodes (hand + 336 + 311)) {
        place = if jumps true b then standing_at c.ops f.label else at-label + 1 + length test.ops;
        owed = 0;
      }

      turned : (b : Bool) (s : State) (m : Counted) → Related r c (judged b) s m
          → Does r (F (steps + 1)) ((if b then give Again else give (Over Next)) r.budget s) m
      turned true s m at =
          does-here r (F (steps + 1)) Again s m
          (adjust r c (judged true) (record x { steps = steps + 1 }) s m (label-place r c call (label f.label) x.place (operation full))
          (let in_hand = ready.in_hand in omega (arith, in_hand)) (omega arith) (omega arith) at at.kept)
      turned false s m at =
          off (steps + 1) at-out (hand + 336 + 311) 0 refl (omega arith) (omega arith) (omega (arith, more)) s m at (steps + 1)

      judge : (s : State) (m : Counted) → Related r c body-behind s m
          → Does r (F (steps + 1)) (if_true (truth value) (give Again) Next r.budget s) m
      judge s m at =
          go-label r c call (F (steps + 1)) (if_true (truth value) (give Again) Next r.budget s) body-behind s m (omega (arith, bound)) at
          (label (f.label + 1)) (operation label-tail)
          (λ m' on. does-then r (λ b. Related r c (judged b)) (F (steps + 1)) (truth value r.budget s)
          (λ b. (if b then give Again else give (Over Next)) r.budget) m'
          (test-back r c call (behind (reserve 3 f) a) k t true f.label value nodes 311 cond in-test (hand + 336) s m' test-place
          (ready-behind r c f (behind (reserve 3 f) a) steps-of nodes hand (hand + 336) x in-test ready (omega arith) refl (omega arith)
          (omega arith)) x.place (operation full) (omega arith) on) turned)

      body-done : (flow : Flow) (s : State) (m : Counted) → Ended r c (loop_exits f) body-behind flow s m
          → Does r (F (steps + 1)) (behind_body (if_true (truth value) (give Again) Next) flow r.budget s) m
      body-done Next s m at = judge s m at
      body-done Continued s m at =
          judge s m (adjust r c (record body-behind { place = standing_at c.ops at.0 }) body-behind s m
          (ap (λ l. standing_at c.ops l) (sym (exit-same (f.label + 1) at.0 at.1))
          ∙ label-place r c call (label (f.label + 1)) at-label (operation label-tail)) (omega arith) (omega arith) (omega arith) at.2 at.2.kept)
      body-done Broke s m at =
          off (steps + 1) (standing_at c.ops at.0) (hand + 400) (x.owed + 1 + n1)
          (ap (λ l. standing_at c.ops l) (sym (exit-same (f.label + 2) at.0 at.1))
          ∙ label-place r c call (label (f.label + 2)) at-out (operation last-label)) (omega arith) (omega arith) (omega (arith, more))
          s m at.2 (steps + 1)
      body-done (Returned v) s m at = absurd at

      do-each : (s : State) (m : Counted) → Related r c (record x { steps = steps }) s m → Does r (F (steps + 1)) (doing r.budget s) m
      do-each s m at =
          let w : Point = record x { place = x.place + 1; steps = steps } in
          let v : Point = stepped w (least_hand + (hand + 500)) in
          go-label r c call (F (steps + 1)) (doing r.budget s) (record x { steps = steps }) s m (omega (arith, bound)) at (label f.label)
          (operation full)
          (λ m' on. does-then r (Ended r c (loop_exits f) body-behind) (F (steps + 1)) (entered run r.budget s)
          (λ flow. behind_body (if_true (truth value) (give Again) Next) flow r.budget) m'
          (does-then r (λ _. Related r c v) (Ended r c (loop_exits f) body-behind) (tick r.budget s) (λ _. run r.budget) m'
          (tick-does r c w s m' (least_hand + (hand + 500)) (let in_hand = ready.in_hand in omega (arith, in_hand)) (omega (arith, bound)) on)
          (λ _ s m there. does-more r (Ended r c (loop_exits f) (past v a n1 (hand + 400))) (Ended r c (loop_exits f) body-behind)
          (run r.budget s) m
          (body.does v (hand + 400) s m body-place
          (ready-behind r c f (reserve 3 f) steps-of n1 hand (step_hand + (hand + 400)) x v ready (omega arith) refl (omega arith) (omega arith)) there)
          (λ flow s m gone. does-here r (Ended r c (loop_exits f) body-behind) flow s m
          (ended-less r c (loop_exits f) (past v a n1 (hand + 400)) at-label (hand + 400)
          (x.owed + 1 + n1) (steps + 1) refl (omega arith) (omega arith) (omega arith) flow s m gone)))) body-done)

  pub do-of : Goes r c e f whole itself (do_loop (entered run) (truth value)) steps-of 0
  do-of = record {
    does = λ x hand s m stands ready related.
        loop-does r c x (Ended r c e (past x whole steps-of (hand + 0))) doing
        (λ steps s m more at. do-each x hand stands ready steps more s m at) s m related;
  }
