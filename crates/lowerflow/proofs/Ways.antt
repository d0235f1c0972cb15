-- Codes that end in one of several ways: what may be said less of them, a step before them, and one behind another.
use Rattle.std.proofs.Common.{◌≡◌, ◌⊎◌, inl, inr, ℕ, ◌+◌, ◌<◌, ◌≤◌, ◌++◌, length, refl, sym, subst, ap, ◌∙◌, arith, Option, Some, None, length-append}
use Rattle.std.specs.List.{AllByRecursion}
use Rattle.behaviour.specs.Ran.{Ran, Done, Stopped, and_then}
use Rattle.behaviour.specs.Simulates.{Simulates, Stands}
use Rattle.behaviour.proofs.SimulatesLemmas.{simulates-from, simulates-here, bind}
use Rattle.midcode.specs.Meaning.{standing_at}
use Rattle.cmean.specs.declared.undefined.UndefinedStep.{UndefinedStep}
use Rattle.cmean.specs.Datum.{Datum}
use Rattle.cmean.specs.State.{State, Run, give, then_with, then_do, tick, entered, node}
use Rattle.cmean.specs.Statement.{Flow, Next, Broke, Continued, Returned, then_next}
use Rattle.lowerstate.specs.Counted.{Counted, counted}
use Rattle.lowerstate.specs.Held.{Meant}
use Rattle.lowerstate.specs.Related.{Fixed, Call, Point, Related, stepped}
use Rattle.lowerstate.specs.Stands.{Ends, Does}
use Rattle.lowerstate.specs.Piece.{Code, Free, behind, joined, node_back, least_hand, IsIn, IsReady, onwards, Given, Evaluates}
use Rattle.lowerstate.proofs.Laws.{tick-does}
use Rattle.lowerstate.proofs.Places.{stands-left, stands-right, get-further}
use Rattle.lowerstate.proofs.Pieces.{below-more, adjust}
use Rattle.lowerflow.specs.Goes.{Exits, no_exits, past, Landed, Ended, Goes, Begins, step_hand, always_next, itself}

-- ---- runs

module _ (r : Fixed) {A : Type 0} where
  pub does-here : (D : A → State → Counted → Type 0) (a : A) (s : State) (m : Counted) → D a s m → Does r D (Done a s) m
  does-here D a s m at = simulates-here (counted r.program r.addresses) (Ends r) D (Done a s) m at

  -- the machine goes on where the run is done
  pub does-more : (D D' : A → State → Counted → Type 0) (run : Ran UndefinedStep State A) (m : Counted) → Does r D run m
      → ((a : A) (s : State) (m : Counted) → D a s m → Does r D' (Done a s) m) → Does r D' run m
  does-more D D' (Done a s) m first more =
      simulates-from (counted r.program r.addresses) (Ends r) D' (Done a s) m first.place first.reached (more a s first.place first.stands)
  does-more D D' (Stopped cause s) m first more = record { place = first.place; reached = first.reached; stands = first.stands }

  pub does-then : {B : Type 0} (D : A → State → Counted → Type 0) (D' : B → State → Counted → Type 0) (run : Ran UndefinedStep State A)
      (f : A → State → Ran UndefinedStep State B) (m : Counted) → Does r D run m
      → ((a : A) (s : State) (m : Counted) → D a s m → Does r D' (f a s) m)
      → Simulates (counted r.program r.addresses) D' (Ends r) (and_then run f) m
  does-then D D' run f m first rest = bind (counted r.program r.addresses) (Ends r) D D' run f m first rest

-- ---- places

module _ (c : Call) (f : Free) (a b : Code) (place : ℕ) (stands : IsIn c f (joined a b) place) where
  pub in-left : IsIn c f a place
  in-left = record {
    ops = stands-left c.ops a.ops b.ops place stands.ops;
    widths = stands-left c.widths a.widths b.widths f.register stands.widths;
    free = stands.free;
  }

  pub in-right : IsIn c (behind f a) b (place + length a.ops)
  in-right = record {
    ops = stands-right c.ops a.ops b.ops place stands.ops;
    widths = stands-right c.widths a.widths b.widths f.register stands.widths;
    free = let free = stands.free in omega (arith, free);
  }

module _ (r : Fixed) (c : Call) where
  -- another evaluation can begin where one could
  pub ready-behind : (f g : Free) (nodes others hand more : ℕ) (x y : Point) → IsReady r c f nodes hand x → f.register ≤ g.register
      → y.kept ≡ x.kept → y.hand ≡ least_hand + more → y.owed + others ≤ x.owed + nodes → IsReady r c g others more y
  ready-behind f g nodes others hand more x y ready further same in_hand few = record {
    in_hand = in_hand;
    owed = let owed = ready.owed in omega (arith, owed, few);
    kept = subst (λ ks. AllByRecursion (λ k. k.register < g.register) ks) (sym same)
        (below-more x.kept f.register g.register further ready.kept);
    apart = subst (λ ks. AllByRecursion (λ k. c.variables ≤ k.register) ks) (sym same) ready.apart;
  }

  -- ---- less may be said

  pub ended-less : (e : Exits) (y : Point) (place hand owed steps : ℕ) → y.place ≡ place → hand ≤ y.hand → y.owed ≤ owed → steps ≤ y.steps
      → (flow : Flow) (s : State) (m : Counted) → Ended r c e y flow s m
      → Ended r c e (record y { place = place; hand = hand; owed = owed; steps = steps }) flow s m
  ended-less e y place hand owed steps same less few fewer Next s m at =
      adjust r c y (record y { place = place; hand = hand; owed = owed; steps = steps }) s m same less few fewer at at.kept
  ended-less e y place hand owed steps same less few fewer Broke s m at = (
    at.0,
    at.1,
    adjust r c (record y { place = standing_at c.ops at.0 })
        (record y { place = standing_at c.ops at.0; hand = hand; owed = owed; steps = steps }) s m refl less few fewer at.2 at.2.kept,
  )
  ended-less e y place hand owed steps same less few fewer Continued s m at = (
    at.0,
    at.1,
    adjust r c (record y { place = standing_at c.ops at.0 })
        (record y { place = standing_at c.ops at.0; hand = hand; owed = owed; steps = steps }) s m refl less few fewer at.2 at.2.kept,
  )
  ended-less e y place hand owed steps same less few fewer (Returned v) s m at = absurd at

  -- It has ended at the end of its code, or it is somewhere else for good.
  pub ended-case : (e : Exits) (y : Point) (place hand owed steps : ℕ) → hand ≤ y.hand → y.owed ≤ owed → steps ≤ y.steps
      → (flow : Flow) (s : State) (m : Counted) → Ended r c e y flow s m
      → ((flow ≡ Next) × Related r c y s m)
      ⊎ Ended r c e (record y { place = place; hand = hand; owed = owed; steps = steps }) flow s m
  ended-case e y place hand owed steps less few fewer Next s m at = inl (refl, at)
  ended-case e y place hand owed steps less few fewer Broke s m at =
      inr (ended-less e y y.place hand owed steps refl less few fewer Broke s m at)
  ended-case e y place hand owed steps less few fewer Continued s m at =
      inr (ended-less e y y.place hand owed steps refl less few fewer Continued s m at)
  ended-case e y place hand owed steps less few fewer (Returned v) s m at = absurd at

  more-exits : (e : Exits) (y : Point) (flow : Flow) (s : State) (m : Counted) → Ended r c no_exits y flow s m → Ended r c e y flow s m
  more-exits e y Next s m at = at
  more-exits e y Broke s m at = let none = at.1 in absurd cc
  more-exits e y Continued s m at = let none = at.1 in absurd cc
  more-exits e y (Returned v) s m at = absurd at

  module _ {A : Type 0} (flow : A → Flow) (f : Free) (code : Code) (run : Run A) (nodes back : ℕ) where
    abbrev EndedBy : Exits → Point → A → State → Counted → Type 0
    EndedBy e y a = Ended r c e y (flow a)

    pub with-exits : (e : Exits) → Goes r c no_exits f code flow run nodes back → Goes r c e f code flow run nodes back
    with-exits e first = record {
      does = λ x hand s m stands ready related.
          does-more r (EndedBy no_exits (past x code nodes (hand + back))) (EndedBy e (past x code nodes (hand + back))) (run r.budget s) m
          (first.does x hand s m stands ready related)
          (λ a s m at. does-here r (EndedBy e (past x code nodes (hand + back))) a s m
          (more-exits e (past x code nodes (hand + back)) (flow a) s m at));
    }

    pub less-back : (e : Exits) (left : ℕ) → left ≤ back → Goes r c e f code flow run nodes back → Goes r c e f code flow run nodes left
    less-back e left few first = record {
      does = λ x hand s m stands ready related.
          does-more r (EndedBy e (past x code nodes (hand + back))) (EndedBy e (past x code nodes (hand + left))) (run r.budget s) m
          (first.does x hand s m stands ready related)
          (λ a s m at. does-here r (EndedBy e (past x code nodes (hand + left))) a s m
          (ended-less e (past x code nodes (hand + back)) (x.place + length code.ops) (hand + left) (x.owed + nodes) x.steps refl
          (omega (arith, few)) (omega arith) (omega arith) (flow a) s m at));
    }

    -- what a run gives is given as something else
    pub giving-of : {B : Type 0} (e : Exits) (other : B → Flow) (g : A → B) → ((a : A) → other (g a) ≡ flow a)
        → Goes r c e f code flow run nodes back → Goes r c e f code other (then_with run (λ a. give (g a))) nodes back
    giving-of e other g same first = record {
      does = λ x hand s m stands ready related.
          let y : Point = past x code nodes (hand + back) in
          does-then r (EndedBy e y) (λ b. Ended r c e y (other b)) (run r.budget s) (λ a. give (g a) r.budget) m
          (first.does x hand s m stands ready related)
          (λ a s m at. does-here r (λ b. Ended r c e y (other b)) (g a) s m (subst (λ o. Ended r c e y o s m) (sym (same a)) at));
    }

  -- ---- the step of a statement

  module _ (e : Exits) (f : Free) (code : Code) (run : Run Flow) (nodes : ℕ) where
    -- what needs no more than any code has in hand
    pub begins-of : (back : ℕ) → Goes r c e f code itself run nodes back → Begins r c e f code run nodes
    begins-of back first = record {
      does = λ x hand s m stands ready related.
          does-more r (Ended r c e (past x code nodes (step_hand + hand + back))) (Ended r c e (past x code nodes hand)) (run r.budget s) m
          (first.does x (step_hand + hand) s m stands ready related)
          (λ a s m on. does-here r (Ended r c e (past x code nodes hand)) a s m
          (ended-less e (past x code nodes (step_hand + hand + back)) (x.place + length code.ops) hand (x.owed + nodes) x.steps
          refl (omega arith) (omega arith) (omega arith) a s m on));
    }

    pub entered-of : Begins r c e f code run nodes → Goes r c e f code itself (entered run) (nodes + 1) node_back
    entered-of first = record {
      does = λ x hand s m stands ready related.
          let y : Point = stepped x (least_hand + (step_hand + (hand + 320))) in
          does-then r (λ _. Related r c y) (Ended r c e (past x code (nodes + 1) (hand + node_back))) (tick r.budget s)
          (λ _. run r.budget) m
          (tick-does r c x s m (least_hand + (step_hand + (hand + 320))) (let in_hand = ready.in_hand in omega (arith, in_hand))
          (let owed = ready.owed in omega (arith, owed)) related)
          (λ _ s m at. does-more r (Ended r c e (past y code nodes (hand + 320)))
          (Ended r c e (past x code (nodes + 1) (hand + node_back))) (run r.budget s) m
          (first.does y (hand + 320) s m stands
          (record {
            in_hand = refl;
            owed = let owed = ready.owed in omega (arith, owed);
            kept = ready.kept;
            apart = ready.apart;
          }) at)
          (λ a s m on. does-here r (Ended r c e (past x code (nodes + 1) (hand + node_back))) a s m
          (ended-less e (past y code nodes (hand + 320)) (x.place + length code.ops) (hand + node_back) (x.owed + (nodes + 1)) x.steps
          refl (omega arith) (omega arith) (omega arith) a s m on)));
    }

  -- ---- a value that isn't used

  pub dropped : {A : Type 0} (Is : A → Datum → Type 0) (f : Free) (code : Code) (t : Meant) (run : Run A) (nodes back : ℕ)
      → Evaluates r c f code Is t run nodes back → Goes r c no_exits f code always_next run nodes back
  dropped Is f code t run nodes back first = record {
    does = λ x hand s m stands ready related.
        let y : Point = past x code nodes (hand + back) in
        does-more r (Given r c code Is t nodes back x hand) (λ _. Related r c y) (run r.budget s) m
        (first.does x hand s m stands ready related)
        (λ a s m at. does-here r (λ _. Related r c y) a s m
        (adjust r c (onwards x code nodes hand back t at.0) y s m refl (omega arith) (omega arith) (omega arith) at.2 at.2.kept.1));
  }

  -- a node without a value
  pub void-node : {A : Type 0} (f : Free) (code : Code) (run : Run A) (nodes back : ℕ) → Goes r c no_exits f code always_next run nodes back
      → Goes r c no_exits f code always_next (node run) (nodes + 1) node_back
  void-node {A = A} f code run nodes back first = record {
    does = λ x hand s m stands ready related.
        let y : Point = past x code nodes (hand + back) in
        let z : Point = past x code (nodes + 1) (hand + node_back) in
        does-then r (λ _. Related r c y) (λ _. Related r c z) (run r.budget s) (λ a. then_do tick (give a) r.budget) m
        (first.does x hand s m stands
        (record { in_hand = ready.in_hand; owed = let owed = ready.owed in omega (arith, owed); kept = ready.kept; apart = ready.apart })
        related)
        (λ a s m at. does-then r (λ _. Related r c (stepped y (hand + node_back))) (λ _. Related r c z) (tick r.budget s)
        (λ _. give a r.budget) m
        (tick-does r c y s m (hand + node_back) (omega arith) (let owed = ready.owed in omega (arith, owed)) at)
        (λ _ s m on. does-here r (λ _. Related r c z) a s m
        (adjust r c (stepped y (hand + node_back)) z s m refl (omega arith) (omega arith) (omega arith) on on.kept)));
  }

  -- ---- one behind another

  module _ {A B : Type 0} (f : Free) (a b : Code) (run : Run A) (second : Run B) (nodes others spare back : ℕ) where
    abbrev between : Point → ℕ → Point
    between x hand = past x a nodes (hand + (least_hand + spare))

    b-ready : (x : Point) (hand : ℕ) → IsReady r c f (nodes + others) hand x
        → IsReady r c (behind f a) others (hand + spare) (between x hand)
    b-ready x hand ready =
        ready-behind f (behind f a) (nodes + others) others hand (hand + spare) x (between x hand) ready (omega arith) refl (omega arith)
        (omega arith)

    a-ready : (x : Point) (hand : ℕ) → IsReady r c f (nodes + others) hand x → IsReady r c f nodes hand x
    a-ready x hand ready =
        record { in_hand = ready.in_hand; owed = let owed = ready.owed in omega (arith, owed); kept = ready.kept; apart = ready.apart }

    further : (x : Point) → x.place + length a.ops + length b.ops ≡ x.place + length (a.ops ++ b.ops)
    further x = let long = length-append a.ops b.ops in omega (arith, long)

    second-does : (e : Exits) (flow : B → Flow) → Goes r c e (behind f a) b flow second others back → (x : Point) (hand : ℕ)
        → IsIn c f (joined a b) x.place → IsReady r c f (nodes + others) hand x → (s : State) (m : Counted)
        → Related r c (between x hand) s m
        → Does r (λ j. Ended r c e (past x (joined a b) (nodes + others) (hand + (spare + back))) (flow j)) (second r.budget s) m
    second-does e flow then' x hand stands ready s m at =
        does-more r (λ j. Ended r c e (past (between x hand) b others (hand + spare + back)) (flow j))
        (λ j. Ended r c e (past x (joined a b) (nodes + others) (hand + (spare + back))) (flow j)) (second r.budget s) m
        (then'.does (between x hand) (hand + spare) s m (in-right c f a b x.place stands) (b-ready x hand ready) at)
        (λ j s m on. does-here r (λ j. Ended r c e (past x (joined a b) (nodes + others) (hand + (spare + back))) (flow j)) j s m
        (ended-less e (past (between x hand) b others (hand + spare + back)) (x.place + length (a.ops ++ b.ops)) (hand + (spare + back))
        (x.owed + (nodes + others)) x.steps (further x) (omega arith) (omega arith) (omega arith) (flow j) s m on))

    pub then-of : (e : Exits) (flow : B → Flow) → Goes r c no_exits f a always_next run nodes (least_hand + spare)
        → Goes r c e (behind f a) b flow second others back → Goes r c e f (joined a b) flow (then_do run second) (nodes + others) (spare + back)
    then-of e flow first then' = record {
      does = λ x hand s m stands ready related.
          does-then r (λ _. Related r c (between x hand))
          (λ j. Ended r c e (past x (joined a b) (nodes + others) (hand + (spare + back))) (flow j)) (run r.budget s) (λ _. second r.budget) m
          (first.does x hand s m (in-left c f a b x.place stands) (a-ready x hand ready) related)
          (λ i s m at. second-does e flow then' x hand stands ready s m at);
    }

    -- a value behind something
    pub value-behind : (Js : B → Datum → Type 0) (u : Meant) → Goes r c no_exits f a always_next run nodes (least_hand + spare)
        → Evaluates r c (behind f a) b Js u second others back
        → Evaluates r c f (joined a b) Js u (then_do run second) (nodes + others) (spare + back)
    value-behind Js u first then' = record {
      typed = (
        length a.widths + then'.typed.0,
        then'.typed.1 ∙ (let e : f.register + length a.widths + then'.typed.0 ≡ f.register + (length a.widths + then'.typed.0) =
            omega arith in e),
        get-further a.widths b.widths then'.typed.0 ∙ then'.typed.2,
      );
      does = λ x hand s m stands ready related.
          does-then r (λ _. Related r c (between x hand)) (Given r c (joined a b) Js u (nodes + others) (spare + back) x hand)
          (run r.budget s) (λ _. second r.budget) m
          (first.does x hand s m (in-left c f a b x.place stands) (a-ready x hand ready) related)
          (λ i s m at. does-more r (Given r c b Js u others back (between x hand) (hand + spare))
          (Given r c (joined a b) Js u (nodes + others) (spare + back) x hand) (second r.budget s) m
          (then'.does (between x hand) (hand + spare) s m (in-right c f a b x.place stands) (b-ready x hand ready) at)
          (λ j s m on. does-here r (Given r c (joined a b) Js u (nodes + others) (spare + back) x hand) j s m (
            on.0,
            on.1,
            adjust r c (onwards (between x hand) b others (hand + spare) back u on.0)
                (onwards x (joined a b) (nodes + others) hand (spare + back) u on.0) s m (further x) (omega arith) (omega arith) (omega arith)
                on.2 on.2.kept,
          )));
    }

  -- a statement, and what follows where it is come to
  module _ (e : Exits) (f : Free) (a b : Code) (run second : Run Flow) (nodes others spare back : ℕ) where
    abbrev Whole : Point → ℕ → Flow → State → Counted → Type 0
    Whole x hand = Ended r c e (past x (joined a b) (nodes + others) (hand + (spare + back)))

    out : (x : Point) (hand : ℕ) (exit : Option ℕ) (s : State) (m : Counted) → spare + back ≤ least_hand + spare
        → Landed r c exit (past x a nodes (hand + (least_hand + spare))) s m
        → Landed r c exit (past x (joined a b) (nodes + others) (hand + (spare + back))) s m
    out x hand exit s m few at = (
      at.0,
      at.1,
      adjust r c (record (past x a nodes (hand + (least_hand + spare))) { place = standing_at c.ops at.0 })
          (record (past x (joined a b) (nodes + others) (hand + (spare + back))) { place = standing_at c.ops at.0 }) s m refl
          (omega (arith, few)) (omega arith) (omega arith) at.2 at.2.kept,
    )

    after : Goes r c e (behind f a) b itself second others back → spare + back ≤ least_hand + spare → (x : Point) (hand : ℕ)
        → IsIn c f (joined a b) x.place → IsReady r c f (nodes + others) hand x → (flow : Flow) (s : State) (m : Counted)
        → Ended r c e (past x a nodes (hand + (least_hand + spare))) flow s m
        → Does r (Whole x hand) (then_next (give flow) second r.budget s) m
    after then' few x hand stands ready Next s m at =
        second-does f a b run second nodes others spare back e itself then' x hand stands ready s m at
    after then' few x hand stands ready Broke s m at = does-here r (Whole x hand) Broke s m (out x hand e.broke s m few at)
    after then' few x hand stands ready Continued s m at = does-here r (Whole x hand) Continued s m (out x hand e.continued s m few at)
    after then' few x hand stands ready (Returned v) s m at = absurd at

    pub next-of : Goes r c e f a itself run nodes (least_hand + spare) → Goes r c e (behind f a) b itself second others back
        → back ≤ least_hand → Goes r c e f (joined a b) itself (then_next run second) (nodes + others) (spare + back)
    next-of first then' few = record {
      does = λ x hand s m stands ready related.
          does-then r (Ended r c e (past x a nodes (hand + (least_hand + spare)))) (Whole x hand) (run r.budget s)
          (λ flow. then_next (give flow) second r.budget) m
          (first.does x hand s m (in-left c f a b x.place stands)
          (a-ready f a b run second nodes others spare back x hand ready) related)
          (λ flow s m at. after then' (omega (arith, few)) x hand stands ready flow s m at);
    }
