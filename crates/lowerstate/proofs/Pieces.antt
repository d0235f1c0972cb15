-- One lemma for each way in which code is made of pieces.
use Rattle.std.proofs.Common.{◌≡◌, ℕ, ◌+◌, ◌<◌, ◌≤◌, List, [], ◌∷◌, length, refl, sym, subst, ap, ◌∙◌, arith}
use Rattle.std.proofs.Common.{Some, slice_get}
use Rattle.std.specs.List.{AllByRecursion}
use Rattle.behaviour.specs.Ran.{Done}
use Rattle.behaviour.proofs.SimulatesLemmas.{simulates-here, simulates-from, simulates-weaker, bind}
use Rattle.prunum.specs.Number.{wrap}
use Rattle.midcode.specs.declared.register.VReg.{VReg}
use Rattle.midcode.specs.declared.op.OpKind.{OpKind}
use Rattle.midcode.specs.Cost.{charge}
use Rattle.midcode.specs.Machine as machine
use Rattle.midcode.specs.Meaning.{width_of, effect, charged}
use Rattle.cmean.specs.Datum.{Datum}
use Rattle.cmean.specs.State.{State, Run, give, then_with, then_do, tick, node}
use Rattle.lowerstate.specs.Counted.{Counted, counted}
use Rattle.lowerstate.specs.Held.{Meant, meant_width, Home, Held}
use Rattle.lowerstate.specs.Related.{Fixed, Call, IsCall, Kept, Point, homes_with, IsKept, Related, stepped}
use Rattle.lowerstate.specs.Stands.{Ends, Does}
use Rattle.lowerstate.specs.Piece.{Code, Free, next_register, followed, node_back, IsIn, IsReady, onwards, Given, Evaluates, register}
use Rattle.lowerstate.proofs.Laws.{tick-does, written, width-at, wrote}
use Rattle.lowerstate.proofs.Room.{AreWithin, stored-within}
use Rattle.lowerstate.proofs.Places.{stands-at, stands-first, stands-left, stands-right, one-longer, get-last}

pub below-more : (ks : List Kept) (p q : ℕ) → p ≤ q → AllByRecursion (λ k. k.register < p) ks → AllByRecursion (λ k. k.register < q) ks
below-more [] p q more below = tt
below-more (k ∷ ks) p q more below =
    (let first = below.0 in omega (arith, first, more), below-more ks p q more below.1)

module _ (r : Fixed) (c : Call) where
  -- less may be said to be in hand and to be done, and more to be owed
  pub adjust : (x y : Point) (s : State) (m : Counted) → x.place ≡ y.place → y.hand ≤ x.hand → x.owed ≤ y.owed → y.steps ≤ x.steps
      → (related : Related r c x s m) → AllByRecursion (IsKept r (homes_with c related.later) m.state.frame.registers) y.kept
      → Related r c y s m
  adjust x y s m place hand owed fewer related kept = record {
    later = related.later;
    place = related.place ∙ place;
    function = related.function;
    callers = related.callers;
    locals = related.locals;
    events = related.events;
    values = related.values;
    stored = related.stored;
    variables = related.variables;
    outer = related.outer;
    kept = kept;
    paid = let paid = related.paid in omega (arith, paid, hand);
    late = let late = related.late in omega (arith, late, owed);
    left = related.left;
    done = let done = related.done in omega (arith, done, fewer);
  }

  -- what a run gives is given again as something else, in the same register
  pub next-same : {A B : Type 0} {Is : A → Datum → Type 0} {Is' : B → Datum → Type 0} (f : Free) (code : Code) (t u : Meant) (run : Run A)
      (nodes back : ℕ) (next : A → Run B) → Evaluates r c f code Is t run nodes back → meant_width t ≡ meant_width u
      → ((homes : List Home) (a : A) (d : Datum) (v : ℕ) → Is a d → Held r.layouts homes t d v
      → (b : B) × (e : Datum) × (next a ≡ give b) × Is' b e × Held r.layouts homes u e v)
      → Evaluates r c f code Is' u (then_with run next) nodes back
  next-same {A = A} {B = B} {Is = Is} {Is' = Is'} f code t u run nodes back next first same gives = record {
    typed = (first.typed.0, first.typed.1, first.typed.2 ∙ ap (λ w. Some w) same);
    does = λ x hand s m stands ready related.
        bind (counted r.program r.addresses) (Ends r)
        (Given r c code Is t nodes back x hand)
        (Given r c code Is' u nodes back x hand)
        (run r.budget s) (λ a. next a r.budget) m
        (first.does x hand s m stands ready related)
        (λ a s m at. after x hand a s m at.0 at.1 at.2);
  }
    where
      after : (x : Point) (hand : ℕ) (a : A) (s : State) (m : Counted) (d : Datum) → Is a d
          → Related r c (onwards x code nodes hand back t d) s m
          → Does r (Given r c code Is' u nodes back x hand) (next a r.budget s) m
      after x hand a s m d is related =
          let new = gives (homes_with c related.later) a d related.kept.0.0 is related.kept.0.2 in
          let D : B → State → Counted → Type 0 = Given r c code Is' u nodes back x hand in
          subst (λ run. Does r D run m) (sym (ap (λ g. g r.budget s) new.2))
          (simulates-here (counted r.program r.addresses) (Ends r) D (Done new.0 s) m (
            new.1,
            new.3,
            adjust (onwards x code nodes hand back t d) (onwards x code nodes hand back u new.1) s m refl (omega arith) (omega arith)
                (omega arith) related
                ((related.kept.0.0, related.kept.0.1, new.4), related.kept.1),
          ))

  -- a node: its acts, and then its step
  pub node-of : {A : Type 0} {Is : A → Datum → Type 0} (f : Free) (code : Code) (t : Meant) (run : Run A) (nodes back : ℕ)
      → Evaluates r c f code Is t run nodes back → Evaluates r c f code Is t (node run) (nodes + 1) node_back
  node-of {A = A} {Is = Is} f code t run nodes back first = record {
    typed = first.typed;
    does = λ x hand s m stands ready related.
        bind (counted r.program r.addresses) (Ends r)
        (Given r c code Is t nodes back x hand) (Given r c code Is t (nodes + 1) node_back x hand)
        (run r.budget s) (λ a. then_do tick (give a) r.budget) m
        (first.does x hand s m stands
        (record { in_hand = ready.in_hand; owed = let owed = ready.owed in omega (arith, owed); kept = ready.kept; apart = ready.apart })
        related)
        (λ a s m at. after x hand a s m at.0 at.1 (let owed = ready.owed in omega (arith, owed)) at.2);
  }
    where
      after : (x : Point) (hand : ℕ) (a : A) (s : State) (m : Counted) (d : Datum) → Is a d → x.owed + nodes ≤ r.most
          → Related r c (onwards x code nodes hand back t d) s m
          → Does r (Given r c code Is t (nodes + 1) node_back x hand) (then_do tick (give a) r.budget s) m
      after x hand a s m d is few related =
          bind (counted r.program r.addresses) (Ends r)
          (λ _. Related r c (stepped (onwards x code nodes hand back t d) (hand + node_back)))
          (Given r c code Is t (nodes + 1) node_back x hand)
          (tick r.budget s) (λ _. give a r.budget) m
          (tick-does r c (onwards x code nodes hand back t d) s m (hand + node_back) (omega arith) few related)
          (λ _ s m behind. simulates-here (counted r.program r.addresses) (Ends r) (Given r c code Is t (nodes + 1) node_back x hand)
          (Done a s) m (
            d,
            is,
            adjust (stepped (onwards x code nodes hand back t d) (hand + node_back)) (onwards x code (nodes + 1) hand node_back t d)
                s m refl (omega arith) (omega arith) (omega arith) behind behind.kept,
          ))

  -- less may be said to be left
  pub less-left : {A : Type 0} {Is : A → Datum → Type 0} (f : Free) (code : Code) (t : Meant) (run : Run A) (nodes back left : ℕ)
      → Evaluates r c f code Is t run nodes back → left ≤ back → Evaluates r c f code Is t run nodes left
  less-left {Is = Is} f code t run nodes back left first few = record {
    typed = first.typed;
    does = λ x hand s m stands ready related.
        simulates-weaker (counted r.program r.addresses) (Ends r) (Given r c code Is t nodes back x hand)
        (Given r c code Is t nodes left x hand) (Ends r)
        (λ a s m on. (
          on.0,
          on.1,
          adjust (onwards x code nodes hand back t on.0) (onwards x code nodes hand left t on.0) s m refl (omega (arith, few))
              (omega arith) (omega arith) on.2 on.2.kept,
        ))
        (λ cause s m ends. ends) (run r.budget s) m (first.does x hand s m stands ready related);
  }

module _ (r : Fixed) (c : Call) (call : IsCall r c) where
  -- an operation on what a run gives, with its result in the next register
  pub next-op : {A B : Type 0} {Is : A → Datum → Type 0} {Is' : B → Datum → Type 0} (f : Free) (code : Code) (t u : Meant) (run : Run A)
      (nodes back left : ℕ) (next : A → Run B) (k : OpKind) → Evaluates r c f code Is t run nodes back → charge k + left ≤ back
      → ((homes : List Home) (s : machine.State) (a : A) (d : Datum) (v : ℕ) → AreWithin homes → Is a d → Held r.layouts homes t d v
      → s.frame.registers code.result ≡ Some v → width_of r.program s (register code.result) ≡ meant_width t
      → (b : B) × (e : Datum) × (n : ℕ) × (next a ≡ give b) × Is' b e
      × (effect r.program r.addresses k s ≡ Done tt (written r.program (register (next_register f code)) n s))
      × Held r.layouts homes u e (wrap (meant_width u) n))
      → Evaluates r c f (followed f code k (meant_width u)) Is' u (then_with run next) nodes left
  next-op {A = A} {B = B} {Is = Is} {Is' = Is'} f code t u run nodes back left next k first paid gives = record {
    typed = (length code.widths, refl, get-last code.widths (meant_width u));
    does = λ x hand s m stands ready related.
        bind (counted r.program r.addresses) (Ends r)
        (Given r c code Is t nodes back x hand) (Given r c (followed f code k (meant_width u)) Is' u nodes left x hand)
        (run r.budget s) (λ a. next a r.budget) m
        (first.does x hand s m (record {
          ops = stands-left c.ops code.ops (k ∷ []) x.place stands.ops;
          widths = stands-left c.widths code.widths (meant_width u ∷ []) f.register stands.widths;
          free = stands.free;
        }) ready related)
        (λ a s m at. after x hand a s m at.0 at.1 stands ready at.2);
  }
    where
      after : (x : Point) (hand : ℕ) (a : A) (s : State) (m : Counted) (d : Datum) → Is a d
          → IsIn c f (followed f code k (meant_width u)) x.place → IsReady r c f nodes hand x
          → Related r c (onwards x code nodes hand back t d) s m
          → Does r (Given r c (followed f code k (meant_width u)) Is' u nodes left x hand) (next a r.budget s) m
      after x hand a s m d is stands ready related =
          let y : Point = onwards x code nodes hand back t d in
          let q : VReg = register (next_register f code) in
          let result-width = stands-at c.widths code.widths f.register first.typed.0 (meant_width t)
          (stands-left c.widths code.widths (meant_width u ∷ []) f.register stands.widths) first.typed.2 in
          let width-of-result : slice_get c.widths code.result ≡ Some (meant_width t) =
          ap (λ n. slice_get c.widths n) first.typed.1 ∙ result-width in
          let new = gives (homes_with c related.later) (charged k m.state) a d related.kept.0.0 (stored-within r c y s m related) is
          related.kept.0.2 related.kept.0.1
          (width-at r c call y s m k (register code.result) (meant_width t) related width-of-result) in
          let done = wrote r c call y s m k q (meant_width u) u new.1 new.2 (hand + left) x.kept related
          (stands-first c.ops [] (x.place + length code.ops) k (stands-right c.ops code.ops (k ∷ []) x.place stands.ops))
          (stands-first c.widths [] (f.register + length code.widths) (meant_width u)
          (stands-right c.widths code.widths (meant_width u ∷ []) f.register stands.widths))
          (let free = stands.free in omega (arith, free))
          (below-more x.kept f.register (next_register f code) (omega arith) ready.kept)
          related.kept.1 new.5 new.6 (omega (arith, paid)) in
          subst (λ run. Does r (Given r c (followed f code k (meant_width u)) Is' u nodes left x hand) run m)
          (sym (ap (λ g. g r.budget s) new.3))
          (simulates-from (counted r.program r.addresses) (Ends r) (Given r c (followed f code k (meant_width u)) Is' u nodes left x hand)
          (Done new.0 s) m done.0 done.1
          (simulates-here (counted r.program r.addresses) (Ends r) (Given r c (followed f code k (meant_width u)) Is' u nodes left x hand)
          (Done new.0 s) done.0 (
            new.1,
            new.4,
            adjust r c (record y {
              place = x.place + length code.ops + 1;
              kept =
                  record { register = next_register f code; meant = u; datum = new.1 } ∷ x.kept;
              hand = hand + left;
            })
                (onwards x (followed f code k (meant_width u)) nodes hand left u new.1) s done.0
                (let long = one-longer code.ops k in omega (arith, long)) (omega arith) (omega arith) (omega arith) done.2 done.2.kept,
          )))
