-- One of two by a test: values, and what is done.
use Rattle.std.proofs.Common.{◌≡◌, ℕ, ◌+◌, ◌<◌, ◌≤◌, Bool, true, false, if◌then◌else◌, inl, inr, List, [], ◌∷◌, ◌++◌, length, refl, sym, subst}
use Rattle.std.proofs.Common.{ap, ◌∙◌, arith, Option, Some, slice_get}
use Rattle.std.specs.List.{AllByRecursion}
use Rattle.behaviour.specs.Ran.{Done}
use Rattle.midcode.specs.declared.op.OpKind.TheVariants as op
use Rattle.midcode.specs.Meaning.{standing_at}
use Rattle.cmean.specs.Datum.{Datum}
use Rattle.cmean.specs.State.{State, Run, give, then_with}
use Rattle.cmean.specs.Statement.{Flow, Next}
use Rattle.cmean.specs.Expression.{Valued, valued}
use Rattle.lowerstate.specs.Counted.{Counted}
use Rattle.lowerstate.specs.Held.{Meant, meant_width}
use Rattle.lowerstate.specs.Related.{Fixed, Call, IsCall, Point, homes_with, IsKept, Related}
use Rattle.lowerstate.specs.Stands.{Does}
use Rattle.lowerstate.specs.Piece.{Code, Free, behind, joined, next_register, node_back, least_hand, IsIn, IsReady, onwards, Given, Evaluates}
use Rattle.lowerstate.specs.Piece.{StandsAt, IsValue, IsDatum, register}
use Rattle.lowerstate.proofs.Places.{stands-first, stands-left, stands-right, get-last}
use Rattle.lowerstate.proofs.Pieces.{below-more, adjust}
use Rattle.lowerflow.specs.Goes.{Exits, past, Ended, Goes, itself, jumps, Tests}
use Rattle.lowerflow.specs.Codes.{label, reserve, conditional_code, either_code, if_code}
use Rattle.lowerflow.proofs.Walk.{Part, Piece, One, Rest, rest-of, piece, behind-piece, operation, behind-op, at-end}
use Rattle.lowerflow.proofs.Walk.{label-place, go-label, go-jump, go-copy}
use Rattle.lowerflow.proofs.Ways.{does-here, does-more, does-then, ready-behind, ended-less, ended-case}

-- ---- values

module _ (r : Fixed) (c : Call) (call : IsCall r c) (f : Free) (k a b : Code) (t : Meant) (cond : Run Bool) (run second : Run Datum)
    (nodes n1 n2 : ℕ) (test : Tests r c (reserve 2 f) k false f.label cond nodes 311)
    (first : Evaluates r c (behind (reserve 2 f) k) a IsDatum t run n1 308)
    (then' : Evaluates r c (behind (behind (reserve 2 f) k) a) b IsDatum t second n2 308) where
  abbrev code : Code
  code = conditional_code (meant_width t) f k a b

  abbrev to : ℕ
  to = next_register f (joined k (joined a b))

  abbrev total : ℕ
  total = nodes + (n1 + n2)

  abbrev parts : List Part
  parts = Piece k.ops ∷ Piece a.ops ∷ One (op.Copy (register to) (register a.result)) ∷ One (op.Jump (label (f.label + 1))) ∷
      One (op.Label (label f.label)) ∷ Piece b.ops ∷ One (op.Copy (register to) (register b.result)) ∷
      One (op.Label (label (f.label + 1))) ∷ []

  module _ (x : Point) (hand : ℕ) (stands : IsIn c f code x.place) (ready : IsReady r c f total hand x) where
    abbrev D : Option Datum → State → Counted → Type 0
    D = Given r c code IsValue t total 280 x hand

    abbrev end : ℕ
    end = x.place + length code.ops

    all : Rest c.ops parts x.place end
    all = rest-of c.ops parts x.place stands.ops

    abbrev behind-test : ℕ
    behind-test = x.place + length k.ops

    abbrev behind-first : ℕ
    behind-first = behind-test + length a.ops

    first-tail : Rest c.ops (One (op.Copy (register to) (register a.result)) ∷ One (op.Jump (label (f.label + 1))) ∷
        One (op.Label (label f.label)) ∷ Piece b.ops ∷ One (op.Copy (register to) (register b.result)) ∷
        One (op.Label (label (f.label + 1))) ∷ []) behind-first end
    first-tail = behind-piece (behind-piece all)

    second-tail : Rest c.ops (One (op.Label (label f.label)) ∷ Piece b.ops ∷ One (op.Copy (register to) (register b.result)) ∷
        One (op.Label (label (f.label + 1))) ∷ []) (behind-first + 1 + 1) end
    second-tail = behind-op (behind-op first-tail)

    abbrev second-start : ℕ
    second-start = behind-first + 1 + 1 + 1

    abbrev behind-second : ℕ
    behind-second = second-start + length b.ops

    copy-tail : Rest c.ops (One (op.Copy (register to) (register b.result)) ∷ One (op.Label (label (f.label + 1))) ∷ []) behind-second end
    copy-tail = behind-piece (behind-op second-tail)

    last : Rest c.ops (One (op.Label (label (f.label + 1))) ∷ []) (behind-second + 1) end
    last = behind-op copy-tail

    free : c.variables ≤ to
    free = let free = stands.free in omega (arith, free)

    below : AllByRecursion (λ k. k.register < to) x.kept
    below = below-more x.kept f.register to (omega arith) ready.kept

    width : slice_get c.widths to ≡ Some (meant_width t)
    width = stands-first c.widths [] to (meant_width t)
        (stands-right c.widths (k.widths ++ (a.widths ++ b.widths)) (meant_width t ∷ []) f.register stands.widths)

    few : (owed : ℕ) → owed ≤ x.owed + total → owed ≤ r.most
    few owed less = let most = ready.owed in omega (arith, most, less)

    at-last : (d : Datum) (place h owed : ℕ) → place ≡ behind-second + 1 → hand + 280 ≤ h → owed ≤ x.owed + total → (s : State) (m : Counted)
        → Related r c (record x {
          place = place;
          kept = record { register = to; meant = t; datum = d } ∷ x.kept;
          hand = h;
          owed = owed;
        }) s m → Does r D (Done (Some d) s) m
    at-last d place h owed there enough less s m at =
        let y : Point = record x {
          place = place;
          kept = record { register = to; meant = t; datum = d } ∷ x.kept;
          hand = h;
          owed = owed;
        } in
        go-label r c call D (Done (Some d) s) y s m (few owed less) at (label (f.label + 1))
        (ap (λ n. slice_get c.ops n) there ∙ operation last)
        (λ m' on. does-here r D (Some d) s m' (
          d,
          refl,
          adjust r c (record y { place = place + 1 }) (onwards x code total hand 280 t d) s m'
              (ap (λ n. n + 1) there ∙ at-end (behind-op last)) enough less (omega arith) on on.kept,
        ))

    -- the value of the first arm is in its register
    first-done : (e d : Datum) (h owed : ℕ) → e ≡ d → hand + 292 ≤ h → owed ≤ x.owed + total → (s : State) (m : Counted)
        → Related r c (record x {
          place = behind-first;
          kept = record { register = a.result; meant = t; datum = d } ∷ x.kept;
          hand = h;
          owed = owed;
        }) s m → Does r D (valued e r.budget s) m
    first-done e d h owed same enough less s m at =
        let y : Point = record x { place = behind-first; hand = h; owed = owed } in
        let z : Point = record x {
          place = behind-first + 1;
          kept = record { register = to; meant = t; datum = d } ∷ x.kept;
          hand = hand + 281;
          owed = owed;
        } in
        subst (λ e. Does r D (valued e r.budget s) m) (sym same)
        (go-copy r c call D (Done (Some d) s) y s m to (hand + 281) free below a.result t d (operation first-tail) width
        (omega (arith, enough)) at
        (λ m' on. go-jump r c call D (Done (Some d) s) z s m' (few owed less) on (label (f.label + 1)) (hand + 280)
        (operation (behind-op first-tail)) (omega arith)
        (λ m' next. at-last d (standing_at c.ops (f.label + 1)) (hand + 280) owed
        (label-place r c call (label (f.label + 1)) (behind-second + 1) (operation last)) (omega arith) less s m' next)))

    second-done : (e d : Datum) (h owed : ℕ) → e ≡ d → hand + 292 ≤ h → owed ≤ x.owed + total → (s : State) (m : Counted)
        → Related r c (record x {
          place = behind-second;
          kept = record { register = b.result; meant = t; datum = d } ∷ x.kept;
          hand = h;
          owed = owed;
        }) s m → Does r D (valued e r.budget s) m
    second-done e d h owed same enough less s m at =
        let y : Point = record x { place = behind-second; hand = h; owed = owed } in
        subst (λ e. Does r D (valued e r.budget s) m) (sym same)
        (go-copy r c call D (Done (Some d) s) y s m to (hand + 280) free below b.result t d (operation copy-tail) width
        (omega (arith, enough)) at
        (λ m' on. at-last d (behind-second + 1) (hand + 280) owed refl (omega arith) less s m' on))

    test-in : IsIn c (reserve 2 f) k x.place
    test-in = record {
      ops = piece all;
      widths = stands-left c.widths k.widths (a.widths ++ b.widths) f.register
          (stands-left c.widths (k.widths ++ (a.widths ++ b.widths)) (meant_width t ∷ []) f.register stands.widths);
      free = stands.free;
    }

    arms-widths : StandsAt c.widths (a.widths ++ b.widths) (f.register + length k.widths)
    arms-widths = stands-right c.widths k.widths (a.widths ++ b.widths) f.register
        (stands-left c.widths (k.widths ++ (a.widths ++ b.widths)) (meant_width t ∷ []) f.register stands.widths)

    first-in : IsIn c (behind (reserve 2 f) k) a behind-test
    first-in = record {
      ops = piece (behind-piece all);
      widths = stands-left c.widths a.widths b.widths (f.register + length k.widths) arms-widths;
      free = let free = stands.free in omega (arith, free);
    }

    second-in : IsIn c (behind (behind (reserve 2 f) k) a) b second-start
    second-in = record {
      ops = piece (behind-op second-tail);
      widths = stands-right c.widths a.widths b.widths (f.register + length k.widths) arms-widths;
      free = let free = stands.free in omega (arith, free);
    }

    abbrev tested : Bool → Point
    tested y = record (past x k nodes (hand + 311)) { place = if y then behind-test else standing_at c.ops f.label }

    first-does : (s : State) (m : Counted) → Related r c (tested true) s m → Does r D (then_with run valued r.budget s) m
    first-does s m at =
        does-then r (Given r c a IsDatum t n1 308 (tested true) (hand + 247)) D (run r.budget s) (λ e. valued e r.budget) m
        (first.does (tested true) (hand + 247) s m first-in
        (ready-behind r c f (behind (reserve 2 f) k) total n1 hand (hand + 247) x (tested true) ready (omega arith) refl (omega arith)
        (omega arith)) at)
        (λ e s m on. first-done e on.0 (hand + 247 + 308) (x.owed + nodes + n1) on.1 (omega arith) (omega arith) s m on.2)

    second-does : (s : State) (m : Counted) → Related r c (tested false) s m → Does r D (then_with second valued r.budget s) m
    second-does s m at =
        let y : Point = record (past x k nodes (hand + 311)) { place = behind-first + 1 + 1 } in
        let z : Point = record (past x k nodes (hand + 311)) { place = second-start } in
        let here : Related r c y s m =
        adjust r c (tested false) y s m (label-place r c call (label f.label) (behind-first + 1 + 1) (operation second-tail)) (omega arith)
        (omega arith) (omega arith) at at.kept in
        go-label r c call D (then_with second valued r.budget s) y s m (few (x.owed + nodes) (omega arith)) here (label f.label)
        (operation second-tail)
        (λ m' on. does-then r (Given r c b IsDatum t n2 308 z (hand + 247)) D (second r.budget s) (λ e. valued e r.budget) m'
        (then'.does z (hand + 247) s m' second-in
        (ready-behind r c f (behind (behind (reserve 2 f) k) a) total n2 hand (hand + 247) x z ready (omega arith) refl (omega arith)
        (omega arith)) on)
        (λ e s m on. second-done e on.0 (hand + 247 + 308) (x.owed + nodes + n2) on.1 (omega arith) (omega arith) s m on.2))

    chosen : (y : Bool) (s : State) (m : Counted) → Related r c (tested y) s m
        → Does r D ((if y then then_with run valued else then_with second valued) r.budget s) m
    chosen true s m at = first-does s m at
    chosen false s m at = second-does s m at

    tested-same : (y : Bool) (s : State) (m : Counted) → Related r c (record (past x k nodes (hand + 311)) {
      place = if jumps false y then standing_at c.ops f.label else behind-test;
    }) s m → Related r c (tested y) s m
    tested-same true s m at = at
    tested-same false s m at = at

  pub conditional-of : Evaluates r c f code IsValue t (then_with cond (λ y. if y then then_with run valued else then_with second valued)) total
      280
  conditional-of = record {
    typed = (length (k.widths ++ (a.widths ++ b.widths)), refl, get-last (k.widths ++ (a.widths ++ b.widths)) (meant_width t));
    does = λ x hand s m stands ready related.
        does-then r (λ y. Related r c (tested x hand stands ready y)) (D x hand stands ready) (cond r.budget s)
        (λ y. (if y then then_with run valued else then_with second valued) r.budget) m
        (does-more r (λ y. Related r c (record (past x k nodes (hand + 311)) {
          place = if jumps false y then standing_at c.ops f.label else x.place + length k.ops;
        })) (λ y. Related r c (tested x hand stands ready y)) (cond r.budget s) m
        (test.does x hand s m (test-in x hand stands ready)
        (ready-behind r c f (reserve 2 f) total nodes hand hand x x ready (omega arith) refl ready.in_hand (omega arith)) related)
        (λ y s m at. does-here r (λ y. Related r c (tested x hand stands ready y)) y s m (tested-same x hand stands ready y s m at)))
        (chosen x hand stands ready);
  }

-- ---- what is done

module _ (r : Fixed) (c : Call) (call : IsCall r c) (e : Exits) {A : Type 0} (flow : A → Flow) (f : Free) (k a b : Code) (cond : Run Bool)
    (run second : Run A) (nodes n1 n2 : ℕ) (test : Tests r c (reserve 2 f) k false f.label cond nodes 311)
    (first : Goes r c e (behind (reserve 2 f) k) a flow run n1 node_back)
    (then' : Goes r c e (behind (behind (reserve 2 f) k) a) b flow second n2 node_back) where
  abbrev either : Code
  either = either_code f k a b

  abbrev steps : ℕ
  steps = nodes + (n1 + n2)

  abbrev pieces : List Part
  pieces = Piece k.ops ∷ Piece a.ops ∷ One (op.Jump (label (f.label + 1))) ∷ One (op.Label (label f.label)) ∷ Piece b.ops ∷
      One (op.Label (label (f.label + 1))) ∷ []

  module _ (x : Point) (hand : ℕ) (stands : IsIn c f either x.place) (ready : IsReady r c f steps hand x) where
    abbrev z : Point
    z = past x either steps (hand + 300)

    abbrev E : A → State → Counted → Type 0
    E i = Ended r c e z (flow i)

    whole : Rest c.ops pieces x.place (x.place + length either.ops)
    whole = rest-of c.ops pieces x.place stands.ops

    abbrev at-first : ℕ
    at-first = x.place + length k.ops

    abbrev at-jump : ℕ
    at-jump = at-first + length a.ops

    jump-on : Rest c.ops (One (op.Jump (label (f.label + 1))) ∷ One (op.Label (label f.label)) ∷ Piece b.ops ∷
        One (op.Label (label (f.label + 1))) ∷ []) at-jump (x.place + length either.ops)
    jump-on = behind-piece (behind-piece whole)

    abbrev at-end-label : ℕ
    at-end-label = at-jump + 1 + 1 + length b.ops

    end-label : Rest c.ops (One (op.Label (label (f.label + 1))) ∷ []) at-end-label (x.place + length either.ops)
    end-label = behind-piece (behind-op (behind-op jump-on))

    enough-owed : (owed : ℕ) → owed ≤ x.owed + steps → owed ≤ r.most
    enough-owed owed less = let most = ready.owed in omega (arith, most, less)

    -- at the label behind both
    over : (i : A) (place h owed : ℕ) → flow i ≡ Next → place ≡ at-end-label → hand + 300 ≤ h → owed ≤ x.owed + steps → (s : State)
        (m : Counted) → Related r c (record x { place = place; hand = h; owed = owed }) s m → Does r E (Done i s) m
    over i place h owed next there enough less s m at =
        let y : Point = record x { place = place; hand = h; owed = owed } in
        go-label r c call E (Done i s) y s m (enough-owed owed less) at (label (f.label + 1))
        (ap (λ n. slice_get c.ops n) there ∙ operation end-label)
        (λ m' on. does-here r E i s m' (subst (λ w. Ended r c e z w s m') (sym next)
        (adjust r c (record y { place = place + 1 }) z s m' (ap (λ n. n + 1) there ∙ at-end (behind-op end-label)) enough less (omega arith)
        on on.kept)))

    first-ends : (i : A) (h owed : ℕ) → hand + 301 ≤ h → owed ≤ x.owed + steps → (s : State) (m : Counted)
        → Ended r c e (record x { place = at-jump; hand = h; owed = owed }) (flow i) s m → Does r E (Done i s) m
    first-ends i h owed enough less s m at =
        let y : Point = record x { place = at-jump; hand = h; owed = owed } in
        elim (ended-case r c e y z.place z.hand z.owed z.steps (omega (arith, enough)) less (omega arith) (flow i) s m at) [
          | inl next ↦
              go-jump r c call E (Done i s) y s m (enough-owed owed less) next.1 (label (f.label + 1)) (hand + 300) (operation jump-on)
              (omega (arith, enough))
              (λ m' on. over i (standing_at c.ops (f.label + 1)) (hand + 300) owed next.0
              (label-place r c call (label (f.label + 1)) at-end-label (operation end-label)) (omega arith) less s m' on)
          | inr out ↦
              does-here r E i s m out
        ]

    second-ends : (i : A) (h owed : ℕ) → hand + 301 ≤ h → owed ≤ x.owed + steps → (s : State) (m : Counted)
        → Ended r c e (record x { place = at-end-label; hand = h; owed = owed }) (flow i) s m → Does r E (Done i s) m
    second-ends i h owed enough less s m at =
        let y : Point = record x { place = at-end-label; hand = h; owed = owed } in
        elim (ended-case r c e y z.place z.hand z.owed z.steps (omega (arith, enough)) less (omega arith) (flow i) s m at) [
          | inl next ↦
              over i at-end-label h owed next.0 refl (omega (arith, enough)) less s m next.1
          | inr out ↦
              does-here r E i s m out
        ]

    test-place : IsIn c (reserve 2 f) k x.place
    test-place = record {
      ops = piece whole;
      widths = stands-left c.widths k.widths (a.widths ++ b.widths) f.register stands.widths;
      free = stands.free;
    }

    first-place : IsIn c (behind (reserve 2 f) k) a at-first
    first-place = record {
      ops = piece (behind-piece whole);
      widths = stands-left c.widths a.widths b.widths (f.register + length k.widths)
          (stands-right c.widths k.widths (a.widths ++ b.widths) f.register stands.widths);
      free = let free = stands.free in omega (arith, free);
    }

    second-place : IsIn c (behind (behind (reserve 2 f) k) a) b (at-jump + 1 + 1)
    second-place = record {
      ops = piece (behind-op (behind-op jump-on));
      widths = stands-right c.widths a.widths b.widths (f.register + length k.widths)
          (stands-right c.widths k.widths (a.widths ++ b.widths) f.register stands.widths);
      free = let free = stands.free in omega (arith, free);
    }

    abbrev decided : Bool → Point
    decided y = record (past x k nodes (hand + 311)) {
      place = if jumps false y then standing_at c.ops f.label else at-first;
    }

    taken : (y : Bool) (s : State) (m : Counted) → Related r c (decided y) s m → Does r E ((if y then run else second) r.budget s) m
    taken true s m at =
        does-more r (λ i. Ended r c e (past (decided true) a n1 (hand + 247 + node_back)) (flow i)) E (run r.budget s) m
        (first.does (decided true) (hand + 247) s m first-place
        (ready-behind r c f (behind (reserve 2 f) k) steps n1 hand (hand + 247) x (decided true) ready (omega arith) refl (omega arith)
        (omega arith)) at)
        (λ i s m on. first-ends i (hand + 247 + node_back) (x.owed + nodes + n1) (omega arith) (omega arith) s m on)
    taken false s m at =
        let y : Point = record (past x k nodes (hand + 311)) { place = at-jump + 1 } in
        let w : Point = record (past x k nodes (hand + 311)) { place = at-jump + 1 + 1 } in
        let here : Related r c y s m =
        adjust r c (decided false) y s m (label-place r c call (label f.label) (at-jump + 1) (operation (behind-op jump-on))) (omega arith)
        (omega arith) (omega arith) at at.kept in
        go-label r c call E (second r.budget s) y s m (enough-owed (x.owed + nodes) (omega arith)) here (label f.label)
        (operation (behind-op jump-on))
        (λ m' on. does-more r (λ i. Ended r c e (past w b n2 (hand + 247 + node_back)) (flow i)) E (second r.budget s) m'
        (then'.does w (hand + 247) s m' second-place
        (ready-behind r c f (behind (behind (reserve 2 f) k) a) steps n2 hand (hand + 247) x w ready (omega arith) refl (omega arith)
        (omega arith)) on)
        (λ i s m on. second-ends i (hand + 247 + node_back) (x.owed + nodes + n2) (omega arith) (omega arith) s m on))

  pub either-of : Goes r c e f either flow (then_with cond (λ y. if y then run else second)) steps 300
  either-of = record {
    does = λ x hand s m stands ready related.
        does-then r (λ y. Related r c (decided x hand stands ready y)) (E x hand stands ready) (cond r.budget s)
        (λ y. (if y then run else second) r.budget) m
        (test.does x hand s m (test-place x hand stands ready)
        (ready-behind r c f (reserve 2 f) steps nodes hand hand x x ready (omega arith) refl ready.in_hand (omega arith)) related)
        (taken x hand stands ready);
  }

-- ---- what is done or not

module _ (r : Fixed) (c : Call) (call : IsCall r c) (e : Exits) (f : Free) (k a : Code) (cond : Run Bool) (run : Run Flow) (nodes n1 : ℕ)
    (test : Tests r c (reserve 1 f) k false f.label cond nodes 311)
    (first : Goes r c e (behind (reserve 1 f) k) a itself run n1 node_back) where
  abbrev done : Code
  done = if_code f k a

  abbrev fragments : List Part
  fragments = Piece k.ops ∷ Piece a.ops ∷ One (op.Label (label f.label)) ∷ []

  module _ (x : Point) (hand : ℕ) (stands : IsIn c f done x.place) (ready : IsReady r c f (nodes + n1) hand x) where
    abbrev behind-all : Point
    behind-all = past x done (nodes + n1) (hand + 300)

    abbrev G : Flow → State → Counted → Type 0
    G = Ended r c e behind-all

    full : Rest c.ops fragments x.place (x.place + length done.ops)
    full = rest-of c.ops fragments x.place stands.ops

    abbrev at-label : ℕ
    at-label = x.place + length k.ops + length a.ops

    on-label : Rest c.ops (One (op.Label (label f.label)) ∷ []) at-label (x.place + length done.ops)
    on-label = behind-piece (behind-piece full)

    come : (i : Flow) (place h owed : ℕ) → i ≡ Next → place ≡ at-label → hand + 300 ≤ h → owed ≤ x.owed + (nodes + n1) → (s : State)
        (m : Counted) → Related r c (record x { place = place; hand = h; owed = owed }) s m → Does r G (Done i s) m
    come i place h owed next there enough less s m at =
        let y : Point = record x { place = place; hand = h; owed = owed } in
        go-label r c call G (Done i s) y s m (let most = ready.owed in omega (arith, most, less)) at (label f.label)
        (ap (λ n. slice_get c.ops n) there ∙ operation on-label)
        (λ m' on. does-here r G i s m' (subst (λ w. Ended r c e behind-all w s m') (sym next)
        (adjust r c (record y { place = place + 1 }) behind-all s m' (ap (λ n. n + 1) there ∙ at-end (behind-op on-label)) enough less
        (omega arith) on on.kept)))

    abbrev parted : Bool → Point
    parted y = record (past x k nodes (hand + 311)) {
      place = if jumps false y then standing_at c.ops f.label else x.place + length k.ops;
    }

    ends : (i : Flow) (s : State) (m : Counted) → Ended r c e (past (parted true) a n1 (hand + 247 + node_back)) i s m
        → Does r G (Done i s) m
    ends i s m at =
        elim (ended-case r c e (past (parted true) a n1 (hand + 247 + node_back)) behind-all.place behind-all.hand behind-all.owed
        behind-all.steps (omega arith) (omega arith) (omega arith) i s m at) [
          | inl next ↦
              come i at-label (hand + 247 + node_back) (x.owed + nodes + n1) next.0 refl (omega arith) (omega arith) s m next.1
          | inr out ↦
              does-here r G i s m out
        ]

    first-stands : IsIn c (behind (reserve 1 f) k) a (x.place + length k.ops)
    first-stands = record {
      ops = piece (behind-piece full);
      widths = stands-right c.widths k.widths a.widths f.register stands.widths;
      free = let free = stands.free in omega (arith, free);
    }

    goes : (y : Bool) (s : State) (m : Counted) → Related r c (parted y) s m → Does r G ((if y then run else give Next) r.budget s) m
    goes true s m at =
        does-more r (Ended r c e (past (parted true) a n1 (hand + 247 + node_back))) G (run r.budget s) m
        (first.does (parted true) (hand + 247) s m first-stands
        (ready-behind r c f (behind (reserve 1 f) k) (nodes + n1) n1 hand (hand + 247) x (parted true) ready (omega arith) refl (omega arith)
        (omega arith)) at) ends
    goes false s m at =
        come Next (standing_at c.ops f.label) (hand + 311) (x.owed + nodes) refl
        (label-place r c call (label f.label) at-label (operation on-label)) (omega arith) (omega arith) s m at

  pub if-of : Goes r c e f done itself (then_with cond (λ y. if y then run else give Next)) (nodes + n1) 300
  if-of = record {
    does = λ x hand s m stands ready related.
        does-then r (λ y. Related r c (parted x hand stands ready y)) (G x hand stands ready) (cond r.budget s)
        (λ y. (if y then run else give Next) r.budget) m
        (test.does x hand s m
        (record {
          ops = piece (full x hand stands ready);
          widths = stands-left c.widths k.widths a.widths f.register stands.widths;
          free = stands.free;
        })
        (ready-behind r c f (reserve 1 f) (nodes + n1) nodes hand hand x x ready (omega arith) refl ready.in_hand (omega arith)) related)
        (goes x hand stands ready);
  }
