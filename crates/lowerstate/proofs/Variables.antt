-- Locals that are registers: what they hold, and what is assigned to them.
use Rattle.std.proofs.Common.{◌≡◌, ℕ, zero, ◌+◌, ◌<◌, ◌≤◌, ◌==◌, Bool, true, false, inl, inr, List, [], ◌∷◌, ◌++◌, length}
use Rattle.std.proofs.Common.{refl, sym, subst, ap, ◌∙◌, arith, Option, Some, None, slice_get, slice_set}
use Rattle.std.specs.List.{AllByRecursion}
use Rattle.std.proofs.lemmas.Bool.{ne_eqb, eqb-true, eqb-false, cases_Bool}
use Rattle.std.proofs.lemmas.Option.{slice_get_within}
use Rattle.behaviour.specs.Ran.{Done, and_then}
use Rattle.behaviour.specs.Machine.{Reaches}
use Rattle.behaviour.proofs.SimulatesLemmas.{simulates-here, simulates-from, bind}
use Rattle.prunum.specs.Number.{wrap}
use Rattle.prunum.specs.declared.width.Width.{Width}
use Rattle.csyn.specs.declared.span.Span.{Span}
use Rattle.cprogram.specs.declared.access.Access.{Access}
use Rattle.midcode.specs.declared.register.VReg.{VReg}
use Rattle.midcode.specs.declared.op.OpKind.{OpKind}
use Rattle.midcode.specs.declared.op.OpKind.TheVariants as op
use Rattle.midcode.specs.Machine as machine
use Rattle.midcode.specs.Machine.{with_register}
use Rattle.midcode.specs.Meaning.{running, width_of, charged}
use Rattle.cmean.specs.declared.undefined.UndefinedCause.TheVariants.{Unset, EndedCall}
use Rattle.cmean.specs.Datum.{Datum}
use Rattle.cmean.specs.Pointer.{unless_ended}
use Rattle.cmean.specs.State.{State, Run, Leaves, Object, then_with, node, tick, given, is_alive, leaves_of, with_leaves}
use Rattle.cmean.specs.Access.{Target, load, leaf_value}
use Rattle.cmean.specs.Expression.{valued, both, whole, assign}
use Rattle.lowerstate.specs.Counted.{Counted, counted, least_at}
use Rattle.lowerstate.specs.Held.{Meant, meant_width, Home, InRegister, InMemory, Laid, Held}
use Rattle.lowerstate.specs.Related.{Fixed, Call, IsCall, Kept, Point, homes_with, Holds, IsKept, Related, stepped}
use Rattle.lowerstate.specs.Stands.{Ends, Does}
use Rattle.lowerstate.specs.Piece.{Code, Free, least_hand, IsIn, IsReady, onwards, Given, Evaluates, IsValue, IsDatum, register}
use Rattle.lowerstate.specs.Codes.{copy_code, assign_code}
use Rattle.lowerstate.specs.PieceLaws.{local_place}
use Rattle.lowerstate.proofs.Laws.{tick-does, undefined-does, written, wrote, if-other, with-same, op-at, op-reaches, counted_to, width-at}
use Rattle.lowerstate.proofs.Laws.{late-more}
use Rattle.lowerstate.proofs.Numbers.{got}
use Rattle.lowerstate.proofs.Agree.{wrap-small}
use Rattle.lowerstate.proofs.Places.{stands-first, stands-left, stands-right, one-longer, get-further, get-before, get-set, get-unset}
use Rattle.lowerstate.proofs.Places.{set-long}
use Rattle.lowerstate.proofs.Pieces.{adjust}
use Rattle.lowerstate.proofs.Room.{held-below, stored-within}

-- ---- an object's leaves

leaves-set : (s : State) (o : ℕ) (ls : Leaves) → o < length s.objects → leaves_of (with_leaves o ls s) o ≡ ls
leaves-set s o ls within =
    ap (λ (x : Option Object). elim x [ None ↦ [] | Some o ↦ o.leaves ])
    (get-set s.objects o (record { is_alive = is_alive s o; leaves = ls }) within)

leaves-other : (s : State) (o p : ℕ) (ls : Leaves) → (o ≡ p → ⊥) → leaves_of (with_leaves o ls s) p ≡ leaves_of s p
leaves-other s o p ls other =
    ap (λ (x : Option Object). elim x [ None ↦ [] | Some o ↦ o.leaves ])
    (get-unset s.objects o p (record { is_alive = is_alive s o; leaves = ls }) other)

alive-same : (s : State) (o p : ℕ) (ls : Leaves) → o < length s.objects → is_alive (with_leaves o ls s) p ≡ is_alive s p
alive-same s o p ls within = elim (cases_Bool (o == p)) [
  | inl yes' ↦
      let same : o ≡ p = eqb-true o p yes' in
      subst (λ n. is_alive (with_leaves o ls s) n ≡ is_alive s n) same
      (ap (λ (x : Option Object). elim x [ None ↦ false | Some o ↦ o.is_alive ])
      (get-set s.objects o (record { is_alive = is_alive s o; leaves = ls }) within))
  | inr no' ↦
      ap (λ (x : Option Object). elim x [ None ↦ false | Some o ↦ o.is_alive ])
      (get-unset s.objects o p (record { is_alive = is_alive s o; leaves = ls }) (eqb-false o p no'))
]

first-set : (ls : Leaves) (d e : Datum) → slice_get (slice_set ls zero (Some d)) zero ≡ Some (Some e) → d ≡ e
first-set [] d e is = absurd cc
first-set (l ∷ ls) d e is = cc

not-memory : (q : ℕ) (t : Meant) (at : ℕ) (all : Laid) → Some (InRegister q t) ≡ Some (InMemory at all) → ⊥
not-memory q t at all is = cc

same-register : (q p : ℕ) (t u : Meant) → Some (InRegister q t) ≡ Some (InRegister p u) → (q ≡ p) × (t ≡ u)
same-register q p t u is = (cc, cc)

with-apart : (registers : ℕ → Option ℕ) (q v p : ℕ) → (p ≡ q → ⊥) → with_register registers q v p ≡ registers p
with-apart registers q v p other = if-other (p == q) (Some v) (registers p) (ne_eqb p q other)

module _ (r : Fixed) (c : Call) (call : IsCall r c) (k q : ℕ) (t : Meant) (home : slice_get c.own k ≡ Some (InRegister q t)) where
  home-at : (later : List Home) → slice_get (homes_with c later) (length c.outer + k) ≡ Some (InRegister q t)
  home-at later =
      get-before (c.outer ++ c.own) later (length c.outer + k) (InRegister q t) (get-further c.outer c.own k ∙ home)

  kept-apart : (homes : List Home) (registers : ℕ → Option ℕ) (v : ℕ) (ks : List Kept)
      → AllByRecursion (λ k. c.variables ≤ k.register) ks
      → AllByRecursion (IsKept r homes registers) ks → AllByRecursion (IsKept r homes (with_register registers q v)) ks
  kept-apart homes registers v [] apart kept = tt
  kept-apart homes registers v (x ∷ ks) apart kept = (
    (
      kept.0.0,
      with-apart registers q v x.register
          (λ same. let below = (call.local k q t home).0 in let above = apart.0 in omega (arith, same, below, above)) ∙ kept.0.1,
      kept.0.2,
    ),
    kept-apart homes registers v ks apart.1 kept.1,
  )

  -- the local holds this
  abbrev holding : Datum → State → State
  holding d s = with_leaves (length c.outer + k) (slice_set (leaves_of s (length c.outer + k)) zero (Some d)) s

  -- a value is copied to the local's register
  pub set-local : (x : Point) (s : State) (m : Counted) (d : Datum) (from : VReg) (v hand : ℕ) (related : Related r c x s m)
      → slice_get c.ops x.place ≡ Some (op.Copy (register q) from) → m.state.frame.registers from.0 ≡ Some v
      → Held r.layouts (homes_with c related.later) t d v → AllByRecursion (λ k. c.variables ≤ k.register) x.kept → 10 + hand ≤ x.hand
      → (m' : Counted) × Reaches (counted r.program r.addresses) m m'
      × Related r c (record x { place = x.place + 1; hand = hand }) (holding d s) m'
  set-local x s m d from v hand related is reg held apart paid = (
    counted_to r c call m after,
    op-reaches r c call m code after (op-at r c call x s m code related is) (got (charged code m.state) from v _ reg),
    record {
      later = related.later;
      place = ap (λ n. n + 1) related.place;
      function = related.function;
      callers = related.callers;
      locals = related.locals;
      events = related.events;
      values = related.values;
      stored = record {
        all = related.stored.all ∙ sym (set-long s.objects o _);
        leaf = λ p at i all part e there within leaf.
            related.stored.leaf p at i all part e there within
            (ap (λ ls. slice_get ls i) (sym (leaves-other s o p _
            (λ same. not-memory q t at all (sym (home-at related.later) ∙ (ap (λ n. slice_get homes n) same ∙ there))))) ∙ leaf);
        room = related.stored.room;
        disjoint = λ p n at by one other here there first second.
            related.stored.disjoint p n at by one other here there (sym (alive-same s o p _ inside) ∙ first)
            (sym (alive-same s o n _ inside) ∙ second);
      };
      variables = variables;
      outer = λ i p u there.
          let before = slice_get_within c.outer i (InRegister p u) there in
          leaves-other s o i _ (λ same. omega (arith, same, before)) ∙ related.outer i p u there;
      kept = kept-apart homes m.state.frame.registers cut x.kept apart related.kept;
      paid = let before = related.paid in omega (arith, before, paid);
      late = late-more r.most m.least (least_at (running r.program m.state) m.state.frame.place
          (slice_get (running r.program m.state) m.state.frame.place)) s.steps x.owed related.late;
      left = related.left;
      done = related.done;
    },
  )
    where
      code : OpKind
      code = op.Copy (register q) from

      after : machine.State
      after = written r.program (register q) v (charged code m.state)

      o : ℕ
      o = length c.outer + k

      homes : List Home
      homes = homes_with c related.later

      cut : ℕ
      cut = wrap (width_of r.program (charged code m.state) (register q)) v

      inside : o < length s.objects
      inside =
          let within = slice_get_within homes o (InRegister q t) (home-at related.later) in
          let all = related.stored.all in omega (arith, within, all)

      uncut : cut ≡ v
      uncut =
          ap (λ (w : Width). wrap w v) (width-at r c call x s m code (register q) (meant_width t) related (call.local k q t home).1)
          ∙ wrap-small (meant_width t) v (held-below r.layouts homes t d v (stored-within r c x s m related) held)

      new : Holds r homes (with_register m.state.frame.registers q cut) q t d
      new = (v, with-same m.state.frame.registers q cut ∙ ap (λ n. Some n) uncut, held)

      variables : (i p : ℕ) (u : Meant) (e : Datum) → slice_get c.own i ≡ Some (InRegister p u)
          → slice_get (leaves_of (holding d s) (length c.outer + i)) zero ≡ Some (Some e)
          → Holds r homes (with_register m.state.frame.registers q cut) p u e
      variables i p u e there leaf = elim (cases_Bool (k == i)) [
        | inl yes' ↦
            let same : k ≡ i = eqb-true k i yes' in
            let alike = same-register q p t u (sym home ∙ (ap (λ n. slice_get c.own n) same ∙ there)) in
            let first : slice_get (leaves_of (holding d s) o) zero ≡ Some (Some e) =
            ap (λ n. slice_get (leaves_of (holding d s) (length c.outer + n)) zero) same ∙ leaf in
            let datum = first-set (leaves_of s o) d e (ap (λ ls. slice_get ls zero) (sym (leaves-set s o _ inside)) ∙ first) in
            subst (λ n. Holds r homes (with_register m.state.frame.registers q cut) n u e) alike.0
            (subst (λ n. Holds r homes (with_register m.state.frame.registers q cut) q n e) alike.1
            (subst (λ n. Holds r homes (with_register m.state.frame.registers q cut) q t n) datum new))
        | inr no' ↦
            let other : k ≡ i → ⊥ = eqb-false k i no' in
            let old = related.variables i p u e there
            (ap (λ ls. slice_get ls zero) (sym (leaves-other s o (length c.outer + i) _ (λ same. other (omega (arith, same))))) ∙ leaf) in (
              old.0,
              with-apart m.state.frame.registers q cut p
                  (λ same. other (call.apart k i q t u home (there ∙ ap (λ n. Some (InRegister n u)) same))) ∙ old.1,
              old.2,
            )
      ]

  -- ---- what the local holds

  module _ (span : Span) (a : Access) (f : Free) where
    module _ (x : Point) (hand : ℕ) (s : State) (m : Counted) (stands : IsIn c f (copy_code (meant_width t) q f) x.place)
        (ready : IsReady r c f 0 hand x) (related : Related r c x s m) where
      abbrev here : ℕ
      here = s.locals + k

      abbrev D : Option Datum → State → Counted → Type 0
      D = Given r c (copy_code (meant_width t) q f) IsValue t 0 54 x hand

      read : (d : Datum) → slice_get (leaves_of s here) zero ≡ Some (Some d) → Does r D (Done (Some d) s) m
      read d leaf =
          let at : slice_get (leaves_of s (length c.outer + k)) zero ≡ Some (Some d) =
          ap (λ n. slice_get (leaves_of s (n + k)) zero) (sym related.locals) ∙ leaf in
          let old = related.variables k q t d home at in
          let code : OpKind = op.Copy (register f.register) (register q) in
          let in_hand = ready.in_hand in
          let few = held-below r.layouts (homes_with c related.later) t d old.0 (stored-within r c x s m related) old.2 in
          let same : wrap (meant_width t) old.0 ≡ old.0 = wrap-small (meant_width t) old.0 few in
          let done = wrote r c call x s m code (register f.register) (meant_width t) t d old.0 (hand + 54) x.kept related
          (stands-first c.ops [] x.place code stands.ops) (stands-first c.widths [] f.register (meant_width t) stands.widths)
          stands.free ready.kept related.kept (got (charged code m.state) (register q) old.0 _ old.1)
          (subst (λ v. Held r.layouts (homes_with c related.later) t d v) (sym same) old.2) (omega (arith, in_hand)) in
          simulates-from (counted r.program r.addresses) (Ends r) D (Done (Some d) s) m done.0 done.1
          (simulates-here (counted r.program r.addresses) (Ends r) D (Done (Some d) s) done.0 (
            d,
            refl,
            adjust r c _ (onwards x (copy_code (meant_width t) q f) 0 hand 54 t d) s done.0 refl
                (omega arith) (omega arith) (omega arith) done.2 done.2.kept,
          ))

      few-owed : x.owed ≤ r.most
      few-owed = let owed = ready.owed in omega (arith, owed)

      leaf-case : (leaf : Option (Option Datum)) → slice_get (leaves_of s here) zero ≡ leaf
          → Does r D (and_then (given span (leaf_value leaf) r.budget s) (λ d. valued d r.budget)) m
      leaf-case None is =
          bind (counted r.program r.addresses) (Ends r) (λ _ _ _. ⊥) D _ (λ d. valued d r.budget) m
          (undefined-does r c (λ _ _ _. ⊥) span Unset x s m few-owed related) (λ d s m no. absurd no)
      leaf-case (Some None) is =
          bind (counted r.program r.addresses) (Ends r) (λ _ _ _. ⊥) D _ (λ d. valued d r.budget) m
          (undefined-does r c (λ _ _ _. ⊥) span Unset x s m few-owed related) (λ d s m no. absurd no)
      leaf-case (Some (Some d)) is = read d is

      alive-case : (b : Bool) → Does r D (and_then (and_then (given span (unless_ended b (tt {0})) r.budget s)
          (λ _. given span (leaf_value (slice_get (leaves_of s here) zero)) r.budget)) (λ d. valued d r.budget)) m
      alive-case true = leaf-case (slice_get (leaves_of s here) zero) refl
      alive-case false =
          bind (counted r.program r.addresses) (Ends r) (λ _ _ _. ⊥) D _ (λ d. valued d r.budget) m
          (bind (counted r.program r.addresses) (Ends r) (λ _ _ _. ⊥) (λ _ _ _. ⊥) _ _ m
          (undefined-does r c (λ _ _ _. ⊥) span EndedCall x s m few-owed related) (λ d s m no. absurd no)) (λ d s m no. absurd no)

    pub local-of : Evaluates r c f (copy_code (meant_width t) q f) IsValue t
        (then_with (local_place k) (λ p. then_with (load span a.scalar p) valued)) 0 54
    local-of = record {
      typed = (0, omega arith, refl);
      does = λ x hand s m stands ready related. alive-case x hand s m stands ready related (is_alive s (s.locals + k));
    }

  -- ---- an assignment

  module _ (span : Span) (access : Access) (f : Free) (a : Code) (run : Run Datum) (nodes back left : ℕ)
      (first : Evaluates r c f a IsDatum t run nodes back) (paid : 10 + left ≤ 512 + back) where
    -- behind the step of the place
    abbrev placed : Point → ℕ → Point
    placed x hand = stepped x (least_hand + (hand + 512))

    module _ (x : Point) (hand : ℕ) (stands : IsIn c f (assign_code q a) x.place) (ready : IsReady r c f (nodes + 1) hand x) where
      abbrev E : Option Datum → State → Counted → Type 0
      E = Given r c (assign_code q a) IsValue t (nodes + 1) left x hand

      abbrev y : Datum → Point
      y d = onwards (placed x hand) a nodes (hand + 512) back t d

      put-does : (d : Datum) (s : State) (m : Counted) → Related r c (y d) s m → Does r E (Done (Some d) (holding d s)) m
      put-does d s m related =
          let code : OpKind = op.Copy (register q) (register a.result) in
          let at-op : slice_get c.ops (x.place + length a.ops) ≡ Some code =
          stands-first c.ops [] (x.place + length a.ops) code (stands-right c.ops a.ops (code ∷ []) x.place stands.ops) in
          let apart : AllByRecursion (λ k. c.variables ≤ k.register) (y d).kept =
          (let result = first.typed.1 in let free = stands.free in omega (arith, result, free), ready.apart) in
          let done = set-local (y d) s m d (register a.result) related.kept.0.0 (hand + left) related at-op related.kept.0.1
          related.kept.0.2 apart (omega (arith, paid)) in
          simulates-from (counted r.program r.addresses) (Ends r) E (Done (Some d) (holding d s)) m done.0 done.1
          (simulates-here (counted r.program r.addresses) (Ends r) E (Done (Some d) (holding d s)) done.0 (
            d,
            refl,
            adjust r c (record (y d) { place = x.place + length a.ops + 1; hand = hand + left })
                (onwards x (assign_code q a) (nodes + 1) hand left t d) (holding d s) done.0
                (let long = one-longer a.ops code in omega (arith, long)) (omega arith) (omega arith) (omega arith) done.2 done.2.kept,
          ))

      few : (d : Datum) → (y d).owed ≤ r.most
      few d = let owed = ready.owed in omega (arith, owed)

      store-case : (b : Bool) (d : Datum) (s : State) (m : Counted) → Related r c (y d) s m
          → Does r E (and_then (and_then (given span (unless_ended b (tt {0})) r.budget s) (λ _ s. Done (tt {0}) (holding d s)))
          (λ _ s. Done (Some d) s)) m
      store-case true d s m related = put-does d s m related
      store-case false d s m related =
          bind (counted r.program r.addresses) (Ends r) (λ _ _ _. ⊥) E _ _ m
          (bind (counted r.program r.addresses) (Ends r) (λ _ _ _. ⊥) (λ _ _ _. ⊥) _ _ m
          (undefined-does r c (λ _ _ _. ⊥) span EndedCall (y d) s m (few d) related) (λ d s m no. absurd no)) (λ d s m no. absurd no)

      assigned : (p : Target) (e d : Datum) (s : State) (m : Counted) → p ≡ whole (length c.outer + k) → e ≡ d → Related r c (y d) s m
          → Does r E (assign span access p e r.budget s) m
      assigned p e d s m place datum related =
          subst (λ p. Does r E (assign span access p e r.budget s) m) (sym place)
          (subst (λ e. Does r E (assign span access (whole (length c.outer + k)) e r.budget s) m) (sym datum)
          (store-case (is_alive s (length c.outer + k)) d s m related))

      placed-ready : IsReady r c f nodes (hand + 512) (placed x hand)
      placed-ready = record {
        in_hand = refl;
        owed = let owed = ready.owed in omega (arith, owed);
        kept = ready.kept;
        apart = ready.apart;
      }

      operand-stands : IsIn c f a x.place
      operand-stands = record {
        ops = stands-left c.ops a.ops _ x.place stands.ops;
        widths = stands.widths;
        free = stands.free;
      }

      abbrev IsPlaced : Target → State → Counted → Type 0
      IsPlaced p s m = (p ≡ whole (length c.outer + k)) × Related r c (placed x hand) s m

      place-does : (s : State) (m : Counted) → Related r c x s m → Does r IsPlaced (node (local_place k) r.budget s) m
      place-does s m related =
          bind (counted r.program r.addresses) (Ends r) (λ _. Related r c (placed x hand)) IsPlaced (tick r.budget s) _ m
          (tick-does r c x s m (least_hand + (hand + 512)) (let in_hand = ready.in_hand in omega (arith, in_hand))
          (let owed = ready.owed in omega (arith, owed)) related)
          (λ _ s' m behind. simulates-here (counted r.program r.addresses) (Ends r) IsPlaced (Done (whole (s.locals + k)) s') m
          (ap (λ n. whole (n + k)) related.locals, behind))

      all-does : (s : State) (m : Counted) → Related r c x s m
          → Does r E (both (node (local_place k)) run (assign span access) r.budget s) m
      all-does s m related =
          bind (counted r.program r.addresses) (Ends r) IsPlaced E (node (local_place k) r.budget s) _ m (place-does s m related)
          (λ p s m at. bind (counted r.program r.addresses) (Ends r)
          (Given r c a IsDatum t nodes back (placed x hand) (hand + 512)) E (run r.budget s) _ m
          (first.does (placed x hand) (hand + 512) s m operand-stands placed-ready at.1)
          (λ e s m on. assigned p e on.0 s m at.0 on.1 on.2))

    pub assign-of : Evaluates r c f (assign_code q a) IsValue t (both (node (local_place k)) run (assign span access)) (nodes + 1) left
    assign-of = record {
      typed = first.typed;
      does = λ x hand s m stands ready related. all-does x hand stands ready s m related;
    }
