-- Two pieces, one behind the other, and an operation on what both give.
use Rattle.std.proofs.Common.{◌≡◌, ℕ, ◌+◌, ◌≤◌, List, [], ◌∷◌, ◌++◌, length, refl, sym, subst, ap, ◌∙◌, arith}
use Rattle.std.proofs.Common.{Some, slice_get, length-append}
use Rattle.std.proofs.lemmas.Option.{slice_get_within}
use Rattle.behaviour.specs.Ran.{Done}
use Rattle.behaviour.proofs.SimulatesLemmas.{simulates-here, simulates-from, bind}
use Rattle.prunum.specs.Number.{wrap}
use Rattle.midcode.specs.declared.register.VReg.{VReg}
use Rattle.midcode.specs.declared.op.OpKind.{OpKind}
use Rattle.midcode.specs.Cost.{charge}
use Rattle.midcode.specs.Machine as machine
use Rattle.midcode.specs.Meaning.{effect, charged}
use Rattle.cmean.specs.Datum.{Datum}
use Rattle.cmean.specs.State.{State, Run, give, then_with}
use Rattle.cmean.specs.Expression.{both}
use Rattle.lowerstate.specs.Counted.{Counted, counted}
use Rattle.lowerstate.specs.Held.{Meant, meant_width, Home, Held}
use Rattle.lowerstate.specs.Related.{Fixed, Call, IsCall, Point, homes_with, Related}
use Rattle.lowerstate.specs.Stands.{Ends, Does}
use Rattle.lowerstate.specs.Piece.{Code, Free, behind, joined, next_register, followed, least_hand, IsIn, IsReady, onwards, Given}
use Rattle.lowerstate.specs.Piece.{Evaluates, register}
use Rattle.lowerstate.proofs.Laws.{written, wrote}
use Rattle.lowerstate.proofs.Places.{stands-first, stands-left, stands-right, one-longer, get-last}
use Rattle.lowerstate.proofs.Pieces.{below-more, adjust}

module _ (r : Fixed) (c : Call) (call : IsCall r c) {A B C : Type 0} (Is : A → Datum → Type 0) (Js : B → Datum → Type 0)
    (Ks : C → Datum → Type 0) (f : Free) (a b : Code) (t u w : Meant) (run : Run A) (second : Run B) (nodes others spare back left : ℕ)
    (next : A → B → Run C) (k : OpKind) where
  abbrev all : Code
  all = followed f (joined a b) k (meant_width w)

  -- what the operation does with two values
  abbrev pub Joins : Type 0
  Joins = (homes : List Home) (s : machine.State) (x : A) (y : B) (d e : Datum) (m n : ℕ) → Is x d → Js y e
      → Held r.layouts homes t d m → Held r.layouts homes u e n
      → s.frame.registers a.result ≡ Some m → s.frame.registers b.result ≡ Some n
      → (z : C) × (g : Datum) × (v : ℕ) × (next x y ≡ give z) × Ks z g
      × (effect r.program r.addresses k s ≡ Done tt (written r.program (register (next_register f (joined a b))) v s))
      × Held r.layouts homes w g (wrap (meant_width w) v)

  -- behind the first piece
  abbrev middle : Point → ℕ → Datum → Point
  middle x hand d = onwards x a nodes hand (least_hand + spare) t d

  a-place : (place : ℕ) → IsIn c f all place → IsIn c f a place
  a-place place stands = record {
    ops = stands-left c.ops a.ops b.ops place (stands-left c.ops (a.ops ++ b.ops) (k ∷ []) place stands.ops);
    widths = stands-left c.widths a.widths b.widths f.register
        (stands-left c.widths (a.widths ++ b.widths) (meant_width w ∷ []) f.register stands.widths);
    free = stands.free;
  }

  b-place : (place : ℕ) → IsIn c f all place → IsIn c (behind f a) b (place + length a.ops)
  b-place place stands = record {
    ops = stands-right c.ops a.ops b.ops place (stands-left c.ops (a.ops ++ b.ops) (k ∷ []) place stands.ops);
    widths = stands-right c.widths a.widths b.widths f.register
        (stands-left c.widths (a.widths ++ b.widths) (meant_width w ∷ []) f.register stands.widths);
    free = let free = stands.free in omega (arith, free);
  }

  last : Evaluates r c f a Is t run nodes (least_hand + spare)
      → charge k + left ≤ spare + back → Joins
      → (x : Point) (hand : ℕ) (i : A) (j : B) (s : State) (m : Counted) (d e : Datum) → Is i d → Js j e
      → IsIn c f all x.place → IsReady r c f (nodes + others) hand x
      → Related r c (onwards (middle x hand d) b others (hand + spare) back u e) s m
      → Does r (Given r c all Ks w (nodes + others) left x hand) (next i j r.budget s) m
  last first paid joins x hand i j s m d e is js stands ready related =
      let y : Point = onwards (middle x hand d) b others (hand + spare) back u e in
      let code : Code = joined a b in
      let q : VReg = register (next_register f code) in
      let more = length-append a.ops b.ops in
      let new = joins (homes_with c related.later) (charged k m.state) i j d e related.kept.1.0.0 related.kept.0.0 is js
      related.kept.1.0.2 related.kept.0.2 related.kept.1.0.1 related.kept.0.1 in
      let at-op : slice_get c.ops (x.place + length code.ops) ≡ Some k =
      stands-first c.ops [] (x.place + length code.ops) k (stands-right c.ops code.ops (k ∷ []) x.place stands.ops) in
      let same-place : x.place + length a.ops + length b.ops ≡ x.place + length code.ops = omega (arith, more) in
      let done = wrote r c call y s m k q (meant_width w) w new.1 new.2 (hand + left) x.kept related
      (ap (λ n. slice_get c.ops n) same-place ∙ at-op)
      (stands-first c.widths [] (f.register + length code.widths) (meant_width w)
      (stands-right c.widths code.widths (meant_width w ∷ []) f.register stands.widths))
      (let free = stands.free in omega (arith, free))
      (below-more x.kept f.register (next_register f code) (omega arith) ready.kept)
      related.kept.1.1 new.5 new.6 (omega (arith, paid)) in
      subst (λ run. Does r (Given r c all Ks w (nodes + others) left x hand) run m) (sym (ap (λ g. g r.budget s) new.3))
      (simulates-from (counted r.program r.addresses) (Ends r) (Given r c all Ks w (nodes + others) left x hand) (Done new.0 s) m done.0
      done.1
      (simulates-here (counted r.program r.addresses) (Ends r) (Given r c all Ks w (nodes + others) left x hand) (Done new.0 s) done.0 (
        new.1,
        new.4,
        adjust r c (record y {
          place = x.place + length a.ops + length b.ops + 1;
          kept = record { register = next_register f code; meant = w; datum = new.1 } ∷ x.kept;
          hand = hand + left;
        }) (onwards x all (nodes + others) hand left w new.1) s done.0
            (let long = one-longer code.ops k in omega (arith, long, more)) (omega arith) (omega arith) (omega arith) done.2 done.2.kept,
      )))

  b-ready : Evaluates r c f a Is t run nodes (least_hand + spare) → c.variables ≤ f.register → (x : Point) (hand : ℕ) (d : Datum)
      → IsReady r c f (nodes + others) hand x → IsReady r c (behind f a) others (hand + spare) (middle x hand d)
  b-ready first free x hand d ready = record {
    in_hand = omega arith;
    owed = let owed = ready.owed in omega (arith, owed);
    kept = (
      (let result = first.typed.1 in
          let within = slice_get_within a.widths first.typed.0 (meant_width t) first.typed.2 in omega (arith, result, within)),
      below-more x.kept f.register (f.register + length a.widths) (omega arith) ready.kept,
    );
    apart = (let result = first.typed.1 in omega (arith, result, free), ready.apart);
  }

  pub both-op : Evaluates r c f a Is t run nodes (least_hand + spare) → Evaluates r c (behind f a) b Js u second others back
      → charge k + left ≤ spare + back → Joins
      → Evaluates r c f all Ks w (both run second next) (nodes + others) left
  both-op first then' paid joins = record {
    typed = (length (a.widths ++ b.widths), refl, get-last (a.widths ++ b.widths) (meant_width w));
    does = λ x hand s m stands ready related.
        bind (counted r.program r.addresses) (Ends r)
        (Given r c a Is t nodes (least_hand + spare) x hand) (Given r c all Ks w (nodes + others) left x hand)
        (run r.budget s) (λ i. then_with second (next i) r.budget) m
        (first.does x hand s m (a-place x.place stands)
        (record { in_hand = ready.in_hand; owed = let owed = ready.owed in omega (arith, owed); kept = ready.kept; apart = ready.apart })
        related)
        (λ i s m at. bind (counted r.program r.addresses) (Ends r)
        (Given r c b Js u others back (middle x hand at.0) (hand + spare)) (Given r c all Ks w (nodes + others) left x hand)
        (second r.budget s) (λ j. next i j r.budget) m
        (then'.does (middle x hand at.0) (hand + spare) s m (b-place x.place stands) (b-ready first stands.free x hand at.0 ready) at.2)
        (λ j s m on. last first paid joins x hand i j s m at.0 on.0 at.1 on.1 stands ready on.2));
  }
