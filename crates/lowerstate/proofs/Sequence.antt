-- One expression after another, of which the second's value is the whole's; and conversions between widths.
use Rattle.std.proofs.Common.{◌≡◌, ℕ, ◌+◌, List, ◌++◌, length, refl, ◌∙◌, arith}
use Rattle.std.proofs.Common.{slice_get, length-append}
use Rattle.behaviour.proofs.SimulatesLemmas.{simulates-weaker, bind}
use Rattle.cmean.specs.Datum.{Datum}
use Rattle.cmean.specs.State.{State, Run, then_do}
use Rattle.lowerstate.specs.Counted.{Counted, counted}
use Rattle.lowerstate.specs.Held.{Meant}
use Rattle.lowerstate.specs.Related.{Fixed, Call, Point, Related}
use Rattle.lowerstate.specs.Stands.{Ends, Does}
use Rattle.lowerstate.specs.Piece.{Code, Free, behind, joined, least_hand, IsIn, IsReady, onwards, Given, Evaluates}
use Rattle.lowerstate.proofs.Places.{stands-left, stands-right, get-further}
use Rattle.lowerstate.proofs.Pieces.{below-more, adjust}

module _ (r : Fixed) (c : Call) {A B : Type 0} (Is : A → Datum → Type 0) (Js : B → Datum → Type 0)
    (f : Free) (a b : Code) (t u : Meant) (run : Run A) (second : Run B) (nodes others spare back : ℕ) where
  abbrev between : Point → ℕ → Point
  between x hand =
      record x { place = x.place + length a.ops; hand = hand + (least_hand + spare); owed = x.owed + nodes }

  a-place : (place : ℕ) → IsIn c f (joined a b) place → IsIn c f a place
  a-place place stands = record {
    ops = stands-left c.ops a.ops b.ops place stands.ops;
    widths = stands-left c.widths a.widths b.widths f.register stands.widths;
    free = stands.free;
  }

  b-place : (place : ℕ) → IsIn c f (joined a b) place → IsIn c (behind f a) b (place + length a.ops)
  b-place place stands = record {
    ops = stands-right c.ops a.ops b.ops place stands.ops;
    widths = stands-right c.widths a.widths b.widths f.register stands.widths;
    free = let free = stands.free in omega (arith, free);
  }

  b-ready : (x : Point) (hand : ℕ) → IsReady r c f (nodes + others) hand x
      → IsReady r c (behind f a) others (hand + spare) (between x hand)
  b-ready x hand ready = record {
    in_hand = omega arith;
    owed = let owed = ready.owed in omega (arith, owed);
    kept = below-more x.kept f.register (f.register + length a.widths) (omega arith) ready.kept;
    apart = ready.apart;
  }

  second-does : Evaluates r c (behind f a) b Js u second others back
      → (x : Point) (hand : ℕ) (i : A) (s : State) (m : Counted) → IsIn c f (joined a b) x.place → IsReady r c f (nodes + others) hand x
      → Given r c a Is t nodes (least_hand + spare) x hand i s m
      → Does r (Given r c (joined a b) Js u (nodes + others) (spare + back) x hand) (second r.budget s) m
  second-does then' x hand i s m stands ready at =
      let related : Related r c (between x hand) s m =
      adjust r c (onwards x a nodes hand (least_hand + spare) t at.0) (between x hand) s m refl (omega arith) (omega arith)
      (omega arith) at.2 at.2.kept.1
      in
      simulates-weaker (counted r.program r.addresses) (Ends r) (Given r c b Js u others back (between x hand) (hand + spare))
      (Given r c (joined a b) Js u (nodes + others) (spare + back) x hand) (Ends r)
      (λ j s m on. (
        on.0,
        on.1,
        adjust r c (onwards (between x hand) b others (hand + spare) back u on.0)
            (onwards x (joined a b) (nodes + others) hand (spare + back) u on.0) s m
            (let more = length-append a.ops b.ops in omega (arith, more)) (omega arith) (omega arith) (omega arith) on.2 on.2.kept,
      ))
      (λ cause s m ends. ends)
      (second r.budget s) m
      (then'.does (between x hand) (hand + spare) s m (b-place x.place stands) (b-ready x hand ready) related)

  pub sequence-of : Evaluates r c f a Is t run nodes (least_hand + spare) → Evaluates r c (behind f a) b Js u second others back
      → Evaluates r c f (joined a b) Js u (then_do run second) (nodes + others) (spare + back)
  sequence-of first then' = record {
    typed = (
      length a.widths + then'.typed.0,
      then'.typed.1 ∙ (let e : f.register + length a.widths + then'.typed.0 ≡ f.register + (length a.widths + then'.typed.0) =
          omega arith in e),
      behind-get a.widths then'.typed.0 ∙ then'.typed.2,
    );
    does = λ x hand s m stands ready related.
        bind (counted r.program r.addresses) (Ends r) (Given r c a Is t nodes (least_hand + spare) x hand)
        (Given r c (joined a b) Js u (nodes + others) (spare + back) x hand) (run r.budget s) (λ _. second r.budget) m
        (first.does x hand s m (a-place x.place stands)
        (record { in_hand = ready.in_hand; owed = let owed = ready.owed in omega (arith, owed); kept = ready.kept; apart = ready.apart })
        related)
        (λ i s m at. second-does then' x hand i s m stands ready at);
  }
    where
      behind-get : (ws : List _) (i : ℕ) → slice_get (ws ++ b.widths) (length ws + i) ≡ slice_get b.widths i
      behind-get ws i = get-further ws b.widths i
