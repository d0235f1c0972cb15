-- A value, and a jump by its truth.
use Rattle.std.proofs.Common.{◌≡◌, ℕ, ◌+◌, ◌<◌, ◌≤◌, ◌==◌, Bool, true, false, not, if◌then◌else◌, [], ◌∷◌, length, refl, sym, ap, ◌∙◌, arith}
use Rattle.std.proofs.Common.{Some, slice_get, length-append}
use Rattle.behaviour.specs.Ran.{Done}
use Rattle.midcode.specs.declared.op.OpKind.TheVariants as op
use Rattle.midcode.specs.Meaning.{standing_at, is_met}
use Rattle.cmean.specs.Datum.{Datum, is_true}
use Rattle.cmean.specs.State.{State, Run}
use Rattle.cmean.specs.Expression.{Valued, truth}
use Rattle.lowerstate.specs.Counted.{Counted}
use Rattle.lowerstate.specs.Held.{Meant, Home, Held}
use Rattle.lowerstate.specs.Related.{Fixed, Call, IsCall, Point, Related}
use Rattle.lowerstate.specs.Stands.{Does}
use Rattle.lowerstate.specs.Piece.{Code, Free, IsIn, IsReady, onwards, Given, Evaluates, IsValue, register}
use Rattle.lowerstate.proofs.Converted.{IsTruth, truth-of}
use Rattle.lowerstate.proofs.Places.{stands-first, stands-left, stands-right, one-longer}
use Rattle.lowerstate.proofs.Pieces.{adjust}
use Rattle.lowerstate.proofs.Room.{AreWithin, stored-within, zero-where-false}
use Rattle.lowerstate.specs.Related.{homes_with}
use Rattle.lowerflow.specs.Goes.{past, jumps, Tests}
use Rattle.lowerflow.specs.Codes.{label, test_at, test_op, test_code}
use Rattle.lowerflow.proofs.Walk.{go-branch, go-branch-back}
use Rattle.lowerflow.proofs.Ways.{does-here, does-more}

met : (sense b : Bool) (v : ℕ) → (v == 0) ≡ not b → is_met (test_at sense) v 0 ≡ jumps sense b
met false b v is = is
met true b v is = ap not is ∙ not-not b
  where
    not-not : (b : Bool) → not (not b) ≡ b
    not-not true = refl
    not-not false = refl

module _ (r : Fixed) (c : Call) (call : IsCall r c) (f : Free) (a : Code) (t : Meant) (sense : Bool) (l : ℕ) (run : Run Valued)
    (nodes left : ℕ) (first : Evaluates r c f a IsValue t run nodes (left + 9)) where
  abbrev reached : Point → ℕ → Bool → ℕ → Point
  reached x hand b owed = record (past x (test_code sense l a) nodes (hand + left)) {
    place = if jumps sense b then standing_at c.ops l else x.place + length (test_code sense l a).ops;
    owed = owed;
  }

  module _ (x : Point) (hand : ℕ) (stands : IsIn c f (test_code sense l a) x.place) (ready : IsReady r c f nodes hand x) where
    operand-in : IsIn c f a x.place
    operand-in = record {
      ops = stands-left c.ops a.ops (test_op sense l a.result ∷ []) x.place stands.ops;
      widths = stands.widths;
      free = stands.free;
    }

    branch-at : slice_get c.ops (x.place + length a.ops) ≡ Some (test_op sense l a.result)
    branch-at =
        stands-first c.ops [] (x.place + length a.ops) (test_op sense l a.result)
        (stands-right c.ops a.ops (test_op sense l a.result ∷ []) x.place stands.ops)

    is-met : (b : Bool) (d : Datum) (s : State) (m : Counted) → IsTruth r c call b d
        → (related : Related r c (onwards x a nodes hand (left + 9) t d) s m)
        → is_met (test_at sense) related.kept.0.0 0 ≡ jumps sense b
    is-met b d s m is related =
        met sense b related.kept.0.0
        (zero-where-false r.layouts (homes_with c related.later) t d related.kept.0.0
        (stored-within r c (onwards x a nodes hand (left + 9) t d) s m related) related.kept.0.2 ∙ ap not (sym is))

    same-place : (b : Bool) → (if b then standing_at c.ops l else x.place + length a.ops + 1)
        ≡ (if b then standing_at c.ops l else x.place + length (test_code sense l a).ops)
    same-place b =
        let long = one-longer a.ops (test_op sense l a.result) in
        let e : x.place + length a.ops + 1 ≡ x.place + length (test_code sense l a).ops = omega (arith, long) in
        ap (λ n. if b then standing_at c.ops l else n) e

    few : x.owed + nodes ≤ r.most
    few = ready.owed

    tested : (b : Bool) (d : Datum) (s : State) (m : Counted) → IsTruth r c call b d → Related r c (onwards x a nodes hand (left + 9) t d) s m
        → Does r (λ b. Related r c (reached x hand b (x.owed + nodes))) (Done b s) m
    tested b d s m is related =
        go-branch r c call (λ b. Related r c (reached x hand b (x.owed + nodes))) (Done b s)
        (onwards x a nodes hand (left + 9) t d) s m few related (register a.result) (test_at sense) related.kept.0.0 (label l) (hand + left)
        (jumps sense b) branch-at related.kept.0.1 (is-met b d s m is related) (omega arith)
        (λ m' at. does-here r (λ b. Related r c (reached x hand b (x.owed + nodes))) b s m'
        (adjust r c (record (onwards x a nodes hand (left + 9) t d) {
          place = if jumps sense b then standing_at c.ops l else x.place + length a.ops + 1;
          hand = hand + left;
        }) (reached x hand b (x.owed + nodes)) s m' (same-place (jumps sense b)) (omega arith) (omega arith) (omega arith) at at.kept.1))

    -- a jump back, behind which nothing is owed
    tested-back : (at : ℕ) → slice_get c.ops at ≡ Some (op.Label (label l)) → at < x.place → (b : Bool) (d : Datum) (s : State) (m : Counted)
        → IsTruth r c call b d → Related r c (onwards x a nodes hand (left + 9) t d) s m
        → Does r (λ b. Related r c (reached x hand b 0)) (Done b s) m
    tested-back at there before b d s m is related =
        go-branch-back r c call (λ b. Related r c (reached x hand b 0)) (Done b s)
        (onwards x a nodes hand (left + 9) t d) s m few related (register a.result) (test_at sense) related.kept.0.0 (label l) at (hand + left)
        (jumps sense b) branch-at there (omega (arith, before)) related.kept.0.1 (is-met b d s m is related) (omega arith)
        (λ m' at. does-here r (λ b. Related r c (reached x hand b 0)) b s m'
        (adjust r c (record (onwards x a nodes hand (left + 9) t d) {
          place = if jumps sense b then standing_at c.ops l else x.place + length a.ops + 1;
          hand = hand + left;
          owed = 0;
        }) (reached x hand b 0) s m' (same-place (jumps sense b)) (omega arith) (omega arith) (omega arith) at at.kept.1))

  pub test-of : Tests r c f (test_code sense l a) sense l (truth run) nodes left
  test-of = record {
    does = λ x hand s m stands ready related.
        does-more r (Given r c a (IsTruth r c call) t nodes (left + 9) x hand) (λ b. Related r c (reached x hand b (x.owed + nodes)))
        (truth run r.budget s) m
        ((truth-of r c call f a t run nodes (left + 9) first).does x hand s m (operand-in x hand stands ready) ready related)
        (λ b s m at. tested x hand stands ready b at.0 s m at.1 at.2);
  }

  pub test-back : (x : Point) (hand : ℕ) (s : State) (m : Counted) → IsIn c f (test_code sense l a) x.place → IsReady r c f nodes hand x
      → (at : ℕ) → slice_get c.ops at ≡ Some (op.Label (label l)) → at < x.place → Related r c x s m
      → Does r (λ b. Related r c (reached x hand b 0)) (truth run r.budget s) m
  test-back x hand s m stands ready at there before related =
      does-more r (Given r c a (IsTruth r c call) t nodes (left + 9) x hand) (λ b. Related r c (reached x hand b 0)) (truth run r.budget s) m
      ((truth-of r c call f a t run nodes (left + 9) first).does x hand s m (operand-in x hand stands ready) ready related)
      (λ b s m on. tested-back x hand stands ready at there before b on.0 s m on.1 on.2)
