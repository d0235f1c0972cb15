-- What the code of each statement does, by induction on the statement.
use Rattle.std.proofs.Common.{◌≡◌, ℕ, ◌+◌, ◌≤◌, Bool, true, false, if◌then◌else◌, List, [], ◌∷◌, length, refl, sym, subst, ap, ◌∙◌, arith}
use Rattle.std.proofs.Common.{Option, Some, None, slice_get}
use Rattle.std.specs.Global.{Box}
use Rattle.behaviour.specs.Ran.{Done, Again}
use Rattle.midcode.specs.declared.op.OpKind.TheVariants as op
use Rattle.midcode.specs.Meaning.{standing_at}
use Rattle.cprogram.specs.Layout.{Shape}
use Rattle.cprogram.specs.declared.value.Value.{Value}
use Rattle.cprogram.specs.declared.value.ValueKind.{ValueKind}
use Rattle.cprogram.specs.declared.statement.ForFirst.{ForFirst}
use Rattle.cprogram.specs.declared.statement.ForFirst.TheVariants as first
use Rattle.cprogram.specs.declared.statement.StmtKind as stmt
use Rattle.cprogram.specs.declared.statement.StmtKind.{StmtKind}
use Rattle.cprogram.specs.declared.statement.Items as items
use Rattle.cmean.specs.State.{State, Run, give, then_with, then_do, node, entered}
use Rattle.cmean.specs.Expression.{Valued, Calls, value_kind, truth}
use Rattle.cmean.specs.Statement.{Flow, Next, Broke, Continued, value_of, effect, condition, for_first, stmt_kind, run_items, after_body}
use Rattle.cmean.specs.Statement.{behind_body, for_loop}
use Rattle.lowerstate.specs.Counted.{Counted}
use Rattle.lowerstate.specs.Held.{Meant}
use Rattle.lowerstate.specs.Related.{Fixed, Call, IsCall, Point, Related}
use Rattle.lowerstate.specs.Piece.{Code, Free, behind, joined, node_back, least_hand}
use Rattle.lowerstate.proofs.Places.{stands-first}
use Rattle.lowerstate.proofs.Pieces.{adjust}
use Rattle.lowerflow.specs.Goes.{Exits, no_exits, past, Ended, Goes, Begins, always_next, itself, jumps, Tests}
use Rattle.lowerflow.specs.Codes.{label, reserve, no_code, op_code, test_code, either_code, if_code, loop_exits, loop_code, do_code}
use Rattle.lowerflow.specs.Code.{with_code, value_code, effect_code, condition_code, first_code, exit_code, stmt_code, items_code}
use Rattle.lowerflow.specs.Claims.{Meets, Values, AreDeclared, StatementLaw}
use Rattle.lowerflow.specs.Nodes.{value_nodes, option_nodes, first_nodes, stmt_nodes, items_nodes}
use Rattle.lowerflow.specs.Typed.{Declared, IsValueOf, IsEffect, IsOptionalCondition, IsFirstOf, IsStatement, AreItems}
use Rattle.lowerflow.proofs.Walk.{go-jump}
use Rattle.lowerflow.proofs.Ways.{does-here, does-more, with-exits, less-back, begins-of, entered-of, giving-of, then-of, next-of}
use Rattle.lowerflow.proofs.Testing.{test-of}
use Rattle.lowerflow.proofs.Chosen.{either-of, if-of}
use Rattle.lowerflow.proofs.Turning.{loop-of, do-of}
use Rattle.lowerflow.proofs.Regions.{region-of}
use Rattle.lowerflow.proofs.EachKind.{bound, unused}
use Rattle.lowerflow.proofs.Values.{value-of}

weaker : (o : Option Code) (P Q : Code → Type 0) → Meets P o → ((a : Code) → P a → Q a) → Meets Q o
weaker None P Q at more = tt
weaker (Some a) P Q at more = more a at

module _ (r : Fixed) (c : Call) where
  nothing-of : {A : Type 0} (e : Exits) (f : Free) (flow : A → Flow) (a : A) → flow a ≡ Next
      → Goes r c e f no_code flow (give a) 0 least_hand
  nothing-of e f flow a same = record {
    does = λ x hand s m stands ready related.
        let y : Point = past x no_code 0 (hand + least_hand) in
        does-here r (λ i. Ended r c e y (flow i)) a s m (subst (λ w. Ended r c e y w s m) (sym same)
        (adjust r c x y s m (omega arith) (let in_hand = ready.in_hand in omega (arith, in_hand)) (omega arith) (omega arith) related
        related.kept));
  }

  never-jumps : (f : Free) (l : ℕ) → Tests r c f no_code false l (give true) 0 least_hand
  never-jumps f l = record {
    does = λ x hand s m stands ready related.
        let D : Bool → State → Counted → Type 0 = λ truth. Related r c (record (past x no_code 0 (hand + least_hand)) {
          place = if jumps false truth then standing_at c.ops l else x.place + length no_code.ops;
        }) in
        does-here r D true s m
        (adjust r c x (past x no_code 0 (hand + least_hand)) s m (omega arith) (let in_hand = ready.in_hand in omega (arith, in_hand))
        (omega arith) (omega arith) related related.kept);
  }

  tests-less : (f : Free) (code : Code) (sense : Bool) (l : ℕ) (run : Run Bool) (nodes back left : ℕ) → left ≤ back
      → Tests r c f code sense l run nodes back → Tests r c f code sense l run nodes left
  tests-less f code sense l run nodes back left few first = record {
    does = λ x hand s m stands ready related.
        let at : ℕ → Bool → Point = λ h truth. record (past x code nodes h) {
          place = if jumps sense truth then standing_at c.ops l else x.place + length code.ops;
        } in
        does-more r (λ truth. Related r c (at (hand + back) truth)) (λ truth. Related r c (at (hand + left) truth)) (run r.budget s) m
        (first.does x hand s m stands ready related)
        (λ truth s m on. does-here r (λ truth. Related r c (at (hand + left) truth)) truth s m
        (adjust r c (at (hand + back) truth) (at (hand + left) truth) s m refl (omega (arith, few)) (omega arith) (omega arith) on on.kept));
  }

module _ (r : Fixed) (c : Call) (call : IsCall r c) (e : Exits) (f : Free) (l : ℕ) where
  break-of : e.broke ≡ Some l → Goes r c e f (op_code (op.Jump (label l))) itself (give Broke) 0 0
  break-of is = record {
    does = λ x hand s m stands ready related.
        let y : Point = past x (op_code (op.Jump (label l))) 0 (hand + 0) in
        go-jump r c call (Ended r c e y) (Done Broke s) x s m (let owed = ready.owed in omega (arith, owed)) related (label l) (hand + 0)
        (stands-first c.ops [] x.place (op.Jump (label l)) stands.ops) (let in_hand = ready.in_hand in omega (arith, in_hand))
        (λ m' on. does-here r (Ended r c e y) Broke s m' (
          l,
          is,
          adjust r c (record x { place = standing_at c.ops l; hand = hand + 0 }) (record y { place = standing_at c.ops l }) s m' refl
              (omega arith) (omega arith) (omega arith) on on.kept,
        ));
  }

  continue-of : e.continued ≡ Some l → Goes r c e f (op_code (op.Jump (label l))) itself (give Continued) 0 0
  continue-of is = record {
    does = λ x hand s m stands ready related.
        let y : Point = past x (op_code (op.Jump (label l))) 0 (hand + 0) in
        go-jump r c call (Ended r c e y) (Done Continued s) x s m (let owed = ready.owed in omega (arith, owed)) related (label l) (hand + 0)
        (stands-first c.ops [] x.place (op.Jump (label l)) stands.ops) (let in_hand = ready.in_hand in omega (arith, in_hand))
        (λ m' on. does-here r (Ended r c e y) Continued s m' (
          l,
          is,
          adjust r c (record x { place = standing_at c.ops l; hand = hand + 0 }) (record y { place = standing_at c.ops l }) s m' refl
              (omega arith) (omega arith) (omega arith) on on.kept,
        ));
  }

module _ (r : Fixed) (c : Call) (call : IsCall r c) (d : Declared) (declared : AreDeclared d c.own) (calls : Calls) (shapes : List Shape)
  where
    abbrev Of : Value → Free → Option Meant → Code → Type 0
    Of v f t code = Values r c f code t (node (value_kind calls v.mark.span v.kind)) (value_nodes v.kind) node_back

    value : (v : Value) (f : Free) (t : Option Meant) → IsValueOf d v.kind t
        → Meets (Of v f t) (value_code c.own f v.kind)
    value v f t typed = value-of r c call d declared calls v.kind v.mark.span f t typed

    abbrev Effect : Option (Box Value) → Free → Code → Type 0
    Effect v f code = Goes r c no_exits f code always_next (effect calls v) (option_nodes v) least_hand

    effect-of : (v : Option (Box Value)) (f : Free) → IsEffect d v → Meets (Effect v f) (effect_code c.own f v)
    effect-of None f typed = nothing-of r c no_exits f always_next tt refl
    effect-of (Some v) f typed =
        weaker (value_code c.own f v.value.kind) (Of v.value f typed.0) (Effect (Some v) f) (value v.value f typed.0 typed.1)
        (λ code first. less-back r c always_next f code (effect calls (Some v)) (value_nodes v.value.kind) node_back no_exits least_hand
        (omega arith)
        (giving-of r c always_next f code (value_of calls v) (value_nodes v.value.kind) node_back no_exits always_next (λ _. tt) (λ _. refl)
        (unused r c f code typed.0 (value_of calls v) (value_nodes v.value.kind) node_back first)))

    abbrev Condition : Option (Box Value) → Free → ℕ → Code → Type 0
    Condition v f l code = Tests r c f code false l (condition calls v) (option_nodes v) least_hand

    condition-of : (v : Option (Box Value)) (f : Free) (l : ℕ) → IsOptionalCondition d v
        → Meets (Condition v f l) (condition_code c.own f l v)
    condition-of None f l typed = never-jumps r c f l
    condition-of (Some v) f l typed =
        bound (value_code c.own f v.value.kind) (λ a. Some (test_code false l a)) (Of v.value f (Some typed.0)) (Condition (Some v) f l)
        (value v.value f (Some typed.0) typed.1)
        (λ a first. tests-less r c f (test_code false l a) false l (truth (value_of calls v)) (value_nodes v.value.kind) 311 least_hand
        (omega arith) (test-of r c call f a typed.0 false l (value_of calls v) (value_nodes v.value.kind) 311 first))

    abbrev First : ForFirst → Free → Code → Type 0
    First w f code = Goes r c no_exits f code always_next (for_first calls shapes w) (first_nodes w) least_hand

    first-of : (w : ForFirst) (f : Free) → IsFirstOf d w → Meets (First w f) (first_code c.own f w)
    first-of (first.Expression v) f typed = effect-of v f typed
    first-of (first.Declarations ds) f typed = tt

    -- ---- statements

    abbrev Stmt : StmtKind → Exits → Free → Code → Type 0
    Stmt v e f code = Begins r c e f code (stmt_kind calls shapes v) (stmt_nodes v)

    abbrev Items : items.Items → Exits → Free → Code → Type 0
    Items list e f code = Goes r c e f code itself (run_items calls shapes list) (items_nodes list) least_hand

    entering : (v : StmtKind) (e : Exits) (f : Free) (code : Code) → Stmt v e f code
        → Goes r c e f code itself (entered (stmt_kind calls shapes v)) (stmt_nodes v + 1) node_back
    entering v e f code first = entered-of r c e f code (stmt_kind calls shapes v) (stmt_nodes v) first

    exits : (e : Exits) (f : Free) (o : Option ℕ) (flow : Flow)
        → ((l : ℕ) → o ≡ Some l → Begins r c e f (op_code (op.Jump (label l))) (give flow) 0)
        → Meets (λ code. Begins r c e f code (give flow) 0) (exit_code c.own o)
    exits e f None flow each = tt
    exits e f (Some l) flow each = each l refl

    mutual
      pub stmt-of : StatementLaw r c d calls shapes
      stmt-of (stmt.Block list) e f typed =
          weaker (items_code c.own e f list) (Items list e f) (Stmt (stmt.Block list) e f) (items-of list e f typed)
          (λ code first. begins-of r c e f code (run_items calls shapes list) (items_nodes list) least_hand first)
      stmt-of (stmt.Expression v) e f typed =
          weaker (effect_code c.own f v) (Effect v f) (Stmt (stmt.Expression v) e f) (effect-of v f typed)
          (λ code first. begins-of r c e f code (then_do (effect calls v) (give Next)) (option_nodes v) least_hand
          (with-exits r c itself f code (then_do (effect calls v) (give Next)) (option_nodes v) least_hand e
          (giving-of r c always_next f code (effect calls v) (option_nodes v) least_hand no_exits itself (λ _. Next) (λ _. refl) first)))
      stmt-of (stmt.If' q bx m a) e f typed =
          bound (value_code c.own (reserve 1 f) q.value.kind) _ (Of q.value (reserve 1 f) (Some typed.0.0)) (Stmt (stmt.If' q bx m a) e f)
          (value q.value (reserve 1 f) (Some typed.0.0) typed.0.1)
          (λ k cond. bound (stmt_code c.own e (behind (reserve 1 f) k) a) _ (Stmt a e (behind (reserve 1 f) k)) (Stmt (stmt.If' q bx m a) e f)
          (stmt-of a e (behind (reserve 1 f) k) typed.1)
          (λ x body. begins-of r c e f (if_code f (test_code false f.label k) x) (stmt_kind calls shapes (stmt.If' q bx m a))
          (value_nodes q.value.kind + (stmt_nodes a + 1)) 300
          (if-of r c call e f (test_code false f.label k) x (truth (value_of calls q)) (entered (stmt_kind calls shapes a))
          (value_nodes q.value.kind) (stmt_nodes a + 1)
          (test-of r c call (reserve 1 f) k typed.0.0 false f.label (value_of calls q) (value_nodes q.value.kind) 311 cond)
          (entering a e (behind (reserve 1 f) k) x body))))
      stmt-of (stmt.IfElse' q bx m a by n b) e f typed =
          bound (value_code c.own (reserve 2 f) q.value.kind) _ (Of q.value (reserve 2 f) (Some typed.0.0))
          (Stmt (stmt.IfElse' q bx m a by n b) e f) (value q.value (reserve 2 f) (Some typed.0.0) typed.0.1)
          (λ k cond. bound (stmt_code c.own e (behind (reserve 2 f) k) a) _ (Stmt a e (behind (reserve 2 f) k))
          (Stmt (stmt.IfElse' q bx m a by n b) e f) (stmt-of a e (behind (reserve 2 f) k) typed.1)
          (λ x body. bound (stmt_code c.own e (behind (behind (reserve 2 f) k) x) b) _ (Stmt b e (behind (behind (reserve 2 f) k) x))
          (Stmt (stmt.IfElse' q bx m a by n b) e f) (stmt-of b e (behind (behind (reserve 2 f) k) x) typed.2)
          (λ y other. begins-of r c e f (either_code f (test_code false f.label k) x y)
          (stmt_kind calls shapes (stmt.IfElse' q bx m a by n b)) (value_nodes q.value.kind + (stmt_nodes a + 1 + (stmt_nodes b + 1))) 300
          (either-of r c call e itself f (test_code false f.label k) x y (truth (value_of calls q)) (entered (stmt_kind calls shapes a))
          (entered (stmt_kind calls shapes b)) (value_nodes q.value.kind) (stmt_nodes a + 1) (stmt_nodes b + 1)
          (test-of r c call (reserve 2 f) k typed.0.0 false f.label (value_of calls q) (value_nodes q.value.kind) 311 cond)
          (entering a e (behind (reserve 2 f) k) x body) (entering b e (behind (behind (reserve 2 f) k) x) y other)))))
      stmt-of (stmt.While' q bx m a) e f typed =
          bound (value_code c.own (reserve 3 f) q.value.kind) _ (Of q.value (reserve 3 f) (Some typed.0.0)) (Stmt (stmt.While' q bx m a) e f)
          (value q.value (reserve 3 f) (Some typed.0.0) typed.0.1)
          (λ k cond. bound (stmt_code c.own (loop_exits f) (behind (reserve 3 f) k) a) _ (Stmt a (loop_exits f) (behind (reserve 3 f) k))
          (Stmt (stmt.While' q bx m a) e f) (stmt-of a (loop_exits f) (behind (reserve 3 f) k) typed.1)
          (λ x body. begins-of r c e f (loop_code f (test_code false (f.label + 2) k) x no_code) (stmt_kind calls shapes (stmt.While' q bx m a))
          (value_nodes q.value.kind + (stmt_nodes a + 1 + 0)) 0
          (loop-of r c call e f (test_code false (f.label + 2) k) x no_code (truth (value_of calls q)) (stmt_kind calls shapes a)
          (give tt) (λ flow. give (after_body flow)) (value_nodes q.value.kind) (stmt_nodes a) 0
          (tests-less r c (reserve 3 f) (test_code false (f.label + 2) k) false (f.label + 2) (truth (value_of calls q))
          (value_nodes q.value.kind) 311 least_hand (omega arith)
          (test-of r c call (reserve 3 f) k typed.0.0 false (f.label + 2) (value_of calls q) (value_nodes q.value.kind) 311 cond)) body
          (nothing-of r c no_exits (behind (behind (reserve 3 f) k) x) always_next tt refl) refl refl refl)))
      stmt-of (stmt.Do' bx m a q) e f typed =
          bound (stmt_code c.own (loop_exits f) (reserve 3 f) a) _ (Stmt a (loop_exits f) (reserve 3 f)) (Stmt (stmt.Do' bx m a q) e f)
          (stmt-of a (loop_exits f) (reserve 3 f) typed.0)
          (λ x body. bound (value_code c.own (behind (reserve 3 f) x) q.value.kind) _ (Of q.value (behind (reserve 3 f) x) (Some typed.1.0))
          (Stmt (stmt.Do' bx m a q) e f) (value q.value (behind (reserve 3 f) x) (Some typed.1.0) typed.1.1)
          (λ k cond. begins-of r c e f (do_code f x (test_code true f.label k)) (stmt_kind calls shapes (stmt.Do' bx m a q))
          (stmt_nodes a + 1 + value_nodes q.value.kind) 0
          (do-of r c call e f x k typed.1.0 (stmt_kind calls shapes a) (value_of calls q) (stmt_nodes a) (value_nodes q.value.kind)
          body cond)))
      stmt-of (stmt.For' w q third bx m a None) e f typed =
          bound (first_code c.own f w) _ (First w f) (Stmt (stmt.For' w q third bx m a None) e f) (first-of w f typed.0)
          (λ x begin.
          let g : Free = behind f x in
          bound (condition_code c.own (reserve 3 g) (g.label + 2) q) _ (Condition q (reserve 3 g) (g.label + 2))
          (Stmt (stmt.For' w q third bx m a None) e f) (condition-of q (reserve 3 g) (g.label + 2) typed.1)
          (λ k test. bound (stmt_code c.own (loop_exits g) (behind (reserve 3 g) k) a) _ (Stmt a (loop_exits g) (behind (reserve 3 g) k))
          (Stmt (stmt.For' w q third bx m a None) e f) (stmt-of a (loop_exits g) (behind (reserve 3 g) k) typed.3)
          (λ y body. bound (effect_code c.own (behind (behind (reserve 3 g) k) y) third) _ (Effect third (behind (behind (reserve 3 g) k) y))
          (Stmt (stmt.For' w q third bx m a None) e f) (effect-of third (behind (behind (reserve 3 g) k) y) typed.2)
          (λ z last. begins-of r c e f (joined x (loop_code g k y z)) (stmt_kind calls shapes (stmt.For' w q third bx m a None))
          (first_nodes w + (option_nodes q + (stmt_nodes a + 1 + option_nodes third))) 0
          (then-of r c f x (loop_code g k y z) (for_first calls shapes w)
          (for_loop (condition calls q) (effect calls third) (entered (stmt_kind calls shapes a))) (first_nodes w)
          (option_nodes q + (stmt_nodes a + 1 + option_nodes third)) 0 0 e itself begin
          (loop-of r c call e g k y z (condition calls q) (stmt_kind calls shapes a) (effect calls third)
          (behind_body (then_do (effect calls third) (give Again))) (option_nodes q) (stmt_nodes a)
          (option_nodes third) test body last refl refl refl))))))
      stmt-of (stmt.For' w q third bx m a (Some turns)) e f typed = tt
      stmt-of stmt.Break e f typed = exits e f e.broke Broke (λ l is. begins-of r c e f (op_code (op.Jump (label l))) (give Broke) 0 0 (break-of r c call e f l is))
      stmt-of stmt.Continue e f typed = exits e f e.continued Continued (λ l is. begins-of r c e f (op_code (op.Jump (label l))) (give Continued) 0 0 (continue-of r c call e f l is))
      stmt-of (stmt.Switch o list) e f typed = tt
      stmt-of (stmt.Return o) e f typed = tt
      stmt-of (stmt.Region n list) e f typed =
          bound (items_code c.own no_exits f list) _ (Items list no_exits f) (Stmt (stmt.Region n list) e f) (items-of list no_exits f typed)
          (λ a body. region-of r c call e f n.0 a (run_items calls shapes list) (items_nodes list) body)

      pub items-of : (list : items.Items) (e : Exits) (f : Free) → AreItems d list → Meets (Items list e f) (items_code c.own e f list)
      items-of items.End e f typed = nothing-of r c e f itself Next refl
      items-of (items.Declaration' l bx rest) e f typed = tt
      items-of (items.Statement' bx m a by rest) e f typed =
          bound (stmt_code c.own e f a) _ (Stmt a e f) (Items (items.Statement' bx m a by rest) e f) (stmt-of a e f typed.0)
          (λ x one. bound (items_code c.own e (behind f x) rest) _ (Items rest e (behind f x)) (Items (items.Statement' bx m a by rest) e f)
          (items-of rest e (behind f x) typed.1)
          (λ y more. less-back r c itself f (joined x y) (run_items calls shapes (items.Statement' bx m a by rest))
          (stmt_nodes a + 1 + items_nodes rest) 320 e least_hand (omega arith)
          (next-of r c e f x y (entered (stmt_kind calls shapes a)) (run_items calls shapes rest) (stmt_nodes a + 1) (items_nodes rest) 256
          least_hand (entering a e f x one) more (omega arith))))
