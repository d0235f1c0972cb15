-- The code of expressions and statements, by cases. None is for those that have no code here yet: accesses to memory and registers of
-- the core, calls, arithmetic of pointers, scratchpads, halts; returns, `switch` and loops of a constant count.
use Rattle.std.specs.Prelude.{ℕ, ◌+◌, true, false, List, ◌++◌, Option, Some, None, slice_get}
use Rattle.std.specs.Global.{Box}
use Rattle.midcode.specs.declared.op.OpKind.TheVariants as op
use Rattle.midcode.specs.declared.op.UnaryOp.TheVariants as one
use Rattle.midcode.specs.declared.op.BinaryOp.TheVariants as two
use Rattle.cprogram.specs.Scalar.{scalar_width}
use Rattle.cprogram.specs.declared.scalar.Scalar.{Scalar}
use Rattle.cprogram.specs.declared.scalar.Conversion.{Conversion}
use Rattle.cprogram.specs.declared.value.Value.{Value}
use Rattle.cprogram.specs.declared.value.UnaryOperator.{UnaryOperator}
use Rattle.cprogram.specs.declared.value.UnaryOperator.TheVariants.{Plus, Minus, Complement}
use Rattle.cprogram.specs.declared.value.PlaceKind as place
use Rattle.cprogram.specs.declared.value.ValueKind as value
use Rattle.cprogram.specs.declared.statement.ForFirst.{ForFirst}
use Rattle.cprogram.specs.declared.statement.ForFirst.TheVariants as first
use Rattle.cprogram.specs.declared.statement.StmtKind as stmt
use Rattle.cprogram.specs.declared.statement.Items as items
use Rattle.lowerstate.specs.Held.{Meant, meant_width, Home, InRegister, InMemory, Outside}
use Rattle.lowerstate.specs.Piece.{Code, Free, behind, joined}
use Rattle.lowerstate.specs.Operators.{operation}
use Rattle.lowerstate.specs.Conversion.{conversion_code, not_code}
use Rattle.lowerstate.specs.Codes.{constant_code, unary_code, pair_code, comparison_code, copy_code, assign_code}
use Rattle.lowerflow.specs.Goes.{Exits, no_exits}
use Rattle.lowerflow.specs.Codes.{label, reserve, no_code, op_code, test_code, logical_code, conditional_code, either_code}
use Rattle.lowerflow.specs.Codes.{if_code, region_code, loop_exits, loop_code, do_code}

-- a code made of another, where there is one
abbrev pub with_code : Option Code → (Code → Option Code) → Option Code
with_code None make = None
with_code (Some a) make = make a

abbrev pub operator_code : UnaryOperator → Free → Code → Code
operator_code Plus f a = a
operator_code Minus f a = unary_code one.Negate f a
operator_code Complement f a = unary_code one.Complement f a

-- ---- locals that are registers

abbrev pub read_home : Free → Option Home → Option Code
read_home f (Some (InRegister q t)) = Some (copy_code (meant_width t) q f)
read_home f (Some (InMemory at laid)) = None
read_home f (Some Outside) = None
read_home f None = None

abbrev pub assign_home : Code → Option Home → Option Code
assign_home a (Some (InRegister q t)) = Some (assign_code q a)
assign_home a (Some (InMemory at laid)) = None
assign_home a (Some Outside) = None
assign_home a None = None

-- where the locals of the function are
module _ (homes : List Home) where
  abbrev pub read_code : Free → place.PlaceKind → Option Code
  read_code f (place.Local l) = read_home f (slice_get homes l.0)
  read_code f p = None

  abbrev pub store_code : Code → place.PlaceKind → Option Code
  store_code a (place.Local l) = assign_home a (slice_get homes l.0)
  store_code a p = None

  -- ---- expressions

  abbrev pub choice_code : Option Scalar → Free → Code → Conversion → Code → Conversion → Code → Code
  choice_code None f k c a d b = either_code f k a b
  choice_code (Some t) f k c a d b = conditional_code (scalar_width t) f k a b

  -- an arm of ?:, converted where it has a value
  abbrev pub arm_code : Option Scalar → Conversion → Free → Code → Code
  arm_code None c f a = a
  arm_code (Some t) c f a = conversion_code c f a

  -- two operands and what is made of them
  abbrev pub operands_code : Free → Option Code → Conversion → (Free → Option Code) → Conversion → (Code → Code → Code) → Option Code
  operands_code f left c right d make =
      with_code left (λ a.
      let x = conversion_code c f a in
      with_code (right (behind f x)) (λ b. Some (make x (conversion_code d (behind f x) b))))

  abbrev pub value_code : Free → value.ValueKind → Option Code
  value_code f (value.Number n _) = Some (constant_code f n)
  value_code f (value.Read' _ _ p) = read_code f p
  value_code f (value.Cast' _ _ c _ v) = with_code (value_code f v) (λ a. Some (conversion_code c f a))
  value_code f (value.Unary' o _ _ c _ v) = with_code (value_code f v) (λ a. Some (operator_code o f (conversion_code c f a)))
  value_code f (value.Not' _ _ v) = with_code (value_code f v) (λ a. Some (not_code f a))
  value_code f (value.Binary' o sign _ c _ v _ d _ w) =
      operands_code f (value_code f v) c (λ g. value_code g w) d (pair_code (operation o sign) f)
  value_code f (value.Comparison' o sign _ c _ v _ d _ w) =
      operands_code f (value_code f v) c (λ g. value_code g w) d (comparison_code o sign f)
  value_code f (value.LeftmostBit' _ c _ v _ d _ w) =
      operands_code f (value_code f v) c (λ g. value_code g w) d (pair_code two.LeftmostBit f)
  value_code f (value.Logical' o _ _ v _ _ w) =
      with_code (value_code (reserve 2 f) v) (λ a.
      with_code (value_code (behind (reserve 2 f) a) w) (λ b. Some (logical_code o f a b)))
  value_code f (value.Conditional' t _ _ q _ c _ v _ d _ w) =
      with_code (value_code (reserve 2 f) q) (λ k.
      with_code (value_code (behind (reserve 2 f) k) v) (λ a.
      let x = arm_code t c (behind (reserve 2 f) k) a in
      with_code (value_code (behind (behind (reserve 2 f) k) x) w) (λ b.
      Some (choice_code t f (test_code false f.label k) c x d (arm_code t d (behind (behind (reserve 2 f) k) x) b)))))
  value_code f (value.Comma' _ _ _ v _ _ w) =
      with_code (value_code f v) (λ a. with_code (value_code (behind f a) w) (λ b. Some (joined a b)))
  value_code f (value.Assign' _ _ _ p _ c _ v) = with_code (value_code f v) (λ a. store_code (conversion_code c f a) p)
  value_code f v = None

  -- ---- statements

  abbrev pub effect_code : Free → Option (Box Value) → Option Code
  effect_code f None = Some no_code
  effect_code f (Some v) = value_code f v.value.kind

  -- a condition that goes to the label where it is false
  abbrev pub condition_code : Free → ℕ → Option (Box Value) → Option Code
  condition_code f l None = Some no_code
  condition_code f l (Some v) = with_code (value_code f v.value.kind) (λ a. Some (test_code false l a))

  abbrev pub first_code : Free → ForFirst → Option Code
  first_code f (first.Expression v) = effect_code f v
  first_code f (first.Declarations ds) = None

  abbrev pub exit_code : Option ℕ → Option Code
  exit_code None = None
  exit_code (Some l) = Some (op_code (op.Jump (label l)))

  abbrev mutual
    pub stmt_code : Exits → Free → stmt.StmtKind → Option Code
    stmt_code e f (stmt.Block list) = items_code e f list
    stmt_code e f (stmt.Expression v) = effect_code f v
    stmt_code e f (stmt.If' c _ _ a) =
        with_code (value_code (reserve 1 f) c.value.kind) (λ k.
        with_code (stmt_code e (behind (reserve 1 f) k) a) (λ x. Some (if_code f (test_code false f.label k) x)))
    stmt_code e f (stmt.IfElse' c _ _ a _ _ b) =
        with_code (value_code (reserve 2 f) c.value.kind) (λ k.
        with_code (stmt_code e (behind (reserve 2 f) k) a) (λ x.
        with_code (stmt_code e (behind (behind (reserve 2 f) k) x) b) (λ y. Some (either_code f (test_code false f.label k) x y))))
    stmt_code e f (stmt.While' c _ _ a) =
        with_code (value_code (reserve 3 f) c.value.kind) (λ k.
        with_code (stmt_code (loop_exits f) (behind (reserve 3 f) k) a) (λ x.
        Some (loop_code f (test_code false (f.label + 2) k) x no_code)))
    stmt_code e f (stmt.Do' _ _ a c) =
        with_code (stmt_code (loop_exits f) (reserve 3 f) a) (λ x.
        with_code (value_code (behind (reserve 3 f) x) c.value.kind) (λ k. Some (do_code f x (test_code true f.label k))))
    stmt_code e f (stmt.For' first c third _ _ a None) =
        with_code (first_code f first) (λ w.
        let g = behind f w in
        with_code (condition_code (reserve 3 g) (g.label + 2) c) (λ k.
        with_code (stmt_code (loop_exits g) (behind (reserve 3 g) k) a) (λ x.
        with_code (effect_code (behind (behind (reserve 3 g) k) x) third) (λ y. Some (joined w (loop_code g k x y))))))
    stmt_code e f (stmt.For' first c third _ _ a (Some turns)) = None
    stmt_code e f stmt.Break = exit_code e.broke
    stmt_code e f stmt.Continue = exit_code e.continued
    stmt_code e f (stmt.Switch o list) = None
    stmt_code e f (stmt.Return o) = None
    stmt_code e f (stmt.Region r list) = with_code (items_code no_exits f list) (λ a. Some (region_code r.0 a))

    pub items_code : Exits → Free → items.Items → Option Code
    items_code e f items.End = Some no_code
    items_code e f (items.Declaration' d _ rest) = None
    items_code e f (items.Statement' _ _ a _ rest) =
        with_code (stmt_code e f a) (λ x. with_code (items_code e (behind f x) rest) (λ y. Some (joined x y)))
