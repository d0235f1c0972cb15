-- Each kind of expression, by the codes of its parts.
use Rattle.std.proofs.Common.{◌≡◌, ℕ, ◌+◌, ◌^◌, ◌<◌, ◌≤◌, Bool, true, false, if◌then◌else◌, List, refl, sym, subst, ap, ◌∙◌, arith}
use Rattle.std.proofs.Common.{Option, Some, None, slice_get}
use Rattle.csyn.specs.declared.span.Span.{Span}
use Rattle.csyn.specs.declared.specifiers.Sign.{Sign}
use Rattle.csyn.specs.declared.specifiers.Sign.TheVariants.{Signed, Unsigned}
use Rattle.csyn.specs.declared.operator.BinaryOperator.{BinaryOperator}
use Rattle.csyn.specs.declared.operator.ComparisonOperator.{ComparisonOperator}
use Rattle.csyn.specs.declared.operator.LogicalOperator.{LogicalOperator}
use Rattle.cprogram.specs.Scalar.{scalar_width}
use Rattle.cprogram.specs.declared.access.Access.{Access}
use Rattle.cprogram.specs.declared.access.AccessKind.{AccessKind}
use Rattle.cprogram.specs.declared.access.AccessKind.TheVariants as access
use Rattle.cprogram.specs.declared.scalar.Scalar.{Scalar}
use Rattle.cprogram.specs.declared.scalar.Conversion.{Conversion}
use Rattle.cprogram.specs.declared.value.UnaryOperator.{UnaryOperator}
use Rattle.cprogram.specs.declared.value.UnaryOperator.TheVariants.{Plus, Minus, Complement}
use Rattle.cprogram.specs.declared.value.PlaceKind as place
use Rattle.cmean.specs.Datum.{Datum, unary, binary, comparison, leftmost_bit}
use Rattle.cmean.specs.State.{Run, give, with_state, then_with, then_do, node}
use Rattle.cmean.specs.Access.{Target, load}
use Rattle.cmean.specs.Expression.{Valued, Calls, operand, number, truth, both, valued, number_value, whole, arm, choice, logical, assign}
use Rattle.cmean.specs.Expression.{place_kind}
use Rattle.lowerstate.specs.Held.{Meant, OfInteger, ToPlain, ToVolatile, meant_width, Part, Laid, Home, InRegister, InMemory, Outside}
use Rattle.lowerstate.specs.Related.{Fixed, Call, IsCall}
use Rattle.lowerstate.specs.Piece.{Code, Free, behind, joined, node_back, least_hand, Evaluates, IsValue, IsDatum, IsNumber, word}
use Rattle.lowerstate.specs.Codes.{copy_code, assign_code}
use Rattle.lowerstate.specs.Conversion.{integer, IsConversion, conversion_code}
use Rattle.lowerstate.proofs.Converted.{operand-of, not-of}
use Rattle.lowerstate.proofs.Numbers.{number-of, plus-of, minus-of, complement-of, binary-of, comparison-of, leftmost-of}
use Rattle.lowerstate.proofs.Pieces.{node-of, less-left, next-same}
use Rattle.lowerstate.proofs.Variables.{local-of, assign-of}
use Rattle.lowerflow.specs.Goes.{no_exits, Goes, always_next}
use Rattle.lowerflow.specs.Codes.{reserve, test_code, conditional_code}
use Rattle.lowerflow.specs.Nodes.{place_nodes}
use Rattle.lowerflow.specs.Code.{with_code, operator_code, read_home, assign_home, read_code, store_code, choice_code, arm_code}
use Rattle.lowerflow.specs.Claims.{Meets, Values, AreDeclared}
use Rattle.lowerflow.specs.Typed.{Declared, Placed, Leaves, OutsideCore, OfCore, scalar_of, IsScalar, IsPlace, IsRead, IsAccess, IsConverted}
use Rattle.lowerflow.proofs.Testing.{test-of}
use Rattle.lowerflow.proofs.Ways.{dropped, less-back, void-node, then-of, value-behind}
use Rattle.lowerflow.proofs.Logic.{logical-of}
use Rattle.lowerflow.proofs.Chosen.{conditional-of, either-of}

pub bound : (o : Option Code) (make : Code → Option Code) (P Q : Code → Type 0) → Meets P o → ((a : Code) → P a → Meets Q (make a))
    → Meets Q (with_code o make)
bound None make P Q at more = tt
bound (Some a) make P Q at more = more a at

module _ (r : Fixed) (c : Call) where
  pub as-typed : (f : Free) (code : Code) (t : Option Meant) (u : Meant) (run : Run Valued) (nodes back : ℕ) → t ≡ Some u
      → Evaluates r c f code IsValue u run nodes back → Values r c f code t run nodes back
  as-typed f code t u run nodes back is first = subst (λ t. Values r c f code t run nodes back) (sym is) first

  pub is-typed : (f : Free) (code : Code) (t : Option Meant) (u : Meant) (run : Run Valued) (nodes back : ℕ) → t ≡ Some u
      → Values r c f code t run nodes back → Evaluates r c f code IsValue u run nodes back
  is-typed f code t u run nodes back is first = subst (λ t. Values r c f code t run nodes back) is first

  -- a value that isn't used
  pub unused : (f : Free) (code : Code) (t : Option Meant) (run : Run Valued) (nodes back : ℕ) → Values r c f code t run nodes back
      → Goes r c no_exits f code always_next run nodes back
  unused f code None run nodes back first = first
  unused f code (Some t) run nodes back first = dropped r c IsValue f code t run nodes back first

  -- ---- comma

  pub comma-of : (f : Free) (a b : Code) (t u : Option Meant) (run second : Run Valued) (nodes others : ℕ)
      → Values r c f a t run nodes node_back → Values r c (behind f a) b u second others node_back
      → Values r c f (joined a b) u (node (then_do run second)) (nodes + others + 1) node_back
  comma-of f a b t None run second nodes others first then' =
      void-node r c f (joined a b) (then_do run second) (nodes + others) 576
      (then-of r c f a b run second nodes others 256 node_back no_exits always_next (unused f a t run nodes node_back first) then')
  comma-of f a b t (Some u) run second nodes others first then' =
      node-of r c f (joined a b) u (then_do run second) (nodes + others) 576
      (value-behind r c f a b run second nodes others 256 node_back IsValue u (unused f a t run nodes node_back first) then')

module _ (r : Fixed) (c : Call) (call : IsCall r c) where
  -- ---- operands

  pub converted-of : (f : Free) (a : Code) (k : Conversion) (t : Option Meant) (u : Meant) (run : Run Valued) (nodes : ℕ)
      → IsConverted k t u → Values r c f a t run nodes node_back
      → Evaluates r c f (conversion_code k f a) IsDatum u (operand k run) nodes 308
  converted-of f a k t u run nodes is first =
      operand-of r c call k f a is.0 u run nodes 308 is.2 (is-typed r c f a t is.0 run nodes node_back is.1 first)

  pub number-of-operand : (f : Free) (a : Code) (k : Conversion) (t : Option Meant) (sign : Sign) (run : Run Valued) (nodes : ℕ)
      → IsConverted k t (word sign) → Values r c f a t run nodes node_back
      → Evaluates r c f (conversion_code k f a) IsNumber (word sign) (number k run) nodes 308
  number-of-operand f a k t sign run nodes is first =
      number-of r c f (conversion_code k f a) _ (operand k run) nodes 308 (converted-of f a k t (word sign) run nodes is first)

  -- ---- casts and operators with one operand

  valued-of : (f : Free) (a : Code) (t : Meant) (run : Run Datum) (nodes back : ℕ) → Evaluates r c f a IsDatum t run nodes back
      → Evaluates r c f a IsValue t (then_with run valued) nodes back
  valued-of f a t run nodes back first =
      next-same r c {Is = IsDatum} {Is' = IsValue} f a t t run nodes back valued first refl
      (λ homes e d v is held. (Some e, d, refl, ap (λ e. Some e) is, held))

  pub cast-of : (f : Free) (a : Code) (k : Conversion) (t : Option Meant) (u : Meant) (run : Run Valued) (nodes : ℕ)
      → IsConverted k t u → Values r c f a t run nodes node_back
      → Evaluates r c f (conversion_code k f a) IsValue u (node (then_with (operand k run) valued)) (nodes + 1) node_back
  cast-of f a k t u run nodes is first =
      node-of r c f (conversion_code k f a) u (then_with (operand k run) valued) nodes 308
      (valued-of f (conversion_code k f a) u (operand k run) nodes 308 (converted-of f a k t u run nodes is first))

  operator-of : (o : UnaryOperator) (f : Free) (a : Code) (sign : Sign) (run : Run ℕ) (nodes : ℕ)
      → Evaluates r c f a IsNumber (word sign) run nodes 308
      → Evaluates r c f (operator_code o f a) IsValue (word sign) (then_with run (λ n. number_value (unary o n))) nodes 297
  operator-of Plus f a sign run nodes first =
      less-left r c f a (word sign) (then_with run (λ n. number_value (unary Plus n))) nodes 308 297
      (plus-of r c f a sign sign run nodes 308 first) (omega arith)
  operator-of Minus f a sign run nodes first = minus-of r c call f a sign sign run nodes 297 first
  operator-of Complement f a sign run nodes first = complement-of r c call f a sign sign run nodes 297 first

  pub unary-of : (o : UnaryOperator) (f : Free) (a : Code) (k : Conversion) (t : Option Meant) (sign : Sign) (run : Run Valued) (nodes : ℕ)
      → IsConverted k t (word sign) → Values r c f a t run nodes node_back
      → Evaluates r c f (operator_code o f (conversion_code k f a)) IsValue (word sign)
      (node (then_with (number k run) (λ n. number_value (unary o n)))) (nodes + 1) node_back
  unary-of o f a k t sign run nodes is first =
      node-of r c f (operator_code o f (conversion_code k f a)) (word sign) (then_with (number k run) (λ n. number_value (unary o n))) nodes 297
      (operator-of o f (conversion_code k f a) sign (number k run) nodes (number-of-operand f a k t sign run nodes is first))

  -- ---- locals

  same-laid : (a b : Laid) → Leaves a ≡ Leaves b → a ≡ b
  same-laid a b is = cc

  abbrev at-first : Meant → Option Part
  at-first t = Some (record { meant = t; offset = 0 })

  same-meant : (t u : Meant) → at-first t ≡ at-first u → t ≡ u
  same-meant t u is = ap (λ (o : Option Part). elim o [ None ↦ t | Some p ↦ p.meant ]) is

  same-some : (a b : Laid) → Some a ≡ Some b → a ≡ b
  same-some a b is = cc

  -- the type of what is read of a place is that of its first leaf
  read-type : (k : AccessKind) (laid : Laid) (q : Placed) (t u : Meant) → q ≡ Leaves laid
      → slice_get laid.parts 0 ≡ Some (record { meant = t; offset = 0 }) → IsRead k q u → t ≡ u
  read-type access.Plain laid q t u is first read =
      same-meant t u (sym first ∙ (ap (λ l. slice_get l.parts 0) (same-laid laid read.0 (sym is ∙ read.1)) ∙ read.2))
  read-type access.Own laid q t u is first read = let no = sym is ∙ read.0 in absurd cc
  read-type access.Volatile laid q t u is first read = let no = sym is ∙ read.0 in absurd cc
  read-type access.Register laid q t u is first read = let no = sym is ∙ read.0 in absurd cc

  local-type : (d : Declared) → AreDeclared d c.own → (k p : ℕ) (t u : Meant) (q : Placed) (a : Access)
      → slice_get c.own k ≡ Some (InRegister p t) → (laid : Laid) × (slice_get d.locals k ≡ Some laid) × (q ≡ Leaves laid) → IsAccess a q u
      → t ≡ u
  local-type d declared k p t u q a home typed read =
      let known = declared k p t home in
      read-type a.kind typed.0 q t u typed.2
      (ap (λ l. slice_get l.parts 0) (same-some typed.0 known.0 (sym typed.1 ∙ known.1)) ∙ known.2) read.1

  module _ (d : Declared) (declared : AreDeclared d c.own) (calls : Calls) (span : Span) (f : Free) where
    read-home : (a : Access) (k : ℕ) (u : Meant) (q : Placed) (o : Option Home) → slice_get c.own k ≡ o
        → (laid : Laid) × (slice_get d.locals k ≡ Some laid) × (q ≡ Leaves laid) → IsAccess a q u
        → Meets (λ code. Evaluates r c f code IsValue u (node (then_with (with_state (λ s. give (whole (s.locals + k))))
        (λ p. then_with (load span a.scalar p) valued))) 1 node_back) (read_home f o)
    read-home a k u q (Some (InRegister p t)) home typed read =
        subst (λ v. Evaluates r c f (copy_code (meant_width t) p f) IsValue v
        (node (then_with (with_state (λ s. give (whole (s.locals + k)))) (λ p. then_with (load span a.scalar p) valued))) 1 node_back)
        (local-type d declared k p t u q a home typed read)
        (node-of r c f (copy_code (meant_width t) p f) t
        (then_with (with_state (λ s. give (whole (s.locals + k)))) (λ p. then_with (load span a.scalar p) valued)) 0 54
        (local-of r c call k p t home span a f))
    read-home a k u q (Some (InMemory at laid)) home typed read = tt
    read-home a k u q (Some Outside) home typed read = tt
    read-home a k u q None home typed read = tt

    pub read-of : (a : Access) (p : place.PlaceKind) (t : Option Meant) (u : Meant) (q : Placed) → t ≡ Some u → IsPlace d p q → IsAccess a q u
        → Meets (λ code. Values r c f code t (node (then_with (place_kind calls span p) (λ x. then_with (load span a.scalar x) valued)))
        (place_nodes p + 1) node_back) (read_code c.own f p)
    read-of a (place.Local l) t u q is typed read =
        subst (λ t. Meets (λ code. Values r c f code t (node (then_with (place_kind calls span (place.Local l))
        (λ x. then_with (load span a.scalar x) valued))) 1 node_back) (read_code c.own f (place.Local l))) (sym is)
        (read-home a l.0 u q (slice_get c.own l.0) refl typed read)
    read-of a (place.Global o) t u q is typed read = tt
    read-of a (place.Volatile address) t u q is typed read = tt
    read-of a (place.Register reg) t u q is typed read = tt
    read-of a (place.Dereference' _ _ v) t u q is typed read = tt
    read-of a (place.Subscript' _ _ _ _ _ _ _ _ _) t u q is typed read = tt
    read-of a (place.Member' _ _ _ _) t u q is typed read = tt
    read-of a (place.Arrow' _ _ _ _) t u q is typed read = tt

    -- ---- assignments

    module _ (a : Access) (m : Span) (x : Code) (u : Meant) (run : Run Datum) (nodes : ℕ) (first : Evaluates r c f x IsDatum u run nodes 308)
      where
        assign-home : (k : ℕ) (q : Placed) (o : Option Home) → slice_get c.own k ≡ o
            → (laid : Laid) × (slice_get d.locals k ≡ Some laid) × (q ≡ Leaves laid) → IsAccess a q u
            → Meets (λ code. Evaluates r c f code IsValue u
            (node (both (node (with_state (λ s. give (whole (s.locals + k))))) run (assign span a))) (nodes + 1 + 1) node_back) (assign_home x o)
        assign-home k q (Some (InRegister p t)) home typed read =
            let same : t ≡ u = local-type d declared k p t u q a home typed read in
            node-of r c f (assign_code p x) u
            (both (node (with_state (λ s. give (whole (s.locals + k))))) run (assign span a)) (nodes + 1) 300
            (assign-of r c call k p u (home ∙ ap (λ t. Some (InRegister p t)) same) span a f x run nodes 308 300 first (omega arith))
        assign-home k q (Some (InMemory at laid)) home typed read = tt
        assign-home k q (Some Outside) home typed read = tt
        assign-home k q None home typed read = tt

        pub assign-to : (p : place.PlaceKind) (t : Option Meant) (q : Placed) → t ≡ Some u → IsPlace d p q → IsAccess a q u
            → Meets (λ code. Values r c f code t (node (both (node (place_kind calls m p)) run (assign span a)))
            (place_nodes p + nodes + 1 + 1) node_back) (store_code c.own x p)
        assign-to (place.Local l) t q is typed read =
            subst (λ t. Meets (λ code. Values r c f code t (node (both (node (place_kind calls m (place.Local l))) run (assign span a)))
            (0 + nodes + 1 + 1) node_back) (store_code c.own x (place.Local l))) (sym is)
            (let e : 0 + nodes + 1 + 1 ≡ nodes + 1 + 1 = omega arith in
            subst (λ n. Meets (λ code. Evaluates r c f code IsValue u (node (both (node (place_kind calls m (place.Local l))) run
            (assign span a))) n node_back) (store_code c.own x (place.Local l))) (sym e)
            (assign-home l.0 q (slice_get c.own l.0) refl typed read))
        assign-to (place.Global o) t q is typed read = tt
        assign-to (place.Volatile address) t q is typed read = tt
        assign-to (place.Register reg) t q is typed read = tt
        assign-to (place.Dereference' _ _ v) t q is typed read = tt
        assign-to (place.Subscript' _ _ _ _ _ _ _ _ _) t q is typed read = tt
        assign-to (place.Member' _ _ _ _) t q is typed read = tt
        assign-to (place.Arrow' _ _ _ _) t q is typed read = tt

  -- ---- `?:`

  width-of : (t : Meant) (s : Scalar) → scalar_of t ≡ s → meant_width t ≡ scalar_width s
  width-of (OfInteger i) s is = ap scalar_width is
  width-of (ToPlain l) s is = ap scalar_width is
  width-of ToVolatile s is = ap scalar_width is

  module _ (f : Free) (k a b : Code) (cond run second : Run Valued) (v : Meant) (nodes n1 n2 : ℕ)
      (test : Evaluates r c (reserve 2 f) k IsValue v cond nodes node_back) (p d : Conversion) where
    abbrev tested : Code
    tested = test_code false f.label k

    pub choice-void : (t u x : Option Meant) → t ≡ None
        → Values r c (behind (reserve 2 f) k) a u run n1 node_back
        → Values r c (behind (behind (reserve 2 f) k) a) b x second n2 node_back
        → Values r c f (choice_code c.own None f tested p a d b) t (node (choice cond (arm None p run) (arm None d second))) (nodes + (n1 + n2) + 1)
        node_back
    choice-void t u x is first then' =
        subst (λ t. Values r c f (choice_code c.own None f tested p a d b) t (node (choice cond run second)) (nodes + (n1 + n2) + 1) node_back)
        (sym is)
        (void-node r c f (choice_code c.own None f tested p a d b) (choice cond run second) (nodes + (n1 + n2)) 300
        (either-of r c call no_exits always_next f tested a b (truth cond) run second nodes n1 n2
        (test-of r c call (reserve 2 f) k v false f.label cond nodes 311 test)
        (unused r c (behind (reserve 2 f) k) a u run n1 node_back first)
        (unused r c (behind (behind (reserve 2 f) k) a) b x second n2 node_back then')))

    abbrev y : Code
    y = conversion_code p (behind (reserve 2 f) k) a

    abbrev z : Code
    z = conversion_code d (behind (behind (reserve 2 f) k) y) b

    pub choice-value : (s : Scalar) (u x : Option Meant) (t : Meant) → scalar_of t ≡ s → IsConverted p u t → IsConverted d x t
        → Values r c (behind (reserve 2 f) k) a u run n1 node_back
        → Values r c (behind (behind (reserve 2 f) k) y) b x second n2 node_back
        → Evaluates r c f (choice_code c.own (Some s) f tested p y d z) IsValue t
        (node (choice cond (arm (Some s) p run) (arm (Some s) d second))) (nodes + (n1 + n2) + 1) node_back
    choice-value s u x t is one other first then' =
        subst (λ w. Evaluates r c f (conditional_code w f tested y z) IsValue t
        (node (choice cond (then_with (operand p run) valued) (then_with (operand d second) valued))) (nodes + (n1 + n2) + 1) node_back)
        (width-of t s is)
        (node-of r c f (conditional_code (meant_width t) f tested y z) t
        (choice cond (then_with (operand p run) valued) (then_with (operand d second) valued)) (nodes + (n1 + n2)) 280
        (conditional-of r c call f tested y z t (truth cond) (operand p run) (operand d second) nodes n1 n2
        (test-of r c call (reserve 2 f) k v false f.label cond nodes 311 test)
        (converted-of (behind (reserve 2 f) k) a p u t run n1 one first)
        (converted-of (behind (behind (reserve 2 f) k) y) b d x t second n2 other then')))
