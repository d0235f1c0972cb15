-- Reading the items of a body one by one: what is left writes what is left to write, and departs where the body does.
use Rattle.std.proofs.Common.{◌≡◌, ℕ, ◌+◌, ◌^◌, ◌≤◌, Bool, true, false, List, [], ◌∷◌, ◌++◌, length, Option, Some, None}
use Rattle.std.proofs.Common.{Result, Ok, Err, refl, sym, ap, subst, ◌∙◌, append_assoc, arith, length-append}
use Rattle.std.specs.Prelude.{◌&&◌, nat_lt, if◌then◌else◌, is_some}
use Rattle.std.specs.List.{AllByRecursion}
use Rattle.std.specs.Global.{Box}
use Rattle.std.specs.Prelude.{IfOk, IfErr}
use Rattle.std.specs.Global.{Vec}
use Rattle.std.proofs.lemmas.Bool.{ltb-true, lt-ltb}
use Rattle.std.proofs.lemmas.List.{append-nil}
use Rattle.csyn.specs.declared.mark.Mark.{Mark}
use Rattle.csyn.specs.declared.span.Span.{Span}
use Rattle.csyn.specs.declared.declaration.LocalObject.{LocalObject}
use Rattle.csyn.specs.declared.expression.ExprKind.{ExprKind, Number, CallFunction, Assign'}
use Rattle.csyn.specs.declared.statement.Stmt.{Stmt}
use Rattle.csyn.specs.declared.statement.StmtKind.{StmtKind, Expression}
use Rattle.csyn.specs.declared.statement.Items as items
use Rattle.csyn.specs.declared.unit.Unit as unit
use Rattle.csyn.specs.declared.unit.UnitKind.{UnitKind}
use Rattle.csyn.specs.declared.unit.UnitKind.TheVariants as kind
use Rattle.csyn.specs.declared.unit.Units as units
use Rattle.csyn.specs.Tree.{Contents}
use Rattle.prucc.specs.declared.form.FormFault.{FormFault}
use Rattle.prucc.specs.declared.form.FormFault.TheVariants as form
use Rattle.prucc.specs.SourceAnswer.{BodyFails, FormFails, ReadsAs}
use Rattle.prucc.specs.Form.{IsLoadable, AreWrites, is_output, loadable_of, assigned, write_of, calls_halt, halts, is_end, is_main}
use Rattle.prucc.specs.Form.{IsMain, IsMainAlone, BodyWrites, IsProgram, body_departure, behind_head, unit_departure}
use Rattle.prucc.specs.Form.{units_departure, departure}

-- what of a body is left behind these writes
pub record IsLeft (end : Span) (body left : items.Items) (writes : List ℕ) : Type 0 where
  pub are_writes : AreWrites writes
  pub writes_on : (ks : List ℕ) → BodyWrites left ks → BodyWrites body (writes ++ ks)
  pub departs : body_departure end 0 body ≡ body_departure end (length writes) left

pub begins : (end : Span) (body : items.Items) → IsLeft end body body []
begins end body = record { are_writes = record { count = omega arith; each = tt }; writes_on = λ ks h. h; departs = refl }

-- the number of a write that is not one too many
abbrev pub allowed_of : StmtKind → ℕ → Option ℕ
allowed_of statement written = if nat_lt written 2047 then write_of statement else None

allowed_goes : (room : Bool) (w : Option ℕ) (k : ℕ) (next other : Option Span) → Some k ≡ (if room then w else None)
    → (if is_some w && room then next else other) ≡ next
allowed_goes true None k next other e = absurd cc
allowed_goes true (Some n) k next other e = refl
allowed_goes false None k next other e = absurd cc
allowed_goes false (Some n) k next other e = absurd cc

allowed_is : (room : Bool) (w : Option ℕ) (k : ℕ) → Some k ≡ (if room then w else None) → (w ≡ Some k) × (room ≡ true)
allowed_is true w k e = (sym e, refl)
allowed_is false w k e = absurd cc

refused_goes : (room : Bool) (w : Option ℕ) (next other : Option Span) → None ≡ (if room then w else None)
    → (if is_some w && room then next else other) ≡ other
refused_goes true None next other e = refl
refused_goes true (Some n) next other e = absurd cc
refused_goes false None next other e = refl
refused_goes false (Some n) next other e = refl

each-push : (ws : List ℕ) (k : ℕ) → AllByRecursion IsLoadable ws → IsLoadable k → AllByRecursion IsLoadable (ws ++ k ∷ [])
each-push [] k all is = (is, tt)
each-push (w ∷ ws) k all is = (all.0, each-push ws k all.1 is)

module _ (end : Span) (body : items.Items) (p : Box (Unit {0})) (m : Mark) (s : StmtKind) (q : Box (Unit {0})) (rest : items.Items)
    (ws : List ℕ) (left : IsLeft end body (items.Statement' p m s q rest) ws) where
  departs_so : body_departure end 0 body ≡ (if is_some (write_of s) && nat_lt (length ws) 2047 then body_departure end (length ws + 1) rest
      else (if halts s && is_end rest then None else Some m.span))
  unfolding body_departure
  departs_so = left.departs

  -- behind one more write
  pub goes_on : (k : ℕ) → IsLoadable k → Some k ≡ allowed_of s (length ws) → IsLeft end body rest (ws ++ k ∷ [])
  unfolding BodyWrites
  goes_on k loadable e =
      let is = allowed_is (nat_lt (length ws) 2047) (write_of s) k e in
      record {
        are_writes = record {
          count = omega (arith, ltb-true (length ws) 2047 is.1, length-append ws (k ∷ []));
          each = each-push ws k left.are_writes.each loadable;
        };
        writes_on = λ ks h. subst (BodyWrites body) (sym (append_assoc ws (k ∷ []) ks)) (left.writes_on (k ∷ ks) (is.0, h));
        departs = departs_so ∙ allowed_goes (nat_lt (length ws) 2047) (write_of s) k (body_departure end (length ws + 1) rest)
            (if halts s && is_end rest then None else Some m.span) e
            ∙ ap (λ (n : ℕ). body_departure end n rest) (sym (length-append ws (k ∷ [])));
      }

  -- at the halt with nothing behind it
  pub ends : halts s ≡ true → is_end rest ≡ true → BodyWrites body ws
  unfolding BodyWrites
  ends halt last = subst (BodyWrites body) (append-nil ws) (left.writes_on [] (halt, last))

  -- at any other item
  pub refused : None ≡ allowed_of s (length ws) → halts s && is_end rest ≡ false → body_departure end 0 body ≡ Some m.span
  refused e other =
      departs_so ∙ refused_goes (nat_lt (length ws) 2047) (write_of s) (body_departure end (length ws + 1) rest)
      (if halts s && is_end rest then None else Some m.span) e
      ∙ ap (λ (b : Bool). if b then None else Some m.span) other

pub at_object : (end : Span) (body : items.Items) (object : Box LocalObject) (q : Box (Unit {0})) (rest : items.Items) (ws : List ℕ)
    → IsLeft end body (items.Object' object q rest) ws → body_departure end 0 body ≡ Some object.value.mark.span
unfolding body_departure
at_object end body object q rest ws left = left.departs

pub at_end : (end : Span) (body : items.Items) (ws : List ℕ) → IsLeft end body items.End ws → body_departure end 0 body ≡ Some end
unfolding body_departure
at_end end body ws left = left.departs

-- ---- a number that is written is loadable

below_limit : (b : Bool) (v k : ℕ) → nat_lt v (2 ^ 16) ≡ b → (if b then Some v else None) ≡ Some k → IsLoadable k
below_limit true v k lt e = let same : v ≡ k = cc in omega (arith, ltb-true v (2 ^ 16) lt, same)
below_limit false v k lt e = absurd cc

loadable_is : (value : ExprKind) (k : ℕ) → loadable_of value ≡ Some k → IsLoadable k
loadable_is (Number n) k e = below_limit (nat_lt n.value (2 ^ 16)) n.value k refl e
loadable_is _ k e = absurd cc

where_true : (b : Bool) (o : Option ℕ) (k : ℕ) → (o ≡ Some k → IsLoadable k) → (if b then o else None) ≡ Some k → IsLoadable k
where_true true o k f e = f e
where_true false o k f e = absurd cc

assigned_is : (kind : ExprKind) (k : ℕ) → assigned kind ≡ Some k → IsLoadable k
assigned_is (Assign' _ _ target _ _ value) k e = where_true (is_output target) (loadable_of value) k (loadable_is value k) e
assigned_is _ k e = absurd cc

pub write_is : (s : StmtKind) (k : ℕ) → write_of s ≡ Some k → IsLoadable k
unfolding write_of
write_is (Expression (Some e)) k is = assigned_is e.value.kind k is
write_is _ k is = absurd cc

pub loadable_write : (s : StmtKind) (written k : ℕ) → Some k ≡ allowed_of s written → IsLoadable k
loadable_write s written k e = write_is s k (allowed_is (nat_lt written 2047) (write_of s) k e).0

-- ---- the head

not_true : (b : Bool) (o : Option Span) (begin : Span) → (b ≡ true → ⊥) → (if b then o else Some begin) ≡ Some begin
not_true true o begin h = absurd (h refl)
not_true false o begin h = refl

other_kind : (end begin : Span) (k : UnitKind) (rest : units.Units) → ((body : items.Items) → IsMain k body → ⊥)
    → unit_departure end begin k rest ≡ Some begin
other_kind end begin (kind.Function head all) rest none = not_true (is_main head) (behind_head end all rest) begin
    (λ is. none all (is, refl))
other_kind end begin (kind.Struct _ _) rest none = refl
other_kind end begin kind.Register rest none = refl
other_kind end begin (kind.Object _) rest none = refl
other_kind end begin (kind.Prototype _) rest none = refl

pub other_unit : (end : Span) (u : Box unit.Unit) (q : Box (Unit {0})) (rest : units.Units)
    → ((body : items.Items) → IsMain u.value.kind body → ⊥) → units_departure end (units.More' u q rest) ≡ Some u.value.mark.span
unfolding units_departure
other_unit end u q rest none = other_kind end u.value.mark.span u.value.kind rest none

main_kind : (end begin : Span) (k : UnitKind) (body : items.Items) → IsMain k body
    → unit_departure end begin k units.End ≡ body_departure end 0 body
main_kind end begin (kind.Function head all) body h = ap (λ (b : Bool). if b then body_departure end 0 all else Some begin) h.0
    ∙ ap (body_departure end 0) h.1
main_kind end begin (kind.Struct _ _) body h = absurd h
main_kind end begin kind.Register body h = absurd h
main_kind end begin (kind.Object _) body h = absurd h
main_kind end begin (kind.Prototype _) body h = absurd h

main_departs : (end : Span) (all : units.Units) (body : items.Items) → IsMainAlone all body
    → units_departure end all ≡ body_departure end 0 body
unfolding IsMainAlone units_departure
main_departs end (units.More' u _ units.End) body h = main_kind end u.value.mark.span u.value.kind body h
main_departs end (units.More' _ _ (units.More' _ _ _)) body h = absurd h
main_departs end units.End body h = absurd h

pub form_fails : (tree : Contents) (body : items.Items) (fault : FormFault) → IsMainAlone tree.units body
    → BodyFails tree.end body fault → FormFails tree fault
form_fails tree body (form.At span) main h = main_departs tree.end tree.units body main ∙ h
form_fails tree body form.Memory main h = tt

-- ---- items that are neither

pub end_of : (left : items.Items) → ((s : Box Stmt) (rest : Box items.Items) → left ≡ items.Statement s rest → ⊥)
    → ((o : Box LocalObject) (rest : Box items.Items) → left ≡ items.Object o rest → ⊥) → left ≡ items.End
end_of items.End no_statement no_object = refl
end_of (items.Object' o q rest) no_statement no_object = absurd (no_object o (record { ptr = q.ptr; alloc = q.alloc; value = rest }) refl)
end_of (items.Statement' p m s q rest) no_statement no_object =
    absurd (no_statement (record { ptr = p.ptr; alloc = p.alloc; value = record { mark = m; kind = s } })
    (record { ptr = q.ptr; alloc = q.alloc; value = rest }) refl)

-- ---- a tree that has the form departs nowhere, and writes one list of numbers

halt_call : (kind : ExprKind) → calls_halt kind ≡ true → assigned kind ≡ None
halt_call (CallFunction name arguments) h = refl
halt_call _ h = absurd cc

halt_is_no_write : (s : StmtKind) → halts s ≡ true → write_of s ≡ None
unfolding halts write_of
halt_is_no_write (Expression (Some e)) h = halt_call e.value.kind h
halt_is_no_write _ h = absurd cc

stays_at_halt : (is_last : Bool) (w : Option ℕ) (room halt : Bool) (next : Option Span) (span : Span) → w ≡ None → halt ≡ true
    → is_last ≡ true
    → (if is_some w && room then next else (if halt && is_last then None else Some span)) ≡ None
stays_at_halt true None room true next span w h l = refl
stays_at_halt false w room halt next span _ h l = absurd cc
stays_at_halt true (Some _) room halt next span w h l = absurd cc
stays_at_halt true None room false next span w h l = absurd cc

stays_at_write : (w : Option ℕ) (k : ℕ) (room : Bool) (next other : Option Span) → w ≡ Some k → room ≡ true → next ≡ None
    → (if is_some w && room then next else other) ≡ None
stays_at_write (Some _) k true next other w r n = n
stays_at_write None k room next other w r n = absurd cc
stays_at_write (Some _) k false next other w r n = absurd cc

body_stays : (end : Span) (written : ℕ) (body : items.Items) (ks : List ℕ) → BodyWrites body ks → written + length ks ≤ 2047
    → body_departure end written body ≡ None
unfolding BodyWrites body_departure
body_stays end written items.End ks h few = absurd h
body_stays end written (items.Object' _ _ _) ks h few = absurd h
body_stays end written (items.Statement' _ m s _ rest) [] h few =
    stays_at_halt (is_end rest) (write_of s) (nat_lt written 2047) (halts s) (body_departure end (written + 1) rest) m.span
    (halt_is_no_write s h.0) h.0 h.1
body_stays end written (items.Statement' _ m s _ rest) (k ∷ ks) h few =
    stays_at_write (write_of s) k (nat_lt written 2047) (body_departure end (written + 1) rest)
    (if halts s && is_end rest then None else Some m.span) h.0 (lt-ltb written 2047 (omega arith))
    (body_stays end (written + 1) rest ks h.1 (omega arith))

same_number : (a : Option ℕ) (k l : ℕ) → a ≡ Some k → a ≡ Some l → k ≡ l
same_number a k l e f = let both : ◌≡◌ {A = Option ℕ} (Some k) (Some l) = sym e ∙ f in cc

same_writes : (body : items.Items) (ks ls : List ℕ) → BodyWrites body ks → BodyWrites body ls → ks ≡ ls
unfolding BodyWrites
same_writes items.End ks ls h g = absurd h
same_writes (items.Object' _ _ _) ks ls h g = absurd h
same_writes (items.Statement' _ m s _ rest) [] [] h g = refl
same_writes (items.Statement' _ m s _ rest) [] (l ∷ ls) h g = absurd (let none = halt_is_no_write s h.0 in let some = g.0 in cc)
same_writes (items.Statement' _ m s _ rest) (k ∷ ks) [] h g = absurd (let none = halt_is_no_write s g.0 in let some = h.0 in cc)
same_writes (items.Statement' _ m s _ rest) (k ∷ ks) (l ∷ ls) h g =
    let first = same_number (write_of s) k l h.0 g.0 in
    let others = same_writes rest ks ls h.1 g.1 in
    λ i. first i ∷ others i

same_body : (k : UnitKind) (a b : items.Items) → IsMain k a → IsMain k b → a ≡ b
same_body (kind.Function head all) a b h g = sym h.1 ∙ g.1
same_body (kind.Struct _ _) a b h g = absurd h
same_body kind.Register a b h g = absurd h
same_body (kind.Object _) a b h g = absurd h
same_body (kind.Prototype _) a b h g = absurd h

same_main : (all : units.Units) (a b : items.Items) → IsMainAlone all a → IsMainAlone all b → a ≡ b
unfolding IsMainAlone
same_main (units.More' u _ units.End) a b h g = same_body u.value.kind a b h g
same_main (units.More' _ _ (units.More' _ _ _)) a b h g = absurd h
same_main units.End a b h g = absurd h

pub same_program : (all : units.Units) (ks ls : List ℕ) → IsProgram all ks → IsProgram all ls → ks ≡ ls
same_program all ks ls p q = same_writes q.body ks ls (subst (λ (body : items.Items). BodyWrites body ks)
    (same_main all p.body q.body p.main q.main) p.writes) q.writes

pub program_stays : (tree : Contents) (ks : List ℕ) → IsProgram tree.units ks → departure tree ≡ None
program_stays tree ks p = main_departs tree.end tree.units p.body p.main
    ∙ body_stays tree.end 0 p.body ks p.writes (let count = p.are_writes.count in omega arith)

-- a program that is read is read as it is, and is not said to depart
pub program_read : (tree : Contents) (r : Result (Vec ℕ) FormFault) → IfOk r (λ writes. IsProgram tree.units writes.items)
    → IfErr r (FormFails tree) → (ks : List ℕ) → IsProgram tree.units ks → ReadsAs ks r
program_read tree (Ok writes) ok err ks p = same_program tree.units writes.items ks ok p
program_read tree (Err (form.At span)) ok err ks p = absurd (let none = program_stays tree ks p in cc)
program_read tree (Err form.Memory) ok err ks p = tt
