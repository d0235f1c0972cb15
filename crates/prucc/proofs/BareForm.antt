-- What a tree writes and where it departs from the form doesn't depend on its pointers.
use Rattle.std.proofs.Common.{◌≡◌, ℕ, ◌+◌, List, [], ◌∷◌, codes, Some, None, refl, sym, ap, subst, ◌∙◌}
use Rattle.std.specs.Prelude.{◌&&◌, nat_lt, if◌then◌else◌, is_some}
use Rattle.std.specs.Str.{bytes_eq}
use Rattle.csyn.specs.declared.span.Span.{Span}
use Rattle.csyn.specs.declared.specifiers.Pointers as pointers
use Rattle.csyn.specs.declared.declaration.Parameters.{Parameters}
use Rattle.csyn.specs.declared.declaration.Parameters.TheVariants as parameters
use Rattle.csyn.specs.declared.expression.ExprKind.{ExprKind, Name, Number, CallFunction, Assign'}
use Rattle.csyn.specs.declared.expression.Exprs as exprs
use Rattle.csyn.specs.declared.statement.StmtKind.{StmtKind, Expression}
use Rattle.csyn.specs.declared.statement.Items as items
use Rattle.csyn.specs.declared.unit.Head.{Head}
use Rattle.csyn.specs.declared.unit.UnitKind.{UnitKind}
use Rattle.csyn.specs.declared.unit.UnitKind.TheVariants as kind
use Rattle.csyn.specs.declared.unit.Units as units
use Rattle.csyn.specs.Bare.{bare_pointers, bare_parameters, bare_kind, bare_exprs, bare_stmt_kind}
use Rattle.csyn.specs.Bare.{bare_items, bare_head, bare_unit_kind, bare_units}
use Rattle.prucc.specs.Form.{is_plain_void, has_no_pointers, takes_void, is_main, is_output, loadable_of, assigned, write_of}
use Rattle.prucc.specs.Form.{is_nothing, calls_halt, halts, is_end, BodyWrites, IsMain, IsMainAlone, IsProgram, body_departure}
use Rattle.prucc.specs.Form.{unit_departure, units_departure}

-- ---- statements

loadable-bare : (k : ExprKind) → loadable_of (bare_kind k) ≡ loadable_of k
loadable-bare (Number n) = refl
loadable-bare _ = refl

output-bare : (k : ExprKind) → is_output (bare_kind k) ≡ is_output k
output-bare (Name n) = refl
output-bare _ = refl

assigned-bare : (k : ExprKind) → assigned (bare_kind k) ≡ assigned k
assigned-bare (Assign' _ _ target _ _ value) = λ i. if output-bare target i then loadable-bare value i else None
assigned-bare _ = refl

write-bare : (s : StmtKind) → write_of (bare_stmt_kind s) ≡ write_of s
unfolding write_of
write-bare (Expression (Some e)) = assigned-bare e.value.kind
write-bare (Expression None) = refl
write-bare _ = refl

nothing-bare : (e : exprs.Exprs) → is_nothing (bare_exprs e) ≡ is_nothing e
nothing-bare exprs.End = refl
nothing-bare (exprs.More' _ _ _ _ _) = refl

calls-bare : (k : ExprKind) → calls_halt (bare_kind k) ≡ calls_halt k
calls-bare (CallFunction name arguments) = ap (λ b. bytes_eq name (codes "__halt") && b) (nothing-bare arguments)
calls-bare _ = refl

halts-bare : (s : StmtKind) → halts (bare_stmt_kind s) ≡ halts s
unfolding halts
halts-bare (Expression (Some e)) = calls-bare e.value.kind
halts-bare (Expression None) = refl
halts-bare _ = refl

end-bare : (i : items.Items) → is_end (bare_items i) ≡ is_end i
end-bare items.End = refl
end-bare (items.Object' _ _ _) = refl
end-bare (items.Statement' _ _ _ _ _) = refl

-- ---- the body

body-bare : (end : Span) (written : ℕ) (body : items.Items) → body_departure end written (bare_items body) ≡ body_departure end written body
unfolding body_departure
body-bare end written items.End = refl
body-bare end written (items.Object' _ _ _) = refl
body-bare end written (items.Statement' _ m s _ rest) = λ i.
    if is_some (write-bare s i) && nat_lt written 2047 then body-bare end (written + 1) rest i
    else (if halts-bare s i && end-bare rest i then None else Some m.span)

writes-to : (body : items.Items) (ks : List ℕ) → BodyWrites body ks → BodyWrites (bare_items body) ks
unfolding BodyWrites
writes-to items.End ks h = absurd h
writes-to (items.Object' _ _ _) ks h = absurd h
writes-to (items.Statement' _ _ s _ rest) [] h = (halts-bare s ∙ h.0, end-bare rest ∙ h.1)
writes-to (items.Statement' _ _ s _ rest) (k ∷ ks) h = (write-bare s ∙ h.0, writes-to rest ks h.1)

writes-from : (body : items.Items) (ks : List ℕ) → BodyWrites (bare_items body) ks → BodyWrites body ks
unfolding BodyWrites
writes-from items.End ks h = absurd h
writes-from (items.Object' _ _ _) ks h = absurd h
writes-from (items.Statement' _ _ s _ rest) [] h = (sym (halts-bare s) ∙ h.0, sym (end-bare rest) ∙ h.1)
writes-from (items.Statement' _ _ s _ rest) (k ∷ ks) h = (sym (write-bare s) ∙ h.0, writes-from rest ks h.1)

-- ---- the head and the units

pointers-bare : (p : pointers.Pointers) → has_no_pointers (bare_pointers p) ≡ has_no_pointers p
pointers-bare pointers.End = refl
pointers-bare (pointers.To' _ _ _) = refl

void-bare : (p : Parameters) → takes_void (bare_parameters p) ≡ takes_void p
void-bare parameters.Empty = refl
void-bare parameters.Void = refl
void-bare (parameters.Some _) = refl

head-bare : (head : Head) → is_main (bare_head head) ≡ is_main head
unfolding is_main
head-bare head = λ i. is_plain_void head.specifiers && (pointers-bare head.pointers i &&
    (bytes_eq head.name (codes "main") && void-bare head.parameters i))

unit-bare : (end begin : Span) (k : UnitKind) (rest : units.Units)
    → unit_departure end begin (bare_unit_kind k) (bare_units rest) ≡ unit_departure end begin k rest
unit-bare end begin (kind.Function head body) units.End = λ i. if head-bare head i then body-bare end 0 body i else Some begin
unit-bare end begin (kind.Function head body) (units.More' u _ _) = λ i. if head-bare head i then Some u.value.mark.span else Some begin
unit-bare end begin (kind.Struct _ _) rest = refl
unit-bare end begin kind.Register rest = refl
unit-bare end begin (kind.Object _) rest = refl
unit-bare end begin (kind.Prototype _) rest = refl

units-bare : (end : Span) (all : units.Units) → units_departure end (bare_units all) ≡ units_departure end all
unfolding units_departure
units-bare end units.End = refl
units-bare end (units.More' u _ rest) = unit-bare end u.value.mark.span u.value.kind rest

kind-to : (k : UnitKind) (body : items.Items) → IsMain k body → IsMain (bare_unit_kind k) (bare_items body)
kind-to (kind.Function head all) body h = (head-bare head ∙ h.0, ap bare_items h.1)
kind-to (kind.Struct _ _) body h = absurd h
kind-to kind.Register body h = absurd h
kind-to (kind.Object _) body h = absurd h
kind-to (kind.Prototype _) body h = absurd h

main-to : (all : units.Units) (body : items.Items) → IsMainAlone all body → IsMainAlone (bare_units all) (bare_items body)
unfolding IsMainAlone
main-to (units.More' u _ units.End) body h = kind-to u.value.kind body h
main-to (units.More' _ _ (units.More' _ _ _)) body h = absurd h
main-to units.End body h = absurd h

kind-from : (k : UnitKind) (body : items.Items) → IsMain (bare_unit_kind k) body
    → (inner : items.Items) × IsMain k inner × (body ≡ bare_items inner)
kind-from (kind.Function head all) body h = (all, (sym (head-bare head) ∙ h.0, refl), sym h.1)
kind-from (kind.Struct _ _) body h = absurd h
kind-from kind.Register body h = absurd h
kind-from (kind.Object _) body h = absurd h
kind-from (kind.Prototype _) body h = absurd h

main-from : (all : units.Units) (body : items.Items) → IsMainAlone (bare_units all) body
    → (inner : items.Items) × IsMainAlone all inner × (body ≡ bare_items inner)
unfolding IsMainAlone
main-from (units.More' u _ units.End) body h = kind-from u.value.kind body h
main-from (units.More' _ _ (units.More' _ _ _)) body h = absurd h
main-from units.End body h = absurd h

program-to : (all : units.Units) (ks : List ℕ) → IsProgram all ks → IsProgram (bare_units all) ks
program-to all ks p = record {
  body = bare_items p.body;
  main = main-to all p.body p.main;
  writes = writes-to p.body ks p.writes;
  are_writes = p.are_writes;
}

program-from : (all : units.Units) (ks : List ℕ) → IsProgram (bare_units all) ks → IsProgram all ks
program-from all ks p =
    let inner = main-from all p.body p.main in
    record {
      body = inner.0;
      main = inner.1;
      writes = writes-from inner.0 ks (subst (λ b. BodyWrites b ks) inner.2 p.writes);
      are_writes = p.are_writes;
    }

-- ---- trees that are the same but for their pointers

pub same-program : (a b : units.Units) (ks : List ℕ) → bare_units a ≡ bare_units b → IsProgram a ks → IsProgram b ks
same-program a b ks same p = program-from b ks (subst (λ u. IsProgram u ks) same (program-to a ks p))

pub same-departure : (end : Span) (a b : units.Units) → bare_units a ≡ bare_units b → units_departure end a ≡ units_departure end b
same-departure end a b same = sym (units-bare end a) ∙ ap (units_departure end) same ∙ units-bare end b
