use Rattle.std.proofs.Common.{◌≡◌, ◌+◌, ◌<◌, List, [], ◌∷◌, length, sym, ap, ◌∙◌, subst, arith, Option, Some, length-append}
use Rattle.std.specs.Prelude.{slice_get, ℕ}
use Rattle.midcode.specs.declared.op.OpKind.{OpKind}
use Rattle.midcode.specs.declared.register.Label.{Label}
use Rattle.midcode.specs.Operation.{target_of}
use Rattle.subreg.specs.Span.{Stands}
use Rattle.livespan.specs.Live.{goal_at, goal_in}
use Rattle.livespan.proofs.Steps.{goals-more}
use Rattle.std.proofs.lemmas.Option.{slice_get_within}
use Rattle.livespan.proofs.flow.goals.Goals as goal

pub goal-requires : goal.goal-requires
goal-requires c = λ l is.
    omega (
      arith,
      c.in_ok-places.ensures.len,
      ap length c.deref.ensures.value,
      c.requires c.loop-place.place c.kind_at.result l c.kind_at.ensures (sym c.target.ensures ∙ is),
    )

pub loop-place-preserved : goal.loop-place-preserved
loop-place-preserved c =
    let ks = c.args.kinds.now in
    let k = c.kind_at.result in
    let i = c.loop-place.place in
    let named : (l : Label) → target_of k ≡ Some l → l.0 < length c.in_ok-places.places.items =
    λ l is. omega (arith, c.in_ok-places.ensures.len, c.requires i k l c.kind_at.ensures is) in
    let is : c.goal.result ≡ goal_in c.in_ok-places.places.items (target_of k) =
    c.goal.ensures ∙ ap (λ ps. goal_in ps c.target.result) c.deref.ensures.value ∙
    ap (goal_in c.in_ok-places.places.items) c.target.ensures in
    let all = goals-more ks c.in_ok-places.places.items c.loop-place.goals.items i k c.goal.result c.kind_at.ensures
    c.in_ok-places.ensures.places named is c.loop-place.invariant.len c.loop-place.invariant.goes in
    let P : List (Option ℕ) → Type 0 =
    λ gs. (p : ℕ) (j : OpKind) → p < i + 1 → Stands ks p j → slice_get gs p ≡ Some (goal_at ks (target_of j)) in
    record {
      len = ap length c.in_ok-push.ensures.items ∙ length-append c.loop-place.goals.items (c.goal.result ∷ []) ∙
          ap (λ n. n + 1) c.loop-place.invariant.len;
      goes = subst P (sym {A = List (Option ℕ)} c.in_ok-push.ensures.items) all;
    }

pub returns : goal.returns
returns c =
    let end : c.loop-place.place ≡ length c.args.kinds.now = omega (arith, c.loop-place-test.false, c.loop-place.auto.place-end) in
    record {
      len = c.loop-place.invariant.len ∙ end;
      goes = λ p k at.
          c.loop-place.invariant.goes p k (omega (arith, end, slice_get_within c.args.kinds.now p k at)) at;
    }
