use Rattle.std.proofs.Common.{◌≡◌, ℕ, ◌+◌, ◌<◌, refl, sym, ap, ◌∙◌, subst, arith, Some, None, length}
use Rattle.std.specs.Prelude.{slice_get, IsTrue}
use Rattle.std.proofs.lemmas.Bool.{true≢false}
use Rattle.std.proofs.lemmas.Option.{same_Some, none-some, slice_get-get_or}
use Rattle.subreg.specs.Span.{is_onward}
use Rattle.livespan.specs.Marks.{IsMarked}
use Rattle.livespan.proofs.Goes.{follows-next, follows-goal}
use Rattle.livespan.proofs.Marked.{leads-goal}
use Rattle.livespan.proofs.search.leads_on.Goals as goal
use Rattle.livespan.proofs.search.leads_on.Goals.{else-is_onward-via-then-is_onward+else-is_marked, else-is_onward-via-else-is_onward}

pub returns-then-is_marked : goal.returns-then-is_marked
returns-then-is_marked c = (
  λ _. record {
    behind = c.args.place + 1;
    follows = follows-next c.args.kinds.now c.args.place c.kind_at-kind.result c.kind_at-kind.ensures
        (sym c.is_onward.ensures ∙ c.if-is_onward.true);
    marked = c.is_marked.ensures.0 c.if-is_marked.true;
  },
  λ _. refl,
)

pub returns-in-None : goal.returns-in-None
returns-in-None c =
    let within : c.args.place < length c.args.goals.now = omega (arith, c.requires.goals.len, c.requires.within) in
    let none : IsTrue (is_onward c.kind_at-kind.result) → IsMarked c.args.turn.first c.args.turn.last c.args.marks.now (c.args.place + 1)
    → ⊥ =
    λ onward marked.
    elim c.else-is_onward.branch [
      | else-is_onward-via-then-is_onward+else-is_marked w ↦
          true≢false (sym (w.is_marked.ensures.1 marked) ∙ w.if-is_marked.false)
      | else-is_onward-via-else-is_onward w ↦ true≢false (sym onward ∙ sym c.is_onward.ensures ∙ w.if-is_onward.false)
    ] in (
      λ e. absurd (true≢false (sym e)),
      λ leads.
          let found =
          leads-goal c.args.kinds.now c.args.goals.now c.args.turn.first c.args.turn.last c.args.marks.now c.args.place
          c.kind_at-kind.result None
          c.requires.goals c.kind_at-kind.ensures (slice_get-get_or c.args.goals.now c.args.place None within ∙ ap Some c.in-None.is) none
          leads in
          absurd (none-some found.0 found.1),
    )

pub returns-in-Some : goal.returns-in-Some
returns-in-Some c =
    let within : c.args.place < length c.args.goals.now = omega (arith, c.requires.goals.len, c.requires.within) in
    let none : IsTrue (is_onward c.kind_at-kind.result) → IsMarked c.args.turn.first c.args.turn.last c.args.marks.now (c.args.place + 1)
    → ⊥ =
    λ onward marked.
    elim c.else-is_onward.branch [
      | else-is_onward-via-then-is_onward+else-is_marked w ↦
          true≢false (sym (w.is_marked.ensures.1 marked) ∙ w.if-is_marked.false)
      | else-is_onward-via-else-is_onward w ↦ true≢false (sym onward ∙ sym c.is_onward.ensures ∙ w.if-is_onward.false)
    ] in
    let at : slice_get c.args.goals.now c.args.place ≡ Some (Some c.in-Some.goal) =
    slice_get-get_or c.args.goals.now c.args.place None within ∙ ap Some c.in-Some.is in (
      λ e. record {
        behind = c.in-Some.goal;
        follows = follows-goal c.args.kinds.now c.args.goals.now c.args.place c.in-Some.goal c.requires.goals at;
        marked = c.is_marked-in-Some.ensures.0 e;
      },
      λ leads.
          let found =
          leads-goal c.args.kinds.now c.args.goals.now c.args.turn.first c.args.turn.last c.args.marks.now c.args.place
          c.kind_at-kind.result
          (Some c.in-Some.goal) c.requires.goals c.kind_at-kind.ensures at none leads in
          let P : ℕ → Type 0 = λ n. IsMarked c.args.turn.first c.args.turn.last c.args.marks.now n in
          c.is_marked-in-Some.ensures.1 (subst P (sym (same_Some c.in-Some.goal found.0 found.1)) found.2),
    )
