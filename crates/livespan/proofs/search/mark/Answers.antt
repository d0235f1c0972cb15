use Rattle.std.proofs.Common.{◌≡◌, ◌-◌, refl, sym, ◌∙◌, arith, inl, inr, false, get_or}
use Rattle.std.proofs.lemmas.Bool.{true≢false, OnFalse_from, cases_Bool}
use Rattle.livespan.specs.Marks.{IsWanted, IsMarked}
use Rattle.livespan.proofs.Marked.{mark-one, unmarked-none}
use Rattle.livespan.proofs.search.mark.Goals as goal

pub returns-then-is_wanted-clause-sound : goal.returns-then-is_wanted-clause-sound
returns-then-is_wanted-clause-sound c = λ sound.
    mark-one c.args.kinds.now c.args.turn.first c.args.turn.last c.args.v c.args.marks.now c.args.place (c.args.place - c.args.turn.first)
    refl (omega (arith, c.requires.marks, c.requires.within.0, c.requires.within.1)) c.requires.within
    (c.is_wanted.ensures.0 c.if-is_wanted.true) sound

pub returns-then-is_wanted-clause-more : goal.returns-then-is_wanted-clause-more
returns-then-is_wanted-clause-more c =
    let n = c.args.place - c.args.turn.first in
    let free : get_or c.args.marks.now n false ≡ false =
    elim (cases_Bool (get_or c.args.marks.now n false)) [
      | inl is ↦
          absurd (true≢false (sym (c.is_marked.ensures.1 (record { within = c.requires.within; marked = is })) ∙ c.if-is_marked.false))
      | inr is ↦ is
    ] in
    inl (unmarked-none c.args.marks.now n (omega (arith, c.requires.marks, c.requires.within.0, c.requires.within.1)) free)

pub returns-clause-closed : goal.returns-clause-closed
returns-clause-closed c =
    OnFalse_from c.args.before
    (IsWanted c.args.kinds.now c.args.turn.first c.args.turn.last c.args.v c.args.marks.now c.args.place
    → IsMarked c.args.turn.first c.args.turn.last c.args.marks.now c.args.place)
    (λ _ wanted. absurd (true≢false (sym (c.is_wanted.ensures.1 wanted) ∙ c.if-is_wanted.false)))
