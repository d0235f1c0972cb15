-- No word stood before.
use Rattle.std.proofs.Common.{◌≡◌, ◌≤◌, length, drop}
use Rattle.asmtext.specs.Held.{all_told, held}
use Rattle.asmtext.specs.Notes.{may_stand}
use Rattle.asmtext.proofs.judge.may_stand.Given as goal

abbrev pub invariant-loop-number : goal.invariant-loop-number
invariant-loop-number l =
    may_stand (held l.fn.places) l.fn.kind l.number (drop l.number (all_told l.fn.lines))
    ≡ may_stand (held l.fn.places) l.fn.kind l.fn.from (drop l.fn.from (all_told l.fn.lines))
