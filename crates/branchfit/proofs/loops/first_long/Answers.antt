-- The first is here, or none stands here.
use Rattle.std.proofs.Common.{ap, sym, ◌∙◌, arith, length}
use Rattle.std.proofs.lemmas.List.{nil_from_length}
use Rattle.branchfit.proofs.StepLemmas.{long_on, long_here, long_end, place_few}
use Rattle.branchfit.proofs.loops.first_long.Goals as goal

pub loop-item-preserved : goal.loop-item-preserved
loop-item-preserved c = (
  long_on c.args.layout.now c.loop-item.place c.place_behind-next.result c.loop-item.number c.loop-item.rest.now c.in-Some.item.now
      c.in-Some.behind.now _
      c.loop-item.invariant.0 c.in-Some.ensures.cases.0 (sym c.is_long_loop.ensures ∙ c.if-is_long_loop.false) c.place_behind-next.ensures,
  omega (arith, ap length c.in-Some.ensures.cases.0, c.place_behind-next.ensures, place_few c.loop-item.place c.in-Some.item.now),
  omega (arith, ap length c.in-Some.ensures.cases.0),
)

pub returns-then-is_long_loop : goal.returns-then-is_long_loop
returns-then-is_long_loop c =
    long_here c.args.layout.now c.loop-item.place c.loop-item.number c.loop-item.rest.now c.in-Some.item.now c.in-Some.behind.now _
    c.loop-item.invariant.0 c.in-Some.ensures.cases.0 (sym c.is_long_loop.ensures ∙ c.if-is_long_loop.true)

pub returns : goal.returns
returns c =
    long_end c.args.layout.now c.loop-item.place c.loop-item.number c.loop-item.rest.now _ c.loop-item.invariant.0
    (nil_from_length c.loop-item.rest.now c.in_default.ensures.cases)
