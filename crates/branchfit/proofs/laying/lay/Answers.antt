-- Each turn lays one item.
use Rattle.std.proofs.Common.{ap, sym, ◌∙◌, arith, length}
use Rattle.std.proofs.lemmas.List.{nil_from_length}
use Rattle.branchfit.specs.Laying.{laid_behind}
use Rattle.branchfit.proofs.LayLemmas.{laid_on, laid_all}
use Rattle.branchfit.proofs.StepLemmas.{place_few}
use Rattle.branchfit.proofs.laying.lay.Goals as goal

pub loop-item-init : goal.loop-item-init
loop-item-init c = (c.new-laying.ensures.whole c.args.layout.now c.args.items.now, omega (arith, c.new-laying.ensures.place))

pub loop-item-preserved : goal.loop-item-preserved
loop-item-preserved c = (
  laid_on c.args.layout.now c.in-Some.item.now c.loop-item.laying c.lay_item.new.laying c.in-Some.behind.now c.in_ok-lay_item.ensures
      ∙ ap (laid_behind c.args.layout.now c.loop-item.laying) (sym c.in-Some.ensures.cases.0) ∙ c.loop-item.invariant.0,
  omega (arith, ap length c.in-Some.ensures.cases.0, c.in_ok-lay_item.ensures.place, place_few c.loop-item.laying.place c.in-Some.item.now),
)

pub returns : goal.returns
returns c =
    c.into_words.ensures ∙ sym (laid_all c.args.layout.now c.loop-item.laying)
    ∙ ap (laid_behind c.args.layout.now c.loop-item.laying) (sym (nil_from_length c.loop-item.rest.now c.in_default.ensures.cases))
    ∙ c.loop-item.invariant.0
