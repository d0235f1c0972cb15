use Rattle.std.proofs.Common.{◌≡◌, ◌+◌, List, [], ◌∷◌, ◌++◌, take, sym, ap, subst, ◌∙◌, arith}
use Rattle.std.proofs.lemmas.List.{take_more, take_all}
use Rattle.elfrec.specs.declared.file.Part.{Part}
use Rattle.elfrec.proofs.Placing.{ArePut, put_one, apart_before, within_end, laid_out}
use Rattle.elfrec.proofs.writing.put_all.Goals as goal

pub put-requires : goal.put-requires
put-requires c = λ pos. omega (
  arith,
  within_end c.args.parts.now c.loop-part.part-index c.part-item.result c.loop-part-test.true
      c.part-item.is pos,
)

pub loop-part-preserved : goal.loop-part-preserved
loop-part-preserved c =
    let part = c.part-item.result in
    let parts = c.args.parts.now in
    let i = c.loop-part.part-index in
    let e : take (i + 1) parts ≡ take i parts ++ part ∷ [] =
    take_more parts i part c.loop-part-test.true ∙ ap (λ (p : Part). take i parts ++ p ∷ []) (sym c.part-item.is) in
    subst (λ (ps : List Part). ArePut ps c.put.new.file) (sym e)
    (put_one (take i parts) part c.loop-part.file c.put.new.file
    (apart_before parts i part c.loop-part-test.true c.part-item.is c.requires.apart)
    (record { inside = c.put.ensures.inside; outside = c.put.ensures.outside }) c.loop-part.invariant)

pub returns : goal.returns
returns c =
    laid_out c.args.parts.now c.loop-part.file (omega arith)
    (subst (λ (ps : List Part). ArePut ps c.loop-part.file) (take_all c.loop-part.part-index c.args.parts.now
    c.loop-part-test.false) c.loop-part.invariant)
