use Rattle.std.proofs.lemmas.Result.{err_from_is_err_and}
use Rattle.elfrec.specs.File.{all_contents_of}
use Rattle.elfrec.proofs.Loop.{contents_go_on, contents_end, contents_done}
use Rattle.elfrec.proofs.reading.read_all_contents.Goals as goal

pub returns-in_err-held : goal.returns-in_err-held
returns-in_err-held c =
    let p = err_from_is_err_and c.from_residual.result c.from_residual.ensures.1 in
    rw (p.1, p.2) (contents_end c.in_err-held.field-0.0 c.loop-section.contents.items c.args.sections.now
    c.loop-section.section-index _ c.args.bytes.now
    (all_contents_of c.args.sections.now c.args.bytes.now) c.loop-section-test.true c.in_err-held.ensures c.loop-section.invariant)

pub loop-section-preserved : goal.loop-section-preserved
loop-section-preserved c =
    rw c.in_ok-push.ensures.items (contents_go_on c.loop-section.contents.items c.args.sections.now c.loop-section.section-index _
    c.args.bytes.now c.in_ok-held.held
    (all_contents_of c.args.sections.now c.args.bytes.now) c.loop-section-test.true c.in_ok-held.ensures c.loop-section.invariant)

pub returns : goal.returns
returns c =
    contents_done c.loop-section.contents.items c.args.sections.now c.loop-section.section-index c.args.bytes.now
    (all_contents_of c.args.sections.now c.args.bytes.now) c.loop-section-test.false c.loop-section.invariant
