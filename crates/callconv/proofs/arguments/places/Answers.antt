use Rattle.std.proofs.Common.{rules, ◌<◌, length, length-set, get_or, take, refl, ◌∙◌, arith}
use Rattle.prunum.specs.declared.width.Width.TheVariants.{B1}
use Rattle.callconv.proofs.PlaceLemmas.{Before, before-next, before-all, places-ascend}
use Rattle.callconv.proofs.arguments.places.Goals as goal

pub loop-i-preserved : goal.loop-i-preserved
loop-i-preserved c =
    let b : Before c.args.signature.now c.loop-i.fields c.loop-i.at c.loop-i.i =
    record { bytes = c.loop-i.invariant.bytes; sizes = c.loop-i.invariant.sizes; room = c.loop-i.invariant.room } in
    let there : c.loop-i.i < length c.args.signature.now.params = search rules in
    let within : c.loop-i.i < length c.loop-i.fields =
    omega (arith, c.loop-i.invariant.eight, c.loop-i-test.true, c.args.signature.now.few) in
    let n = before-next c.args.signature.now c.loop-i.fields c.loop-i.at c.loop-i.i c.next_place-first.result c.bytes.result
    c.field_at.result
    (get_or c.args.signature.now.params c.loop-i.i B1) there c.loop-i-test.true within refl b
    c.next_place-first.ensures.value c.field_at.ensures.at c.field_at.ensures.size c.bytes.ensures in
    record {
      bytes = n.bytes;
      sizes = n.sizes;
      room = n.room;
      eight = length-set c.loop-i.fields c.loop-i.i c.field_at.result ∙ c.loop-i.invariant.eight;
    }

pub returns-clause-apart : goal.returns-clause-apart
returns-clause-apart c =
    let b : Before c.args.signature.now c.loop-i.fields c.loop-i.at c.loop-i.i =
    record { bytes = c.loop-i.invariant.bytes; sizes = c.loop-i.invariant.sizes; room = c.loop-i.invariant.room } in
    places-ascend c.args.signature.now (take c.args.signature.now.count c.loop-i.fields)
    (before-all c.args.signature.now c.loop-i.fields c.loop-i.at c.loop-i.i (omega (arith, c.loop-i-test.false, c.loop-i.auto.i-end)) b)
