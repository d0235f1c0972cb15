use Rattle.std.proofs.Common.{get_or, sym, subst, arith}
use Rattle.std.proofs.lemmas.Option.{slice_get-get_or}
use Rattle.prunum.specs.declared.width.Width.TheVariants.{B1}
use Rattle.subreg.specs.declared.home.Interval.{Interval}
use Rattle.subreg.specs.Allocation.{IsAllocation}
use Rattle.subreg.specs.Homes.{Homes}
use Rattle.subreg.specs.Listed.{Listed}
use Rattle.subreg.proofs.Given.{placed-span}
use Rattle.subreg.proofs.Placed.{placed-none}
use Rattle.subreg.proofs.Whole.{placed-done}
use Rattle.subreg.proofs.scan.allocate_spans.Goals as goal

-- what is read behind the end of a list
abbrev no_span : Interval
no_span = record { vreg = record { 0 = 0 }; from = 0; to = 0 }

pub loop-span-init : goal.loop-span-init
loop-span-init c =
    record {
      bytes = c.none_taken-free_from.ensures.size;
      placed = placed-none c.args.registers.now c.args.spans.now c.in_ok-homes.homes.items c.none_taken-free_from.result
          c.none_taken-free_from.ensures.free c.in_ok-homes.ensures;
    }

pub loop-span-preserved : goal.loop-span-preserved
loop-span-preserved c =
    let s : Interval = get_or c.args.spans.now c.loop-span.span-index no_span in
    let listed = slice_get-get_or c.args.spans.now c.loop-span.span-index no_span c.loop-span-test.true in
    record {
      bytes = omega (arith, c.give_home-home.auto.free_from, c.loop-span.invariant.bytes);
      placed = placed-span c.args.registers.now c.args.spans.now c.loop-span.span-index c.loop-span.homes.items c.loop-span.free_from
          c.give_home-home.new.free_from c.loop-span.slots c.slots_with-slots.result s (get_or c.args.registers.now s.vreg.0 B1)
          c.give_home-home.result c.requires listed
          (slice_get-get_or c.args.registers.now s.vreg.0 B1 (c.requires.named c.loop-span.span-index s listed))
          c.loop-span.invariant.placed c.give_home-home.ensures c.slots_with-slots.ensures;
    }

pub returns : goal.returns
returns c =
    let P : Homes → Type 0 = λ a. IsAllocation (Listed c.args.spans.now) c.args.registers.now a.homes a.spills in
    subst P (sym c.new.ensures)
    (placed-done c.args.registers.now c.args.spans.now c.loop-span.span-index c.loop-span.homes.items c.loop-span.free_from
    c.loop-span.slots (omega (arith, c.loop-span-test.false, c.loop-span.auto.span-index-end)) c.loop-span.invariant.placed)
