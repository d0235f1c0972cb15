use Rattle.std.proofs.Common.{◌≡◌, length}
use Rattle.loopbound.specs.Table.{label_in, shapes}
use Rattle.loopbound.specs.Order.{StandsBefore, IsReady}
use Rattle.loopbound.proofs.Made.{Made}
use Rattle.loopbound.proofs.onepass.pass.Given as goal

abbrev pub invariant-loop-step : goal.invariant-loop-step
invariant-loop-step l = record {
  same : shapes l.loops ≡ shapes l.fn.loops;
  len : length l.labels ≡ length l.fn.labels;
  made : IsReady l.steps l.fn.loops l.fn.labels l.entry
      → Made (StandsBefore l.steps l.step-index) l.loops (label_in l.labels) l.entry;
}
