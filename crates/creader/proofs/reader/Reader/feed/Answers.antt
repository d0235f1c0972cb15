use Rattle.std.proofs.Common.{◌≡◌, refl}
use Rattle.creader.specs.declared.reader.Progress.TheVariants as progress
use Rattle.creader.specs.Reader as specs
use Rattle.creader.proofs.Reading.Moved.{moved-lighter}
use Rattle.creader.proofs.reader.Reader.feed.Goals as goal

-- no step has been taken
pub steps-init : goal.steps-init
steps-init c = record { moves = specs.none; place = refl }

-- a step that takes no token leaves lighter symbols
pub steps-smaller : goal.steps-smaller
steps-smaller c =
    let step : specs.step c.args.kind (specs.held c.steps.self) ≡ (progress.Moved, specs.held c.step.new.self) =
    cc (c.in_ok-step.ensures, c.in-Moved.is) in
    (moved-lighter c.args.kind (specs.held c.steps.self) (specs.held c.step.new.self) step).weighs

pub steps-preserved : goal.steps-preserved
steps-preserved c =
    let step : specs.step c.args.kind (specs.held c.steps.self) ≡ (progress.Moved, specs.held c.step.new.self) =
    cc (c.in_ok-step.ensures, c.in-Moved.is) in
    let lighter = moved-lighter c.args.kind (specs.held c.steps.self) (specs.held c.step.new.self) step in
    record { moves = specs.more c.steps.invariant.moves step; place = cc (lighter.place, c.steps.invariant.place) }
