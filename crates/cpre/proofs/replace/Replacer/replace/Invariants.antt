use Rattle.std.proofs.Common.{◌≤◌, ◌++◌, length}
use Rattle.csyn.specs.declared.tree.TheConstants.{MAX_TOKENS}
use Rattle.cpre.specs.Held.{macros_of}
use Rattle.cpre.specs.Replacing.{become, work}
use Rattle.cpre.proofs.Taking.{SoFar}
use Rattle.cpre.proofs.replace.Replacer.replace.Given as goal

abbrev pub invariant-loop-frame : goal.invariant-loop-frame
invariant-loop-frame l = record {
  so_far : SoFar (macros_of l.fn.self.macros) l.place (l.fn.self.made.items ++ become (macros_of l.fn.self.macros) l.place l.token) l.self;
  few : length l.self.made.items ≤ MAX_TOKENS;
}

abbrev pub decreases-loop-frame : goal.decreases-loop-frame
decreases-loop-frame l = work (macros_of l.fn.self.macros) l.self.frames
