use Rattle.std.proofs.Common.{◌≡◌, ◌≤◌, [], drop}
use Rattle.cparse.specs.Build as specs
use Rattle.cparse.specs.Builder.{built_of}
use Rattle.cparse.proofs.build.build.Given as goal

-- the productions that are left make of what there is what all make
abbrev pub invariant-loop-entry : goal.invariant-loop-entry
invariant-loop-entry l = record {
  same : specs.build l.tokens (drop l.entry-index l.entries) (built_of l.builder) ≡ specs.build l.tokens l.entries (specs.built [] 0);
  few : l.builder.nodes ≤ l.entry-index;
}
