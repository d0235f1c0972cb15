use Rattle.std.proofs.Common.{ℕ, ◌<◌}
use Rattle.loopbound.specs.Table.{WordExplained, label_in}
use Rattle.loopbound.proofs.judge.words_explained.Given as goal

abbrev pub invariant-loop-word : goal.invariant-loop-word
invariant-loop-word l = (w : ℕ) → w < l.word → WordExplained l.steps l.loops (label_in l.labels) l.entry l.side w
