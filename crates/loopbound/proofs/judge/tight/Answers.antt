-- A table is tight where its words and its loops are explained.
use Rattle.std.proofs.lemmas.Bool.{both_ways}
use Rattle.loopbound.proofs.TightLemmas.{tight_from, words_from, loops_from}
use Rattle.loopbound.proofs.judge.tight.Goals as goal

pub returns-then-words_explained : goal.returns-then-words_explained
returns-then-words_explained c = (
  λ is. tight_from c.args.side c.args.steps.now c.args.loops.now c.args.labels.now c.args.entry
      (c.words_explained.ensures.0 c.if-words_explained.true) (c.loops_explained.ensures.0 is),
  λ tight. c.loops_explained.ensures.1
      (loops_from c.args.side c.args.steps.now c.args.loops.now c.args.labels.now c.args.entry tight),
)

pub returns-else-words_explained : goal.returns-else-words_explained
returns-else-words_explained c = (
  λ is. absurd (both_ways c.words_explained.result c.if-words_explained.false is),
  λ tight. c.words_explained.ensures.1
      (words_from c.args.side c.args.steps.now c.args.loops.now c.args.labels.now c.args.entry tight),
)
