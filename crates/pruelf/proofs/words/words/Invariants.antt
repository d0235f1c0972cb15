use Rattle.std.proofs.Common.{◌≡◌, ℕ, ◌-◌, Option, None}
use Rattle.pruelf.specs.Fields.{many_in}
use Rattle.pruelf.specs.Parts.{word_in}
use Rattle.pruelf.proofs.Loop.{with_front}
use Rattle.pruelf.proofs.words.words.Given as goal

-- the words so far and those to come are those of the whole
abbrev pub invariant-words : goal.invariant-words
invariant-words l = (before : Option ℕ) × (with_front l.words.items (many_in (word_in l.end) (l.count - l.counter) before l.rest)
    ≡ many_in (word_in l.end) l.count None l.bytes)
