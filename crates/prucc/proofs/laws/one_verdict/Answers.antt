-- One verdict, from one reading as tokens, one expansion and one reading as a tree.
use Rattle.prucc.proofs.Verdict as verdict
use Rattle.prucc.proofs.laws.one_verdict.Goals as goal

pub returns-clause-some : goal.returns-clause-some
returns-clause-some c = λ source.
    verdict.verdict c.expansion_or_fault.ensures c.expansion_ends.ensures c.tree_or_fault.ensures source (c.tokens_or_fault.ensures source)

pub returns-clause-writes : goal.returns-clause-writes
returns-clause-writes c = λ source.
    verdict.one-writes source (verdict.once source
    c.one_reading.ensures.tokens c.one_reading.ensures.fault c.one_reading.ensures.either
    c.one_reading-2.ensures.tokens c.one_reading-2.ensures.fault c.one_reading-2.ensures.either
    c.one_reading-3.ensures.tree c.one_reading-3.ensures.fault c.one_reading-3.ensures.either)

pub returns-clause-fault : goal.returns-clause-fault
returns-clause-fault c = λ source.
    verdict.one-fault source (verdict.once source
    c.one_reading.ensures.tokens c.one_reading.ensures.fault c.one_reading.ensures.either
    c.one_reading-2.ensures.tokens c.one_reading-2.ensures.fault c.one_reading-2.ensures.either
    c.one_reading-3.ensures.tree c.one_reading-3.ensures.fault c.one_reading-3.ensures.either)

pub returns-clause-place : goal.returns-clause-place
returns-clause-place c = λ source.
    verdict.one-place source (verdict.once source
    c.one_reading.ensures.tokens c.one_reading.ensures.fault c.one_reading.ensures.either
    c.one_reading-2.ensures.tokens c.one_reading-2.ensures.fault c.one_reading-2.ensures.either
    c.one_reading-3.ensures.tree c.one_reading-3.ensures.fault c.one_reading-3.ensures.either)

pub returns-clause-writes_or_fault : goal.returns-clause-writes_or_fault
returns-clause-writes_or_fault c = λ source.
    verdict.writes-unbroken source (verdict.once source
    c.one_reading.ensures.tokens c.one_reading.ensures.fault c.one_reading.ensures.either
    c.one_reading-2.ensures.tokens c.one_reading-2.ensures.fault c.one_reading-2.ensures.either
    c.one_reading-3.ensures.tree c.one_reading-3.ensures.fault c.one_reading-3.ensures.either)

pub returns-clause-writes_or_place : goal.returns-clause-writes_or_place
returns-clause-writes_or_place c = λ source.
    verdict.writes-built source (verdict.once source
    c.one_reading.ensures.tokens c.one_reading.ensures.fault c.one_reading.ensures.either
    c.one_reading-2.ensures.tokens c.one_reading-2.ensures.fault c.one_reading-2.ensures.either
    c.one_reading-3.ensures.tree c.one_reading-3.ensures.fault c.one_reading-3.ensures.either)

pub returns-clause-fault_or_place : goal.returns-clause-fault_or_place
returns-clause-fault_or_place c = λ source.
    verdict.broken-built source (verdict.once source
    c.one_reading.ensures.tokens c.one_reading.ensures.fault c.one_reading.ensures.either
    c.one_reading-2.ensures.tokens c.one_reading-2.ensures.fault c.one_reading-2.ensures.either
    c.one_reading-3.ensures.tree c.one_reading-3.ensures.fault c.one_reading-3.ensures.either)
