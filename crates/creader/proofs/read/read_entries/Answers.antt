-- Where the reader has come, what it has made, and where it stops.
use Rattle.std.proofs.Common.{◌≡◌, ◌∙◌, ℕ, ◌+◌, ◌≤◌, List, [], length, drop, Bool, true, false, ap, subst}
use Rattle.csyn.specs.declared.token.Token.{Token}
use Rattle.creader.specs.Machine.{start}
use Rattle.creader.specs.Reader.{Held, held, Feeds, finished}
use Rattle.creader.proofs.Both.{sound, whole}
use Rattle.creader.proofs.Reading.Ends.{begun, read-whole, never-left, taken-at, refused-at, at-end}
use Rattle.creader.proofs.Reading.Place.{fed-place}
use Rattle.creader.proofs.Reading.Run.{Run, ended, not-ended}
use Rattle.creader.proofs.Reading.Few.{few-made}
use Rattle.creader.proofs.read.read_entries.Goals as goal

pub loop-place-init : goal.loop-place-init
loop-place-init c = record {
  run = begun c.args.tokens.now (held c.in_ok-reader.reader) c.in_ok-reader.ensures;
  place =
      ap (λ h. h.place) c.in_ok-reader.ensures;
}

pub loop-place-preserved : goal.loop-place-preserved
loop-place-preserved c =
    let feeds : Feeds c.of.result true (held c.loop-place.reader) (held c.feed.new.self) =
    subst (λ b. Feeds c.of.result b (held c.loop-place.reader) (held c.feed.new.self)) c.if-not-branch.false c.in_ok-feed.ensures in
    record {
      run = taken-at c.args.tokens.now c.loop-place.place c.index-tokens-place.result c.of.result (held c.loop-place.reader)
          (held c.feed.new.self)
          c.index-tokens-place.is c.loop-place-test.true c.of.ensures feeds c.loop-place.invariant.run;
      place = fed-place c.of.result (held c.loop-place.reader) (held c.feed.new.self) feeds ∙ ap (λ n. n + 1) c.loop-place.invariant.place;
    }

pub returns-then-not-branch-clause-fault : goal.returns-then-not-branch-clause-fault
returns-then-not-branch-clause-fault c =
    let feeds : Feeds c.of.result false (held c.loop-place.reader) (held c.feed.new.self) =
    subst (λ b. Feeds c.of.result b (held c.loop-place.reader) (held c.feed.new.self)) c.if-not-branch.true c.in_ok-feed.ensures in
    refused-at sound whole c.args.tokens.now c.loop-place.place c.index-tokens-place.result c.of.result (held c.loop-place.reader)
    (held c.feed.new.self)
    c.requires.ends c.index-tokens-place.is c.loop-place-test.true c.of.ensures feeds c.loop-place.invariant.run

-- something left that wants a token: that never is
pub returns-then-not-branch-2-clause-fault : goal.returns-then-not-branch-2-clause-fault
returns-then-not-branch-2-clause-fault c =
    let run = at-end c.args.tokens.now c.loop-place.place (held c.loop-place.reader) c.loop-place-test.false c.loop-place.invariant.run in
    let over : ◌≡◌ {A = Bool × Held} (finished c.loop-place.reader.symbols (held c.loop-place.reader)) (false, held c.finish.new.self) =
    c.in_ok-finish.ensures ∙ ap (λ b. (b, held c.finish.new.self)) c.if-not-branch-2.true in
    let left = not-ended (start c.args.tokens.now) (held c.loop-place.reader) (held c.finish.new.self) over run in
    absurd (never-left sound whole c.args.tokens.now c.requires.ends left.0 left.1)

-- where the reader ends
at_last : (tokens : List Token) (place : ℕ) (before after : Held) {all : Bool} → length tokens ≤ place
    → Run (start tokens) before (drop place tokens)
    → ◌≡◌ {A = Bool × Held} (finished before.symbols before) (all, after) → all ≡ true
    → Run (start tokens) (record after { symbols = [] }) []
at_last tokens place before after over run e is =
    ended (start tokens) before after (e ∙ ap (λ b. (b, after)) is) (at-end tokens place before over run)

pub returns-clause-entries : goal.returns-clause-entries
returns-clause-entries c =
    read-whole sound c.args.tokens.now (held c.finish.new.self)
    (at_last c.args.tokens.now c.loop-place.place (held c.loop-place.reader) (held c.finish.new.self) c.loop-place-test.false
    c.loop-place.invariant.run c.in_ok-finish.ensures c.if-not-branch-2.false)

pub returns-clause-few : goal.returns-clause-few
returns-clause-few c =
    few-made c.args.tokens.now [] (record (held c.finish.new.self) { symbols = [] })
    (at_last c.args.tokens.now c.loop-place.place (held c.loop-place.reader) (held c.finish.new.self) c.loop-place-test.false
    c.loop-place.invariant.run c.in_ok-finish.ensures c.if-not-branch-2.false)
