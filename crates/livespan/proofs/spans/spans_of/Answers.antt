use Rattle.std.proofs.Common.{◌≡◌, ℕ, List, length, sym, ap, ◌∙◌, subst, arith, Option}
use Rattle.midcode.specs.declared.signature.Signature.{Signature}
use Rattle.midcode.specs.Operation.{parameters}
use Rattle.subreg.specs.Span.{MentionedAt}
use Rattle.livespan.specs.declared.area.Area.{Area}
use Rattle.livespan.specs.Live.{AreHulls}
use Rattle.livespan.proofs.Valid.{targets-in, named-in, valid-parameters}
use Rattle.livespan.proofs.Hulls.{known-in}
use Rattle.livespan.proofs.spans.spans_of.Goals as goal

abbrev count_of : Signature → ℕ
count_of s = length (parameters s)

pub goals-requires : goal.goals-requires
goals-requires c = targets-in c.args.f.now c.args.operations.now c.labels.result c.requires.valid c.requires.operations c.labels.ensures

pub mentions-requires-clause-params : goal.mentions-requires-clause-params
mentions-requires-clause-params c =
    let count : c.parameter_count.result ≡ length (parameters c.args.f.now.signature) =
    c.parameter_count.ensures ∙ ap count_of c.signature.ensures in
    omega (
      arith,
      count,
      valid-parameters c.args.f.now c.requires.valid,
      ap length c.registers.ensures,
    )

pub mentions-requires-clause-named : goal.mentions-requires-clause-named
mentions-requires-clause-named c =
    named-in c.args.f.now c.args.operations.now (length c.registers.result.now) c.requires.valid c.requires.operations (ap length
    c.registers.ensures)

pub by_number-requires-clause-hulls : goal.by_number-requires-clause-hulls
by_number-requires-clause-hulls c =
    let count : c.parameter_count.result ≡ length (parameters c.args.f.now.signature) =
    c.parameter_count.ensures ∙ ap count_of c.signature.ensures in
    let P : List (Option Area) → Type 0 = λ hs. AreHulls (MentionedAt c.args.f.now) hs in
    subst P (sym c.deref-5.ensures.value)
    (known-in c.args.f.now c.args.operations.now c.parameter_count.result c.requires.operations count
    c.in_ok-hulls.hulls.items c.in_ok-hulls.ensures.hulls)
