-- Each turn takes one line.
use Rattle.std.proofs.Common.{◌∷◌, [], ◌++◌, ap, sym, ◌∙◌, map, append_assoc, arith}
use Rattle.std.proofs.lemmas.List.{append-nil}
use Rattle.textline.specs.Lines.{lines_of}
use Rattle.asmline.specs.Lines.{said_in}
use Rattle.asmtext.specs.Held.{all_told}
use Rattle.asmtext.proofs.reading.read_lines.Goals as goal

pub loop-line-preserved : goal.loop-line-preserved
loop-line-preserved c =
    let old = all_told c.loop-line.said.items in
    let rest = map said_in (lines_of c.next_line.new.self.text) in (
      ap (λ lines. lines ++ rest) c.in_ok-push_line.ensures.told
          ∙ append_assoc old (said_in c.in-Some.line.now ∷ []) rest
          ∙ sym (ap (λ lines. old ++ map said_in lines) c.in-Some.ensures.some)
          ∙ c.loop-line.invariant.0,
      omega (arith, c.in-Some.ensures.shorter, c.in_ok-push_line.ensures.length),
    )

pub returns : goal.returns
returns c =
    let old = all_told c.loop-line.said.items in
    record {
      told = sym (append-nil old) ∙ sym (ap (λ text. old ++ map said_in (lines_of text)) c.in_default.ensures.none.0)
          ∙ c.loop-line.invariant.0;
      few = omega arith;
    }
