use Rattle.std.proofs.Common.{◌∙◌, [], ◌∷◌, ◌++◌, sym, ap, subst, arith, append_assoc, length-append}
use Rattle.textline.specs.Lines.{Ahead, lines_of}
use Rattle.hostscript.specs.Scripts.{IsFaultOf}
use Rattle.hostscript.proofs.ScriptLaws.{nothing_said, more_holds, more_good, first_bad}
use Rattle.hostscript.proofs.reading.read_draft.Goals as goal

pub lines-init : goal.lines-init
lines-init c = record {
  before = [];
  lines = ap (λ (a : Ahead). lines_of a.text) (sym c.of-lines.ensures);
  number = ap (λ (a : Ahead). a.number) c.of-lines.ensures;
  said = [];
  good = nothing_said;
  holds = c.new-draft.ensures;
}

pub lines-preserved : goal.lines-preserved
lines-preserved c =
    let inv = c.lines.invariant in
    let line = c.in-Some.line.now in
    let ok = c.in_default-add_line.ensures.ok in
    record {
      before = inv.before ++ line ∷ [];
      lines = inv.lines ∙ ap (λ ls. inv.before ++ ls) c.in-Some.ensures.some
          ∙ sym (append_assoc inv.before (line ∷ []) (lines_of c.next_line.new.self.text));
      number = omega (arith, c.in-Some.ensures.number, inv.number, length-append inv.before (line ∷ []));
      said = inv.said ++ ok.0 ∷ [];
      good = more_good inv.before line inv.said ok.0 c.lines.draft c.add_line.new.draft inv.good inv.holds ok.1 ok.2
          c.in_default-add_line.ensures.order;
      holds = more_holds inv.said ok.0 c.lines.draft c.add_line.new.draft inv.holds ok.2;
    }

pub returns-in-Err-clause-fault : goal.returns-in-Err-clause-fault
returns-in-Err-clause-fault c =
    let inv = c.lines.invariant in
    let line = c.in-Some.line.now in
    subst (IsFaultOf c.args.bytes.now) (sym c.at.ensures)
    (first_bad c.args.bytes.now inv.before line (lines_of c.next_line.new.self.text) c.number-number.result inv.said c.lines.draft
    c.in-Err.fault
    (inv.lines ∙ ap (λ ls. inv.before ++ ls) c.in-Some.ensures.some) (c.number-number.ensures ∙ inv.number) inv.good inv.holds
    c.in-Err.ensures.fault)
