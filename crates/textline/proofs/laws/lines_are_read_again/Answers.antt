use Rattle.std.proofs.Common.{◌∙◌, ap, sym, [], ◌++◌}
use Rattle.std.proofs.lemmas.List.{append-nil}
use Rattle.textline.specs.Lines.{text_of, lines_of}
use Rattle.textline.proofs.SplitLaws.{lines_again, lines_lack, lines_back, lines_whole}
use Rattle.textline.proofs.laws.lines_are_read_again.Goals as goal

pub returns : goal.returns
returns c = record {
  whole = λ lines all. ap lines_of (sym (append-nil (text_of lines))) ∙ lines_again lines [] all ∙ append-nil lines;
  cut = λ lines last all l some. lines_again lines last all ∙ ap (λ ls. lines ++ ls) (lines_whole last some l);
  lack = lines_lack;
  nothing_else = lines_back;
}
