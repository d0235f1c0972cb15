-- What is printed and what is left make up the text.
use Rattle.std.proofs.Common.{◌≡◌, ◌++◌, drop}
use Rattle.std.specs.List.{flat_map}
use Rattle.std.specs.String.{string_bytes}
use Rattle.textline.specs.Lines.{text_of}
use Rattle.asmtext.specs.Held.{labels_held}
use Rattle.asmtext.specs.Printing.{item_lines, program_text}
use Rattle.asmtext.proofs.printing.text_of.Given as goal

abbrev pub invariant-loop-item : goal.invariant-loop-item
invariant-loop-item l =
    string_bytes l.text ++ text_of (flat_map (item_lines (labels_held l.numbers)) (drop l.item-index l.items)) ≡ program_text l.items
