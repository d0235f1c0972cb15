use Rattle.std.proofs.Common.{◌≡◌, ◌∷◌, ◌++◌, take}
use Rattle.std.specs.String.{string_bytes}
use Rattle.textline.specs.Lines.{text_of}
use Rattle.certtext.specs.Texts.{core_text}
use Rattle.certtext.specs.Certs.{certs_lines}
use Rattle.certtext.proofs.print.push_core.Given as goal

-- the lines so far stand behind the text
abbrev pub invariant-loop-line : goal.invariant-loop-line
invariant-loop-line l =
    string_bytes l.text ≡ string_bytes l.fn.text ++ text_of (core_text l.fn.core ∷ certs_lines (take l.line-index l.lines))
