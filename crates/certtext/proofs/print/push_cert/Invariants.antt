use Rattle.std.proofs.Common.{◌≡◌, ◌∷◌, ◌++◌, take, map}
use Rattle.std.specs.String.{string_bytes}
use Rattle.textline.specs.Lines.{text_of}
use Rattle.certtext.specs.declared.edition.Edition.TheVariants.{Second}
use Rattle.certtext.specs.Texts.{cert_text, label_text}
use Rattle.certtext.proofs.print.push_cert.Given as goal

-- the bounds and the labels so far stand behind the text
abbrev pub invariant-loop-label : goal.invariant-loop-label
invariant-loop-label l =
    string_bytes l.text ≡ string_bytes l.fn.text ++ text_of (cert_text (Second l.cert.table) l.cert.region l.cert.least l.cert.most
    ∷ map (label_text (Second l.cert.table)) (take l.label-index l.labels))
