use Rattle.std.proofs.Common.{◌≡◌, List, Ok, subst, ◌∙◌}
use Rattle.std.proofs.lemmas.Result.{IfOk-weaker}
use Rattle.elfrec.specs.declared.file.Part.{Part}
use Rattle.elfrec.specs.File.{IsLaidOut, file_of}
use Rattle.elfrec.proofs.Files.{each_held, written_again}
use Rattle.elfrec.proofs.writing.write_file.Goals as goal

pub parts_of-requires : goal.parts_of-requires
parts_of-requires c = each_held c.args.f.now.sections c.args.f.now.contents c.requires.measured.contents

pub returns-clause-again : goal.returns-clause-again
returns-clause-again c =
    IfOk-weaker c.lay_out.result (λ v. IsLaidOut c.deref.result.now v.items) (λ v. file_of v.items ≡ Ok c.args.f.now)
    (λ v laid. written_again c.args.f.now v.items c.requires.measured c.in_ok-parts.ensures.fits
    (subst (λ (ps : List Part). IsLaidOut ps v.items) (c.deref.ensures.value ∙ c.in_ok-parts.ensures.parts) laid))
    c.lay_out.ensures
