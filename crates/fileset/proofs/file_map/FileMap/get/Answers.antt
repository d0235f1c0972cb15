use Rattle.std.proofs.Common.{sym, ap, ◌∙◌}
use Rattle.std.specs.Option.{option_map}
use Rattle.fileset.proofs.Entries.{held_in-named}
use Rattle.fileset.proofs.file_map.FileMap.get.Goals as goal

pub returns-in_err-bytes : goal.returns-in_err-bytes
returns-in_err-bytes c =
    let held = held_in-named c.self.inside.files c.args.name.now in
    rw (c.from_residual.ensures, ← c.self.view_is) (ap (option_map (λ v. v.items)) c.in_err-bytes.ensures.value ∙ sym held)

pub returns : goal.returns
returns c =
    let held = held_in-named c.self.inside.files c.args.name.now in
    rw (c.as_slice.ensures.value, ← c.self.view_is) (ap (option_map (λ v. v.items)) c.in_ok-bytes.ensures.value ∙ sym held)
