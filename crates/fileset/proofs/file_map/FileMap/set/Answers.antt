use Rattle.std.proofs.Common.{◌≡◌, string_bytes}
use Rattle.std.proofs.lemmas.Result.{IfOk-at_ok}
use Rattle.fileset.proofs.Entries.{held_in-inserted, held_in-others}
use Rattle.fileset.proofs.file_map.FileMap.set.Goals as goal

pub returns-clause-written : goal.returns-clause-written
returns-clause-written c =
    let name_is = IfOk-at_ok (λ s. string_bytes s ≡ c.args.name.now) c.in_ok-name.was c.from_str.ensures.ok in
    let bytes_are = IfOk-at_ok (λ v. v.items ≡ c.args.bytes.now) c.in_ok-bytes.was c.from_slice.ensures.items in
    rw (← name_is, ← bytes_are) (held_in-inserted c.self.inside.files c.insert.new.self (string_bytes c.in_ok-name.name)
    c.in_ok-bytes.bytes c.in_ok-insert.ensures.updates)

pub returns-clause-others : goal.returns-clause-others
returns-clause-others c =
    let name_is = IfOk-at_ok (λ s. string_bytes s ≡ c.args.name.now) c.in_ok-name.was c.from_str.ensures.ok in
    λ other differs. rw (← c.self.view_is) (held_in-others c.self.inside.files c.insert.new.self (string_bytes c.in_ok-name.name)
    c.in_ok-bytes.bytes c.in_ok-insert.ensures.updates other (rw name_is differs))
