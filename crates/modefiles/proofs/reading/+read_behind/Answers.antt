use Rattle.std.proofs.lemmas.Result.{IfErr-weaker, on_ok_weaker}
use Rattle.modefiles.proofs.InTurn.{read_in_turn, later_fails}
use Rattle.modefiles.proofs.reading.+read_behind.Goals as goal

pub returns-clause-bytes : goal.returns-clause-bytes
returns-clause-bytes g t c = on_ok_weaker c.read_behind.result
    (λ told. read_in_turn c.args.inputs.now c.in-Some.input.now c.in-Some.rest.now c.args.texts.now.items c.push.new.texts.items
    c.read_behind.new.texts.items c.in_ok-bytes.bytes
    (g.F.Files.told c.args.files.now) (g.F.Files.told c.read_input.new.files) (g.F.Files.told c.read_behind.new.files)
    c.in-Some.ensures.cases.0 c.in_ok-push.ensures c.in_ok-bytes.ensures.bytes c.in_ok-bytes.ensures.same told)
    c.read_behind.ensures.bytes

pub returns-clause-err : goal.returns-clause-err
returns-clause-err g t c = IfErr-weaker c.read_behind.result _ _ (λ fault h. later_fails c.args.inputs.now c.in-Some.input.now
    c.in-Some.rest.now c.in_ok-bytes.bytes.items
    (g.F.Files.told c.args.files.now) (g.F.Files.told c.read_input.new.files) (g.F.Files.told c.read_behind.new.files)
    (g.F.Files.faults c.args.files.now) (g.F.Files.faults c.read_input.new.files) (g.F.Files.faults c.read_behind.new.files) fault
    c.in-Some.ensures.cases.0 c.in_ok-bytes.ensures.within c.in_ok-bytes.ensures.bytes c.in_ok-bytes.ensures.same
    c.in_ok-bytes.ensures.grows h) c.read_behind.ensures.err
