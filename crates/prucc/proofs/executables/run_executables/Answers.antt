use Rattle.prucc.proofs.executables.run_executables.Goals as goal

pub returns-in-Err-clause-refuses : goal.returns-in-Err-clause-refuses
returns-in-Err-clause-refuses c =
    c.refusal_of.ensures c.args.zero.now c.args.one.now c.args.script.now c.in-Err.ensures.fault
