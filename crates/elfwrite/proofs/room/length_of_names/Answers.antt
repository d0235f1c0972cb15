use Rattle.std.proofs.Common.{arith}
use Rattle.elfwrite.proofs.WrittenSymbols.{names_more}
use Rattle.elfwrite.proofs.room.length_of_names.Goals as goal

pub loop-symbol-preserved : goal.loop-symbol-preserved
loop-symbol-preserved c =
    let l = c.loop-symbol in
    omega (
      arith,
      l.invariant,
      c.added-total.ensures,
      names_more c.args.symbols.now l.symbol-index c.symbol-item.result c.loop-symbol-test.true c.symbol-item.is,
    )
