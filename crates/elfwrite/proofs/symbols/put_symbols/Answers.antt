use Rattle.std.proofs.Common.{◌++◌, arith}
use Rattle.elfwrite.specs.Written.{symbols_bytes}
use Rattle.elfwrite.proofs.WrittenSymbols.{names_left, symbol_written, symbols_written}
use Rattle.elfwrite.proofs.symbols.put_symbols.Goals as goal

pub loop-symbol-preserved : goal.loop-symbol-preserved
loop-symbol-preserved c =
    let l = c.loop-symbol in
    let s = c.symbol-item.result in
    record {
      bytes = rw c.as_slice.ensures.bytes (symbol_written c.args.symbols.now l.symbol-index l.name s l.out.items
          c.put_symbol.new.out.items (c.args.out.now.items ++ symbols_bytes 1 c.args.symbols.now) c.loop-symbol-test.true c.symbol-item.is
          c.in_ok-put_symbol.ensures l.invariant.bytes);
      names = rw c.as_slice.ensures.bytes (omega (
        arith,
        l.invariant.names,
        names_left c.args.symbols.now l.symbol-index s c.loop-symbol-test.true c.symbol-item.is,
      ));
    }

pub returns : goal.returns
returns c =
    let l = c.loop-symbol in
    symbols_written c.args.symbols.now l.symbol-index l.name l.out.items (c.args.out.now.items ++ symbols_bytes 1 c.args.symbols.now)
    c.loop-symbol-test.false l.invariant.bytes
