use Rattle.elfwrite.specs.Written.{names_bytes, section_names_bytes}
use Rattle.elfwrite.proofs.WrittenSymbols.{on_ok, strings_written}
use Rattle.elfwrite.proofs.symbols.put_strings.Goals as goal

pub returns : goal.returns
returns c = on_ok c.put_section_names.result _ _ (λ e. strings_written c.args.names.now (names_bytes c.args.extra.now.symbols)
    c.args.out.now.items
    c.put_filled.new.out.items section_names_bytes c.put_section_names.new.out.items c.requires.names c.in_ok-put_filled.ensures e)
    c.put_section_names.ensures
