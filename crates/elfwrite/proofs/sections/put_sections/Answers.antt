use Rattle.elfwrite.proofs.WrittenSymbols.{headers_written, on_ok}
use Rattle.elfwrite.proofs.sections.put_sections.Goals as goal

pub returns : goal.returns
returns c = on_ok c.put_headers.result _ _ (λ e. headers_written c.args.p.now c.sections_of.result c.args.out.now.items
    c.extend_from_slice.new.self.items c.put_headers.new.out.items c.sections_of.ensures c.in_ok-extend_from_slice.ensures.items e)
    c.put_headers.ensures
