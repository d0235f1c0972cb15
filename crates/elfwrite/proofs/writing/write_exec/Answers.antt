use Rattle.elfwrite.proofs.WholeAgain.{image_again, written_small}
use Rattle.elfwrite.proofs.WrittenSymbols.{all_written}
use Rattle.elfwrite.proofs.writing.write_exec.Goals as goal

pub returns : goal.returns
returns c =
    let i = c.args.image.now in
    let x = c.args.extra.now in
    let bytes = all_written i x c.plan_of-p.result c.new-out.result.items c.put_front.new.out.items c.put_parts.new.out.items
    c.put_sections.new.out.items c.plan_of-p.ensures c.new-out.ensures.items c.in_ok-put_front.ensures c.in_ok-put_parts.ensures
    c.in_ok-put_sections.ensures in
    record {
      bytes = bytes;
      again = image_again i x c.put_sections.new.out.items bytes c.image_is_ranged.ensures.image c.symbols.ensures.extra c.requires
          c.image_is_ranged.ensures.ranged;
      small = written_small i x c.put_sections.new.out.items bytes c.requires;
    }
