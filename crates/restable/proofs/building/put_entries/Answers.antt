use Rattle.std.proofs.Common.{◌++◌, ◌∷◌, [], ◌∙◌, ap, sym, take}
use Rattle.std.specs.List.{flat_map}
use Rattle.std.proofs.lemmas.List.{flat_map_more, take_more}
use Rattle.restable.specs.Tables.{entry}
use Rattle.restable.proofs.building.put_entries.Goals as goal

pub loop-trace-preserved : goal.loop-trace-preserved
loop-trace-preserved c =
    let l = c.loop-trace in
    let item = c.trace-item.result in
    c.in_ok-put_entry.ensures ∙ ap (λ xs. xs ++ entry item) l.invariant
    ∙ flat_map_more entry c.args.out.now.items (take l.trace-index c.args.entries.now) item
    ∙ ap (λ ts. c.args.out.now.items ++ flat_map entry ts) (sym (take_more c.args.entries.now l.trace-index item c.loop-trace-test.true
    ∙ ap (λ x. take l.trace-index c.args.entries.now ++ x ∷ []) (sym c.trace-item.is)))
