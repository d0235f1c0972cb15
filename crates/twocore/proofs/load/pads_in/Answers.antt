use Rattle.std.proofs.Common.{◌≡◌, ℕ, ◌+◌, List, map, ap, ◌∙◌, refl, arith}
use Rattle.std.specs.Prelude.{slice_set}
use Rattle.std.specs.List.{range_with_len}
use Rattle.corestep.specs.Pieces.{bank_number}
use Rattle.devices.specs.Ports.{pad_at}
use Rattle.twocore.specs.Word.{filled}
use Rattle.twocore.proofs.FillLemmas.{mapped_more}
use Rattle.twocore.proofs.load.pads_in.Goals as goal

pub loop-k-preserved : goal.loop-k-preserved
loop-k-preserved c =
    let k : ℕ = c.loop-k.k in
    let first : ℕ = c.args.moved.now.first in
    let bank : ℕ = bank_number c.args.moved.now.bank in
    let v : ℕ = c.get.result in
    let is : v ≡ pad_at c.args.pads.now bank (first + k) =
    c.get.ensures ∙ ap (λ (b : ℕ). pad_at c.args.pads.now b (first + k)) c.bank_number-bank.ensures.value in
    ap (λ (l : List ℕ). slice_set l c.from.result v) c.loop-k.invariant
    ∙ ap (λ (n : ℕ). slice_set (filled 4 (map (pad_at c.args.pads.now bank) (range_with_len first k))) n v) c.from.ensures
    ∙ mapped_more 4 (pad_at c.args.pads.now bank) first k (first + k) v (omega arith) refl is
