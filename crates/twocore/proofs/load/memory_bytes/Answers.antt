use Rattle.std.proofs.Common.{◌≡◌, ℕ, List, map, ap, ◌∙◌, arith}
use Rattle.std.specs.Prelude.{slice_set}
use Rattle.std.specs.List.{range_with_len}
use Rattle.twocore.specs.World.{byte_behind}
use Rattle.twocore.specs.Word.{filled}
use Rattle.twocore.proofs.FillLemmas.{mapped_more}
use Rattle.twocore.proofs.load.memory_bytes.Goals as goal

pub loop-k-preserved : goal.loop-k-preserved
loop-k-preserved c =
    let k : ℕ = c.loop-k.k in
    let f : ℕ → ℕ = byte_behind (record { own = c.args.own.now; other = c.args.other.now; world = c.args.world.now }) c.args.spot in
    ap (λ (l : List ℕ). slice_set l c.from.result c.byte_behind.result) c.loop-k.invariant
    ∙ ap (λ (n : ℕ). slice_set (filled 124 (map f (range_with_len 0 k))) n c.byte_behind.result) c.from.ensures
    ∙ mapped_more 124 f 0 k k c.byte_behind.result (omega arith) (omega arith) c.byte_behind.ensures
