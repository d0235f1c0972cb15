use Rattle.std.proofs.Common.{◌≡◌, ℕ, List, map, ap, ◌∙◌, arith}
use Rattle.std.specs.Prelude.{slice_set}
use Rattle.std.specs.List.{range_with_len}
use Rattle.corestep.specs.Fields.{register}
use Rattle.std.proofs.lemmas.List.FromFn.{length-map-range_with_len}
use Rattle.twocore.specs.Word.{filled}
use Rattle.twocore.proofs.FillLemmas.{mapped_more, filled_whole}
use Rattle.twocore.proofs.outcome.registers.Goals as goal

pub loop-r-preserved : goal.loop-r-preserved
loop-r-preserved c =
    let r : ℕ = c.loop-r.r in
    let f : ℕ → ℕ = register c.args.core.now.registers in
    ap (λ (l : List ℕ). slice_set l c.from.result c.reg.result) c.loop-r.invariant
    ∙ ap (λ (n : ℕ). slice_set (filled 31 (map f (range_with_len 0 r))) n c.reg.result) c.from.ensures
    ∙ mapped_more 31 f 0 r r c.reg.result (omega arith) (omega arith) c.reg.ensures

pub returns : goal.returns
returns c =
    let f : ℕ → ℕ = register c.args.core.now.registers in
    let all : c.loop-r.r ≡ 31 = omega (arith, c.loop-r.auto.r-end, c.loop-r-test.false) in
    c.loop-r.invariant ∙ ap (λ (n : ℕ). filled 31 (map f (range_with_len 0 n))) all
    ∙ filled_whole 31 (map f (range_with_len 0 31)) (length-map-range_with_len f 0 31)
