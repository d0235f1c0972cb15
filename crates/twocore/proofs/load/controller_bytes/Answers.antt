use Rattle.std.proofs.Common.{◌≡◌, ℕ, ◌+◌, ◌*◌, ◌/◌, ap, sym, ◌∙◌, arith}
use Rattle.prunum.specs.declared.width.Width.TheVariants.{B4}
use Rattle.prunum.specs.Bytes.{little_bytes}
use Rattle.devices.specs.Controller.{read_at}
use Rattle.twocore.specs.Word.{filled}
use Rattle.twocore.proofs.ControllerLemmas.{words, words_none, word_turn, words_are}
use Rattle.twocore.proofs.load.controller_bytes.Goals as goal

pub loop-k-init : goal.loop-k-init
loop-k-init c = c.clear_bytes.ensures ∙ ap (filled 124) (sym (words_none c.args.intc.now c.args.at))

pub loop-k-preserved : goal.loop-k-preserved
loop-k-preserved c =
    let at : ℕ = c.args.at in
    let k : ℕ = c.loop-k.k in
    let place : c.from.result + 4 * c.from-in-loop-k.result ≡ at + 4 * k = omega (arith, c.from.ensures, c.from-in-loop-k.ensures) in
    let value : c.read-value.result ≡ read_at c.args.intc.now (at + 4 * k) B4 =
    c.read-value.ensures ∙ ap (λ (n : ℕ). read_at c.args.intc.now n B4) place in
    let bytes : c.to_le_bytes.result ≡ little_bytes 4 (read_at c.args.intc.now (at + 4 * k) B4) =
    c.to_le_bytes.ensures ∙ ap (little_bytes 4) value in
    c.write.ensures
    ∙ word_turn c.args.intc.now at k (4 * c.from-in-loop-k-2.result) c.loop-k.bytes c.to_le_bytes.result (omega arith) c.loop-k.invariant
    (omega (arith, c.from-in-loop-k-2.ensures)) bytes

pub returns : goal.returns
returns c =
    let all : c.loop-k.k ≡ c.args.len / 4 = omega (arith, c.loop-k.auto.k-end, c.loop-k-test.false) in
    c.loop-k.invariant ∙ ap (λ (n : ℕ). filled 124 (words c.args.intc.now c.args.at n)) all
    ∙ words_are c.args.intc.now c.args.at c.args.len c.requires (omega arith)
