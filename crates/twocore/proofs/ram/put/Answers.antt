use Rattle.std.proofs.Common.{◌≡◌, ℕ, List, length, refl, sym, ap, ◌∙◌}
use Rattle.twocore.specs.Memory.{put}
use Rattle.twocore.proofs.PutLemmas.{put_is, put_out, put_size}
use Rattle.twocore.proofs.ram.put.Goals as goal

pub returns-then-at-memory : goal.returns-then-at-memory
returns-then-at-memory c =
    let wrote : c.write.new.list ≡ put c.args.memory.now c.args.at c.args.bytes.now =
    put_is c.args.memory.now c.args.at c.args.bytes.now c.front.result.now c.write.new.list c.if-at-memory.true c.front.ensures.value
    c.write.ensures in
    record {
      value = wrote;
      size = ap (λ (m : List ℕ). length m) wrote ∙ put_size c.args.memory.now c.args.at c.args.bytes.now;
    }

pub returns-else-at-memory : goal.returns-else-at-memory
returns-else-at-memory c =
    record { value = sym (put_out c.args.memory.now c.args.at c.args.bytes.now c.if-at-memory.false); size = refl }
