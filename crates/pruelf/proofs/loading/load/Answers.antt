use Rattle.pruelf.specs.Executable.{held}
use Rattle.pruelf.proofs.Images.{is_image}
use Rattle.pruelf.proofs.loading.load.Goals as goal

pub new-requires : goal.new-requires
new-requires c = rw c.in_ok-init.ensures.items (is_image c.args.bytes.now (held c.in_ok-parts.parts) c.in_ok-parts.ensures)
