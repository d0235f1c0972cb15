use Rattle.cpre.proofs.Taking.{first_steps, last_steps, mid_sound, first_err}
use Rattle.cpre.proofs.replace.Replacer.step.Goals as goal
