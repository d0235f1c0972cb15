use Rattle.std.proofs.Common.{◌∙◌, ap, map}
use Rattle.clap.specs.Words.{is_simple_and_free}
use Rattle.cmdwords.proofs.Built.{simple_and_free}
use Rattle.cmdwords.proofs.reader.matches.Goals as goal

pub split-requires : goal.split-requires
split-requires c = ap is_simple_and_free c.in_ok-command.ensures ∙ simple_and_free c.args.form.mode.now
    (map (λ name. name.now) c.args.form.options.now)
