use Rattle.std.proofs.Common.{◌≡◌, ◌∙◌, rules, ap, ap₂, true}
use Rattle.std.proofs.lemmas.Result.{IfOk-weaker}
use Rattle.clap.specs.Simple.{app_of_fields, on_top, with_rule}
use Rattle.clap.specs.Words.{rule_of}
use Rattle.cmdwords.specs.Splitting.{places_rule}
use Rattle.cmdwords.proofs.reader.places_command.Goals as goal

pub returns : goal.returns
returns c =
    let places_is : rule_of c.action-places.result ≡ places_rule = search rules in
    let start_is = ap app_of_fields c.disable_help_flag.ensures ∙ ap (on_top (λ s. record s { disable_help_flag = true }))
    c.new-2.ensures.app in
    IfOk-weaker c.arg.result _ _ (λ r adds. adds.shape (search rules) ∙ ap₂ with_rule start_is places_is) c.arg.ensures
