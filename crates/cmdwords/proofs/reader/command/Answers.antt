use Rattle.std.proofs.Common.{◌≡◌, ◌∙◌, ◌+◌, ◌<◌, ℕ, suc, List, [], ◌∷◌, ◌++◌, length, map, take, get_or, take-suc, sym, ap, ap₂, arith}
use Rattle.std.proofs.lemmas.List.{map-append}
use Rattle.clap.specs.Words.{with_rule}
use Rattle.cmdwords.specs.Form.{Text}
use Rattle.cmdwords.specs.Splitting.{app_with, option_rule, places_rule}
use Rattle.cmdwords.proofs.reader.command.Goals as goal

one_taken : {B : Type 0} (text : B → Text) (l : List B) (i : ℕ) (d : B) → i < length l
    → map text (take (i + 1) l) ≡ map text (take i l) ++ (text (get_or l i d) ∷ [])
one_taken text l i d lt =
    let next : i + 1 ≡ suc i = omega arith in
    ap (λ n. map text (take n l)) next ∙ ap (map text) (take-suc l i d lt) ∙ map-append text (take i l) (get_or l i d ∷ [])

one_option : (mode : Text) (names : List Text) (name : Text) → with_rule (app_with mode names) (option_rule name)
    ≡ app_with mode (names ++ (name ∷ []))
one_option mode names name =
    ap (λ l. record (app_with mode names) { top = record (app_with mode names).top { rules = places_rule ∷ l } })
    (sym (map-append option_rule names (name ∷ [])))

pub loop-name-preserved : goal.loop-name-preserved
loop-name-preserved c =
    c.in_ok-command-2.ensures.shape c.option.ensures.local
    ∙ ap₂ with_rule c.loop-name.invariant c.option.ensures.rule
    ∙ one_option c.args.mode.now _ _
    ∙ ap (app_with c.args.mode.now) (sym (one_taken (λ w. w.now) c.args.names.now c.loop-name.name-index _ c.loop-name-test.true))
