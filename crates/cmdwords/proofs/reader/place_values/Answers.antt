use Rattle.std.proofs.Common.{◌≡◌, ◌∙◌, [], ◌∷◌, map, sym, ap, subst, IfOk}
use Rattle.std.specs.Prelude.{option_map}
use Rattle.clap.specs.Words.{all_of, found_of, rows_of}
use Rattle.clap.proofs.WalkLemmas.{raw_values-rows}
use Rattle.cmdwords.specs.Given.{Fills}
use Rattle.cmdwords.specs.Splitting.{listed}
use Rattle.cmdwords.proofs.reader.place_values.Goals as goal

pub returns-in-Some : goal.returns-in-Some
returns-in-Some c =
    let found = found_of c.args.matches.now in
    let e : listed (all_of (61 ∷ []) (rows_of found)) ≡ map (λ w. w.now) c.in-Some.words.now =
    ap listed (sym (raw_values-rows found (61 ∷ [])) ∙ sym c.get_raw.ensures ∙ ap (option_map (λ s. map (λ v. v.now) s.now)) c.in-Some.is)
    in
    subst (λ l. IfOk c.values.result (Fills c.args.places.now l)) (sym e) c.values.ensures

pub returns-in-None : goal.returns-in-None
returns-in-None c =
    let found = found_of c.args.matches.now in
    let e : listed (all_of (61 ∷ []) (rows_of found)) ≡ [] =
    ap listed (sym (raw_values-rows found (61 ∷ [])) ∙ sym c.get_raw.ensures ∙ ap (option_map (λ s. map (λ v. v.now) s.now)) c.in-None.is)
    in
    subst (λ l. IfOk c.values-in-None.result (Fills c.args.places.now l)) (sym e) c.values-in-None.ensures
