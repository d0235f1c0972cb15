use Rattle.std.proofs.Common.{◌≡◌, ◌∙◌, rules, Bor, List, [], ◌∷◌, Some, map, refl, sym, ap, ap₂, subst}
use Rattle.std.specs.Prelude.{String, slice_get}
use Rattle.std.specs.declared.alloc.Global.{Global}
use Rattle.std.specs.String.{string_bytes}
use Rattle.std.proofs.lemmas.Str.{IsUtf8-string_bytes}
use Rattle.clap.specs.Walk.{Row, all_of, first_of}
use Rattle.clap.specs.Words.{first_value, found_of, matches_of, rows_of}
use Rattle.clap.specs.declared.parser.matches.Found.{Found}
use Rattle.clap.proofs.WalkLemmas.{first_value-rows}
use Rattle.cmdwords.specs.Form.{Text, form_of}
use Rattle.cmdwords.specs.Asks.{Asks}
use Rattle.cmdwords.specs.Given.{Fills, said, texts}
use Rattle.cmdwords.specs.Splitting.{IsSplit, listed}
use Rattle.cmdwords.proofs.Sound.{AreUtf8}
use Rattle.cmdwords.proofs.Reading.{app, read_back, read_on}
use Rattle.cmdwords.proofs.reader.read.Goals as goal

are_utf8 : (words : List (String Global)) → AreUtf8 (texts words)
are_utf8 [] = tt
are_utf8 (word ∷ words) = (IsUtf8-string_bytes word, are_utf8 words)

-- the words behind the first
behind : (words : List (String Global)) (first : String Global) → slice_get words 0 ≡ Some first → (rest : List (String Global))
    × (words ≡ first ∷ rest)
behind [] first e = cc
behind (word ∷ words) first e =
    let same : word ≡ first = cc in
    (words, ap (λ w. w ∷ words) same)

option_values : (f : Found) (rows : List Row) → rows_of f ≡ rows → (names : List (Bor Text))
    → map (λ name. first_value f name.now) names ≡ map (λ name. first_of name rows) (map (λ name. name.now) names)
option_values f rows e [] = refl
option_values f rows e (name ∷ names) =
    ap₂ (λ o os. o ∷ os) (first_value-rows f name.now ∙ ap (first_of name.now) e) (option_values f rows e names)

pub returns-in_default-2 : goal.returns-in_default-2
returns-in_default-2 c = λ a asks.
    let form = form_of c.args.form in
    let words = texts c.args.words.now in
    subst (IsSplit (app form) words) c.in_default-2.is c.in_ok-matches.ensures (read_back form words a c.requires asks).passes

pub returns-in_default-3 : goal.returns-in_default-3
returns-in_default-3 c = λ a asks.
    let form = form_of c.args.form in
    let words = texts c.args.words.now in
    let split = subst (IsSplit (app form) words) c.in-Some-2.is c.in_ok-matches.ensures in
    let never = subst (Fills c.args.form.places.now _) c.in_default-3.is c.in_ok-values.ensures in
    never a.values asks.fill (sym (ap (λ r. listed (all_of (61 ∷ []) r)) split.1 ∙ (read_back form words a c.requires asks).places))

pub returns : goal.returns
returns c =
    let form = form_of c.args.form in
    let words = texts c.args.words.now in
    let rows = matches_of (app form) words in
    let values = map said c.in-Some-3.values.items in
    let split = subst (IsSplit (app form) words) c.in-Some-2.is c.in_ok-matches.ensures in
    let fill = subst (Fills c.args.form.places.now _) c.in-Some-3.is c.in_ok-values.ensures in
    let rest = behind c.args.words.now c.in-Some.mode.now (search rules) in
    let mode : string_bytes c.in-Some.mode.now ≡ c.args.form.mode.now = search rules in
    let text = ap texts rest.1 ∙ ap (λ m. m ∷ texts rest.0) mode in
    let on = read_on form words (texts rest.0) values c.requires text (are_utf8 rest.0) split.0 fill.0
    (fill.1 ∙ ap (λ r. listed (all_of (61 ∷ []) r)) split.1) in
    let options = c.in_ok-options.ensures ∙ option_values (found_of c.in-Some-2.matches) rows split.1 c.args.form.options.now in
    subst (λ o. Asks form words (record { values = values; options = o })) (sym options) on
