-- Where the machine stops before its end, the next token is the first that can't stand.
use Rattle.std.proofs.Common.{◌≡◌, ◌+◌, ◌-◌, ◌<◌, ◌⊎◌, inl, inr, Bool, true, false, List, [], ◌∷◌, ◌++◌, length, take, Option}
use Rattle.std.proofs.Common.{Some, None, refl, sym, ◌∙◌, subst, ap, arith, append_assoc, length-append}
use Rattle.std.proofs.lemmas.List.{take_at, length_push}
use Rattle.csyn.specs.declared.token.Token.{Token}
use Rattle.cgrammar.specs.declared.kind.Kind.TheVariants as kind
use Rattle.cgrammar.specs.declared.production.Production.TheVariants as make
use Rattle.cgrammar.specs.declared.terminal.Terminal.TheVariants as terminal
use Rattle.creader.specs.declared.part.Part.TheVariants as part
use Rattle.creader.specs.declared.part.Symbol.{Symbol}
use Rattle.creader.specs.declared.part.Symbol.TheVariants as symbol
use Rattle.cgrammar.specs.Kind.{kind_of}
use Rattle.cgrammar.specs.Terminal.{accepts}
use Rattle.creader.specs.Rules.{Rule, rules, any_accepts, choose}
use Rattle.cgrammar.specs.Text.{Written, leaf, IsText, IsFirstFault}
use Rattle.creader.specs.Machine.{State, at, reduce, step, Reaches, here, next, start}
use Rattle.creader.specs.Source.{EndsOnce}
use Rattle.creader.proofs.Complete.Reading.{allows}
use Rattle.creader.proofs.Fault.Steps.{one_end, onwards, take_step}
use Rattle.creader.proofs.Fault.Locality.{Way, way}
use Rattle.creader.proofs.Fault.Samples.{sample, samples, kind-sample}
use Rattle.creader.proofs.Fault.Table.{ends_before}
use Rattle.creader.proofs.Fault.Checks.{completion, completes, spares_end}
use Rattle.creader.proofs.Fault.Completion.{completed}
use Rattle.creader.proofs.Fault.Standing.{Ends, ends, bottom, Standing, above, last, over, stands}

-- what the two main laws say
abbrev pub Sound : Type 0
Sound = (tokens : List Token) (values : List Written) → Reaches (start tokens) (at [] values [])
    → (written : Written) × (values ≡ written ∷ []) × IsText written tokens

abbrev pub Whole : Type 0
Whole = (tokens : List Token) (written : Written) → IsText written tokens → Reaches (start tokens) (at [] (written ∷ []) [])

-- a source is the text of one tree only
pub one_text : Whole → (tokens : List Token) (a b : Written) → IsText a tokens → IsText b tokens → a ≡ b
unfolding step
one_text whole tokens a b text other =
    let same = one_end (whole tokens a text) (whole tokens b other) refl refl in
    let same' : a ∷ [] ≡ b ∷ [] = ap (λ (x : State). x.values) same in cc

-- the symbols have that form at the beginning of a source
start_stands : (tokens : List Token) → Ends tokens → Standing (start tokens).symbols tokens
unfolding completes spares_end completion ends_before allows any_accepts accepts
start_stands tokens once = above (record { upper = symbol.Read part.Units ∷ []; is = refl; can_end = refl; spares = refl; ahead = once })

-- what can be completed comes to the end
to_the_end : (upper : List Symbol) (values : List Written) → completes upper kind.End ≡ true
    → (others : List Token) × (made : List Written) × Reaches (at (upper ++ bottom) values others) (at [] made [])
unfolding step accepts
to_the_end upper values can =
    let end : Token = sample kind.End in
    let part = (completed upper end [] (rw kind-sample can)).done bottom values in
    let taken = take_step terminal.End (symbol.Reduce make.Source ∷ []) part.0 end [] (rw kind-sample refl) in
    (samples (completion upper) ++ end ∷ [], reduce make.Source (leaf end ∷ part.0), onwards part.1 (next taken (next refl here)))

-- what stops at a token stops there whatever is behind it
stops_alike : (symbols : List Symbol) (values : List Written) (token : Token) (tokens others : List Token)
    → step symbols values (token ∷ tokens) ≡ None → step symbols values (token ∷ others) ≡ None
unfolding step
stops_alike [] values token tokens others e = refl
stops_alike (symbol.Reduce p ∷ symbols) values token tokens others e = cc
stops_alike (symbol.Take t ∷ symbols) values token tokens others e = go (accepts t (kind_of token)) refl
  where
    go : (answer : Bool) → accepts t (kind_of token) ≡ answer → step (symbol.Take t ∷ symbols) values (token ∷ others) ≡ None
    go true is = let e' = rw is at e in cc
    go false is = rw is refl
stops_alike (symbol.Read p ∷ symbols) values token tokens others e = go (choose (rules p) (kind_of token)) refl
  where
    go : (found : Option Rule) → choose (rules p) (kind_of token) ≡ found → step (symbol.Read p ∷ symbols) values (token ∷ others) ≡ None
    go None is = rw is refl
    go (Some rule) is = let e' = rw is at e in cc

-- some text begins with the tokens that were taken
goes_on : Sound → (tokens : List Token) (b : State) → Ends tokens → Reaches (start tokens) b → (token : Token) (rest : List Token)
    → b.tokens ≡ token ∷ rest
    → (w : Way (start tokens) b) → (others : List Token) × (written : Written) × IsText written (w.front ++ others)
goes_on sound tokens b once reached token rest is w =
    go (stands (subst (λ x. Reaches (start x) (at w.symbols w.values b.tokens)) (sym w.split) (w.behind b.tokens))
    (start_stands tokens once))
  where
    go : Standing w.symbols b.tokens → (others : List Token) × (written : Written) × IsText written (w.front ++ others)
    go (above a) =
        let way_on = to_the_end a.upper w.values a.can_end in
        let first = w.behind way_on.0 in
        let then = subst (λ x. Reaches (at x w.values way_on.0) (at [] way_on.1 [])) (sym a.is) way_on.2 in
        let text = sound (w.front ++ way_on.0) way_on.1 (onwards first then) in
        (way_on.0, text.0, text.2)
    go (last _ empty) = cc
    go (over _ empty) = cc

-- and no text begins with them and the next one
no_further : Whole → (tokens : List Token) (symbols : List Symbol) (values : List Written) (token : Token) (rest : List Token)
    → step symbols values (token ∷ rest) ≡ None → (w : Way (start tokens) (at symbols values (token ∷ rest)))
    → (others : List Token) (written : Written) → IsText written ((w.front ++ token ∷ []) ++ others) → ⊥
unfolding step
no_further whole tokens symbols values token rest stop w others written text =
    let text' : IsText written (w.front ++ token ∷ others) = rw append_assoc at text in
    let same = one_end (w.ahead token rest others refl) (whole (w.front ++ token ∷ others) written text')
    (stops_alike symbols values token rest others stop) refl in
    let same' : token ∷ others ≡ [] = ap (λ (x : State). x.tokens) same in cc

-- where the machine stops at a token, that is the first that can't stand
is_fault : Sound → Whole → (tokens : List Token) (symbols : List Symbol) (values : List Written) (token : Token) (rest : List Token)
    → Ends tokens → Reaches (start tokens) (at symbols values (token ∷ rest)) → step symbols values (token ∷ rest) ≡ None
    → IsFirstFault tokens (length tokens - length (token ∷ rest))
is_fault sound whole tokens symbols values token rest once reached stop = go (way reached)
  where
    b : State
    b = at symbols values (token ∷ rest)

    go : Way (start tokens) b → IsFirstFault tokens (length tokens - length (token ∷ rest))
    go w =
        let long : length tokens ≡ length w.front + length (token ∷ rest) = ap length w.split ∙ length-append w.front (token ∷ rest) in
        let place : length tokens - length (token ∷ rest) ≡ length w.front = omega arith in
        let up_to : take (length w.front) tokens ≡ w.front =
        ap (take (length w.front)) w.split ∙ take_at w.front (token ∷ rest) (length w.front) refl in
        let split : tokens ≡ (w.front ++ token ∷ []) ++ rest = w.split ∙ sym (append_assoc w.front (token ∷ []) rest) in
        let and_next : take (length w.front + 1) tokens ≡ w.front ++ token ∷ [] =
        ap (take (length w.front + 1)) split ∙ take_at (w.front ++ token ∷ []) rest (length w.front + 1) (length_push w.front token) in
        rw place (record {
          within = omega arith;
          goes_on = rw up_to (goes_on sound tokens b once reached token rest refl w);
          stops = rw and_next (no_further whole tokens symbols values token rest stop w);
        })

-- the machine stops at the end of a source, or at the first token that can't stand
pub first_fault : Sound → Whole → (tokens rest : List Token) (symbols : List Symbol) (values : List Written) → EndsOnce tokens
    → Reaches (start tokens) (at symbols values rest) → step symbols values rest ≡ None
    → ((symbols ≡ []) × (rest ≡ [])) ⊎ (IsFirstFault tokens (length tokens - length rest) × (0 < length rest))
unfolding step
first_fault sound whole tokens rest symbols values ends_once reached stop = go rest reached stop (stands reached (start_stands tokens once))
  where
    once : Ends tokens
    once = ends tokens ends_once

    go : (rest : List Token) → Reaches (start tokens) (at symbols values rest) → step symbols values rest ≡ None → Standing symbols rest
        → ((symbols ≡ []) × (rest ≡ [])) ⊎ (IsFirstFault tokens (length tokens - length rest) × (0 < length rest))
    go rest reached stop (over is empty) = inl (is, empty)
    go rest reached stop (last is empty) = let stop' = rw (is, step) at stop in cc
    go [] reached stop (above a) = absurd a.ahead
    go (token ∷ rest) reached stop (above a) = inr (is_fault sound whole tokens symbols values token rest once reached stop, omega arith)
