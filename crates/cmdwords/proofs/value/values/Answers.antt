use Rattle.std.proofs.Common.{◌≡◌, ◌∙◌, rules, [], ◌∷◌, ◌++◌, length, map, ap, take, take_all, arith}
use Rattle.std.proofs.lemmas.Slice.Zip.{zip_turn, zip_end}
use Rattle.std.proofs.lemmas.List.{map-append}
use Rattle.cmdwords.specs.Asks.{MayStand, word_of}
use Rattle.cmdwords.specs.Given.{said}
use Rattle.cmdwords.proofs.Values.{one_more, fills_at, fill_length, length_more}
use Rattle.cmdwords.proofs.value.values.Goals as goal

pub returns-then-places-words : goal.returns-then-places-words
returns-then-places-words c =
    λ vs fill says. c.if-places-words.true (fill_length (λ w. w.now) c.args.places.now c.args.words.now vs fill says)

pub loop-place-init : goal.loop-place-init
loop-place-init c = search rules

pub returns-in_default : goal.returns-in_default
returns-in_default c = λ vs fill says.
    let turn = zip_turn c.args.places.now c.args.words.now c.loop-place.yielded c.into_iter-place-iterator.result
    c.loop-place.place-iterator c.next.new.self
    c.next.result (search rules) (search rules) c.loop-place.yielded_by _ c.in-Some.is c.next.ensures.steps in
    fills_at (λ w. w.now) c.args.places.now c.args.words.now (length c.loop-place.yielded) vs c.in-Some.place.now c.in-Some.word.now
    turn.0 turn.1 turn.2 turn.3 (search rules) fill says

pub loop-place-preserved : goal.loop-place-preserved
loop-place-preserved c =
    let turn = zip_turn c.args.places.now c.args.words.now c.loop-place.yielded c.into_iter-place-iterator.result
    c.loop-place.place-iterator c.next.new.self
    c.next.result (search rules) (search rules) c.loop-place.yielded_by _ c.in-Some.is c.next.ensures.steps in
    let here : MayStand c.in-Some.place.now (said c.in-Some-2.value) × (word_of (said c.in-Some-2.value) ≡ c.in-Some.word.now.now) =
    search rules in
    let items : map said c.push.new.self.items ≡ map said c.loop-place.values.items ++ said c.in-Some-2.value ∷ [] =
    ap (map said) c.in_ok-push.ensures.items ∙ map-append said c.loop-place.values.items (c.in-Some-2.value ∷ []) in
    let more = one_more (λ w. w.now) c.args.places.now c.args.words.now (length c.loop-place.yielded) (map said c.loop-place.values.items)
    c.in-Some.place.now c.in-Some.word.now (said c.in-Some-2.value) turn.0 turn.1 turn.2 turn.3 here.0 here.1 c.loop-place.invariant in
    rw (length_more c.loop-place.yielded (c.in-Some.place, c.in-Some.word), items) more

pub returns : goal.returns
returns c =
    let count = zip_end c.args.places.now c.args.words.now c.loop-place.yielded c.into_iter-place-iterator.result
    c.loop-place.place-iterator c.next.new.self
    c.next.result (search rules) (search rules) c.loop-place.yielded_by c.in-None.is c.next.ensures.steps in
    let places : take (length c.loop-place.yielded) c.args.places.now ≡ c.args.places.now =
    take_all (length c.loop-place.yielded) c.args.places.now (omega (arith, count, c.if-places-words.false)) in
    let words : take (length c.loop-place.yielded) c.args.words.now ≡ c.args.words.now =
    take_all (length c.loop-place.yielded) c.args.words.now (omega (arith, count, c.if-places-words.false)) in
    rw (← places, ← words) c.loop-place.invariant
