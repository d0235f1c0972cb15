use Rattle.std.proofs.Common.{◌≡◌, ◌<◌, length, Some, None, ap, sym, ◌∙◌, arith}
use Rattle.std.proofs.lemmas.List.{get_or_read}
use Rattle.cscope.specs.Scope.{found}
use Rattle.cscope.proofs.Places.{at_below, found_at, found_none}
use Rattle.cscope.proofs.scope.Scope.find.Goals as goal

pub index-requires-in-Some : goal.index-requires-in-Some
index-requires-in-Some c =
    let nearest = c.self.inside.nearest.items in
    let within : c.args.name.0 < length nearest = omega (arith, c.requires, ap (λ d. d.names) c.self.view_is) in
    let read = sym (get_or_read nearest _ _ within c.index.ensures None) ∙ c.in-Some.is in
    omega (
      arith,
      at_below c.self.inside.slots.items nearest c.args.name.0 c.in-Some.at c.self.invariant within read,
      c.self.inside.slots.ok.0,
    )

pub returns-in-None : goal.returns-in-None
returns-in-None c =
    let nearest = c.self.inside.nearest.items in
    let within : c.args.name.0 < length nearest = omega (arith, c.requires, ap (λ d. d.names) c.self.view_is) in
    let read = sym (get_or_read nearest _ _ within c.index.ensures None) ∙ c.in-None.is in
    sym (found_none c.self.inside.slots.items nearest c.args.name.0 c.self.invariant within read) ∙ ap
    (λ d. found c.args.name.0 d.entries) c.self.view_is

pub returns-in-Some : goal.returns-in-Some
returns-in-Some c =
    let nearest = c.self.inside.nearest.items in
    let within : c.args.name.0 < length nearest = omega (arith, c.requires, ap (λ d. d.names) c.self.view_is) in
    let read = sym (get_or_read nearest _ _ within c.index.ensures None) ∙ c.in-Some.is in
    ap (λ s. Some s.entry) c.index-in-Some.ensures
    ∙ (sym (found_at c.self.inside.slots.items nearest c.args.name.0 c.in-Some.at c.index-in-Some.result.now c.self.invariant within read)
    ∙ ap (λ d. found c.args.name.0 d.entries) c.self.view_is)
