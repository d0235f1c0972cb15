-- What a token brings while names are replaced.
use Rattle.std.proofs.Common.{◌≡◌, ℕ, suc, ◌||◌, Bor, ◌+◌, ◌<◌, ◌≤◌, List, [], ◌∷◌, ◌++◌, length, map, flat_map, Option, Some, None}
use Rattle.std.proofs.Common.{Result, Ok, Err, OnOk, IfErr, refl, sym, ap, ◌∙◌, subst, arith, append_assoc, append-nil}
use Rattle.std.proofs.Common.{length-append}
use Rattle.std.proofs.lemmas.List.{map-append}
use Rattle.std.specs.Str.{bytes_eq}
use Rattle.csyn.specs.declared.token.Token.{Token}
use Rattle.csyn.specs.declared.tree.TheConstants.{MAX_TOKENS}
use Rattle.cpre.specs.declared.fault.ItemFault.{ItemFault}
use Rattle.cpre.specs.declared.fault.ItemFault.TheVariants.{Broken, Memory}
use Rattle.cpre.specs.declared.macros.Stage.TheVariants.{Idle, Open}
use Rattle.cpre.specs.declared.replace.Fate.TheVariants.{Stays, Goes, Opens}
use Rattle.cpre.specs.declared.replace.Frame.{Frame}
use Rattle.cpre.specs.declared.replace.Place.{Place}
use Rattle.cpre.specs.declared.replace.Replacer.{Replacer}
use Rattle.cpre.specs.Directive.{name_of}
use Rattle.cpre.specs.Fate.{Becomes}
use Rattle.cpre.specs.Held.{macros_of, found}
use Rattle.cpre.specs.Replacement.{Macros, without, at, expanded}
use Rattle.cpre.specs.Replacing.{names, is_among, hide, become, coming, token_steps, all_steps}
use Rattle.cpre.specs.Replacing.{work, IsSound, Keeps, Takes, Steps, Overflows}
use Rattle.cpre.specs.Standard.{typed}
use Rattle.cpre.proofs.Depth.{expanded_name, steps_name, some_steps}
use Rattle.cpre.proofs.Stages.{opens_macro}

-- what comes of tokens, one by one
pieces : (ms : Macros) (place : Place) (ts : List Token) → flat_map (become ms place) ts
    ≡ map (typed place.is_included) (flat_map (expanded ms) (map (at place.span) ts))
pieces ms place [] = refl
pieces ms place (t ∷ ts) =
    ap (λ ys. become ms place t ++ ys) (pieces ms place ts)
    ∙ sym (map-append (typed place.is_included) (expanded ms (at place.span t)) (flat_map (expanded ms) (map (at place.span) ts)))

module _ (place : Place) (t : Token) (old new : Replacer) (sound : IsSound old.macros old.frames) where
  abbrev ms : Macros
  ms = macros_of old.macros

  abbrev seen : Macros
  seen = hide (names old.frames) ms

  abbrev Becoming : List Token → Type 0
  Becoming made = made ++ coming ms place new.frames ≡ old.made.items ++ (become seen place t ++ coming ms place old.frames)

  pub stays_takes : {A E : Type 0} (r : Result A E) → Becomes old t Stays → new.frames ≡ old.frames → new.macros ≡ old.macros
      → OnOk r (new.made.items ≡ old.made.items ++ typed place.is_included (at place.span t) ∷ []) → OnOk r (Takes place t old new)
  stays_takes (Err e) stays frames macros made = tt
  stays_takes (Ok x) stays frames macros made = record {
    keeps = record {
      sound = let s = subst (λ m. IsSound m old.frames) (sym macros) sound in subst (IsSound new.macros) (sym frames) s;
      macros = ap macros_of macros;
    };
    made = (λ i. made i ++ coming ms place (frames i))
        ∙ append_assoc old.made.items (typed place.is_included (at place.span t) ∷ []) (coming ms place old.frames)
        ∙ ap (λ ys. old.made.items ++ (map (typed place.is_included) ys ++ coming ms place old.frames)) (sym (stays place.span));
    less = subst (λ fs. work ms fs < token_steps seen t + work ms old.frames) (sym frames) (let p = some_steps seen t in omega (arith, p));
  }

  pub goes_takes : Becomes old t Goes → Takes place t old old
  goes_takes goes = record {
    keeps = record { sound = sound; macros = refl };
    made = ap (λ ys. old.made.items ++ (map (typed place.is_included) ys ++ coming ms place old.frames)) (sym (goes place.span));
    less = let p = some_steps seen t in omega (arith, p);
  }

  opened : (f : Frame) → name_of t.kind ≡ Some f.name.now → found old.macros f.name.now
      ≡ Some (record { tokens = f.tokens; stage = Idle }) → f.rest ≡ f.tokens
      → (coming ms place (f ∷ old.frames) ≡ become seen place t ++ coming ms place old.frames)
      × (work ms (f ∷ old.frames) < token_steps seen t + work ms old.frames)
  opened f named idle all =
      let macro = opens_macro old.macros old.frames sound t place.span f.name.now
      (record { tokens = f.tokens; stage = Idle }) named idle refl in
      let n = steps_name seen t (f.name.now, f.tokens.now) macro in (
        ap (λ r. flat_map (become (without f.name.now seen) place) r.now ++ coming ms place old.frames) all
            ∙ ap (λ ys. ys ++ coming ms place old.frames) (
            pieces (without f.name.now seen) place f.tokens.now
            ∙ ap (map (typed place.is_included)) (sym (expanded_name seen (at place.span t) (f.name.now, f.tokens.now) macro))),
        let s = ap (λ r. all_steps (token_steps (without f.name.now seen)) r.now) all in omega (arith, n, s),
      )

  pub opens_takes : {A E : Type 0} (r : Result A E) (f : Frame) → Becomes old t (Opens f.name f.tokens) → f.rest ≡ f.tokens
      → new.made ≡ old.made → OnOk r (new.frames ≡ f ∷ old.frames)
      → OnOk r (Keeps old.macros new.macros new.frames) → OnOk r (Takes place t old new)
  opens_takes (Err e) f opens all made frames keeps = tt
  opens_takes (Ok x) f opens all made frames keeps =
      let is = opened f opens.0 opens.1 all in
      record {
        keeps = keeps;
        made = (λ i. (made i).items ++ coming ms place (frames i)) ∙ ap (λ ys. old.made.items ++ ys) is.0;
        less = subst (λ fs. work ms fs < token_steps seen t + work ms old.frames) (sym frames) is.1;
      }

-- ---- the loop

pub record SoFar (ms : Macros) (place : Place) (total : List Token) (r : Replacer) : Type 0 where
  pub sound : IsSound r.macros r.frames
  pub macros : macros_of r.macros ≡ ms
  pub made : r.made.items ++ coming ms place r.frames ≡ total

pub nothing_open : (old : Replacer) → old.frames ≡ [] → IsSound old.macros [] → IsSound old.macros old.frames
nothing_open old none sound = subst (IsSound old.macros) (sym none) sound

pub begins : (place : Place) (t : Token) (old new : Replacer) → old.frames ≡ [] → Takes place t old new
    → SoFar (macros_of old.macros) place (old.made.items ++ become (macros_of old.macros) place t) new
begins place t old new none takes = record {
  sound = takes.keeps.sound;
  macros = takes.keeps.macros;
  made = takes.made
      ∙ ap (λ fs. old.made.items ++ (become (hide (names fs) (macros_of old.macros)) place t ++ coming (macros_of old.macros) place fs))
      none
      ∙ ap (λ ys. old.made.items ++ ys) (append-nil (become (macros_of old.macros) place t));
}

pub more_overflows : (e : ItemFault) (n m : ℕ) → n ≤ m → Overflows n e → Overflows m e
more_overflows (Broken cause) n m le h = (h.0, omega (arith, le, h.1))
more_overflows Memory n m le h = tt

pub first_overflows : (place : Place) (t : Token) (old : Replacer) (e : ItemFault) → old.frames ≡ []
    → Overflows (length old.made.items + length (become (hide (names old.frames) (macros_of old.macros)) place t)) e
    → Overflows (length (old.made.items ++ become (macros_of old.macros) place t)) e
first_overflows place t old e none h =
    let n = ap (λ fs. length (become (hide (names fs) (macros_of old.macros)) place t)) none in
    let m = length-append old.made.items (become (macros_of old.macros) place t) in
    more_overflows e _ _ (omega (arith, n, m)) h

-- a frame whose next token is taken out
abbrev pub behind : Frame → Frame → Type 0
behind f g = (g.name ≡ f.name) × (g.tokens ≡ f.tokens)

module _ (ms : Macros) (place : Place) (f g : Frame) (frames : List Frame) (t : Token) (same : behind f g)
    (parts : f.rest.now ≡ t ∷ g.rest.now) where
  abbrev inside : Macros
  inside = hide (names (f ∷ frames)) ms

  same-inside : hide (names (g ∷ frames)) ms ≡ inside
  same-inside = ap (λ n. without n.now (hide (names frames) ms)) same.0

  pub coming_first : coming ms place (f ∷ frames) ≡ become (hide (names (g ∷ frames)) ms) place t ++ coming ms place (g ∷ frames)
  coming_first =
      ap (λ ts. flat_map (become inside place) ts ++ coming ms place frames) parts
      ∙ append_assoc (become inside place t) (flat_map (become inside place) g.rest.now) (coming ms place frames)
      ∙ (λ i. become (sym same-inside i) place t ++ (flat_map (become (sym same-inside i) place) g.rest.now ++ coming ms place frames))

  first-sum : (g : Token → ℕ) (xs : List Token) (t : Token) (ts : List Token) → xs ≡ t ∷ ts → all_steps g xs ≡ g t + all_steps g ts
  first-sum g xs t ts h = ap (all_steps g) h

  pub work_first : work ms (f ∷ frames) ≡ token_steps (hide (names (g ∷ frames)) ms) t + work ms (g ∷ frames)
  work_first =
      let s : all_steps (token_steps (hide (names (f ∷ frames)) ms)) f.rest.now
      ≡ token_steps (hide (names (f ∷ frames)) ms) t + all_steps (token_steps (hide (names (f ∷ frames)) ms)) g.rest.now =
      first-sum (token_steps (hide (names (f ∷ frames)) ms)) f.rest.now t g.rest.now parts
      in
      let a : token_steps (hide (names (g ∷ frames)) ms) t ≡ token_steps (hide (names (f ∷ frames)) ms) t = ap
      (λ m. token_steps m t) same-inside in
      let b : all_steps (token_steps (hide (names (g ∷ frames)) ms)) g.rest.now
      ≡ all_steps (token_steps (hide (names (f ∷ frames)) ms)) g.rest.now = ap
      (λ m. all_steps (token_steps m) g.rest.now) same-inside in
      omega (arith, s, a, b)

pub still_sound : (old : Replacer) (f g : Frame) (frames : List Frame) → behind f g → IsSound old.macros (f ∷ frames)
    → IsSound old.macros (g ∷ frames)
still_sound old f g frames same sound = record {
  are_open = (
    ap (λ n. found old.macros n.now) same.0 ∙ sound.are_open.0 ∙ ap (λ ts. Some (record { tokens = ts; stage = Open })) (sym same.1),
    ap (λ n. is_among (names frames) n.now) same.0 ∙ sound.are_open.1,
    sound.are_open.2,
  );
  only = λ n is. ap (λ (m : Bor (List ℕ)). bytes_eq n m.now || is_among (names frames) n) same.0 ∙ sound.only n is;
  nothing = sound.nothing;
}

-- a step with a frame: its next token is taken, or it is left
module _ (place : Place) (old mid new : Replacer) (f g : Frame) (t : Token) (same : behind f g) (parts : f.rest.now ≡ t ∷ g.rest.now)
    (pushed : mid.frames ≡ g ∷ old.frames) (kept : mid.macros ≡ old.macros) (held : mid.made ≡ old.made) where
  pub mid_sound : IsSound old.macros (f ∷ old.frames) → IsSound mid.macros mid.frames
  mid_sound sound =
      let b = still_sound old f g old.frames same sound in
      let c = subst (λ m. IsSound m (g ∷ old.frames)) (sym kept) b in
      subst (IsSound mid.macros) (sym pushed) c

  mid-macros : macros_of mid.macros ≡ macros_of old.macros
  mid-macros = ap macros_of kept

  brings : mid.made.items ++ (become (hide (names mid.frames) (macros_of mid.macros)) place t ++ coming
      (macros_of mid.macros) place mid.frames)
      ≡ old.made.items ++ coming (macros_of old.macros) place (f ∷ old.frames)
  brings =
      (λ i. (held i).items ++ (become (hide (names (pushed i)) (mid-macros i)) place t ++ coming (mid-macros i) place (pushed i)))
      ∙ ap (λ ys. old.made.items ++ ys) (sym (coming_first (macros_of old.macros) place f g old.frames t same parts))

  takes-less : Takes place t mid new → work (macros_of old.macros) new.frames < work (macros_of old.macros) (f ∷ old.frames)
  takes-less takes =
      let less = takes.less in
      let a : work (macros_of mid.macros) new.frames ≡ work (macros_of old.macros) new.frames = ap (λ ms. work ms new.frames) mid-macros in
      let b : token_steps (hide (names mid.frames) (macros_of mid.macros)) t
      ≡ token_steps (hide (names (g ∷ old.frames)) (macros_of old.macros)) t =
      λ i. token_steps (hide (names (pushed i)) (mid-macros i)) t
      in
      let c : work (macros_of mid.macros) mid.frames ≡ work (macros_of old.macros) (g ∷ old.frames) = λ i. work (mid-macros i) (pushed i) in
      let d = work_first (macros_of old.macros) place f g old.frames t same parts in
      omega (arith, less, a, b, c, d)

  pub first_steps : {A E : Type 0} (r : Result A E) → OnOk r (Takes place t mid new) → OnOk r (Steps place f old new)
  first_steps (Err e) takes = tt
  first_steps (Ok x) takes = record {
    keeps = record { sound = takes.keeps.sound; macros = takes.keeps.macros ∙ mid-macros };
    made = ap (λ ms. new.made.items ++ coming ms place new.frames) (sym mid-macros) ∙ takes.made ∙ brings;
    less = takes-less takes;
  }

  first-overflows : (e : ItemFault) → Overflows (length mid.made.items + length
      (become (hide (names mid.frames) (macros_of mid.macros)) place t)) e
      → Overflows (length (old.made.items ++ coming (macros_of old.macros) place (f ∷ old.frames))) e
  first-overflows e h =
      let a : length (mid.made.items ++ (become (hide (names mid.frames) (macros_of mid.macros)) place t ++ coming
      (macros_of mid.macros) place mid.frames))
      ≡ length (old.made.items ++ coming (macros_of old.macros) place (f ∷ old.frames)) = ap length brings
      in
      let b = length-append mid.made.items (become (hide (names mid.frames) (macros_of mid.macros)) place t ++ coming
      (macros_of mid.macros) place mid.frames) in
      let c = length-append (become (hide (names mid.frames) (macros_of mid.macros)) place t)
      (coming (macros_of mid.macros) place mid.frames) in
      more_overflows e _ _ (omega (arith, a, b, c)) h

  pub first_err : {A : Type 0} (r : Result A ItemFault) → IfErr r
      (Overflows (length mid.made.items + length (become (hide (names mid.frames) (macros_of mid.macros)) place t)))
      → IfErr r (Overflows (length (old.made.items ++ coming (macros_of old.macros) place (f ∷ old.frames))))
  first_err (Err e) h = first-overflows e h
  first_err (Ok x) h = tt

module _ (place : Place) (old new : Replacer) (f : Frame) (empty : f.rest.now ≡ []) (same : new.frames ≡ old.frames)
    (held : new.made ≡ old.made) where
  last-coming : coming (macros_of old.macros) place old.frames ≡ coming (macros_of old.macros) place (f ∷ old.frames)
  last-coming = sym (ap (λ ts. flat_map (become (hide (names (f ∷ old.frames)) (macros_of old.macros)) place) ts ++ coming
      (macros_of old.macros) place old.frames) empty)

  pub last_steps : {A E : Type 0} (r : Result A E) → OnOk r (Keeps old.macros new.macros new.frames) → OnOk r (Steps place f old new)
  last_steps (Err e) keeps = tt
  last_steps (Ok x) keeps = record {
    keeps = keeps;
    made = (λ i. (held i).items ++ coming (macros_of old.macros) place (same i)) ∙ ap (λ ys. old.made.items ++ ys) last-coming;
    less = let e : work (macros_of old.macros) new.frames ≡ work (macros_of old.macros) old.frames = ap
        (work (macros_of old.macros)) same in omega (arith, e);
  }

-- the loop goes on
module _ (ms : Macros) (place : Place) (total : List Token) (old mid new : Replacer) (f : Frame) (so-far : SoFar ms place total old)
    (popped : old.frames ≡ f ∷ mid.frames)
    (kept : mid.macros ≡ old.macros) (held : mid.made ≡ old.made) where
  pub popped_sound : IsSound mid.macros (f ∷ mid.frames)
  popped_sound = let a = subst (IsSound old.macros) popped so-far.sound in subst (λ m. IsSound m (f ∷ mid.frames)) (sym kept) a

  mid-is : macros_of mid.macros ≡ ms
  mid-is = ap macros_of kept ∙ so-far.macros

  whole : mid.made.items ++ coming (macros_of mid.macros) place (f ∷ mid.frames) ≡ total
  whole = (λ i. (held i).items ++ coming (mid-is i) place (sym popped i)) ∙ so-far.made

  pub goes_on : Steps place f mid new → SoFar ms place total new
  goes_on steps = record {
    sound = steps.keeps.sound;
    macros = steps.keeps.macros ∙ mid-is;
    made = ap (λ ms. new.made.items ++ coming ms place new.frames) (sym mid-is) ∙ steps.made ∙ whole;
  }

  pub goes_less : Steps place f mid new → work ms new.frames < work ms old.frames
  goes_less steps =
      let less = steps.less in
      let a : work (macros_of mid.macros) new.frames ≡ work ms new.frames = ap (λ ms. work ms new.frames) mid-is in
      let b : work (macros_of mid.macros) (f ∷ mid.frames) ≡ work ms old.frames = λ i. work (mid-is i) (sym popped i) in
      omega (arith, less, a, b)

  pub overflows_on : (e : ItemFault) → Overflows (length (mid.made.items ++ coming (macros_of mid.macros) place (f ∷ mid.frames))) e
      → Overflows (length total) e
  overflows_on e h = more_overflows e _ _ (let a = ap length whole in omega (arith, a)) h

pub ends : (ms : Macros) (place : Place) (total : List Token) (r : Replacer) → SoFar ms place total r → r.frames ≡ [] → r.made.items ≡ total
ends ms place total r so-far none = sym (append-nil r.made.items) ∙ ap (λ fs. r.made.items ++ coming ms place fs) (sym none) ∙ so-far.made
