-- Lines one after the other: what they say together, and the first bad one.
use Rattle.std.proofs.Common.{◌≡◌, ◌≢◌, map, eq-eqb, ℕ, ◌+◌, ◌<◌, ◌==◌, false, cond, List, [], ◌∷◌, ◌++◌, length, get_or, Result}
use Rattle.std.proofs.Common.{Ok, Err, refl, sym, ap, ◌∙◌, arith, append_assoc, length-append, subst, IfOk, IfErr}
use Rattle.std.specs.List.{AllZip, AllByRecursion}
use Rattle.std.proofs.lemmas.List.{append-nil, get_or_append_left}
use Rattle.textline.specs.Lines.{lines_of, text_of, line_of, Lacks}
use Rattle.textline.proofs.SplitLaws.{lines_again}
use Rattle.hostscript.specs.declared.action.Act.{Act}
use Rattle.hostscript.specs.declared.cause.ScriptCause.{ScriptCause}
use Rattle.hostscript.specs.declared.cause.ScriptCause.TheVariants.{Form, Range, Order}
use Rattle.hostscript.specs.declared.fault.ScriptFault.{ScriptFault}
use Rattle.hostscript.specs.declared.fault.ScriptFault.TheVariants as script_faults
use Rattle.hostscript.specs.declared.fault.LineFault.{LineFault}
use Rattle.hostscript.specs.declared.fault.LineFault.TheVariants as faults
use Rattle.hostscript.specs.declared.line.Saying.{Saying}
use Rattle.hostscript.specs.declared.line.Saying.TheVariants.{Nothing, Does, Waits}
use Rattle.hostscript.specs.declared.draft.Draft.{Draft}
use Rattle.hostscript.specs.declared.script.Script.{Script}
use Rattle.hostscript.specs.Acts.{IsAct, InOrder, act_text, act_fields, arb_fields}
use Rattle.hostscript.specs.Lines.{Says}
use Rattle.hostscript.specs.Faults.{at_line}
use Rattle.hostscript.specs.Scripts.{acts_in, numbers_in, AreGood, IsScript, HasCause, IsLineFault, IsFirstBad}
use Rattle.hostscript.specs.Scripts.{IsFaultOf, Gives, IsWhole, arb_lines, script_text}
use Rattle.hostscript.specs.Drafts.{Holds, Adds}
use Rattle.hostscript.proofs.LineLaws.{one_saying, has_form_of, act_lacks, arb_lacks}

zip_push : {A B : Type 0} (R : A → B → Type 0) (xs : List A) (ys : List B) (x : A) (y : B) → AllZip R xs ys → R x y
    → AllZip R (xs ++ x ∷ []) (ys ++ y ∷ [])
zip_push R [] [] x y all one = (one, tt)
zip_push R [] (b ∷ ys) x y all one = absurd all
zip_push R (a ∷ xs) [] x y all one = absurd all
zip_push R (a ∷ xs) (b ∷ ys) x y all one = (all.0, zip_push R xs ys x y all.1 one)

acts-append : (a b : List Saying) → acts_in (a ++ b) ≡ acts_in a ++ acts_in b
acts-append [] b = refl
acts-append (Nothing ∷ a) b = acts-append a b
acts-append (Does act ∷ a) b = ap (λ xs. act ∷ xs) (acts-append a b)
acts-append (Waits core ns ∷ a) b = acts-append a b

numbers-append : (k : ℕ) (a b : List Saying) → numbers_in k (a ++ b) ≡ numbers_in k a ++ numbers_in k b
numbers-append k [] b = refl
numbers-append k (Nothing ∷ a) b = numbers-append k a b
numbers-append k (Does act ∷ a) b = numbers-append k a b
numbers-append k (Waits core ns ∷ a) b = ap (λ xs. cond (core == k) ns [] ++ xs) (numbers-append k a b)
    ∙ sym (append_assoc (cond (core == k) ns []) (numbers_in k a) (numbers_in k b))

-- no lines say an empty script
pub nothing_said : AreGood [] []
nothing_said = record { each = tt; order = λ i j d le lt. absurd (omega (arith, lt)) }

-- one good line more
pub more_holds : (said : List Saying) (one : Saying) (old new : Draft) → Holds old said → Adds one old new → Holds new (said ++ one ∷ [])
more_holds said one old new h a = record {
  acts = a.acts ∙ ap (λ xs. xs ++ acts_in (one ∷ [])) h.acts ∙ sym (acts-append said (one ∷ []));
  arb0 = a.arb0 ∙ ap (λ xs. xs ++ numbers_in 0 (one ∷ [])) h.arb0 ∙ sym (numbers-append 0 said (one ∷ []));
  arb1 = a.arb1 ∙ ap (λ xs. xs ++ numbers_in 1 (one ∷ [])) h.arb1 ∙ sym (numbers-append 1 said (one ∷ []));
}

pub more_good : (before : List (List ℕ)) (line : List ℕ) (said : List Saying) (one : Saying) (old new : Draft) → AreGood before said
    → Holds old said → Says line one → Adds one old new
    → (InOrder old.acts.items → InOrder new.acts.items) → AreGood (before ++ line ∷ []) (said ++ one ∷ [])
more_good before line said one old new good h says a rises = record {
  each = zip_push Says before said line one good.each says;
  order = subst InOrder (more_holds said one old new h a).acts (rises (subst InOrder (sym h.acts) good.order));
}

pub first_bad : (text : List ℕ) (before : List (List ℕ)) (line : List ℕ) (after : List (List ℕ)) (number : ℕ) (said : List Saying)
    (old : Draft) (fault : LineFault)
    → lines_of text ≡ before ++ line ∷ after → number ≡ length before + 1 → AreGood before said → Holds old said
    → IsLineFault old.acts.items line fault
    → IsFaultOf text (at_line number fault)
first_bad text before line after number said old (faults.Cause cause) lines place good h bad = record {
  before = before;
  line = line;
  after = after;
  lines = lines;
  place = place;
  said = said;
  good = good;
  bad = subst (λ acts. HasCause acts line cause) h.acts bad;
}
first_bad text before line after number said old faults.Memory lines place good h bad = tt

-- the acts that lines say are in their ranges
pub acts_are : (lines : List (List ℕ)) (said : List Saying) → AllZip Says lines said → AllByRecursion IsAct (acts_in said)
acts_are [] [] all = tt
acts_are [] (one ∷ said) all = absurd all
acts_are (line ∷ lines) [] all = absurd all
acts_are (line ∷ lines) (Nothing ∷ said) all = acts_are lines said all.1
acts_are (line ∷ lines) (Does act ∷ said) all = (all.0.0, acts_are lines said all.1)
acts_are (line ∷ lines) (Waits core ns ∷ said) all = acts_are lines said all.1

-- lines say one thing
one_reading : (lines : List (List ℕ)) (a b : List Saying) → AllZip Says lines a → AllZip Says lines b → a ≡ b
one_reading [] [] [] h k = refl
one_reading [] [] (y ∷ b) h k = absurd k
one_reading [] (x ∷ a) b h k = absurd h
one_reading (line ∷ lines) [] b h k = absurd h
one_reading (line ∷ lines) (x ∷ a) [] h k = absurd k
one_reading (line ∷ lines) (x ∷ a) (y ∷ b) h k = let e = one_saying line x y h.0 k.0 in let f = one_reading lines a b h.1 k.1 in cc

pub one_script : (text : List ℕ) (a b : Script) → IsScript text a → IsScript text b → a ≡ b
one_script text a b h k =
    let e = one_reading (lines_of text) h.said k.said h.good.each k.good.each in
    let acts : a.acts ≡ b.acts = h.acts ∙ ap acts_in e ∙ sym k.acts in
    let arb0 : a.arb0 ≡ b.arb0 = h.arb0 ∙ ap (numbers_in 0) e ∙ sym k.arb0 in
    let arb1 : a.arb1 ≡ b.arb1 = h.arb1 ∙ ap (numbers_in 1) e ∙ sym k.arb1 in
    ap (λ xs. record { acts = xs; arb0 = a.arb0; arb1 = a.arb1 }) acts
    ∙ ap (λ xs. record { acts = b.acts; arb0 = xs; arb1 = a.arb1 }) arb0
    ∙ ap (λ xs. record { acts = b.acts; arb0 = b.arb0; arb1 = xs }) arb1

-- where the lines of a script are cut at a line
record Cut (before : List (List ℕ)) (line : List ℕ) (said : List Saying) : Type 0 where
  front : List Saying
  here : Saying
  rest : List Saying
  whole : said ≡ front ++ here ∷ rest
  each : AllZip Says before front
  says : Says line here

cut : (before : List (List ℕ)) (line : List ℕ) (after : List (List ℕ)) (said : List Saying)
    → AllZip Says (before ++ line ∷ after) said → Cut before line said
cut [] line after [] h = absurd h
cut [] line after (here ∷ rest) h = record { front = []; here = here; rest = rest; whole = refl; each = tt; says = h.0 }
cut (b ∷ before) line after [] h = absurd h
cut (b ∷ before) line after (one ∷ said) h =
    let c = cut before line after said h.1 in
    record { front = one ∷ c.front; here = c.here; rest = c.rest; whole = ap (λ xs. one ∷ xs) c.whole; each = (h.0, c.each); says = c.says }

front_in_order : (a b : List Act) → InOrder (a ++ b) → InOrder a
front_in_order a b h = λ i j d le lt.
    let low = get_or_append_left a b d i (omega (arith, le, lt)) in
    let high = get_or_append_left a b d j lt in
    let all = h i j d le (omega (arith, lt, length-append a b)) in
    let x : (get_or (a ++ b) i d).cycle ≡ (get_or a i d).cycle = ap (λ (x : Act). x.cycle) low in
    let y : (get_or (a ++ b) j d).cycle ≡ (get_or a j d).cycle = ap (λ (x : Act). x.cycle) high in
    omega (arith, all, x, y)

falls_not : (before : List (List ℕ)) (line : List ℕ) (said other : List Saying) (act : Act) (c : Cut before line said)
    → InOrder (acts_in said) → AllZip Says before other → Says line (Does act)
    → InOrder (acts_in other ++ act ∷ [])
falls_not before line said other act c order each says =
    let same : c.front ≡ other = one_reading before c.front other c.each each in
    let here : c.here ≡ Does act = one_saying line c.here (Does act) c.says says in
    let whole : acts_in said ≡ (acts_in other ++ act ∷ []) ++ acts_in c.rest =
    ap acts_in c.whole ∙ acts-append c.front (c.here ∷ c.rest) ∙ ap (λ xs. acts_in xs ++ acts_in (c.here ∷ c.rest)) same
    ∙ ap (λ x. acts_in other ++ acts_in (x ∷ c.rest)) here
    ∙ sym (append_assoc (acts_in other) (act ∷ []) (acts_in c.rest)) in
    front_in_order (acts_in other ++ act ∷ []) (acts_in c.rest) (subst InOrder whole order)

-- a script has no bad line
pub no_bad : (text : List ℕ) (script : Script) (number : ℕ) (cause : ScriptCause) → IsScript text script → IsFirstBad text number cause → ⊥
no_bad text script number cause h bad =
    let c = cut bad.before bad.line bad.after h.said (subst (λ ls. AllZip Says ls h.said) bad.lines h.good.each) in
    by cause c bad.bad
  where
    by : (cause : ScriptCause) → Cut bad.before bad.line h.said → HasCause (acts_in bad.said) bad.line cause → ⊥
    by Form c x = x (has_form_of bad.line c.here c.says)
    by Range c x = x.1 c.here c.says
    by Order c x = x.2 (falls_not bad.before bad.line h.said bad.said x.0 c h.good.order bad.good.each x.1)

pub gives : (text : List ℕ) (result : Result Script ScriptFault) → IfOk result (IsScript text) → IfErr result (IsFaultOf text)
    → (script : Script) → IsScript text script → Gives script result
gives text (Ok read) found fault script h = one_script text read script found h
gives text (Err (script_faults.Line line cause)) found fault script h = no_bad text script line cause h fault
gives text (Err script_faults.Memory) found fault script h = tt

zip_append : {A B : Type 0} (R : A → B → Type 0) (xs us : List A) (ys vs : List B) → AllZip R xs ys → AllZip R us vs
    → AllZip R (xs ++ us) (ys ++ vs)
zip_append R [] us [] vs h k = k
zip_append R [] us (y ∷ ys) vs h k = absurd h
zip_append R (x ∷ xs) us [] vs h k = absurd h
zip_append R (x ∷ xs) us (y ∷ ys) vs h k = (h.0, zip_append R xs us ys vs h.1 k)

all_append : {A : Type 0} (P : A → Type 0) (xs ys : List A) → AllByRecursion P xs → AllByRecursion P ys → AllByRecursion P (xs ++ ys)
all_append P [] ys h k = k
all_append P (x ∷ xs) ys h k = (h.0, all_append P xs ys h.1 k)

line_lacks : (fields : List (List ℕ)) → AllByRecursion (Lacks 10) fields → Lacks 10 (line_of fields)
line_lacks [] h = tt
line_lacks (field ∷ []) h = h.0
line_lacks (field ∷ next ∷ fields) h = all_append (λ b. b ≢ 10) field (32 ∷ line_of (next ∷ fields)) h.0
    (λ e. omega (arith, e), line_lacks (next ∷ fields) h.1)

-- the acts' lines
acts_say : (acts : List Act) → AllByRecursion IsAct acts → AllZip Says (map act_text acts) (map (λ act. Does act) acts)
acts_say [] h = tt
acts_say (act ∷ acts) h = ((h.0, refl), acts_say acts h.1)

acts_lack : (acts : List Act) → AllByRecursion IsAct acts → AllByRecursion (Lacks 10) (map act_text acts)
acts_lack [] h = tt
acts_lack (act ∷ acts) h = (line_lacks (act_fields act) (act_lacks 10 act (omega arith) h.0), acts_lack acts h.1)

acts_said : (acts : List Act) → acts_in (map (λ act. Does act) acts) ≡ acts
acts_said [] = refl
acts_said (act ∷ acts) = ap (λ xs. act ∷ xs) (acts_said acts)

no_numbers : (k : ℕ) (acts : List Act) → numbers_in k (map (λ act. Does act) acts) ≡ []
no_numbers k [] = refl
no_numbers k (act ∷ acts) = no_numbers k acts

-- the lines of numbers
abbrev waiting : ℕ → List ℕ → List Saying
waiting core [] = []
waiting core (n ∷ ns) = Waits core (n ∷ ns) ∷ []

waits_say : (core : ℕ) (ns : List ℕ) → core < 2 → AllByRecursion (λ n. n < 256) ns → AllZip Says (arb_lines core ns) (waiting core ns)
waits_say core [] known h = tt
waits_say core (n ∷ ns) known h = ((record { known = known; some = omega arith; each = h }, refl), tt)

waits_lack : (core : ℕ) (ns : List ℕ) → core < 2 → AllByRecursion (λ n. n < 256) ns → AllByRecursion (Lacks 10) (arb_lines core ns)
waits_lack core [] known h = tt
waits_lack core (n ∷ ns) known h = (
  line_lacks (arb_fields core (n ∷ ns))
      (arb_lacks 10 core (n ∷ ns) (omega arith) (record { known = known; some = omega arith; each = h })),
  tt,
)

no_acts : (core : ℕ) (ns : List ℕ) → acts_in (waiting core ns) ≡ []
no_acts core [] = refl
no_acts core (n ∷ ns) = refl

own_numbers : (core : ℕ) (ns : List ℕ) → numbers_in core (waiting core ns) ≡ ns
own_numbers core [] = refl
own_numbers core (n ∷ ns) = ap (λ t. cond t (n ∷ ns) [] ++ []) (eq-eqb core core refl) ∙ append-nil (n ∷ ns)

other_numbers : (k core : ℕ) (ns : List ℕ) → core == k ≡ false → numbers_in k (waiting core ns) ≡ []
other_numbers k core [] e = refl
other_numbers k core (n ∷ ns) e = ap (λ t. cond t (n ∷ ns) [] ++ []) e

-- the text of a script is that script
pub printed_is : (script : Script) → IsWhole script → IsScript (script_text script) script
printed_is script h =
    let lines = map act_text script.acts ++ arb_lines 0 script.arb0 ++ arb_lines 1 script.arb1 in
    let acts = map (λ act. Does act) script.acts in
    let zero = waiting 0 script.arb0 in
    let one = waiting 1 script.arb1 in
    let said = acts ++ zero ++ one in
    let each : AllZip Says lines said = zip_append Says (map act_text script.acts ++ arb_lines 0 script.arb0)
    (arb_lines 1 script.arb1) (acts ++ zero) one
    (zip_append Says (map act_text script.acts) (arb_lines 0 script.arb0) acts zero (acts_say script.acts h.acts)
    (waits_say 0 script.arb0 (omega arith) h.arb0)) (waits_say 1 script.arb1 (omega arith) h.arb1) in
    let lack : AllByRecursion (Lacks 10) lines = all_append (Lacks 10) (map act_text script.acts ++ arb_lines 0 script.arb0)
    (arb_lines 1 script.arb1)
    (all_append (Lacks 10) (map act_text script.acts) (arb_lines 0 script.arb0) (acts_lack script.acts h.acts)
    (waits_lack 0 script.arb0 (omega arith) h.arb0)) (waits_lack 1 script.arb1 (omega arith) h.arb1) in
    let read : lines_of (text_of lines) ≡ lines = ap lines_of (sym (append-nil (text_of lines))) ∙ lines_again lines [] lack
    ∙ append-nil lines in
    let told : acts_in said ≡ script.acts =
    acts-append (acts ++ zero) one ∙ ap (λ xs. xs ++ acts_in one) (acts-append acts zero)
    ∙ ap (λ xs. (xs ++ acts_in zero) ++ acts_in one) (acts_said script.acts)
    ∙ ap (λ xs. (script.acts ++ xs) ++ acts_in one) (no_acts 0 script.arb0) ∙ ap (λ xs. (script.acts ++ []) ++ xs) (no_acts 1 script.arb1)
    ∙ append-nil (script.acts ++ []) ∙ append-nil script.acts in
    let parts : (k : ℕ) → numbers_in k said ≡ (numbers_in k acts ++ numbers_in k zero) ++ numbers_in k one =
    λ k. numbers-append k (acts ++ zero) one ∙ ap (λ xs. xs ++ numbers_in k one) (numbers-append k acts zero) in
    record {
      said = said;
      good = record { each = subst (λ ls. AllZip Says ls said) (sym read) each; order = subst InOrder (sym told) h.order };
      acts = sym told;
      arb0 = sym (parts 0 ∙ ap (λ xs. (xs ++ numbers_in 0 zero) ++ numbers_in 0 one) (no_numbers 0 script.acts)
          ∙ ap (λ xs. xs ++ numbers_in 0 one) (own_numbers 0 script.arb0)
          ∙ ap (λ xs. script.arb0 ++ xs) (other_numbers 0 1 script.arb1 refl) ∙ append-nil script.arb0);
      arb1 = sym (parts 1 ∙ ap (λ xs. (xs ++ numbers_in 1 zero) ++ numbers_in 1 one) (no_numbers 1 script.acts)
          ∙ ap (λ xs. xs ++ numbers_in 1 one) (other_numbers 1 0 script.arb0 refl)
          ∙ own_numbers 1 script.arb1);
    }
