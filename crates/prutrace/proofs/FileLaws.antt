-- What the sections of a text say of it as a file of events.
use Rattle.std.proofs.Common.{◌≡◌, ◌≢◌, ℕ, suc, ◌+◌, ◌^◌, ◌<◌, ◌≤◌, ◌==◌, Bool, true, false, cond, List, [], ◌∷◌, ◌++◌, length, map}
use Rattle.std.proofs.Common.{Option, Some, None, Result, Ok, Err, refl, sym, ap, ◌∙◌, arith, codes, subst, append_assoc}
use Rattle.std.specs.Prelude.{IsTrue, IfOk, IfErr, IfSome}
use Rattle.std.specs.Str.{bytes_eq}
use Rattle.std.proofs.lemmas.Slice.Eq.{bytes_eq-Decides}
use Rattle.std.specs.List.{AllByRecursion, flat_map}
use Rattle.std.specs.Fmt.{decimal}
use Rattle.std.proofs.lemmas.Bool.{ne_eqb, eq-eqb}
use Rattle.std.proofs.lemmas.Fmt.{decimal_digit}
use Rattle.std.proofs.lemmas.List.{append-nil, length-append}
use Rattle.textline.specs.Lines.{Lacks, text_of}
use Rattle.textline.proofs.Printed.{append_lacks, cut_once, decimal_lacks}
use Rattle.prutrace.specs.declared.event.Event.{Event}
use Rattle.prutrace.specs.declared.event.Event.TheVariants.{Read, Write, Enter, Leave, DelayIn, DelayOut, Halted}
use Rattle.prutrace.specs.declared.fault.EventsFault.{EventsFault}
use Rattle.prutrace.specs.declared.fault.EventsFault.TheVariants.{Line, Memory}
use Rattle.prutrace.specs.declared.read.Stop.{Stop}
use Rattle.prutrace.specs.declared.read.Stop.TheVariants.{Head, End, Other}
use Rattle.prutrace.specs.Reading.{AllFit, EventFits, head, file_lines, IsEventsFile, AreFile, IsFront}
use Rattle.prutrace.specs.Reading.{IsFirstBad, AreRead, IsFaultOf, Gives, events_of_core}
use Rattle.prutrace.specs.Sections.{told, TellsNone, LacksHead, IsOther, StopsAt, StopsAtEnd, StopsAtLine, CountsOn, IsSoFar}
use Rattle.prutrace.specs.Sections.{IsSection, FailsHead, FailsInZero, FailsZero, FailsInOne, FailsOne}
use Rattle.prutrace.specs.Text.{event_text, events_text, line}
use Rattle.prutrace.proofs.EventLaws.{text_lacks, one_event}

-- ---- heads

pub head_zero : head 0 ≡ codes "core 0"
head_zero = ap (λ d. codes "core " ++ d) (decimal_digit 0 (omega arith))

pub head_one : head 1 ≡ codes "core 1"
head_one = ap (λ d. codes "core " ++ d) (decimal_digit 1 (omega arith))

-- a line compared with the text of such a line
pub named : (b : Bool) (l shown text core : List ℕ) → b ≡ bytes_eq l shown → shown ≡ text → core ≡ text
    → (IsTrue b → l ≡ core) × (l ≡ core → IsTrue b)
named b l shown text core e s h = (
  λ t. (bytes_eq-Decides l shown).0 (sym e ∙ t) ∙ s ∙ sym h,
  λ i. e
      ∙ (bytes_eq-Decides l shown).1 (i ∙ h ∙ sym s),
)

head_lacks : (core : ℕ) → core < 2 ^ 64 → Lacks 10 (head core)
head_lacks core small = append_lacks 10 (codes "core ") (decimal core)
    (λ e. omega (arith, e), (λ e. omega (arith, e), (λ e. omega (arith, e), (λ e. omega (arith, e), (λ e. omega (arith, e), tt)))))
    (decimal_lacks 10 core (omega arith) small)

first_of : List ℕ → ℕ
first_of [] = 0
first_of (c ∷ text) = c

-- an event's line names no core
head_tells : (core : ℕ) (e : Event) → event_text e ≡ head core → ⊥
unfolding first_of
head_tells core (Read p w v) h = omega (arith, ap first_of h)
head_tells core (Write p w v) h = omega (arith, ap first_of h)
head_tells core (Enter n) h = omega (arith, ap first_of h)
head_tells core (Leave n) h = omega (arith, ap first_of h)
head_tells core (DelayIn n) h = omega (arith, ap first_of h)
head_tells core (DelayOut n) h = omega (arith, ap first_of h)
head_tells core Halted h = omega (arith, ap first_of h)

-- ---- texts cut at line ends

no_cut : (byte : ℕ) (front behind : List ℕ) → Lacks byte (front ++ byte ∷ behind) → ⊥
no_cut byte [] behind l = l.0 refl
no_cut byte (c ∷ front) behind l = no_cut byte front behind l.1

no_empty : (front behind : List ℕ) → [] ≡ front ++ 10 ∷ behind → ⊥
no_empty front behind e = omega (arith, ap length e, length-append front (10 ∷ behind))

empty_tells : TellsNone []
empty_tells e behind fits is = no_empty (event_text e) behind is

empty_lacks : (core : ℕ) → LacksHead core []
empty_lacks core behind is = no_empty (head core) behind is

-- ---- one section

told-push : (events : List Event) (e : Event) → told (events ++ e ∷ []) ≡ told events ++ line (event_text e)
told-push [] e = append-nil (line (event_text e))
told-push (f ∷ events) e = ap (λ t. line (event_text f) ++ t) (told-push events e)
    ∙ sym (append_assoc (line (event_text f)) (told events) (line (event_text e)))

fit_push : (events : List Event) (e : Event) → AllFit events → EventFits e → AllFit (events ++ e ∷ [])
fit_push [] e all fits = (fits, tt)
fit_push (f ∷ events) e all fits = (all.0, fit_push events e all.1 fits)

pub so_far_first : (text : List ℕ) (number : ℕ) (events : List Event) → events ≡ [] → IsSoFar text number events text number
so_far_first text number events none = subst (λ (es : List Event). IsSoFar text number es text number) (sym none)
    (record { fits = tt; same = refl; count = omega arith })

pub so_far_more : (text : List ℕ) (number : ℕ) (events : List Event) (left : List ℕ) (at : ℕ) (l behind : List ℕ) (after : ℕ) (e : Event)
    → IsSoFar text number events left at → left ≡ l ++ 10 ∷ behind → after ≡ at + 1 → EventFits e → l ≡ event_text e
    → (more : List Event) → more ≡ events ++ e ∷ [] → IsSoFar text number more behind after
so_far_more text number events left at l behind after e h cut counts fits is more pushed =
    subst (λ (es : List Event). IsSoFar text number es behind after) (sym pushed) (record {
      fits = fit_push events e h.fits fits;
      same = h.same ∙ ap (λ t. told events ++ t) (cut ∙ ap (λ t. t ++ 10 ∷ behind) is ∙ sym (append_assoc (event_text e) (10 ∷ []) behind))
          ∙ sym (append_assoc (told events) (line (event_text e)) behind) ∙ ap (λ t. t ++ behind) (sym (told-push events e));
      count = omega (arith, counts, h.count, length-append events (e ∷ []));
    })

pub ends : (text : List ℕ) → Lacks 10 text → (text ≡ [] → ⊥) → IsOther text
ends text lacks some = record {
  tells = λ e behind fits is. no_cut 10 (event_text e) behind (subst (Lacks 10) is lacks);
  head = λ behind is. no_cut 10 (head 1) behind (subst (Lacks 10) is lacks);
  some = some;
}

pub section_at_end : (text : List ℕ) (number : ℕ) (events : List Event) (left rest : List ℕ) (at after : ℕ) (stop : Stop)
    → IsSoFar text number events left at → StopsAtEnd stop rest → rest ≡ left → IsSection text number events at stop rest after
section_at_end text number events left rest at after Head h stops same = absurd stops
section_at_end text number events left rest at after End h stops same =
    record { next = left; so_far = h; stops = sym same ∙ stops; count = tt }
section_at_end text number events left rest at after Other h stops same =
    record { next = left; so_far = h; stops = subst IsOther same stops; count = tt }

line_tells : (l behind : List ℕ) → Lacks 10 l → ((e : Event) → EventFits e → l ≡ event_text e → ⊥) → TellsNone (l ++ 10 ∷ behind)
line_tells l behind lacks none e rest fits is = none e fits (cut_once 10 l (event_text e) behind rest lacks (text_lacks e fits) is).0

line_head : (core : ℕ) (l behind : List ℕ) → core < 2 ^ 64 → Lacks 10 l → (l ≡ head core → ⊥) → LacksHead core (l ++ 10 ∷ behind)
line_head core l behind small lacks other rest is = other (cut_once 10 l (head core) behind rest lacks (head_lacks core small) is).0

nothing_read : (o : Option Event) (l : List ℕ) → o ≡ None → ((e : Event) → EventFits e → l ≡ event_text e → o ≡ Some e)
    → (e : Event) → EventFits e → l ≡ event_text e → ⊥
nothing_read o l none only e fits is = let h = only e fits is in cc

pub section_at_line : (text : List ℕ) (number : ℕ) (events : List Event) (left l rest : List ℕ) (at after : ℕ) (stop : Stop)
    (o : Option Event)
    → IsSoFar text number events left at → StopsAtLine stop l → Lacks 10 l → left ≡ l ++ 10 ∷ rest → after ≡ at + 1
    → o ≡ None → ((e : Event) → EventFits e → l ≡ event_text e → o ≡ Some e) → IsSection text number events at stop rest after
section_at_line text number events left l rest at after Head o h stops lacks cut counts none only =
    record { next = left; so_far = h; stops = cut ∙ ap (λ t. t ++ 10 ∷ rest) stops; count = counts }
section_at_line text number events left l rest at after End o h stops lacks cut counts none only = absurd stops
section_at_line text number events left l rest at after Other o h stops lacks cut counts none only = record {
  next = left;
  so_far = h;
  stops = subst IsOther (sym cut) (record {
    tells = line_tells l rest lacks (nothing_read o l none only);
    head = line_head 1 l rest (omega arith) lacks stops;
    some = λ e. no_empty l rest (sym e);
  });
  count = tt;
}

-- ---- faults of sections

pub no_head : (text : List ℕ) (l rest : List ℕ) → Lacks 10 l → text ≡ l ++ 10 ∷ rest → (l ≡ head 0 → ⊥) → LacksHead 0 text
no_head text l rest lacks cut other = subst (LacksHead 0) (sym cut) (line_head 0 l rest (omega arith) lacks other)

pub no_line : (text : List ℕ) → Lacks 10 text → LacksHead 0 text
no_line text lacks behind is = no_cut 10 (head 0) behind (subst (Lacks 10) is lacks)

pub zero_ends : (text : List ℕ) (number : ℕ) (events : List Event) (at : ℕ) (rest : List ℕ) (after : ℕ)
    → IsSection text number events at End rest after → FailsInZero text number at
zero_ends text number events at rest after s = record {
  events = events;
  next = s.next;
  so_far = s.so_far;
  tells = subst TellsNone (sym s.stops) empty_tells;
  head = subst (LacksHead 1) (sym s.stops) (empty_lacks 1);
}

pub zero_stops : (text : List ℕ) (number : ℕ) (events : List Event) (at : ℕ) (rest : List ℕ) (after : ℕ)
    → IsSection text number events at Other rest after → FailsInZero text number at
zero_stops text number events at rest after s = record {
  events = events;
  next = s.next;
  so_far = s.so_far;
  tells = s.stops.tells;
  head = s.stops.head;
}

pub one_heads : (text : List ℕ) (number : ℕ) (events : List Event) (at : ℕ) (rest : List ℕ) (after : ℕ)
    → IsSection text number events at Head rest after → FailsInOne text number at
one_heads text number events at rest after s = record {
  events = events;
  next = s.next;
  so_far = s.so_far;
  tells = subst TellsNone (sym s.stops) (line_tells (head 1) rest (head_lacks 1 (omega arith)) (λ e fits is. head_tells 1 e (sym is)));
  some = λ e. no_empty (head 1) rest (sym e ∙ s.stops);
}

pub one_stops : (text : List ℕ) (number : ℕ) (events : List Event) (at : ℕ) (rest : List ℕ) (after : ℕ)
    → IsSection text number events at Other rest after → FailsInOne text number at
one_stops text number events at rest after s = record {
  events = events;
  next = s.next;
  so_far = s.so_far;
  tells = s.stops.tells;
  some = s.stops.some;
}

-- ---- the lines of a file

told-lines : (events : List Event) → told events ≡ text_of (map event_text events)
told-lines [] = refl
told-lines (e ∷ events) = ap (λ t. line (event_text e) ++ t) (told-lines events)

text_of-append : (front behind : List (List ℕ)) → text_of (front ++ behind) ≡ text_of front ++ text_of behind
text_of-append [] behind = refl
text_of-append (l ∷ front) behind = ap (λ t. line l ++ t) (text_of-append front behind)
    ∙ sym (append_assoc (line l) (text_of front) (text_of behind))

-- the text of the lines is that of the file
lines_text : (zero one : List Event) → text_of (file_lines zero one) ≡ events_text zero one
lines_text zero one =
    ap (λ t. line (head 0) ++ t) (text_of-append (map event_text zero) (head 1 ∷ map event_text one)
    ∙ ap (λ t. t ++ (line (head 1) ++ text_of (map event_text one))) (sym (told-lines zero))
    ∙ ap (λ t. told zero ++ (line (head 1) ++ t)) (sym (told-lines one)))
    ∙ sym (append_assoc (line (head 0)) (told zero) (line (head 1) ++ told one))

events_lack : (events : List Event) → AllFit events → AllByRecursion (Lacks 10) (map event_text events)
events_lack [] fits = tt
events_lack (e ∷ events) fits = (text_lacks e fits.0, events_lack events fits.1)

all_append : (front behind : List (List ℕ)) → AllByRecursion (Lacks 10) front → AllByRecursion (Lacks 10) behind
    → AllByRecursion (Lacks 10) (front ++ behind)
all_append [] behind f b = b
all_append (l ∷ front) behind f b = (f.0, all_append front behind f.1 b)

all_front : (front behind : List (List ℕ)) → AllByRecursion (Lacks 10) (front ++ behind) → AllByRecursion (Lacks 10) front
all_front [] behind h = tt
all_front (l ∷ front) behind h = (h.0, all_front front behind h.1)

all_behind : (front behind : List (List ℕ)) → AllByRecursion (Lacks 10) (front ++ behind) → AllByRecursion (Lacks 10) behind
all_behind [] behind h = h
all_behind (x ∷ front) behind h = all_behind front behind h.1

lines_lack : (zero one : List Event) → AllFit zero → AllFit one → AllByRecursion (Lacks 10) (file_lines zero one)
lines_lack zero one z o = (
  head_lacks 0 (omega arith),
  all_append (map event_text zero) (head 1 ∷ map event_text one) (events_lack zero z)
      (head_lacks 1 (omega arith), events_lack one o),
)

file_lacks : (lines : List (List ℕ)) → AreFile lines → AllByRecursion (Lacks 10) lines
file_lacks lines f = subst (AllByRecursion (Lacks 10)) (sym f.same) (lines_lack f.zero f.one f.zero_fits f.one_fits)

-- lines that make a text with something behind them begin the lines of the text
split_lines : (before lines : List (List ℕ)) (rest : List ℕ) → AllByRecursion (Lacks 10) before → AllByRecursion (Lacks 10) lines
    → text_of before ++ rest ≡ text_of lines
    → (more : List (List ℕ)) × (before ++ more ≡ lines) × (rest ≡ text_of more)
split_lines [] lines rest b l e = (lines, refl, e)
split_lines (x ∷ before) [] rest b l e = absurd (no_empty x (text_of before ++ rest)
    (sym e ∙ append_assoc (line x) (text_of before) rest ∙ append_assoc x (10 ∷ []) (text_of before ++ rest)))
split_lines (x ∷ before) (y ∷ lines) rest b l e =
    let cut = cut_once 10 x y (text_of before ++ rest) (text_of lines) b.0 l.0
    (sym (append_assoc (line x) (text_of before) rest ∙ append_assoc x (10 ∷ []) (text_of before ++ rest)) ∙ e
    ∙ append_assoc y (10 ∷ []) (text_of lines)) in
    let others = split_lines before lines rest b.1 l.1 cut.1 in
    (others.0, (let h = others.1 in let g : x ≡ y = cut.0 in cc), others.2)

-- ---- what stands next in a file

-- behind some of core 0's events: the head of core 1, or an event
zero_next : (zero other one : List Event) (l : List ℕ) (more : List (List ℕ)) → AllFit other
    → map event_text zero ++ l ∷ more ≡ map event_text other ++ head 1 ∷ map event_text one
    → (l ≡ head 1 → ⊥) → (e : Event) × EventFits e × (l ≡ event_text e)
zero_next [] [] one l more fits e apart = absurd (apart (cc))
zero_next [] (f ∷ other) one l more fits e apart = (f, fits.0, cc)
zero_next (e ∷ zero) [] one l more fits same apart = absurd (head_tells 1 e (cc))
zero_next (e ∷ zero) (f ∷ other) one l more fits same apart = zero_next zero other one l more fits.1 (cc) apart

events_next : (events other : List Event) (l : List ℕ) (more : List (List ℕ)) → AllFit other
    → map event_text events ++ l ∷ more ≡ map event_text other → (e : Event) × EventFits e × (l ≡ event_text e)
events_next [] [] l more fits e = absurd (cc)
events_next [] (f ∷ other) l more fits e = (f, fits.0, cc)
events_next (e ∷ events) [] l more fits same = absurd (cc)
events_next (e ∷ events) (f ∷ other) l more fits same = events_next events other l more fits.1 (cc)

one_next : (zero one other last : List Event) (l : List ℕ) (more : List (List ℕ)) → AllFit last
    → (map event_text zero ++ head 1 ∷ map event_text one) ++ l ∷ more ≡ map event_text other ++ head 1 ∷ map event_text last
    → (e : Event) × EventFits e × (l ≡ event_text e)
one_next [] one [] last l more fits e = events_next one last l more fits (cc)
one_next [] one (f ∷ other) last l more fits e = absurd (head_tells 1 f (let h : head 1 ≡ event_text f = cc in sym h))
one_next (e ∷ zero) one [] last l more fits same = absurd (head_tells 1 e (cc))
one_next (e ∷ zero) one (f ∷ other) last l more fits same = one_next zero one other last l more fits (cc)

-- core 0's events alone are no file
zero_no_file : (zero other one : List Event) → map event_text zero ≡ map event_text other ++ head 1 ∷ map event_text one → ⊥
zero_no_file [] [] one e = absurd (cc)
zero_no_file [] (f ∷ other) one e = absurd (cc)
zero_no_file (e ∷ zero) [] one same = head_tells 1 e (cc)
zero_no_file (e ∷ zero) (f ∷ other) one same = zero_no_file zero other one (cc)

-- ---- the first bad line

length_map : (events : List Event) → length (map event_text events) ≡ length events
length_map [] = refl
length_map (e ∷ events) = ap suc (length_map events)

pub head_bad : (text : List ℕ) (at : ℕ) → FailsHead text 1 (Line at) → IsFirstBad text at
head_bad text at h = record {
  before = [];
  rest = text;
  same = refl;
  place = h.0;
  front = record { more = file_lines [] []; file = record { zero = []; one = []; zero_fits = tt; one_fits = tt; same = refl } };
  next = λ l behind lacks is f. let e = f.file.same in let first : l ≡ head 0 = cc in h.1 behind (is ∙ ap (λ t. t ++ 10 ∷ behind) first);
  end = λ e f. let wrong = f.same in cc;
}

pub zero_bad : (text rest : List ℕ) (at : ℕ) → text ≡ head 0 ++ 10 ∷ rest → FailsInZero rest 2 at → IsFirstBad text at
zero_bad text rest at cut h =
    let events : List Event = h.events in
    let before : List (List ℕ) = head 0 ∷ map event_text events in record {
      before = before;
      rest = h.next;
      same = cut ∙ ap (λ t. head 0 ++ 10 ∷ t) (h.so_far.same ∙ ap (λ t. t ++ h.next) (told-lines events))
          ∙ sym (append_assoc (head 0) (10 ∷ []) (text_of (map event_text events) ++ h.next))
          ∙ sym (append_assoc (line (head 0)) (text_of (map event_text events)) h.next);
      place = omega (arith, h.so_far.count, length_map events);
      front = record {
        more = head 1 ∷ [];
        file = record { zero = events; one = []; zero_fits = h.so_far.fits; one_fits = tt; same = refl };
      };
      next = λ l behind lacks is f.
          let same = f.file.same in
          let tails : map event_text events ++ l ∷ f.more ≡ map event_text f.file.zero ++ head 1 ∷ map event_text f.file.one =
          sym (append_assoc (map event_text events) (l ∷ []) f.more) ∙ (cc) in
          let told = zero_next events f.file.zero f.file.one l f.more f.file.zero_fits tails
          (λ e. h.head behind (is ∙ ap (λ t. t ++ 10 ∷ behind) e)) in
          h.tells told.0 behind told.1 (is ∙ ap (λ t. t ++ 10 ∷ behind) told.2);
      end = λ e f. zero_no_file events f.zero f.one (let same = f.same in cc);
    }

pub one_bad : (text rest last : List ℕ) (zero : List Event) (at : ℕ) → text ≡ head 0 ++ 10 ∷ rest → AllFit zero
    → rest ≡ told zero ++ (head 1 ++ 10 ∷ last) → FailsInOne last (2 + length zero + 1) at → IsFirstBad text at
one_bad text rest last zero at cut fits heads h =
    let events : List Event = h.events in
    let others : List (List ℕ) = map event_text zero ++ head 1 ∷ map event_text events in record {
      before = file_lines zero events;
      rest = h.next;
      same = cut ∙ ap (λ t. head 0 ++ 10 ∷ t) (heads ∙ ap (λ t. told zero ++ (head 1 ++ 10 ∷ t)) h.so_far.same)
          ∙ file_front zero events h.next;
      place = omega (
        arith,
        h.so_far.count,
        length_map zero,
        length_map events,
        length-append (map event_text zero)
            (head 1 ∷ map event_text events),
      );
      front = record {
        more = [];
        file = record { zero = zero; one = events; zero_fits = fits; one_fits = h.so_far.fits; same = append-nil (file_lines zero events) };
      };
      next = λ l behind lacks is f.
          let same = f.file.same in
          let tails : others ++ l ∷ f.more ≡ map event_text f.file.zero ++ head 1 ∷ map event_text f.file.one =
          sym (append_assoc others (l ∷ []) f.more) ∙ (cc) in
          let told = one_next zero events f.file.zero f.file.one l f.more f.file.one_fits tails in
          h.tells told.0 behind told.1 (is ∙ ap (λ t. t ++ 10 ∷ behind) told.2);
      end = λ e f. h.some e;
    }
  where
    -- the lines of a file, and what is behind them
    file_front : (zero events : List Event) (next : List ℕ) → head 0 ++ 10 ∷ (told zero ++ (head 1 ++ 10 ∷ (told events ++ next)))
        ≡ text_of (file_lines zero events) ++ next
    file_front zero events next = sym (ap (λ t. t ++ next) (lines_text zero events)
        ∙ append_assoc (line (head 0) ++ told zero) (line (head 1) ++ told events) next
        ∙ append_assoc (line (head 0)) (told zero) ((line (head 1) ++ told events) ++ next)
        ∙ append_assoc (head 0) (10 ∷ []) (told zero ++ ((line (head 1) ++ told events) ++ next))
        ∙ ap (λ t. head 0 ++ 10 ∷ (told zero ++ t)) (append_assoc (line (head 1)) (told events) next
        ∙ append_assoc (head 1) (10 ∷ []) (told events ++ next)))

-- a fault of the call that reads a part is one of the text
pub head_fault : (bytes text : List ℕ) (n : ℕ) (e : EventsFault) → text ≡ bytes → n ≡ 1 → FailsHead text n e → IsFaultOf bytes e
head_fault bytes text n (Line at) same first h =
    head_bad bytes at (omega (arith, h.0, first), λ behind is. h.1 behind (same ∙ is))
head_fault bytes text n Memory same first h = absurd h

pub zero_fault : (bytes text rest : List ℕ) (n m : ℕ) (e : EventsFault) → text ≡ bytes → n ≡ 1 → text ≡ head 0 ++ 10 ∷ rest
    → m ≡ n + 1 → FailsZero rest m e → IsFaultOf bytes e
zero_fault bytes text rest n m (Line at) same first cut next h =
    let second : m ≡ 2 = omega arith in
    zero_bad bytes rest at (sym same ∙ cut) (subst (λ (k : ℕ). FailsInZero rest k at) second h)
zero_fault bytes text rest n m Memory same first cut next h = tt

pub one_fault : (bytes text rest last : List ℕ) (zero : List Event) (n m k : ℕ) (e : EventsFault) → text ≡ bytes → n ≡ 1
    → text ≡ head 0 ++ 10 ∷ rest → m ≡ n + 1
    → AllFit zero → rest ≡ told zero ++ (head 1 ++ 10 ∷ last) → k ≡ m + length zero + 1 → FailsOne last k e → IsFaultOf bytes e
one_fault bytes text rest last zero n m k (Line at) same first cut next fits heads count h =
    let number : k ≡ 2 + length zero + 1 = omega arith in
    one_bad bytes rest last zero at (sym same ∙ cut) fits heads (subst (λ (j : ℕ). FailsInOne last j at) number h)
one_fault bytes text rest last zero n m k Memory same first cut next fits heads count h = tt

-- ---- whole files

pub whole_file : (text rest last : List ℕ) (zero one : List Event) → text ≡ head 0 ++ 10 ∷ rest → AllFit zero
    → rest ≡ told zero ++ (head 1 ++ 10 ∷ last) → AllFit one → last ≡ told one → IsEventsFile text zero one
whole_file text rest last zero one cut z heads o ends = record {
  zero_fits = z;
  one_fits = o;
  same = cut ∙ ap (λ t. head 0 ++ 10 ∷ t) (heads ∙ ap (λ t. told zero ++ (head 1 ++ 10 ∷ t)) ends)
      ∙ sym (append_assoc (line (head 0)) (told zero) (line (head 1) ++ told one)
      ∙ append_assoc (head 0) (10 ∷ []) (told zero ++ (line (head 1) ++ told one))
      ∙ ap (λ t. head 0 ++ 10 ∷ (told zero ++ t)) (append_assoc (head 1) (10 ∷ []) (told one)));
}

pub chosen_zero : (core : ℕ) (zero one : List Event) → core ≡ 0 → zero ≡ events_of_core core zero one
chosen_zero core zero one e = ap (λ t. cond t zero one) (sym (eq-eqb core 0 e))

pub chosen_one : (core : ℕ) (zero one : List Event) → core ≢ 0 → one ≡ events_of_core core zero one
chosen_one core zero one e = ap (λ t. cond t zero one) (sym (ne_eqb core 0 e))

pub are_read : (bytes text rest last : List ℕ) (zero one events : List Event) (core : ℕ) → text ≡ bytes → text ≡ head 0 ++ 10 ∷ rest
    → AllFit zero → rest ≡ told zero ++ (head 1 ++ 10 ∷ last) → AllFit one → last ≡ told one → events ≡ events_of_core core zero one
    → AreRead bytes core events
are_read bytes text rest last zero one events core same cut z heads o ends is =
    record { zero = zero; one = one; file = whole_file bytes rest last zero one (sym same ∙ cut) z heads o ends; same = is }

-- a file has no bad line
good_file : (text : List ℕ) (zero one : List Event) (number : ℕ) → IsEventsFile text zero one → IsFirstBad text number → ⊥
good_file text zero one number f bad =
    let lacks = all_front bad.before bad.front.more (file_lacks (bad.before ++ bad.front.more) bad.front.file) in
    let split = split_lines bad.before (file_lines zero one) bad.rest lacks (lines_lack zero one f.zero_fits f.one_fits)
    (sym bad.same ∙ f.same ∙ sym (lines_text zero one)) in
    by split.0 split.1 split.2
  where
    by : (more : List (List ℕ)) → bad.before ++ more ≡ file_lines zero one → bad.rest ≡ text_of more → ⊥
    by [] same left = bad.end left (record {
      zero = zero;
      one = one;
      zero_fits = f.zero_fits;
      one_fits = f.one_fits;
      same =
          sym (append-nil bad.before) ∙ same;
    })
    by (l ∷ more) same left = bad.next l (text_of more) ((all_behind bad.before (l ∷ more)
        (subst (AllByRecursion (Lacks 10)) (sym same) (lines_lack zero one f.zero_fits f.one_fits))).0)
        (left ∙ append_assoc l (10 ∷ []) (text_of more)) (record {
          more = more;
          file = record {
            zero = zero;
            one = one;
            zero_fits = f.zero_fits;
            one_fits = f.one_fits;
            same =
                append_assoc bad.before (l ∷ []) more ∙ same;
          };
        })

same_events : (events other : List Event) → AllFit events → AllFit other → told events ≡ told other → events ≡ other
same_events [] [] a b e = refl
same_events [] (f ∷ other) a b e = absurd (no_empty (event_text f) (told other) (e ∙ append_assoc (event_text f) (10 ∷ []) (told other)))
same_events (f ∷ events) [] a b e = absurd (no_empty (event_text f) (told events)
    (sym e ∙ append_assoc (event_text f) (10 ∷ []) (told events)))
same_events (f ∷ events) (g ∷ other) a b e =
    let cut = cut_once 10 (event_text f) (event_text g) (told events) (told other) (text_lacks f a.0) (text_lacks g b.0)
    (sym (append_assoc (event_text f) (10 ∷ []) (told events)) ∙ e ∙ append_assoc (event_text g) (10 ∷ []) (told other)) in
    let first = one_event f g a.0 b.0 cut.0 in
    let others = same_events events other a.1 b.1 cut.1 in
    cc

-- the events of lines are told by the lines
same_lines : (zero other one last : List Event) → AllFit zero → AllFit other → AllFit one → AllFit last
    → map event_text zero ++ head 1 ∷ map event_text one ≡ map event_text other ++ head 1 ∷ map event_text last
    → (zero ≡ other) × (one ≡ last)
same_lines [] [] one last z w o l e = (refl, same_events one last o l (told-lines one ∙ ap text_of (cc) ∙ sym (told-lines last)))
same_lines [] (f ∷ other) one last z w o l e = absurd (head_tells 1 f (let h : head 1 ≡ event_text f = cc in sym h))
same_lines (f ∷ zero) [] one last z w o l e = absurd (head_tells 1 f (cc))
same_lines (f ∷ zero) (g ∷ other) one last z w o l e =
    let first = one_event f g z.0 w.0 (cc) in
    let others = same_lines zero other one last z.1 w.1 o l (cc) in
    ((let h = others.0 in cc), others.1)

lines_once : (lines others : List (List ℕ)) → AllByRecursion (Lacks 10) lines → AllByRecursion (Lacks 10) others
    → text_of lines ≡ text_of others → lines ≡ others
lines_once lines others l o e =
    let split = split_lines lines others [] l o (append-nil (text_of lines) ∙ e) in
    by split.0 split.1 split.2
  where
    by : (more : List (List ℕ)) → lines ++ more ≡ others → [] ≡ text_of more → lines ≡ others
    by [] same left = sym (append-nil lines) ∙ same
    by (x ∷ more) same left = absurd (no_empty x (text_of more) (left ∙ append_assoc x (10 ∷ []) (text_of more)))

-- a text is the file of one pair of lists of events
one_file : (text : List ℕ) (zero one other last : List Event) → IsEventsFile text zero one → IsEventsFile text other last
    → (zero ≡ other) × (one ≡ last)
one_file text zero one other last f g =
    let same = lines_once (file_lines zero one) (file_lines other last) (lines_lack zero one f.zero_fits f.one_fits)
    (lines_lack other last g.zero_fits g.one_fits)
    (lines_text zero one ∙ sym f.same ∙ g.same ∙ sym (lines_text other last)) in
    same_lines zero other one last f.zero_fits g.zero_fits f.one_fits g.one_fits (cc)

-- a file is read
pub file_gives : {X : Type 0} (view : X → List Event) (text : List ℕ) (core : ℕ) (r : Result X EventsFault)
    → IfOk r (λ x. AreRead text core (view x)) → IfErr r (IsFaultOf text)
    → (zero one : List Event) → IsEventsFile text zero one → Gives view (events_of_core core zero one) r
file_gives view text core (Ok x) found fault zero one f =
    let same = one_file text found.zero found.one zero one found.file f in
    found.same ∙ ap (λ z. events_of_core core z found.one) same.0 ∙ ap (λ o. events_of_core core zero o) same.1
file_gives view text core (Err (Line number)) found fault zero one f = good_file text zero one number f fault
file_gives view text core (Err Memory) found fault zero one f = tt
