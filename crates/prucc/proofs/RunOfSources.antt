-- What a run of two sources makes.
use Rattle.std.proofs.Common.{◌≡◌, ℕ, ◌+◌, List, [], ◌∷◌, length, map, min, refl, ap, ◌∙◌, arith}
use Rattle.std.proofs.lemmas.List.{length-append, length-map, length-take}
use Rattle.prunum.specs.declared.width.Width.TheVariants.{B4}
use Rattle.prutrace.specs.declared.event.Place.TheVariants.{Reg30}
use Rattle.prutrace.specs.declared.event.Event.{Event}
use Rattle.prutrace.specs.declared.event.Event.TheVariants as events
use Rattle.prutrace.specs.Text.{events_of, events_text}
use Rattle.prucc.specs.declared.machine.Stop.{Stop}
use Rattle.prucc.specs.declared.run.Outcome.{Outcome}
use Rattle.prucc.specs.declared.job.BothCores.{BothCores}
use Rattle.prucc.specs.declared.refusal.Refusal.{Refusal}
use Rattle.prucc.specs.declared.refusal.Refusal.TheVariants.{Source, Script, Elf, NoMemory, NotBuilt}
use Rattle.prucc.specs.Source.{Writes}
use Rattle.prucc.specs.Meaning.{meaning, shown_in, event_count}
use Rattle.prucc.specs.Run.{stamped_from, ShowsMeaning}
use Rattle.prucc.specs.Sources.{RunRefuses, SourceFails, OfZero, OfOne, InZero, InOne, events_file}
use Rattle.prucc.specs.Summary.{core_line, line_of, summary_line}

pub events_stamped : (cycle : ℕ) (es : List Event) → events_of (stamped_from cycle es) ≡ es
events_stamped cycle [] = refl
events_stamped cycle (e ∷ es) = ap (λ (l : List Event). e ∷ l) (events_stamped (cycle + 1) es)

pub length_stamped : (cycle : ℕ) (es : List Event) → length (stamped_from cycle es) ≡ length es
length_stamped cycle [] = refl
length_stamped cycle (e ∷ es) = omega (arith, length_stamped (cycle + 1) es)

length_shown : (n : ℕ) (ks : List ℕ) → length (shown_in n ks) ≡ min n (event_count ks)
length_shown n ks = omega (
  arith,
  length-take n (meaning ks),
  length-append (map (λ (k : ℕ). events.Write Reg30 B4 k) ks)
      (events.Halted ∷ []),
  length-map ks (λ (k : ℕ). events.Write Reg30 B4 k),
)

-- a run that shows the meaning has the meaning's line
pub line_is : (core n : ℕ) (ks : List ℕ) (o : Outcome) → ShowsMeaning ks n o
    → line_of core o ≡ summary_line core n ks
line_is core n ks o h =
    let events : length o.trace.items ≡ min n (event_count ks) = ap length h.trace ∙ length_stamped 0 (shown_in n ks) ∙ length_shown n ks in
    ap (λ (e : ℕ). core_line core e o.count o.stop) events
    ∙ ap (λ (i : ℕ). core_line core (min n (event_count ks)) i o.stop) h.count
    ∙ ap (λ (s : Stop). core_line core (min n (event_count ks)) (min n (event_count ks)) s) h.stop

pub events_are : (n : ℕ) (ks0 ks1 : List ℕ) (zero one : Outcome) → ShowsMeaning ks0 n zero → ShowsMeaning ks1 n one
    → events_text (events_of zero.trace.items) (events_of one.trace.items) ≡ events_file n ks0 ks1
events_are n ks0 ks1 zero one h k =
    ap (λ (es : List Event). events_text es (events_of one.trace.items)) (ap events_of h.trace ∙ events_stamped 0 (shown_in n ks0))
    ∙ ap (λ (es : List Event). events_text (shown_in n ks0) es) (ap events_of k.trace ∙ events_stamped 0 (shown_in n ks1))

-- ---- refusals

pub zero_fails : (r : BothCores) (zero one script : List ℕ) (refusal : Refusal) → script ≡ [] → SourceFails 0 r.zero zero refusal
    → RunRefuses r zero one script refusal
zero_fails r zero one script (NotBuilt file span) empty h = OfZero empty h.1 h.0
zero_fails r zero one script (Source core span cause) empty h = InZero empty h.0 h.1
zero_fails r zero one script NoMemory empty h = tt
zero_fails r zero one script (Script line cause) empty h = h
zero_fails r zero one script (Elf name offset cause) empty h = h

pub one_fails : (r : BothCores) (zero one script ks : List ℕ) (refusal : Refusal) → script ≡ [] → Writes zero ks
    → SourceFails 1 r.one one refusal → RunRefuses r zero one script refusal
one_fails r zero one script ks (NotBuilt file span) empty writes h = OfOne empty ks writes h.1 h.0
one_fails r zero one script ks (Source core span cause) empty writes h = InOne empty ks writes h.0 h.1
one_fails r zero one script ks NoMemory empty writes h = tt
one_fails r zero one script ks (Script line cause) empty writes h = h
one_fails r zero one script ks (Elf name offset cause) empty writes h = h
