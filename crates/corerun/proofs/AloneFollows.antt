-- The step of a core alone over the values that its word reads is the core's step.
use Rattle.std.proofs.Common.{◌≡◌, ℕ, ◌+◌, ◌%◌, ◌^◌, List, [], ◌∷◌, ◌++◌, Option, Some, None, refl, sym, ap, ◌∙◌}
use Rattle.std.specs.Prelude.{option_map, option_to_list}
use Rattle.std.proofs.lemmas.List.{append-nil}
use Rattle.prutrace.specs.declared.event.Event.{Event}
use Rattle.prutrace.specs.declared.event.Event.TheVariants as events
use Rattle.isa.specs.declared.inst.Inst.{Inst}
use Rattle.isa.specs.declared.note.Note.{Note}
use Rattle.isa.specs.declared.note.NoteKind.TheVariants.{Enter, DelayIn, DelayOut, Leave}
use Rattle.isa.specs.Image.{Contents}
use Rattle.behaviour.specs.Ran.{Done}
use Rattle.corestep.specs.declared.out.Input.{Input}
use Rattle.corestep.specs.declared.out.Stop.{Stop}
use Rattle.corestep.specs.declared.out.Stop.TheVariants.{Going}
use Rattle.corestep.specs.Core.{State}
use Rattle.corestep.specs.Effect.{Given, Effect, effect}
use Rattle.corestep.specs.Given.{given_by}
use Rattle.corestep.specs.Step.{Stepped, istep, step_by, stepped, given_at, inst_at, notes_at}
use Rattle.corestep.specs.Step.{after_effect, marks_before, marks_behind, value_of_kind}
use Rattle.corerun.specs.Values.{Taken, taken_by, values_of}
use Rattle.corerun.specs.Solo.{Alone, Went, alone_step, step_standing, step_at, step_with, after_step}
use Rattle.corerun.specs.Fits.{InputFits}
use Rattle.corerun.proofs.ReadLemmas.{values_of-append, mark_reads_nothing}
use Rattle.corerun.proofs.FollowLemmas.{Follows, follows, register_small}

stepped_is : (image : Contents) (s : State) (input : Input) (i : Inst) → inst_at image.words s.pc ≡ Some i
    → stepped image s input
    ≡ after_effect (notes_at image.notes s.pc) s i (effect (s.pc + 1) s.registers s.ram (given_by s.registers input i) i)
unfolding istep
stepped_is image s input i at = ap (λ (o : Option Inst). step_by image.notes s (given_at s input o) o) at

istep_is : (image : Contents) (s : State) (g : Given) (i : Inst) → inst_at image.words s.pc ≡ Some i
    → istep image s g ≡ after_effect (notes_at image.notes s.pc) s i (effect (s.pc + 1) s.registers s.ram g i)
unfolding istep
istep_is image s g i at = ap (λ (o : Option Inst). step_by image.notes s g o) at

none_of_two : (xs ys : List Event) → values_of xs ≡ [] → values_of ys ≡ [] → values_of (xs ++ ys) ≡ []
none_of_two xs ys left right = values_of-append xs ys ∙ ap (λ (vs : List ℕ). vs ++ values_of ys) left ∙ right

before_reads_nothing : (notes : List Note) → values_of (marks_before notes) ≡ []
before_reads_nothing notes =
    none_of_two (option_to_list (option_map (λ v. events.Enter (v % 2 ^ 16)) (value_of_kind Enter notes)))
    (option_to_list (option_map events.DelayIn (value_of_kind DelayIn notes)))
    (mark_reads_nothing (λ v. events.Enter (v % 2 ^ 16)) (λ n. refl) (value_of_kind Enter notes))
    (mark_reads_nothing events.DelayIn (λ n. refl) (value_of_kind DelayIn notes))

behind_reads_nothing : (notes : List Note) → values_of (marks_behind notes) ≡ []
behind_reads_nothing notes =
    none_of_two (option_to_list (option_map events.DelayOut (value_of_kind DelayOut notes)))
    (option_to_list (option_map (λ v. events.Leave (v % 2 ^ 16)) (value_of_kind Leave notes)))
    (mark_reads_nothing events.DelayOut (λ n. refl) (value_of_kind DelayOut notes))
    (mark_reads_nothing (λ v. events.Leave (v % 2 ^ 16)) (λ n. refl) (value_of_kind Leave notes))

own_reads : (notes : List Note) (own : List Event) → values_of (marks_before notes ++ (own ++ marks_behind notes)) ≡ values_of own
own_reads notes own =
    values_of-append (marks_before notes) (own ++ marks_behind notes)
    ∙ ap (λ (vs : List ℕ). vs ++ values_of (own ++ marks_behind notes)) (before_reads_nothing notes)
    ∙ values_of-append own (marks_behind notes) ∙ ap (λ (vs : List ℕ). values_of own ++ vs) (behind_reads_nothing notes)
    ∙ append-nil (values_of own)

pub alone_follows : (image : Contents) (s : Alone) (input : Input) (i : Inst) (values : List ℕ) → InputFits s.core.registers input
    → s.stands ≡ Going
    → inst_at image.words s.core.pc ≡ Some i → s.left ≡ values_of (stepped image s.core input).out.events ++ values
    → alone_step image s ≡ Done tt (after_step s values (stepped image s.core input))
alone_follows image s input i values fits going at left =
    let core : State = s.core in
    let notes : List Note = notes_at image.notes core.pc in
    let own : Effect = effect (core.pc + 1) core.registers core.ram (given_by core.registers input i) i in
    let f : Follows (core.pc + 1) core.registers core.ram input i values =
    follows (core.pc + 1) core.registers core.ram input fits (register_small core.registers 30 fits.registers_bytes) i values in
    let did : stepped image core input ≡ after_effect notes core i own = stepped_is image core input i at in
    let all : s.left ≡ values_of own.events ++ values =
    left ∙ ap (λ (d : Stepped). values_of d.out.events ++ values) did ∙ ap (λ (vs : List ℕ). vs ++ values) (own_reads notes own.events) in
    let takes : taken_by core.registers i s.left ≡ Some (f.given, values) = ap (taken_by core.registers i) all ∙ f.takes in
    let same : istep image core f.given ≡ stepped image core input =
    istep_is image core f.given i at ∙ ap (after_effect notes core i) f.same ∙ sym did in
    ap (step_standing image s) going ∙ ap (step_at image s) at ∙ ap (step_with image s) takes
    ∙ ap (λ (d : Stepped). Done tt (after_step s values d)) same
