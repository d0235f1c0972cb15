-- One line more.
use Rattle.std.proofs.Common.{◌≡◌, ℕ, ◌+◌, ◌<◌, ◌≤◌, List, [], ◌∷◌, Bool, false, Option, Some, None, refl, ap, sym, ◌∙◌, arith}
use Rattle.std.proofs.Common.{length, map, take, drop, get_or, slice_get}
use Rattle.std.specs.Prelude.{fold, option_map, option_and_then}
use Rattle.std.proofs.lemmas.List.{at_drop_more, at_drop_all, get_or-map, length-map}
use Rattle.std.proofs.lemmas.List.Sums.{fold_more}
use borrow.Author.Count.{below_more}
use Rattle.std.proofs.lemmas.Option.{slice_get-get_or, get_or_from_slice_get}
use Rattle.isa.specs.declared.note.NoteKind.{NoteKind}
use Rattle.asmline.specs.declared.line.Line.{Line}
use Rattle.asmline.specs.Said.{Said}
use Rattle.asmtext.specs.declared.cause.AsmCause.{AsmCause}
use Rattle.asmtext.specs.Labels.{Lines, first_place}
use Rattle.asmtext.specs.Notes.{kinds_after, kinds_behind, may_stand, may_stand_at, else_}
use Rattle.asmtext.specs.Causes.{cause_of, cause_at, AreGood, IsFirstBad}
use Rattle.asmtext.specs.Held.{told, all_told}

pub told_drop : (lines : List (Option Line)) (i : ℕ) → i < length lines
    → all_told (drop i lines) ≡ told (get_or lines i None) ∷ all_told (drop (i + 1) lines)
told_drop lines i h = at_drop_more all_told lines i None h

pub told_length : (lines : List (Option Line)) → length (all_told lines) ≡ length lines
told_length lines = length-map lines told

pub told_at : (lines : List (Option Line)) (i : ℕ) → i < length lines
    → slice_get (all_told lines) i ≡ Some (told (get_or lines i None))
told_at lines i h =
    slice_get-get_or (all_told lines) i None (omega (arith, told_length lines)) ∙ ap Some (get_or-map told lines i None None h)

pub line_drop : (lines : Lines) (i : ℕ) (line : Option Said) → i < length lines → slice_get lines i ≡ Some line
    → drop i lines ≡ line ∷ drop (i + 1) lines
line_drop lines i line h e =
    at_drop_more (λ ls. ls) lines i line h ∙ ap (λ y. y ∷ drop (i + 1) lines) (get_or_from_slice_get lines i line line e)

pub kinds_more : (lines : Lines) (i : ℕ) (line : Option Said) → i < length lines → slice_get lines i ≡ Some line
    → kinds_behind (take (i + 1) lines) ≡ kinds_after (kinds_behind (take i lines)) line
kinds_more lines i line h e =
    fold_more kinds_after [] lines i line h ∙ ap (kinds_after (kinds_behind (take i lines))) (get_or_from_slice_get lines i line line e)

pub cause_is : (lines : Lines) (places : List ℕ → Option ℕ) (kinds : List NoteKind) (i : ℕ) (line : Option Said)
    → ((name : List ℕ) → places name ≡ first_place lines name) → kinds ≡ kinds_behind (take i lines) → slice_get lines i ≡ Some line
    → cause_of places kinds i line (drop (i + 1) lines) ≡ cause_at lines i
unfolding cause_at
cause_is lines places kinds i line known behind at =
    ap (λ f. cause_of f kinds i line (drop (i + 1) lines)) (λ j name. known name j)
    ∙ ap (λ ks. cause_of (first_place lines) ks i line (drop (i + 1) lines)) behind
    ∙ sym (ap (option_and_then (λ l. cause_of (first_place lines) (kinds_behind (take i lines)) i l (drop (i + 1) lines))) at)

pub good_more : (lines : Lines) (n : ℕ) → AreGood n lines → cause_at lines n ≡ None → AreGood (n + 1) lines
good_more lines n good here k h = below_more (λ k. cause_at lines k ≡ None) n good here k h

-- ---- notes

pub stands_here : (places : List ℕ → Option ℕ) (kind : NoteKind) (i : ℕ) (lines : Lines) (line : Option Said) (stands : Bool)
    → i < length lines → slice_get lines i ≡ Some line → may_stand_at places kind i line ≡ Some stands
    → stands ≡ may_stand places kind i (drop i lines)
stands_here places kind i lines line stands h at e =
    sym (ap (may_stand places kind i) (line_drop lines i line h at) ∙ ap (λ o. else_ o (may_stand places kind (i + 1) (drop
    (i + 1) lines))) e)

pub stands_on_next : (places : List ℕ → Option ℕ) (kind : NoteKind) (i : ℕ) (lines : Lines) (line : Option Said)
    → i < length lines → slice_get lines i ≡ Some line → may_stand_at places kind i line ≡ None
    → may_stand places kind i (drop i lines) ≡ may_stand places kind (i + 1) (drop (i + 1) lines)
stands_on_next places kind i lines line h at e =
    ap (may_stand places kind i) (line_drop lines i line h at) ∙ ap (λ o. else_ o (may_stand places kind (i + 1) (drop (i + 1) lines))) e

pub stands_nowhere : (places : List ℕ → Option ℕ) (kind : NoteKind) (i : ℕ) (lines : Lines) → length lines ≤ i
    → false ≡ may_stand places kind i (drop i lines)
stands_nowhere places kind i lines h = sym (at_drop_all (may_stand places kind i) lines i h)
