-- Why a line of a text is bad, by itself or among the others, and which is the first bad line. Lines have numbers from 0 here.
use Rattle.std.specs.Prelude.{◌≡◌, ℕ, ◌+◌, ◌<◌, ◌&&◌, ◌||◌, not, nat_le, Bool, true, false, if◌then◌else◌, List, length, take, drop}
use Rattle.std.specs.Prelude.{slice_get}
use Rattle.std.specs.Prelude.{Option, Some, None, option_and_then}
use Rattle.isa.specs.declared.note.NoteKind.{NoteKind}
use Rattle.asmword.specs.declared.mnemonic.Mnemonic.{Mnemonic}
use Rattle.asmword.specs.declared.mnemonic.Mnemonic.TheVariants.{Loop}
use Rattle.asmword.specs.Words.{is_below}
use Rattle.asmline.specs.Said.{Saying, nothing, note, whole, aimed, Said, saying_fits}
use Rattle.asmtext.specs.declared.cause.AsmCause.{AsmCause}
use Rattle.asmtext.specs.declared.cause.AsmCause.TheVariants as causes
use Rattle.asmtext.specs.Labels.{Lines, first_place}
use Rattle.asmtext.specs.Notes.{kinds_behind, has_kind, may_stand}

-- ---- Range

-- a note of a kind that its word has already
abbrev pub is_second_note : List NoteKind → Saying → Bool
is_second_note kinds nothing = false
is_second_note kinds (note kind value) = has_kind kind kinds
is_second_note kinds (whole form) = false
is_second_note kinds (aimed form name) = false

abbrev pub is_out_of_range : List NoteKind → Saying → Bool
is_out_of_range kinds saying = not (saying_fits saying) || is_second_note kinds saying

-- ---- Label

-- the label stands on a line before
abbrev pub is_second_place : (List ℕ → Option ℕ) → ℕ → Option (List ℕ) → Bool
is_second_place places number None = false
is_second_place places number (Some name) = is_below number (places name)

abbrev pub is_loop : Mnemonic → Bool
is_loop Loop = true
is_loop _ = false

-- a label that stands nowhere, or the end of a LOOP that isn't behind it
abbrev pub misses : Bool → ℕ → Option ℕ → Bool
misses is_loop number None = true
misses is_loop number (Some place) = is_loop && nat_le place number

abbrev pub aims_badly : (List ℕ → Option ℕ) → ℕ → Saying → Bool
aims_badly places number nothing = false
aims_badly places number (note kind value) = false
aims_badly places number (whole form) = false
aims_badly places number (aimed form name) = misses (is_loop form.mnemonic) number (places name)

abbrev pub has_bad_label : (List ℕ → Option ℕ) → ℕ → Said → Bool
has_bad_label places number said = is_second_place places number said.label || aims_badly places number said.saying

-- ---- Note

-- a note on no word, or on one on which it may not stand; `behind` are the lines behind it
abbrev pub is_lost_note : (List ℕ → Option ℕ) → ℕ → Saying → Lines → Bool
is_lost_note places number nothing behind = false
is_lost_note places number (note kind value) behind = not (may_stand places kind (number + 1) behind)
is_lost_note places number (whole form) behind = false
is_lost_note places number (aimed form name) behind = false

-- ---- the first bad line

-- Of the causes for which one line is bad, the first counts. `places` tells where labels stand and `kinds` the notes whose word is still
-- to come.
abbrev pub cause_of : (List ℕ → Option ℕ) → List NoteKind → ℕ → Option Said → Lines → Option AsmCause
cause_of places kinds number None behind = Some causes.Form
cause_of places kinds number (Some said) behind =
    if is_out_of_range kinds said.saying then Some causes.Range
    else (if has_bad_label places number said then Some causes.Label
    else (if is_lost_note places number said.saying behind then Some causes.Note else None))

-- why a line of these is bad
unfoldable pub cause_at : Lines → ℕ → Option AsmCause
cause_at lines number =
    option_and_then (λ line. cause_of (first_place lines) (kinds_behind (take number lines)) number line (drop (number + 1) lines))
    (slice_get lines number)

-- no line of the first so many is bad
abbrev pub AreGood : ℕ → Lines → Type 0
AreGood count lines = (k : ℕ) → k < count → cause_at lines k ≡ None

-- a line is bad, and none before it is
pub record IsFirstBad (lines : Lines) (number : ℕ) (cause : AsmCause) : Type 0 where
  pub bad : cause_at lines number ≡ Some cause
  pub first : AreGood number lines
