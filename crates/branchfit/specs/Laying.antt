-- How far the words are laid: this is no more than the way there.
use Rattle.std.specs.Prelude.{◌≡◌, ℕ, ◌≤◌, List, ◌++◌}
use Rattle.isa.specs.declared.program.Item.{Item}
use Rattle.isa.specs.Fitted.{Fitted}
use Rattle.branchfit.specs.declared.laying.Laying.{Laying}
use Rattle.branchfit.specs.Laid.{Layout, number_at, words_at, notes_at, refs_at, lines_at, place_behind, pending_behind, words_from}
use Rattle.branchfit.specs.Laid.{notes_from, refs_from, lines_from}

-- there are no more words than a core's code may have
abbrev pub IsSmall : Layout → Type 0
IsSmall layout = (p : ℕ) → number_at layout p ≤ 2048

pub record Lays (layout : Layout) (item : Item) (old new : Laying) : Type 0 where
  pub words : new.words.items ≡ old.words.items ++ words_at layout old.place item
  pub notes : new.notes.items ≡ old.notes.items ++ notes_at layout old.place old.pending.items item
  pub refs : new.refs.items ≡ old.refs.items ++ refs_at layout old.place item
  pub lines : new.lines.items ≡ old.lines.items ++ lines_at layout old.place item
  pub pending : new.pending.items ≡ pending_behind old.pending.items item
  pub place : new.place ≡ place_behind old.place item

-- all of it, where these items are still to come
abbrev pub laid_behind : Layout → Laying → List Item → Fitted
laid_behind layout s items = record {
  words = s.words.items ++ words_from layout s.place items;
  notes = s.notes.items ++ notes_from layout s.place s.pending.items items;
  refs = s.refs.items ++ refs_from layout s.place items;
  lines = s.lines.items ++ lines_from layout s.place items;
}
