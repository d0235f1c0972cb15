-- What is laid and what is still to come is the whole, at each item.
use Rattle.std.proofs.Common.{◌≡◌, ℕ, ◌+◌, List, [], ◌∷◌, ◌++◌, ap, sym, ◌∙◌, append_assoc}
use Rattle.std.specs.Prelude.{map}
use Rattle.std.proofs.lemmas.List.{append-nil}
use Rattle.isa.specs.declared.inst.Inst.{Inst}
use Rattle.isa.specs.declared.note.Note.{Note}
use Rattle.isa.specs.declared.note.NoteKind.{NoteKind}
use Rattle.isa.specs.declared.program.Item.{Item}
use Rattle.isa.specs.declared.program.Item.TheVariants as item
use Rattle.isa.specs.declared.program.Line.{Line}
use Rattle.isa.specs.declared.program.Ref.{Ref}
use Rattle.isa.specs.declared.program.Target.{Target}
use Rattle.isa.specs.Row.{word_of}
use Rattle.isa.specs.Fitted.{Fitted}
use Rattle.branchfit.specs.declared.laying.Laying.{Laying}
use Rattle.branchfit.specs.Aims.{reach_of}
use Rattle.branchfit.specs.Far.{width}
use Rattle.branchfit.specs.Laid.{Layout, aimed, noted, number_at, is_far_at, refs_aimed, words_at, notes_at, refs_at, lines_at, words_from}
use Rattle.branchfit.specs.Laid.{notes_from, refs_from, lines_from, place_behind}
use Rattle.branchfit.specs.Laying.{Lays, laid_behind}

made : (w v : List ℕ) (n m : List Note) (r q : List Ref) (l k : List Line) → w ≡ v → n ≡ m → r ≡ q → l ≡ k
    → (let f : Fitted = record { words = w; notes = n; refs = r; lines = l } in f) ≡ record { words = v; notes = m; refs = q; lines = k }
made w v n m r q l k a b c d = cc

module _ {X : Type 0} where
  joined : (new old at rest : List X) → new ≡ old ++ at → new ++ rest ≡ old ++ (at ++ rest)
  joined new old at rest e = ap (λ xs. xs ++ rest) e ∙ append_assoc old at rest

pub laid_on : (layout : Layout) (item : Item) (old new : Laying) (rest : List Item) → Lays layout item old new
    → laid_behind layout new rest ≡ laid_behind layout old (item ∷ rest)
unfolding words_from notes_from refs_from lines_from
laid_on layout item old new rest lays =
    made _ _ _ _ _ _ _ _
    (joined new.words.items old.words.items _ (words_from layout new.place rest) lays.words
    ∙ ap (λ p. old.words.items ++ (words_at layout old.place item ++ words_from layout p rest)) lays.place)
    (joined new.notes.items old.notes.items _ (notes_from layout new.place new.pending.items rest) lays.notes
    ∙ ap (λ p. old.notes.items ++ (notes_at layout old.place old.pending.items item ++ notes_from layout p new.pending.items rest))
    lays.place
    ∙ ap (λ ns. old.notes.items ++ (notes_at layout old.place old.pending.items item ++ notes_from layout (place_behind old.place item) ns
    rest)) lays.pending)
    (joined new.refs.items old.refs.items _ (refs_from layout new.place rest) lays.refs
    ∙ ap (λ p. old.refs.items ++ (refs_at layout old.place item ++ refs_from layout p rest)) lays.place)
    (joined new.lines.items old.lines.items _ (lines_from layout new.place rest) lays.lines
    ∙ ap (λ p. old.lines.items ++ (lines_at layout old.place item ++ lines_from layout p rest)) lays.place)

pub laid_all : (layout : Layout) (s : Laying)
    → laid_behind layout s [] ≡ record { words = s.words.items; notes = s.notes.items; refs = s.refs.items; lines = s.lines.items }
unfolding words_from notes_from refs_from lines_from
laid_all layout s = made _ _ _ _ _ _ _ _ (append-nil s.words.items) (append-nil s.notes.items) (append-nil s.refs.items)
    (append-nil s.lines.items)

-- ---- items, one by one

module _ (layout : Layout) (old new : Laying) where
  pub lays_label : (l : ℕ) → new ≡ old → Lays layout (item.Label l) old new
  lays_label l e = record {
    words = ap (λ s. s.words.items) e ∙ sym (append-nil old.words.items);
    notes = ap (λ s. s.notes.items) e ∙ sym (append-nil old.notes.items);
    refs = ap (λ s. s.refs.items) e ∙ sym (append-nil old.refs.items);
    lines = ap (λ s. s.lines.items) e ∙ sym (append-nil old.lines.items);
    pending = ap (λ s. s.pending.items) e;
    place = ap (λ s. s.place) e;
  }

  pub lays_source : (n : ℕ) → new.words.items ≡ old.words.items → new.notes.items ≡ old.notes.items → new.refs.items ≡ old.refs.items
      → new.lines.items ≡ old.lines.items ++ lines_at layout old.place (item.Source n) → new.pending.items ≡ old.pending.items → new.place
      ≡ old.place
      → Lays layout (item.Source n) old new
  lays_source n w m r l p q = record {
    words = w ∙ sym (append-nil old.words.items);
    notes = m ∙ sym (append-nil old.notes.items);
    refs = r ∙ sym (append-nil old.refs.items);
    lines = l;
    pending = p;
    place = q;
  }

  pub lays_note : (kind : NoteKind) (value : ℕ) → new.words.items ≡ old.words.items → new.notes.items ≡ old.notes.items → new.refs.items
      ≡ old.refs.items
      → new.lines.items ≡ old.lines.items → new.pending.items ≡ old.pending.items ++ record {
        word = 0;
        kind = kind;
        value =
            value;
      } ∷ [] → new.place ≡ old.place
      → Lays layout (item.Note kind value) old new
  lays_note kind value w m r l p q = record {
    words = w ∙ sym (append-nil old.words.items);
    notes = m ∙ sym (append-nil old.notes.items);
    refs = r ∙ sym (append-nil old.refs.items);
    lines = l ∙ sym (append-nil old.lines.items);
    pending = p;
    place = q;
  }

  pub lays_whole : (i : Inst) → new.words.items ≡ old.words.items ++ word_of i ∷ []
      → new.notes.items ≡ old.notes.items ++ noted (number_at layout old.place) 1 old.pending.items
      → (new.refs.items ≡ old.refs.items) × (new.lines.items ≡ old.lines.items) → new.pending.items ≡ [] → new.place ≡ old.place + 1
      → Lays layout (item.Whole i) old new
  lays_whole i w m k p q = record {
    words = w;
    notes = m;
    refs = k.0 ∙ sym (append-nil old.refs.items);
    lines = k.1 ∙ sym (append-nil old.lines.items);
    pending = p;
    place = q;
  }

  pub lays_aimed : (i : Inst) (t : Target) (made : List Inst) (wide : ℕ) → new.words.items ≡ old.words.items ++ map word_of made
      → aimed layout old.place i t ≡ made
      → new.notes.items ≡ old.notes.items ++ noted (number_at layout old.place) wide old.pending.items → wide
      ≡ width (reach_of i) (is_far_at layout old.place)
      → new.refs.items ≡ old.refs.items ++ refs_aimed (number_at layout old.place) t
      → new.lines.items ≡ old.lines.items → new.pending.items ≡ [] → new.place ≡ old.place + 1
      → Lays layout (item.Aimed i t) old new
  lays_aimed i t made wide w is m size r l p q = record {
    words = w ∙ ap (λ words. old.words.items ++ map word_of words) (sym is);
    notes = m ∙ ap (λ n. old.notes.items ++ noted (number_at layout old.place) n old.pending.items) size;
    refs = r;
    lines = l ∙ sym (append-nil old.lines.items);
    pending = p;
    place = q;
  }
