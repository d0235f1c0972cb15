-- One item more.
use Rattle.std.proofs.Common.{◌≡◌, ℕ, ◌+◌, ◌<◌, List, ◌∷◌, ap, sym, ◌∙◌, length, drop, get_or}
use Rattle.std.proofs.lemmas.List.{at_drop_more}
use Rattle.isa.specs.declared.program.Item.{Item}

pub item_drop : (items : List Item) (i : ℕ) (x : Item) → i < length items → x ≡ get_or items i x → drop i items ≡ x ∷ drop (i + 1) items
item_drop items i x h e = at_drop_more (λ is. is) items i x h ∙ ap (λ y. y ∷ drop (i + 1) items) (sym e)
