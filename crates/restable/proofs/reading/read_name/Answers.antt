use Rattle.std.proofs.Common.{◌∙◌, List, ℕ, IsTrue, ap, sym, subst, take, arith}
use Rattle.restable.specs.Names.{can_name}
use Rattle.restable.proofs.FieldLaws.{front_names}
use Rattle.restable.proofs.reading.read_name.Goals as goal

pub from_vec-requires : goal.from_vec-requires
from_vec-requires c =
    let field = c.split_at.result.0.now in
    subst (λ (xs : List ℕ). IsTrue (can_name xs))
    (sym (c.in_ok-from_slice.ensures.items ∙ c.split_at-2.ensures.front ∙ ap (λ k. take k field) c.len_of_name.ensures.value))
    (front_names field (omega (arith, c.split_at.ensures.front_len)))
