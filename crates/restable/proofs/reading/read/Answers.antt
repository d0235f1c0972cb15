use Rattle.std.proofs.Common.{◌<◌, ◌^◌, ℕ, List, length, ap, subst, ◌∙◌, arith}
use Rattle.restable.specs.Reading.{Gives, table_in}
use Rattle.restable.proofs.TableLaws.{is_found, table_again}
use Rattle.restable.proofs.reading.read.Goals as goal

pub returns-clause-found : goal.returns-clause-found
returns-clause-found c = is_found c.args.bytes.now c.read_table.result (λ i. omega (arith, c.type_inv.bytes i)) c.read_table.ensures

pub returns-clause-only : goal.returns-clause-only
returns-clause-only c = λ traces fits e.
    subst (λ f. Gives (λ v. v.items) c.read_table.result f) (ap table_in e
    ∙ table_again traces fits (subst (λ (bytes : List ℕ). length bytes < 2 ^ 31) e c.requires)) c.read_table.ensures
