-- Cycles in pieces, and behind a restart.
use Rattle.std.proofs.Common.{◌≡◌, ℕ, ◌+◌, ◌-◌, ◌≤◌, ap, ◌∙◌, arith}
use Rattle.isa.specs.Image.{Contents}
use Rattle.corestep.specs.declared.table.Table.{Table}
use Rattle.hostscript.specs.declared.script.Script.{Script}
use Rattle.twocore.specs.Machine.{Machine, cycles, at_start_of, restarted}
use Rattle.twocore.proofs.CycleLemmas.{cycles_add, started_again}

-- a run of so many cycles
pub whole : (n : ℕ) (before after : Machine) → after ≡ cycles (after.done - before.done) before → after.done ≡ before.done + n
    → after ≡ cycles n before
whole n before after is did =
    is ∙ ap (λ (k : ℕ). cycles k before) (let e : after.done - before.done ≡ n = omega (arith, did) in e)

pub two_pieces : (first n : ℕ) (start now last : Machine) → first ≤ n → now ≡ cycles first start → last ≡ cycles (n - first) now
    → last ≡ cycles n start
two_pieces first n start now last few one two =
    two ∙ ap (cycles (n - first)) one ∙ cycles_add (n - first) first start
    ∙ ap (λ (k : ℕ). cycles k start) (let e : n - first + first ≡ n = omega (arith, few) in e)

pub began_again : (table : Table) (image0 image1 : Contents) (script : Script) (first : ℕ) (now again : Machine)
    → now ≡ cycles first (at_start_of table image0 image1 script) → again ≡ restarted now
    → again ≡ at_start_of table image0 image1 script
began_again table image0 image1 script first now again one is =
    is ∙ ap restarted one ∙ started_again table image0 image1 script first
