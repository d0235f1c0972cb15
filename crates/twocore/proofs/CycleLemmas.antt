-- So many cycles, and then more.
use Rattle.std.proofs.Common.{◌≡◌, ℕ, zero, suc, ◌+◌, ◌-◌, ◌<◌, ◌≤◌, refl, sym, ap, ◌∙◌, arith}
use Rattle.isa.specs.Image.{Contents}
use Rattle.corestep.specs.declared.table.Table.{Table}
use Rattle.hostscript.specs.declared.script.Script.{Script}
use Rattle.twocore.specs.Machine.{Machine, cycle, cycles, at_start_of, restarted}

pub cycles_done : (n : ℕ) (m : Machine) → (cycles n m).done ≡ m.done + n
cycles_done zero m = omega arith
cycles_done (suc n) m = let ih = cycles_done n m in omega arith

pub cycles_add : (a b : ℕ) (m : Machine) → cycles a (cycles b m) ≡ cycles (a + b) m
cycles_add zero b m = ap (λ (n : ℕ). cycles n m) (let e : b ≡ 0 + b = omega arith in e)
cycles_add (suc a) b m =
    ap cycle (cycles_add a b m) ∙ ap (λ (n : ℕ). cycles n m) (let e : suc (a + b) ≡ suc a + b = omega arith in e)

-- one more, where there are left
pub cycle_turn : (n left : ℕ) (m now : Machine) → 0 < left → left ≤ n → now ≡ cycles (n - left) m
    → cycle now ≡ cycles (n - (left - 1)) m
cycle_turn n left m now some most is =
    ap cycle is ∙ ap (λ (k : ℕ). cycles k m) (let e : suc (n - left) ≡ n - (left - 1) = omega arith in e)

-- a stretch more
pub stretch_turn : (n left stretch : ℕ) (m now after : Machine) → stretch ≤ left → left ≤ n → now ≡ cycles (n - left) m
    → after ≡ cycles stretch now
    → after ≡ cycles (n - (left - stretch)) m
stretch_turn n left stretch m now after some most is did =
    did ∙ ap (cycles stretch) is ∙ cycles_add stretch (n - left) m
    ∙ ap (λ (k : ℕ). cycles k m) (let e : stretch + (n - left) ≡ n - (left - stretch) = omega arith in e)

-- cycles change nothing that a restart keeps
restarted_after : (n : ℕ) (m : Machine) → restarted (cycles n m) ≡ restarted m
restarted_after zero m = refl
restarted_after (suc n) m = restarted_after n m

pub started_again : (table : Table) (image0 image1 : Contents) (script : Script) (n : ℕ)
    → restarted (cycles n (at_start_of table image0 image1 script)) ≡ at_start_of table image0 image1 script
started_again table image0 image1 script n = restarted_after n (at_start_of table image0 image1 script)
