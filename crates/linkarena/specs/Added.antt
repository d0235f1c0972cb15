-- When a push is refused, and what it leaves.
use Rattle.std.specs.Prelude.{◌≡◌, ◌↔◌, ℕ, ◌+◌, ◌≤◌, Result, Err, IfErr, OnErr, is_ok, if◌then◌else◌}
use Rattle.linkarena.specs.Lists.{Lists, node_count}
use Rattle.linkarena.specs.declared.fault.AddFault.{AddFault}
use Rattle.linkarena.specs.declared.fault.AddFault.TheVariants.{Full, Memory}

module _ {T : Type 0} where
  -- the value that a refusal hands back
  abbrev pub handed_back : AddFault T → T
  handed_back (Full value) = value
  handed_back (Memory value) = value

  abbrev pub IsFull : Result ℕ (AddFault T) → Type 0
  IsFull (Err (Full value)) = Unit {0}
  IsFull _ = ⊥

  abbrev pub IsWanting : Result ℕ (AddFault T) → Type 0
  IsWanting (Err (Memory value)) = Unit {0}
  IsWanting _ = ⊥

  -- It is full exactly at 1,048,576 nodes, and memory is never wanting where there is room to spare. A refusal hands the value back
  -- and changes nothing.
  pub record Refuses (old new : Lists T) (value : T) (result : Result ℕ (AddFault T)) : Type 0 where
    pub full : IsFull result ↔ (node_count old.lists ≡ 1048576)
    pub memory : IsWanting result → old.spare ≡ 0
    pub back : IfErr result (λ fault. handed_back fault ≡ value)
    pub unchanged : OnErr result (new ≡ old)
    -- a push takes one of the spare places at most
    pub spare : old.spare ≤ new.spare + (if is_ok result then 1 else 0)
