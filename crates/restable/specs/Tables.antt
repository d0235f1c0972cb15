-- A resource table of traces, as bytes. Numbers are words of four bytes, the lowest first. The form is that of a table of remoteproc;
-- that it has traces alone, and no gaps, is this project's own.
use Rattle.std.specs.Prelude.{ℕ, zero, suc, ◌+◌, ◌-◌, ◌*◌, ◌^◌, ◌<◌, IsTrue, List, [], ◌∷◌, ◌++◌, length, replicate}
use Rattle.std.specs.List.{flat_map}
use Rattle.std.specs.Int.{w32, to_le_bytes}
use Rattle.restable.specs.declared.trace.Trace.{Trace}
use Rattle.restable.specs.Names.{can_name}

abbrev pub words : List ℕ → List ℕ
words numbers = flat_map (to_le_bytes w32) numbers

-- the offsets of so many entries of 48 bytes, of which the first begins here
abbrev pub offsets : ℕ → ℕ → List ℕ
offsets first zero = []
offsets first (suc count) = first ∷ offsets (first + 48) count

-- a name in 32 bytes, filled with zeros
abbrev pub name_field : List ℕ → List ℕ
name_field name = name ++ replicate (32 - length name) 0

-- a trace: the type 2, its address, its length, 0, and its name
abbrev pub entry : Trace → List ℕ
entry trace = words (2 ∷ trace.addr ∷ trace.len ∷ 0 ∷ []) ++ name_field trace.name

-- the version 1, the number of entries, twice 0, where each entry begins, and the entries
abbrev pub table : List Trace → List ℕ
table traces = words (1 ∷ length traces ∷ 0 ∷ 0 ∷ []) ++ words (offsets (16 + 4 * length traces) (length traces)) ++ flat_map entry traces

-- what the type of a trace keeps
pub record IsTrace (trace : Trace) : Type 0 where
  pub addr : trace.addr < 2 ^ 32
  pub len : trace.len < 2 ^ 32
  pub name : IsTrue (can_name trace.name)
