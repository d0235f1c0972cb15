-- The program that halts at once is whole.
use Rattle.std.proofs.Common.{◌≡◌, ℕ, ◌==◌, true, List, [], ◌∷◌, None, sym, subst, ap}
use Rattle.std.proofs.lemmas.Bool.{and_from}
use Rattle.prunum.specs.declared.width.Width.{Width}
use Rattle.midcode.specs.declared.signature.Signature.{Signature}
use Rattle.midcode.specs.declared.op.Op.{Op}
use Rattle.midcode.specs.declared.op.OpKind.TheVariants as op
use Rattle.midcode.specs.Function.{Function, size_of}
use Rattle.midcode.specs.Program.{is_whole}

with-nodes : (s : Signature) (ws : List Width) (labels node line : ℕ) → s.count ≡ 0 → s.result ≡ None
    → is_whole (record {
      functions =
          record {
            signature = s;
            registers = ws;
            labels = labels;
            nodes = (node, record { line = line; kind = op.Halt }) ∷ [];
          } ∷ [];
      objects = [];
      regions = 0;
      main = 0;
    })
    ≡ true
with-nodes s ws labels node line none nothing =
    and_from (s.count == 0) (size_of s.result == 0) (ap (λ n. n == 0) none) (ap (λ w. size_of w == 0) nothing)

pub halting_whole : (f : Function) (node : ℕ) (o : Op) → f.nodes ≡ (node, o) ∷ [] → o.kind ≡ op.Halt → f.signature.count ≡ 0
    → f.signature.result ≡ None → is_whole (record { functions = f ∷ []; objects = []; regions = 0; main = 0 }) ≡ true
halting_whole f node o at kind none nothing =
    subst (λ ns. is_whole (record { functions = record f { nodes = ns } ∷ []; objects = []; regions = 0; main = 0 }) ≡ true) (sym at)
    (subst (λ k. is_whole (record {
      functions = record f { nodes = (node, record o { kind = k }) ∷ [] } ∷ [];
      objects = [];
      regions = 0;
      main = 0;
    }) ≡ true)
    (sym kind) (with-nodes f.signature f.registers f.labels node o.line none nothing))
