use Rattle.std.proofs.Common.{◌≡◌, map, take}
use Rattle.isa.specs.declared.inst.Inst.TheVariants.{Ldi}
use Rattle.isa.specs.Row.{word_of}
use Rattle.prucc.specs.Code.{output_register}
use Rattle.prucc.proofs.code.words_of.Given as goal

abbrev pub invariant-loop-n : goal.invariant-loop-n
invariant-loop-n l = l.words.items ≡ map word_of (map (λ k. Ldi output_register k) (take l.n-index l.writes))
