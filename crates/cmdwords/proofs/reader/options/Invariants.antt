use Rattle.std.proofs.Common.{◌≡◌, map, take}
use Rattle.std.specs.Prelude.{option_map}
use Rattle.clap.specs.Words.{first_value, found_of}
use Rattle.cmdwords.proofs.reader.options.Given as goal

-- the values of the options so far
abbrev pub invariant-loop-name : goal.invariant-loop-name
invariant-loop-name l =
    map (option_map (λ text. text.now)) l.options.items ≡ map (λ name. first_value (found_of l.matches) name.now)
    (take l.name-index l.names)
