-- The lines for the user behind a run: this project's own.
use Rattle.std.specs.Prelude.{ℕ, List, ◌++◌, length, min, nat_lt, codes, if◌then◌else◌}
use Rattle.std.specs.Fmt.{decimal}
use Rattle.prutrace.specs.Text.{line}
use Rattle.prucc.specs.declared.machine.Stop.{Stop}
use Rattle.prucc.specs.declared.machine.Stop.TheVariants.{Going, Halted, Stuck}
use Rattle.prucc.specs.declared.run.Outcome.{Outcome}
use Rattle.prucc.specs.Meaning.{event_count}

abbrev pub stop_text : Stop → List ℕ
stop_text Going = codes "running"
stop_text Halted = codes "halted"
stop_text Stuck = codes "stuck"

-- A core's numbers of events and of instructions, and how it stands. Nothing is spilled so far, and no source has an undefined step.
abbrev pub core_line : ℕ → ℕ → ℕ → Stop → List ℕ
core_line core events instructions stop =
    line (codes "core " ++ (decimal core ++ (codes " events "
    ++ (decimal events ++ (codes " instructions " ++ (decimal instructions
    ++ (codes " spills 0 " ++ (stop_text stop ++ codes " clean"))))))))

abbrev pub line_of : ℕ → Outcome → List ℕ
line_of core o = core_line core (length o.trace.items) o.count o.stop

-- of a core whose source writes these numbers, after n cycles: an event is an instruction
abbrev pub summary_line : ℕ → ℕ → List ℕ → List ℕ
summary_line core n ks =
    core_line core (min n (event_count ks)) (min n (event_count ks)) (if nat_lt n (event_count ks) then Going else Halted)

abbrev pub summary_text : ℕ → List ℕ → List ℕ → List ℕ
summary_text n ks0 ks1 = summary_line 0 n ks0 ++ summary_line 1 n ks1
