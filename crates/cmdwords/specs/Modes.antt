-- The forms of the program's modes.
use Rattle.std.specs.Prelude.{[], ◌∷◌, codes}
use Rattle.cmdwords.specs.Form.{Form}
use Rattle.cmdwords.specs.declared.place.Place.TheVariants as place
use Rattle.cmdwords.specs.declared.modes.Mode.{Mode}
use Rattle.cmdwords.specs.declared.modes.Mode.TheVariants as mode

-- `run A B H N OUT`
abbrev pub run_form : Form
run_form = record {
  mode = codes "run";
  places = place.File ∷ place.File ∷ place.File ∷ place.Number 0 2000000 ∷ place.File ∷ [];
  options = [];
}

-- `sim E0 E1 H N OUT`, with the option `--table T`
abbrev pub sim_form : Form
sim_form = record {
  mode = codes "sim";
  places = place.File ∷ place.File ∷ place.File ∷ place.Number 0 2000000 ∷ place.File ∷ [];
  options = codes "table" ∷ [];
}

abbrev pub form_in : Mode → Form
form_in mode.Run = run_form
form_in mode.Sim = sim_form
