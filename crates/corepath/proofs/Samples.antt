-- Small regions, worked out by hand: paths to each place with their sums.
use Rattle.std.proofs.Common.{◌≡◌, ℕ, lit<, List, [], ◌∷◌, Option, Some, None, refl, inl, inr}
use Rattle.isa.specs.declared.inst.Inst.{Inst}
use Rattle.isa.specs.declared.inst.Inst.TheVariants as inst
use Rattle.isa.specs.declared.note.Note.{Note}
use Rattle.isa.specs.declared.note.NoteKind.TheVariants.{Enter, Leave, Return, Turns}
use Rattle.isa.specs.Decoded.{decoded, inst_at as row_inst, single_at, branch_at, jump_at, memory_at, access_from}
use Rattle.isa.specs.Image.{Contents}
use Rattle.corestep.specs.declared.onward.Turning.{Turning}
use Rattle.corestep.specs.declared.table.Table.TheVariants.{One, Two}
use Rattle.corestep.specs.Step.{inst_at}
use Rattle.corerun.specs.Code.{code_of_words}
use Rattle.corepath.specs.Certificate.{entry_of}
use Rattle.corepath.specs.Flow.{Goes}
use Rattle.corepath.specs.Loops.{Loop, loop_at}
use Rattle.corepath.specs.Path.{Path, begin, step, call, Ends}

abbrev image_of : List ℕ → List Note → Contents
image_of words notes = record { words = words; data_at = 16; init = []; zero = 0; notes = notes }

abbrev the : Option Inst → Inst
the (Some i) = i
the None = inst.Halt

abbrev at : Contents → ℕ → Inst
at image w = the (inst_at image.words w)

abbrev unturned : Loop → ℕ
unturned l = 0

-- ---- LDI R2, 0 · QBBC L1, R31, 0 · LDI R30, 1 · L1: LDI R2, 1 · HALT, the region being all but the last

abbrev branching : Contents
branching =
    image_of (0x240000E2 ∷ 0xC900FF02 ∷ 0x240001FE ∷ 0x240001E2 ∷ 0x2A000000 ∷ [])
    (record { word = 0; kind = Enter; value = 0 } ∷ record { word = 3; kind = Leave; value = 0 } ∷ [])

branching_entry : entry_of branching 0 ≡ Some 0
branching_entry = refl

abbrev Branching : ℕ → ℕ → Type 0
Branching w s = Path One (code_of_words branching) 0 [] 0 w None unturned s

to_branch : Branching 1 1
unfolding decoded row_inst single_at branch_at jump_at memory_at access_from
to_branch =
    step 0 0 1 1 None None unturned unturned 0 (begin 0 unturned tt)
    (record { inst = at branching 0; is = refl; stays = refl; aims = refl }) refl tt

to_arm : Branching 2 2
unfolding decoded row_inst single_at branch_at jump_at memory_at access_from
to_arm =
    step 0 1 2 2 None None unturned unturned 1 to_branch
    (record { inst = at branching 1; is = refl; stays = refl; aims = inr refl }) refl tt

taken : Branching 3 2
unfolding decoded row_inst single_at branch_at jump_at memory_at access_from
taken =
    step 0 1 3 3 None None unturned unturned 1 to_branch
    (record { inst = at branching 1; is = refl; stays = refl; aims = inl refl }) refl tt

not_taken : Branching 3 3
unfolding decoded row_inst single_at branch_at jump_at memory_at access_from
not_taken =
    step 0 2 3 3 None None unturned unturned 2 to_arm
    (record { inst = at branching 2; is = refl; stays = refl; aims = refl }) refl tt

branching_least : Ends One (code_of_words branching) 0 [] 0 3
unfolding decoded row_inst single_at branch_at jump_at memory_at access_from
branching_least = record {
  word = 3;
  turning = None;
  counts = unturned;
  before = 2;
  inst = at branching 3;
  path = taken;
  is = refl;
  left = refl;
  sum_is = refl;
}

branching_most : Ends One (code_of_words branching) 0 [] 0 4
unfolding decoded row_inst single_at branch_at jump_at memory_at access_from
branching_most = record {
  word = 3;
  turning = None;
  counts = unturned;
  before = 3;
  inst = at branching 3;
  path = not_taken;
  is = refl;
  left = refl;
  sum_is = refl;
}

-- ---- LBCO R2, C24, 0, 4 · HALT: a load of the own RAM by both tables

abbrev loading : Contents
loading =
    image_of (0x91001862 ∷ 0x2A000000 ∷ [])
    (record { word = 0; kind = Enter; value = 5 } ∷ record { word = 0; kind = Leave; value = 5 } ∷ [])

loaded_one : Ends One (code_of_words loading) 5 [] 0 3
unfolding decoded row_inst single_at branch_at jump_at memory_at access_from
loaded_one = record {
  word = 0;
  turning = None;
  counts = unturned;
  before = 0;
  inst = at loading 0;
  path = begin 0 unturned tt;
  is = refl;
  left = refl;
  sum_is = refl;
}

loaded_two : Ends Two (code_of_words loading) 5 [] 0 4
unfolding decoded row_inst single_at branch_at jump_at memory_at access_from
loaded_two = record {
  word = 0;
  turning = None;
  counts = unturned;
  before = 0;
  inst = at loading 0;
  path = begin 0 unturned tt;
  is = refl;
  left = refl;
  sum_is = refl;
}

-- ---- LOOP L, 3 · LDI R2, 0 · L: LDI R2, 1: the body three times

abbrev looping : Contents
looping =
    image_of (0x31020100 ∷ 0x240000E2 ∷ 0x240001E2 ∷ [])
    (record { word = 0; kind = Enter; value = 0 } ∷ record { word = 2; kind = Leave; value = 0 } ∷ [])

abbrev body : ℕ → Option Turning
body left = Some (record { first = 1; end = 2; left = left })

abbrev Looping : ℕ → Option Turning → ℕ → Type 0
Looping w t s = Path Two (code_of_words looping) 0 [] 0 w t unturned s

abbrev looping_body : Goes (code_of_words looping) 0 1 2
unfolding decoded row_inst single_at branch_at jump_at memory_at access_from
looping_body = record { inst = at looping 1; is = refl; stays = refl; aims = refl }

in_body : Looping 1 (body 2) 1
unfolding decoded row_inst single_at branch_at jump_at memory_at access_from
in_body =
    step 0 0 1 1 None (body 2) unturned unturned 0 (begin 0 unturned tt)
    (record { inst = at looping 0; is = refl; stays = refl; aims = refl }) refl tt

second_turn : Looping 1 (body 1) 2
unfolding decoded row_inst single_at branch_at jump_at memory_at access_from
second_turn = step 0 1 2 1 (body 2) (body 1) unturned unturned 1 in_body looping_body refl tt

third_turn : Looping 1 (body 0) 3
unfolding decoded row_inst single_at branch_at jump_at memory_at access_from
third_turn = step 0 1 2 1 (body 1) (body 0) unturned unturned 2 second_turn looping_body refl tt

behind_body : Looping 2 None 4
unfolding decoded row_inst single_at branch_at jump_at memory_at access_from
behind_body = step 0 1 2 2 (body 0) None unturned unturned 3 third_turn looping_body refl tt

-- ---- LDI R2, 0 · L: LDI R2, 1 · QBNE L, R2, 0 with Turns 3 · HALT

abbrev turning : Contents
turning =
    image_of (0x240000E2 ∷ 0x240001E2 ∷ 0x6F00E2FF ∷ 0x2A000000 ∷ [])
    (record { word = 0; kind = Enter; value = 0 } ∷ record { word = 2; kind = Turns; value = 3 }
    ∷ record { word = 3; kind = Leave; value = 0 } ∷ [])

abbrev turned_loop : Loop
turned_loop = record { first = 1; last = 2; turns = 3 }

turning_loop : loop_at (code_of_words turning) 2 ≡ Some turned_loop
unfolding decoded row_inst single_at branch_at jump_at memory_at access_from
turning_loop = refl

abbrev so_often : ℕ → Loop → ℕ
so_often n l = n

abbrev Turned : ℕ → ℕ → ℕ → Type 0
Turned w n s = Path One (code_of_words turning) 0 (turned_loop ∷ []) 0 w None (so_often n) s

abbrev turning_first : Goes (code_of_words turning) 0 1 2
unfolding decoded row_inst single_at branch_at jump_at memory_at access_from
turning_first = record { inst = at turning 1; is = refl; stays = refl; aims = refl }

abbrev turning_back : Goes (code_of_words turning) 0 2 1
unfolding decoded row_inst single_at branch_at jump_at memory_at access_from
turning_back = record { inst = at turning 2; is = refl; stays = refl; aims = inl refl }

first_once : Turned 1 0 1
unfolding decoded row_inst single_at branch_at jump_at memory_at access_from
first_once =
    step 0 0 1 1 None None (so_often 0) (so_often 0) 0 (begin 0 (so_often 0) (refl, tt))
    (record { inst = at turning 0; is = refl; stays = refl; aims = refl }) refl (refl, tt)

last_once : Turned 2 0 2
unfolding decoded row_inst single_at branch_at jump_at memory_at access_from
last_once = step 0 1 2 2 None None (so_often 0) (so_often 0) 1 first_once turning_first refl (refl, tt)

first_twice : Turned 1 1 3
unfolding decoded row_inst single_at branch_at jump_at memory_at access_from
first_twice = step 0 2 1 1 None None (so_often 0) (so_often 1) 2 last_once turning_back refl ((refl, lit< tt), tt)

last_twice : Turned 2 1 4
unfolding decoded row_inst single_at branch_at jump_at memory_at access_from
last_twice = step 0 1 2 2 None None (so_often 1) (so_often 1) 3 first_twice turning_first refl (refl, tt)

first_thrice : Turned 1 2 5
unfolding decoded row_inst single_at branch_at jump_at memory_at access_from
first_thrice = step 0 2 1 1 None None (so_often 1) (so_often 2) 4 last_twice turning_back refl ((refl, lit< tt), tt)

last_thrice : Turned 2 2 6
unfolding decoded row_inst single_at branch_at jump_at memory_at access_from
last_thrice = step 0 1 2 2 None None (so_often 2) (so_often 2) 5 first_thrice turning_first refl (refl, tt)

behind_turns : Turned 3 0 7
unfolding decoded row_inst single_at branch_at jump_at memory_at access_from
behind_turns =
    step 0 2 3 3 None None (so_often 2) (so_often 0) 6 last_thrice
    (record { inst = at turning 2; is = refl; stays = refl; aims = inr refl }) refl ((refl, refl), tt)

-- ---- JAL R3.w2, F · LDI R2, 1 · HALT · F: LDI R2, 0 · JMP R3.w2 with Return

abbrev calling : Contents
calling =
    image_of (0x230003C3 ∷ 0x240001E2 ∷ 0x2A000000 ∷ 0x240000E2 ∷ 0x20C30000 ∷ [])
    (record { word = 0; kind = Enter; value = 0 } ∷ record { word = 1; kind = Leave; value = 0 }
    ∷ record { word = 4; kind = Return; value = 0 } ∷ [])

in_function : Path One (code_of_words calling) 0 [] 3 4 None unturned 1
unfolding decoded row_inst single_at branch_at jump_at memory_at access_from
in_function =
    step 3 3 4 4 None None unturned unturned 0 (begin 3 unturned tt)
    (record { inst = at calling 3; is = refl; stays = refl; aims = refl }) refl tt

behind_call : Path One (code_of_words calling) 0 [] 0 1 None unturned 3
unfolding decoded row_inst single_at branch_at jump_at memory_at access_from
behind_call =
    call 0 0 3 4 unturned unturned unturned 0 1 (begin 0 unturned tt)
    (record { inst = at calling 0; is = refl; stays = refl; calls = refl }) in_function
    (record { inst = at calling 4; is = refl; stays = refl; jumps = refl; noted = refl }) tt tt
