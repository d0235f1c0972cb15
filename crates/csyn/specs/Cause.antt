-- How a cause is printed.
use Rattle.std.specs.Prelude.{ℕ, List, codes}
use Rattle.csyn.specs.declared.cause.Cause.{Cause}
use Rattle.csyn.specs.declared.cause.Cause.TheVariants.{L1, L2, L3, L4, P1, P2, P3, P4, P5, P6, P7, G1, G2, G3, S1, S2, S3, S4, S5}
use Rattle.csyn.specs.declared.cause.Cause.TheVariants.{S6, S7, S8, S9, S10, S11, S12, S13, S14, S15, S16, S17, S18, S19, S20, S21}
use Rattle.csyn.specs.declared.cause.Cause.TheVariants.{S22, S23, S24, S25}

-- its letter and number
abbrev pub cause_name : Cause → List ℕ
cause_name L1 = codes "L1"
cause_name L2 = codes "L2"
cause_name L3 = codes "L3"
cause_name L4 = codes "L4"
cause_name P1 = codes "P1"
cause_name P2 = codes "P2"
cause_name P3 = codes "P3"
cause_name P4 = codes "P4"
cause_name P5 = codes "P5"
cause_name P6 = codes "P6"
cause_name P7 = codes "P7"
cause_name G1 = codes "G1"
cause_name G2 = codes "G2"
cause_name G3 = codes "G3"
cause_name S1 = codes "S1"
cause_name S2 = codes "S2"
cause_name S3 = codes "S3"
cause_name S4 = codes "S4"
cause_name S5 = codes "S5"
cause_name S6 = codes "S6"
cause_name S7 = codes "S7"
cause_name S8 = codes "S8"
cause_name S9 = codes "S9"
cause_name S10 = codes "S10"
cause_name S11 = codes "S11"
cause_name S12 = codes "S12"
cause_name S13 = codes "S13"
cause_name S14 = codes "S14"
cause_name S15 = codes "S15"
cause_name S16 = codes "S16"
cause_name S17 = codes "S17"
cause_name S18 = codes "S18"
cause_name S19 = codes "S19"
cause_name S20 = codes "S20"
cause_name S21 = codes "S21"
cause_name S22 = codes "S22"
cause_name S23 = codes "S23"
cause_name S24 = codes "S24"
cause_name S25 = codes "S25"
