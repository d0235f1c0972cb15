-- Each row of the word table over fields of each kind, worked out by hand: R1 is 0x44332211, R2 0x88776655, R30 0x04030201 and R31
-- 0x80001234. The word stands at 0.
use Rattle.std.proofs.Common.{◌≡◌, ℕ, map, List, [], ◌∷◌, ◌++◌, None, refl}
use Rattle.std.specs.Prelude.{replicate}
use Rattle.prunum.specs.declared.width.Width.TheVariants.{B1, B2, B4}
use Rattle.prutrace.specs.declared.event.Event.{Event}
use Rattle.prutrace.specs.declared.event.Event.TheVariants.{Halted}
use Rattle.prutrace.specs.declared.event.Event.TheVariants as event
use Rattle.prutrace.specs.declared.event.Place.TheVariants.{Addr, Reg30, Reg31, Pad}
use Rattle.isa.specs.Decoded.{decoded, inst_at as row_inst, alu_at, single_at, branch_at, jump_at, memory_at, access_from}
use Rattle.isa.specs.Image.{Contents}
use Rattle.corestep.specs.Compute.{leftmost, leftmost_below}
use Rattle.corestep.specs.Fields.{register}
use Rattle.corestep.specs.Pieces.{pieces, piece}
use Rattle.corestep.specs.Step.{Stepped, istep, stepped}

abbrev one_word : ℕ → Contents
one_word w = record { words = w ∷ []; data_at = 16; init = []; zero = 0; notes = [] }

abbrev after : ℕ → Stepped
after w =
    stepped (one_word w)
    (record {
      pc = 0;
      turning = None;
      registers = 0 ∷ 0 ∷ 0 ∷ 0 ∷ 0x11 ∷ 0x22 ∷ 0x33 ∷ 0x44 ∷ 0x55 ∷ 0x66 ∷ 0x77 ∷ 0x88 ∷ (replicate 108 0 ++ 1 ∷ 2 ∷ 3 ∷ 4 ∷ []);
      ram = replicate 0x1E00 0;
    })
    (record { r31 = 0x80001234; bytes = 1 ∷ 2 ∷ 3 ∷ 4 ∷ 5 ∷ 6 ∷ 7 ∷ []; pads = 0x11 ∷ 0x22 ∷ 0x33 ∷ 0x44 ∷ [] })

-- ---- R2 after the word

abbrev with_value : ℕ × ℕ → ℕ × ℕ
with_value (w, value) = (w, register (after w).core.registers 2)

abbrev values : List (ℕ × ℕ)
values =
    (0x010101E2, 0x12)  -- ADD R2, R1.b0, 1
    ∷ (0x010121E2, 0x23)  -- ADD R2, R1.b1, 1
    ∷ (0x010141E2, 0x34)  -- ADD R2, R1.b2, 1
    ∷ (0x010161E2, 0x45)  -- ADD R2, R1.b3, 1
    ∷ (0x010181E2, 0x2212)  -- ADD R2, R1.w0, 1
    ∷ (0x0101A1E2, 0x3323)  -- ADD R2, R1.w1, 1
    ∷ (0x0101C1E2, 0x4434)  -- ADD R2, R1.w2, 1
    ∷ (0x0101E1E2, 0x44332212)  -- ADD R2, R1, 1
    ∷ (0x0402E1E2, 0x443321bc)  -- SUB R2, R1, R2.b0
    ∷ (0x0422E1E2, 0x443321ab)  -- SUB R2, R1, R2.b1
    ∷ (0x0442E1E2, 0x4433219a)  -- SUB R2, R1, R2.b2
    ∷ (0x0462E1E2, 0x44332189)  -- SUB R2, R1, R2.b3
    ∷ (0x0482E1E2, 0x4432bbbc)  -- SUB R2, R1, R2.w0
    ∷ (0x04A2E1E2, 0x4432aaab)  -- SUB R2, R1, R2.w1
    ∷ (0x04C2E1E2, 0x4432999a)  -- SUB R2, R1, R2.w2
    ∷ (0x04E2E1E2, 0xbbbbbbbc)  -- SUB R2, R1, R2
    ∷ (0x01FF0102, 0x88776610)  -- ADD R2.b0, R1.b0, 255
    ∷ (0x01FF0122, 0x88771055)  -- ADD R2.b1, R1.b0, 255
    ∷ (0x01FF0142, 0x88106655)  -- ADD R2.b2, R1.b0, 255
    ∷ (0x01FF0162, 0x10776655)  -- ADD R2.b3, R1.b0, 255
    ∷ (0x09048182, 0x88772110)  -- LSL R2.w0, R1.w0, 4
    ∷ (0x090481A2, 0x88211055)  -- LSL R2.w1, R1.w0, 4
    ∷ (0x090481C2, 0x21106655)  -- LSL R2.w2, R1.w0, 4
    ∷ (0x0924E1E2, 0x43322110)  -- LSL R2, R1, 36
    ∷ (0x0C226182, 0x88770022)  -- RSB R2.w0, R1.b3, R2.b1
    ∷ (0x0CE1E2E2, 0xbbbbbbbc)  -- RSB R2, R2, R1
    ∷ (0x0B04A162, 0x32776655)  -- LSR R2.b3, R1.w1, 4
    ∷ (0x0A01E1E2, 0x2219)  -- LSR R2, R1, R1.b0
    ∷ (0x10024122, 0x88771155)  -- AND R2.b1, R1.b2, R2.b0
    ∷ (0x12C221A2, 0x88887755)  -- OR R2.w1, R1.b1, R2.w2
    ∷ (0x1482C1E2, 0x2266)  -- XOR R2, R1.w2, R2.w0
    ∷ (0x18C26102, 0x88776644)  -- MIN R2.b0, R1.b3, R2.w2
    ∷ (0x1A6261C2, 0x886655)  -- MAX R2.w2, R1.b3, R2.b3
    ∷ (0x1C01E2E2, 0x88756655)  -- CLR R2, R2, R1.b0
    ∷ (0x1F010102, 0x88776613)  -- SET R2.b0, R1.b0, 1
    ∷ (0x16006182, 0x8877ffbb)  -- NOT R2.w0, R1.b3
    ∷ (0x1600A142, 0x88dd6655)  -- NOT R2.b2, R1.w1
    ∷ (0x27016102, 0x88776606)  -- LMBD R2.b0, R1.b3, 1
    ∷ (0x270061E2, 31)  -- LMBD R2, R1.b3, 0
    ∷ (0x2682E0E2, 32)  -- LMBD R2, R0, R2.w0
    ∷ (0x24123422, 0x88773455)  -- LDI R2.b1, 0x1234
    ∷ (0x241234A2, 0x88123455)  -- LDI R2.w1, 0x1234
    ∷ (0x24FFFFE2, 0xffff)  -- LDI R2, 0xffff
    ∷ (0x23000782, 0x88770001)  -- JAL R2.w0, 7
    ∷ (0x22810062, 0x1776655)  -- JAL R2.b3, R1.w0
    ∷ (0x93001C22, 0x88020155)  -- LBCO R2.b1, C28, 0, 2
    ∷ (0xF0020162, 0x4030201)  -- LBBO R2, R1, R2.b0, 4
    ∷ (0x2E0B0201, 0x11)  -- XIN 11, R2, 1
    ∷ []

values_are : map with_value values ≡ values
unfolding istep decoded row_inst alu_at single_at branch_at jump_at memory_at access_from leftmost_below
values_are = refl

-- ---- the counter after it

abbrev with_counter : ℕ × ℕ → ℕ × ℕ
with_counter (w, counter) = (w, (after w).core.pc)

abbrev counters : List (ℕ × ℕ)
counters =
    (0x21000700, 7)  -- JMP 7
    ∷ (0x20E10000, 0x2211)  -- JMP R1
    ∷ (0x20410000, 0x33)  -- JMP R1.b2
    ∷ (0x20BE0000, 0x302)  -- JMP R30.w1
    ∷ (0x209F0000, 0x1234)  -- JMP R31.w0
    ∷ (0x22C100E2, 0x4433)  -- JAL R2, R1.w2
    ∷ (0x23FFFFE2, 0xffff)  -- JAL R2, 0xffff
    ∷ (0x7B0000FF, 511)  -- QBA 511
    ∷ (0x7F0000FF, 65535)  -- QBA -1
    ∷ (0x48C1A205, 5)  -- QBLT 5, R2.w1, R1.w2
    ∷ (0x49110105, 1)  -- QBLT 5, R1.b0, 0x11
    ∷ (0x48020105, 1)  -- QBLT 5, R1.b0, R2.b0
    ∷ (0x58C1A205, 5)  -- QBLE 5, R2.w1, R1.w2
    ∷ (0x59110105, 5)  -- QBLE 5, R1.b0, 0x11
    ∷ (0x58020105, 1)  -- QBLE 5, R1.b0, R2.b0
    ∷ (0x60C1A205, 1)  -- QBGT 5, R2.w1, R1.w2
    ∷ (0x61110105, 1)  -- QBGT 5, R1.b0, 0x11
    ∷ (0x60020105, 5)  -- QBGT 5, R1.b0, R2.b0
    ∷ (0x70C1A205, 1)  -- QBGE 5, R2.w1, R1.w2
    ∷ (0x71110105, 5)  -- QBGE 5, R1.b0, 0x11
    ∷ (0x70020105, 5)  -- QBGE 5, R1.b0, R2.b0
    ∷ (0x51110105, 5)  -- QBEQ 5, R1.b0, 0x11
    ∷ (0x50828105, 1)  -- QBEQ 5, R1.w0, R2.w0
    ∷ (0x69110105, 1)  -- QBNE 5, R1.b0, 0x11
    ∷ (0x68828105, 5)  -- QBNE 5, R1.w0, R2.w0
    ∷ (0xD124E105, 5)  -- QBBS 5, R1, 36
    ∷ (0xD0014105, 1)  -- QBBS 5, R1.b2, R1.b0
    ∷ (0xC924E105, 1)  -- QBBC 5, R1, 36
    ∷ (0xC8014105, 5)  -- QBBC 5, R1.b2, R1.b0
    ∷ (0x2A000000, 0)  -- HALT
    ∷ (0x31010300, 1)  -- LOOP 3, 2
    ∷ (0x0101E2E2, 1)  -- ADD R2, R2, 1
    ∷ []

counters_are : map with_counter counters ≡ counters
unfolding istep decoded row_inst alu_at single_at branch_at jump_at memory_at access_from leftmost_below
counters_are = refl

-- ---- what shows, in its order

abbrev with_events : ℕ × List Event → ℕ × List Event
with_events (w, events) = (w, (after w).out.events)

abbrev shown : List (ℕ × List Event)
shown =
    -- ADD R30.b1, R31.w1, R30
    (0x00FEBF3E, event.Read Reg31 B4 0x80001234 ∷ event.Read Reg30 B4 0x04030201 ∷ event.Write Reg30 B4 0x04031301 ∷ [])
    ∷ (0x16007E5F, event.Read Reg30 B4 0x04030201 ∷ event.Write Reg31 B4 0xfb0000 ∷ [])  -- NOT R31.b2, R30.b3
    ∷ (0x241234DF, event.Write Reg31 B4 0x12340000 ∷ [])  -- LDI R31.w2, 0x1234
    ∷ (0x241234BF, event.Write Reg31 B4 0x123400 ∷ [])  -- LDI R31.w1, 0x1234
    ∷ (0x2412347F, event.Write Reg31 B4 0x34000000 ∷ [])  -- LDI R31.b3, 0x1234
    ∷ (0x2412349E, event.Write Reg30 B4 0x04031234 ∷ [])  -- LDI R30.w0, 0x1234
    ∷ (0x221F007E, event.Read Reg31 B4 0x80001234 ∷ event.Write Reg30 B4 0x01030201 ∷ [])  -- JAL R30.b3, R31.b0
    ∷ (0x20FE0000, event.Read Reg30 B4 0x04030201 ∷ [])  -- JMP R30
    ∷ (0x2701FFFF, event.Read Reg31 B4 0x80001234 ∷ event.Write Reg31 B4 31 ∷ [])  -- LMBD R31, R31, 1
    ∷ (0x501F1E05, event.Read Reg30 B4 0x04030201 ∷ event.Read Reg31 B4 0x80001234 ∷ [])  -- QBEQ 5, R30.b0, R31.b0
    ∷ (0xD11FFF05, event.Read Reg31 B4 0x80001234 ∷ [])  -- QBBS 5, R31, 31
    -- LBCO R2, C28, 1, 7
    ∷ (0x91011CC2, event.Read (Addr 0x10001) B4 0x04030201 ∷ event.Read (Addr 0x10005) B2 0x0605 ∷ event.Read (Addr 0x10007) B1 7 ∷ [])
    ∷ (0x83001CA1, event.Write (Addr 0x10000) B4 0x55443322 ∷ event.Write (Addr 0x10004) B2 0x7766 ∷ [])  -- SBCO R1.b1, C28, 0, 6
    ∷ (0x2E0A0403, event.Read (Pad 0 4) B4 0x11 ∷ event.Read (Pad 0 5) B4 0x22 ∷ event.Read (Pad 0 6) B4 0x33 ∷ [])  -- XIN 10, R4, 3
    ∷ (0x2F0C0102, event.Write (Pad 2 1) B4 0x44332211 ∷ event.Write (Pad 2 2) B4 0x88776655 ∷ [])  -- XOUT 12, R1, 2
    ∷ (0x2A000000, Halted ∷ [])  -- HALT
    ∷ []

shown_are : map with_events shown ≡ shown
unfolding istep decoded row_inst alu_at single_at branch_at jump_at memory_at access_from leftmost_below
shown_are = refl

-- ---- what these registers don't reach: addresses that wrap, and a number without the bit

pieces_wrap : pieces 0xFFFFFFFE (1 ∷ 2 ∷ 3 ∷ 4 ∷ 5 ∷ 6 ∷ []) ≡ piece 0xFFFFFFFE B4 0x04030201 ∷ piece 2 B2 0x0605 ∷ []
pieces_wrap = refl

no_bit : leftmost 0xFFFFFFFF 2 ≡ 32
unfolding leftmost_below
no_bit = refl
