use Rattle.std.proofs.Common.{refl}
use Rattle.elfrec.proofs.header.HeaderRecord.from_bytes.Goals as goal

pub returns : goal.returns
returns c =
    rw (
      c.identification_of.ensures,
      c.u16_at.ensures,
      c.u16_at-2.ensures,
      c.u32_at.ensures,
      c.u32_at-2.ensures,
      c.u32_at-3.ensures,
      c.u32_at-4.ensures,
      c.u32_at-5.ensures,
      c.u16_at-3.ensures,
      c.u16_at-4.ensures,
      c.u16_at-5.ensures,
      c.u16_at-6.ensures,
      c.u16_at-7.ensures,
      c.u16_at-8.ensures,
    ) refl
