-- An allocation for spans in a list is one for the spans themselves.
use Rattle.std.proofs.Common.{ℕ, ◌↔◌, List}
use Rattle.prunum.specs.declared.width.Width.{Width}
use Rattle.midcode.specs.declared.register.VReg.{VReg}
use Rattle.isa.specs.declared.field.Field.{Field}
use Rattle.subreg.specs.declared.home.Home.{Home}
use Rattle.subreg.specs.Allocation.{Meet, Covers, IsTaken, TwentyOthers, IsAllocation}

module _ (H K : VReg → ℕ → ℕ → Type 0) (same : (v : VReg) (from to : ℕ) → H v from to ↔ K v from to) where
  meet-other : (v w : VReg) → Meet K v w → Meet H v w
  meet-other v w m = record {
    place = m.place;
    from = m.from;
    to = m.to;
    start = m.start;
    end_ = m.end_;
    first = (same v m.from m.to).1 m.first;
    second = (same w m.start m.end_).1 m.second;
    in_first = m.in_first;
    in_second = m.in_second;
  }

  covers-other : (place : ℕ) (v : VReg) → Covers H place v → Covers K place v
  covers-other place v c = record { from = c.from; to = c.to; span = (same v c.from c.to).0 c.span; within = c.within }

  twenty-other : (place : ℕ) (v : VReg) → TwentyOthers H place v → TwentyOthers K place v
  twenty-other place v t = record {
    other = t.other;
    another = t.another;
    distinct = t.distinct;
    cover = λ n below. covers-other place (t.other n) (t.cover n below);
  }

  taken-other : (homes : List Home) (place : ℕ) (v : VReg) (g : Field) → IsTaken H homes place v g → IsTaken K homes place v g
  taken-other homes place v g t = record {
    other = t.other;
    another = t.another;
    field = t.field;
    lives = t.lives;
    needed = covers-other place t.other t.needed;
    shares = t.shares;
  }

  pub allocation-other : (registers : List Width) (homes : List Home) (spills : ℕ) → IsAllocation H registers homes spills
      → IsAllocation K registers homes spills
  allocation-other registers homes spills is = record {
    fits = record {
      all = is.fits.all;
      well = is.fits.well;
      apart = λ v w h k other at there meet. is.fits.apart v w h k other at there (meet-other v w meet);
    };
    slots = λ v n at.
        let crowded = is.slots v n at in
        record {
          full = λ w from to g wide span well.
              taken-other homes from v g (crowded.full w from to g wide ((same v from to).1 span) well);
          others = λ from to span. twenty-other from v (crowded.others from to ((same v from to).1 span));
        };
  }
