-- How the operations of a function hang together: jumps, regions, and loops with turns. Operations that only compute a value count
-- for nothing here: a place is the number of the other operations before it.
use Rattle.std.specs.Prelude.{ℕ, ◌+◌, ◌==◌, ◌&&◌, ◌||◌, not, Bool, true, false, nat_lt, nat_le, List, []}
use Rattle.std.specs.Prelude.{◌∷◌, ◌++◌, filter, Option, Some, None, if◌then◌else◌}
use Rattle.std.specs.List.{list_all, list_any, filter_map}
use Rattle.midcode.specs.declared.register.Label.{Label}
use Rattle.midcode.specs.declared.op.OpKind.{OpKind}
use Rattle.midcode.specs.declared.op.OpKind.TheVariants as op
use Rattle.midcode.specs.declared.op.Mark.TheVariants as mark
use Rattle.midcode.specs.Operation.{is_value, target_of}

abbrev pub skeleton : List OpKind → List OpKind
skeleton ks = filter (λ k. not (is_value k)) ks

-- the place of a label, and the number of all places where it doesn't stand
abbrev pub place_of : List OpKind → ℕ → ℕ
place_of [] l = 0
place_of (op.Label m ∷ ks) l = if m.0 == l then 0 else 1 + place_of ks l
place_of (_ ∷ ks) l = 1 + place_of ks l

-- a jump or branch, and where it goes to
pub record Way : Type 0 where
  pub from : ℕ
  pub to : ℕ

abbrev pub way_from : List OpKind → ℕ → Option Label → List Way → List Way
way_from all place None ways = ways
way_from all place (Some l) ways = record { from = place; to = place_of all l.0 } ∷ ways

abbrev pub ways_from : List OpKind → ℕ → List OpKind → List Way
ways_from all place [] = []
ways_from all place (k ∷ ks) = way_from all place (target_of k) (ways_from all (place + 1) ks)

-- operations from one place to another, both among them
pub record Area : Type 0 where
  pub first : ℕ
  pub last : ℕ

abbrev pub is_within : Area → ℕ → Bool
is_within a place = nat_le a.first place && nat_le place a.last

-- the loops of jumps back that carry turns, from their target to the jump
abbrev pub loops_from : List OpKind → ℕ → List OpKind → List Area
loops_from all place [] = []
loops_from all place (op.Branch left test right to (Some n) ∷ ks) =
    record { first = place_of all to.0; last = place } ∷ loops_from all (place + 1) ks
loops_from all place (_ ∷ ks) = loops_from all (place + 1) ks

-- the places of the marks at which a region ends, from a place on
abbrev pub leaves_from : ℕ → ℕ → List OpKind → List ℕ
leaves_from region place [] = []
leaves_from region place (op.Mark (mark.Leave r) ∷ ks) =
    if r == region then place ∷ leaves_from region (place + 1) ks else leaves_from region (place + 1) ks
leaves_from region place (_ ∷ ks) = leaves_from region (place + 1) ks

pub record Marked : Type 0 where
  pub region : ℕ
  pub area : Area

abbrev pub marked : ℕ → ℕ → List ℕ → List Marked → List Marked
marked region place [] rest = rest
marked region place (last ∷ more) rest = record { region = region; area = record { first = place; last = last } } ∷ rest

-- the regions from their mark Enter to the mark Leave behind it
abbrev pub regions_from : ℕ → List OpKind → List Marked
regions_from place [] = []
regions_from place (op.Mark (mark.Enter r) ∷ ks) = marked r place (leaves_from r (place + 1) ks) (regions_from (place + 1) ks)
regions_from place (_ ∷ ks) = regions_from (place + 1) ks

abbrev pub returns_from : ℕ → List OpKind → List ℕ
returns_from place [] = []
returns_from place (op.Return value ∷ ks) = place ∷ returns_from (place + 1) ks
returns_from place (_ ∷ ks) = returns_from (place + 1) ks

abbrev pub same : Bool → Bool → Bool
same true b = b
same false b = not b

-- no jump leads into a region or out of it, and no return out of it
abbrev pub is_closed : List Way → List ℕ → Area → Bool
is_closed ways returns a =
    list_all (λ w. same (is_within a w.from) (is_within a w.to)) ways && not (list_any (is_within a) returns)

-- A loop with turns is entered at its target alone, and left only behind its jump back.
abbrev pub is_turning : List Way → List ℕ → Area → Bool
is_turning ways returns a =
    nat_le a.first a.last &&
    list_all (λ w. if is_within a w.to then (is_within a w.from || w.to == a.first) else not (is_within a w.from)) ways &&
    not (list_any (is_within a) returns)

-- they share nothing, or one lies inside the other
abbrev pub are_nested : Area → Area → Bool
are_nested a b =
    (nat_lt a.last b.first || nat_lt b.last a.first) ||
    ((nat_le a.first b.first && nat_le b.last a.last) || (nat_le b.first a.first && nat_le a.last b.last))

abbrev pub are_structured : List Way → List ℕ → List Area → List Area → Bool
are_structured ways returns regions loops =
    list_all (is_closed ways returns) regions && list_all (is_turning ways returns) loops &&
    list_all (λ a. list_all (are_nested a) (loops ++ regions)) loops

abbrev pub areas_of : List Marked → List Area
areas_of ms = filter_map (λ m. Some m.area) ms

abbrev pub is_structured : List OpKind → Bool
is_structured ks =
    are_structured (ways_from ks 0 ks) (returns_from 0 ks) (areas_of (regions_from 0 ks)) (loops_from ks 0 ks)
