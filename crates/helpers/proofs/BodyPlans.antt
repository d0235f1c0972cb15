-- The plans of the bodies, worked out by hand.
use Rattle.std.proofs.Common.{◌≡◌, List, [], ◌∷◌, Some, None, refl, sym, subst}
use Rattle.isa.specs.declared.program.Item.{Item}
use Rattle.helpers.specs.Bodies.{multiplication, divided_unsigned, rest_unsigned, divided_signed, rest_signed}
use Rattle.helpers.specs.Paths.{IsEven}
use Rattle.helpers.proofs.Causes.{IsQuiet}
use Rattle.helpers.proofs.Even.{even}
use Rattle.helpers.proofs.EvenPaths.{Keeps}
use Rattle.helpers.proofs.Plans.{Plan}

abbrev plan_of_multiplication : Plan
plan_of_multiplication = record {
  outside = Some 0 ∷ Some 1 ∷ Some 2 ∷ None ∷ None ∷ None ∷ None ∷ None ∷ Some 131 ∷ Some 132 ∷ [];
  inside = None ∷ None ∷ None ∷ Some 127 ∷ Some 128 ∷ Some 129 ∷ Some 130 ∷ Some 130 ∷ None ∷ None ∷ [];
  first = 3;
  end = 8;
  turn = 4;
}

keeps_multiplication : Keeps plan_of_multiplication 10 133 multiplication
keeps_multiplication = record {
  size = refl;
  some = refl;
  outside_size = refl;
  inside_size = refl;
  first = refl;
  tame = refl;
  within = refl;
  outside = refl;
  inside = refl;
  returns = refl;
  one = refl;
  loop = refl;
  loop_first = refl;
}

quiet_multiplication : IsQuiet plan_of_multiplication 10 multiplication
quiet_multiplication = record {
  end_within = refl;
  no_leaves = refl;
  no_turns = refl;
  noted = refl;
  forward = refl;
  loop_place = refl;
  into_body = refl;
  from_body = refl;
}

pub even_multiplication : (items : List Item) → items ≡ multiplication → IsEven 10 133 items
even_multiplication items is = subst (IsEven 10 133) (sym is)
    (even plan_of_multiplication 10 133 multiplication keeps_multiplication quiet_multiplication)

abbrev plan_of_divided_unsigned : Plan
plan_of_divided_unsigned = record {
  outside = Some 0 ∷ Some 1 ∷ Some 2 ∷ None ∷ None ∷ None ∷ None ∷ None ∷ None ∷ None ∷ None ∷ None ∷ Some 195 ∷ Some 196 ∷ [];
  inside = None ∷ None ∷ None ∷ Some 189 ∷ Some 190 ∷ Some 191 ∷ Some 192 ∷ Some 193 ∷ Some 194 ∷ Some 192 ∷ Some 193
      ∷ Some 194 ∷ None ∷ None ∷ [];
  first = 3;
  end = 12;
  turn = 6;
}

keeps_divided_unsigned : Keeps plan_of_divided_unsigned 14 197 divided_unsigned
keeps_divided_unsigned = record {
  size = refl;
  some = refl;
  outside_size = refl;
  inside_size = refl;
  first = refl;
  tame = refl;
  within = refl;
  outside = refl;
  inside = refl;
  returns = refl;
  one = refl;
  loop = refl;
  loop_first = refl;
}

quiet_divided_unsigned : IsQuiet plan_of_divided_unsigned 14 divided_unsigned
quiet_divided_unsigned = record {
  end_within = refl;
  no_leaves = refl;
  no_turns = refl;
  noted = refl;
  forward = refl;
  loop_place = refl;
  into_body = refl;
  from_body = refl;
}

pub even_divided_unsigned : (items : List Item) → items ≡ divided_unsigned → IsEven 14 197 items
even_divided_unsigned items is = subst (IsEven 14 197) (sym is)
    (even plan_of_divided_unsigned 14 197 divided_unsigned keeps_divided_unsigned quiet_divided_unsigned)

abbrev plan_of_rest_unsigned : Plan
plan_of_rest_unsigned = record {
  outside = Some 0 ∷ Some 1 ∷ Some 2 ∷ None ∷ None ∷ None ∷ None ∷ None ∷ None ∷ None ∷ None ∷ None ∷ Some 195 ∷ [];
  inside = None ∷ None ∷ None ∷ Some 189 ∷ Some 190 ∷ Some 191 ∷ Some 192 ∷ Some 193 ∷ Some 194 ∷ Some 192 ∷ Some 193
      ∷ Some 194 ∷ None ∷ [];
  first = 3;
  end = 12;
  turn = 6;
}

keeps_rest_unsigned : Keeps plan_of_rest_unsigned 13 196 rest_unsigned
keeps_rest_unsigned = record {
  size = refl;
  some = refl;
  outside_size = refl;
  inside_size = refl;
  first = refl;
  tame = refl;
  within = refl;
  outside = refl;
  inside = refl;
  returns = refl;
  one = refl;
  loop = refl;
  loop_first = refl;
}

quiet_rest_unsigned : IsQuiet plan_of_rest_unsigned 13 rest_unsigned
quiet_rest_unsigned = record {
  end_within = refl;
  no_leaves = refl;
  no_turns = refl;
  noted = refl;
  forward = refl;
  loop_place = refl;
  into_body = refl;
  from_body = refl;
}

pub even_rest_unsigned : (items : List Item) → items ≡ rest_unsigned → IsEven 13 196 items
even_rest_unsigned items is = subst (IsEven 13 196) (sym is)
    (even plan_of_rest_unsigned 13 196 rest_unsigned keeps_rest_unsigned quiet_rest_unsigned)

abbrev plan_of_divided_signed : Plan
plan_of_divided_signed = record {
  outside = Some 0 ∷ Some 1 ∷ Some 2 ∷ Some 2 ∷ Some 3 ∷ Some 4 ∷ Some 4 ∷ Some 5 ∷ Some 6 ∷ Some 6 ∷ Some 7 ∷ Some 8
      ∷ Some 9 ∷ None ∷ None ∷ None ∷ None ∷ None ∷ None ∷ None ∷ None ∷ None ∷ Some 202 ∷ Some 203 ∷ Some 204 ∷ Some 204
      ∷ Some 205 ∷ [];
  inside = None ∷ None ∷ None ∷ None ∷ None ∷ None ∷ None ∷ None ∷ None ∷ None ∷ None ∷ None ∷ None ∷ Some 196 ∷ Some 197
      ∷ Some 198 ∷ Some 199 ∷ Some 200 ∷ Some 201 ∷ Some 199 ∷ Some 200 ∷ Some 201 ∷ None ∷ None ∷ None ∷ None ∷ None ∷ [];
  first = 13;
  end = 22;
  turn = 6;
}

keeps_divided_signed : Keeps plan_of_divided_signed 27 206 divided_signed
keeps_divided_signed = record {
  size = refl;
  some = refl;
  outside_size = refl;
  inside_size = refl;
  first = refl;
  tame = refl;
  within = refl;
  outside = refl;
  inside = refl;
  returns = refl;
  one = refl;
  loop = refl;
  loop_first = refl;
}

quiet_divided_signed : IsQuiet plan_of_divided_signed 27 divided_signed
quiet_divided_signed = record {
  end_within = refl;
  no_leaves = refl;
  no_turns = refl;
  noted = refl;
  forward = refl;
  loop_place = refl;
  into_body = refl;
  from_body = refl;
}

pub even_divided_signed : (items : List Item) → items ≡ divided_signed → IsEven 27 206 items
even_divided_signed items is = subst (IsEven 27 206) (sym is)
    (even plan_of_divided_signed 27 206 divided_signed keeps_divided_signed quiet_divided_signed)

abbrev plan_of_rest_signed : Plan
plan_of_rest_signed = record {
  outside = Some 0 ∷ Some 1 ∷ Some 2 ∷ Some 2 ∷ Some 3 ∷ Some 4 ∷ Some 4 ∷ Some 5 ∷ Some 6 ∷ Some 7 ∷ None ∷ None ∷ None
      ∷ None ∷ None ∷ None ∷ None ∷ None ∷ None ∷ Some 200 ∷ Some 201 ∷ Some 201 ∷ Some 202 ∷ [];
  inside = None ∷ None ∷ None ∷ None ∷ None ∷ None ∷ None ∷ None ∷ None ∷ None ∷ Some 194 ∷ Some 195 ∷ Some 196 ∷ Some 197
      ∷ Some 198 ∷ Some 199 ∷ Some 197 ∷ Some 198 ∷ Some 199 ∷ None ∷ None ∷ None ∷ None ∷ [];
  first = 10;
  end = 19;
  turn = 6;
}

keeps_rest_signed : Keeps plan_of_rest_signed 23 203 rest_signed
keeps_rest_signed = record {
  size = refl;
  some = refl;
  outside_size = refl;
  inside_size = refl;
  first = refl;
  tame = refl;
  within = refl;
  outside = refl;
  inside = refl;
  returns = refl;
  one = refl;
  loop = refl;
  loop_first = refl;
}

quiet_rest_signed : IsQuiet plan_of_rest_signed 23 rest_signed
quiet_rest_signed = record {
  end_within = refl;
  no_leaves = refl;
  no_turns = refl;
  noted = refl;
  forward = refl;
  loop_place = refl;
  into_body = refl;
  from_body = refl;
}

pub even_rest_signed : (items : List Item) → items ≡ rest_signed → IsEven 23 203 items
even_rest_signed items is = subst (IsEven 23 203) (sym is)
    (even plan_of_rest_signed 23 203 rest_signed keeps_rest_signed quiet_rest_signed)
