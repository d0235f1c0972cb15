-- Integer constants: int where the value fits and there is no suffix u, else unsigned int; decimal, octal and hexadecimal alike.
use Rattle.std.specs.Prelude.{ℕ, ◌^◌, Bool, nat_lt, if◌then◌else◌}
use Rattle.csyn.specs.declared.specifiers.Sign.{Sign}
use Rattle.csyn.specs.declared.specifiers.Sign.TheVariants.{Signed, Unsigned}

abbrev pub constant_sign : ℕ → Bool → Sign
constant_sign value is_unsigned = if is_unsigned then Unsigned else if nat_lt value (2 ^ 31) then Signed else Unsigned
