use Rattle.std.proofs.Common.{◌≡◌, ◌<◌, ◌^◌, take, true}
use Rattle.std.specs.List.{list_all}
use Rattle.std.specs.Str.Parse.{digits_value}
use Rattle.textline.specs.Numbers.{is_hex_digit}
use Rattle.textline.proofs.number.hex_value.Given as goal

abbrev pub invariant-loop-byte : goal.invariant-loop-byte
invariant-loop-byte l = record {
  digits : list_all is_hex_digit (take l.byte-index l.word) ≡ true;
  value : l.value ≡ digits_value 16 (take l.byte-index l.word);
  small : l.value < 16 ^ l.byte-index;
}
