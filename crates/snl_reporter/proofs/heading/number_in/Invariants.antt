use Rattle.std.proofs.Common.{◌≡◌, ◌<◌, ◌^◌, take, drop}
use Rattle.std.specs.Char.{is_ascii_digit}
use Rattle.std.specs.List.{list_all}
use Rattle.std.specs.Str.Parse.{digits_value}
use Rattle.snl_reporter.proofs.heading.number_in.Given as goal

-- the bytes so far are digits of this value, which so many digits hold
abbrev pub invariant-loop-byte : goal.invariant-loop-byte
invariant-loop-byte l = record {
  value_is : l.value ≡ digits_value 10 (take l.byte-index l.word);
  small : l.value < 10 ^ l.byte-index;
  digits : list_all is_ascii_digit (drop l.byte-index l.word) ≡ list_all is_ascii_digit l.word;
}
