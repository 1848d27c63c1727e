use Rattle.std.proofs.Common.{◌≡◌, ◌<◌, ◌^◌, take}
use Rattle.std.specs.Str.Parse.{AllDigits, digits_value}
use Rattle.bs_json.proofs.numbers.split_digits.Given as goal

-- the number is that of the digits so far
abbrev pub invariant-loop-index : goal.invariant-loop-index
invariant-loop-index l = (l.number ≡ digits_value 10 (take l.index l.line)) × AllDigits 10 (take l.index l.line) × (l.number < 2 ^ 32)
