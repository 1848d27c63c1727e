-- When an input is the expected one.
use Rattle.std.specs.Prelude.{◌≡◌, IfSome, option_map}
use Rattle.bs_board.specs.records.Kept.{IsLegalRecord}
use Rattle.bs_fiber.specs.declared.expected.Expected.{Expected}
use Rattle.bs_fiber.specs.declared.input.Input.{Input}

-- the record of the turn that the command names is a legal board's
abbrev pub IsLegalAsked : Expected → Type 0
IsLegalAsked expected = IfSome (option_map (λ bytes. bytes.now) expected.asked) IsLegalRecord

pub record HasNumbersOf (input : Input) (expected : Expected) : Type 0 where
  pub job : input.job ≡ expected.job
  pub worker : input.worker ≡ expected.worker
  pub seq : input.seq ≡ expected.seq
  pub quota : input.quota ≡ expected.quota
  pub charge : input.charge ≡ expected.charge
  pub kept : input.kept ≡ expected.kept

pub record HasContentsOf (input : Input) (expected : Expected) : Type 0 where
  pub last : input.last ≡ option_map (λ kept. kept.now) expected.last
  pub asked : input.asked ≡ option_map (λ kept. kept.now) expected.asked
  pub command : input.command ≡ expected.command.now

-- the parts are not compared: the other fields determine them
pub record IsOf (input : Input) (expected : Expected) : Type 0 where
  pub numbers : HasNumbersOf input expected
  pub contents : HasContentsOf input expected
