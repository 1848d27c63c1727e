-- What the answer to a command reads.
use Rattle.std.specs.Prelude.{[], option_map}
use Rattle.bs_fiber.specs.declared.expected.Expected.{Expected}
use Rattle.bs_fiber.specs.declared.input.Input.{Input}

-- the input of that job, without parts
abbrev pub input_in : Expected → Input
input_in expected =
    record {
      job = expected.job;
      worker = expected.worker;
      seq = expected.seq;
      quota = expected.quota;
      charge = expected.charge;
      kept = expected.kept;
      last = option_map (λ kept. kept.now) expected.last;
      asked = option_map (λ bytes. bytes.now) expected.asked;
      command = expected.command.now;
      parts = [];
    }
