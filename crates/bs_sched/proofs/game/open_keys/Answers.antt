use Rattle.std.proofs.Common.{◌≡◌, length, ap, arith}
use Rattle.bs_fiber.specs.declared.job.JobKind.TheVariants as kind
use Rattle.bs_sched.specs.Lane.{with_taken}
use Rattle.bs_sched.proofs.MovingGames.{over_game}
use Rattle.bs_sched.proofs.game.open_keys.Goals as goal

pub returns-in_default : goal.returns-in_default
returns-in_default g c worker =
    let none : length c.new-in_default.result.items ≡ 0 = ap length c.new-in_default.ensures.items in
    record {
      few = omega (arith, none);
      each = λ moves. absurd (over_game (with_taken worker kind.Begin 0 c.args.fiber.now) moves c.in_default.ensures.value);
    }
