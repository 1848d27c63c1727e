use Rattle.std.proofs.Common.{inr, rules}
use Rattle.bs_program.proofs.Served.{plays_stay}
use Rattle.bs_program.proofs.running.play_alone.Goals as goal

pub returns : goal.returns
returns g c =
    inr (plays_stay _ _ _ _ _ _ _ c.in_ok-bytes.bytes.items c.in_ok-lines.lines.items _ _ _
    (search rules) (search rules) (search rules))
