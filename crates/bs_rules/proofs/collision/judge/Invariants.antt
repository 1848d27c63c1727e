use Rattle.std.proofs.Common.{◌≡◌, ℕ, ◌<◌, length, get_or, None}
use Rattle.bs_rules.specs.Collision.{collision_verdict}
use Rattle.bs_rules.proofs.collision.judge.Given as goal

-- the verdicts of the seats that were judged
abbrev pub invariant-loop-seat : goal.invariant-loop-seat
invariant-loop-seat l = (length l.verdicts ≡ 8) × ((seat : ℕ) → seat < l.seat → get_or l.verdicts seat None ≡ collision_verdict l.snakes seat)
