use Rattle.std.proofs.Common.{◌≡◌, ℕ, drop}
use Rattle.bs_sched.specs.Parts.{core_run, puts_of}
use Rattle.bs_sched.proofs.OwnParts.{AreOwnFrom}
use Rattle.bs_sched.proofs.cores.Core.complete_parts.Given as goal

-- the parts before this one are completed, and the others are still the core's own
abbrev pub invariant-loop-part : goal.invariant-loop-part
invariant-loop-part g l = record {
  own : (game : ℕ) × AreOwnFrom l.self.games game l.part (drop l.part l.parts);
  run : core_run g.row.CAP l.self (puts_of (drop l.part l.parts)) ≡ core_run g.row.CAP l.fn.self (puts_of l.fn.parts);
}
