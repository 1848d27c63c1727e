use Rattle.std.proofs.Common.{arith, ap, sym, ◌∙◌}
use Rattle.std.specs.Prelude.{slice_index_or}
use Rattle.bs_sched.specs.PartState as state
use Rattle.bs_sched.specs.Game.{GameView}
use Rattle.bs_sched.specs.Lane.{is_part_ready}
use Rattle.bs_sched.proofs.Lanes.{none_in_parts, parts_stage}
use Rattle.bs_sched.proofs.game.Game.ready_part.Goals as goal

pub first_ready-requires : goal.first_ready-requires
first_ready-requires g c = (omega arith, c.self.invariant.parts.few)

pub returns-in-None : goal.returns-in-None
returns-in-None g c =
    none_in_parts c.args.self.now.lane (parts_stage c.args.self.now.lane c.requires)
    (λ p. ap (λ (v : GameView). is_part_ready (slice_index_or v.lane.parts p state.Done)) (sym c.self.view_is) ∙ c.in-None.ensures p)
