use Rattle.std.proofs.Common.{arith}
use Rattle.bs_sched.proofs.PlanBlocks.{first_released, second_released}
use Rattle.bs_sched.proofs.plan_blocks.release_row.Goals as goal

pub unreserve-requires : goal.unreserve-requires
unreserve-requires g c = (omega arith, first_released c.args.game c.record_tag-tag.result c.args.pool.now c.record_tag-tag.ensures c.requires.records c.requires.no_records)

pub unreserve-requires-2 : goal.unreserve-requires-2
unreserve-requires-2 g c = (
  omega arith,
  second_released c.args.game c.record_tag-tag.result c.args.pool.now c.unreserve.new.self c.record_tag-tag.ensures c.requires.frames c.requires.no_frames
      c.unreserve.ensures,
)
