use Rattle.std.proofs.Common.{◌≡◌, ◌≤◌, None, ◌∙◌, arith}
use Rattle.bs_pool.specs.Ledger.{reservation_of}
use Rattle.bs_sched.proofs.PlanBlocks.{frames_fit, none_from, taken_back}
use Rattle.bs_sched.proofs.plan_blocks.reserve_row.Goals as goal

pub set_aside-requires-2 : goal.set_aside-requires-2
set_aside-requires-2 g c =
    let reserved = rw c.record_tag-tag.ensures at c.in_ok-set_aside.ensures.ok in
    let room = c.requires.room in
    let blocks = c.record_blocks.ensures.value in
    let fits = frames_fit c.args.game c.record_tag-tag.result c.record_blocks.result c.args.pool.now c.set_aside.new.pool reserved c.requires.fresh
    (omega (arith, room, blocks)) c.record_tag-tag.ensures in
    (omega arith, (omega arith, fits))

pub unreserve-requires : goal.unreserve-requires
unreserve-requires g c =
    let fresh : reservation_of c.record_tag-tag.result c.args.pool.now ≡ None = rw c.record_tag-tag.ensures (none_from c.args.game c.args.pool.now c.requires.fresh) in
    let blocks = c.record_blocks.ensures.value in
    let some : 1 ≤ c.record_blocks.result = omega (arith, blocks) in
    let back = taken_back c.record_tag-tag.result c.record_blocks.result c.args.pool.now c.set_aside-2.new.pool c.size-blocks.ensures.sound fresh some
    (c.in-Err.ensures.err ∙ c.in_ok-set_aside.ensures.ok) in
    (omega arith, (back.some, back.idle))

pub returns-in-Err-clause-err : goal.returns-in-Err-clause-err
returns-in-Err-clause-err g c =
    let fresh : reservation_of c.record_tag-tag.result c.args.pool.now ≡ None = rw c.record_tag-tag.ensures (none_from c.args.game c.args.pool.now c.requires.fresh) in
    let blocks = c.record_blocks.ensures.value in
    let some : 1 ≤ c.record_blocks.result = omega (arith, blocks) in
    let back = taken_back c.record_tag-tag.result c.record_blocks.result c.args.pool.now c.set_aside-2.new.pool c.size-blocks.ensures.sound fresh some
    (c.in-Err.ensures.err ∙ c.in_ok-set_aside.ensures.ok) in
    c.unreserve.ensures ∙ back.same
