use Rattle.std.proofs.Common.{List, refl, sym, subst, ◌∙◌, ◌+◌, arith}
use Rattle.std.proofs.lemmas.Grind.{common_steps}
use Rattle.bs_heap.proofs.HeldBlocks.{leaves_none}
use Rattle.bs_pool.specs.declared.owned.Owned.{Owned}
use Rattle.bs_sched.proofs.Behind.{AreFrames, one_more_frame, room_for_one}
use Rattle.bs_sched.proofs.parts.draw_frames.Goals as goal

pub loop-frame-init : goal.loop-frame-init
loop-frame-init g c =
    let none = c.requires.none in
    record {
      are = record { names = rw none refl; pool = refl; kept = c.requires.held; others = leaves_none c.args.tag c.args.pool.now };
      pushed = rw none refl;
      room = refl;
    }

pub draw_block-owned-requires : goal.draw_block-owned-requires
draw_block-owned-requires g c =
    let are = c.loop-frame.invariant.are in (
      omega arith,
      (omega arith, room_for_one c.args.tag c.loop-frame._frame c.args.count c.args.pool.now c.loop-frame.pool are.kept are.others (omega arith) c.requires.reserved),
    )

pub push_reserved-requires : goal.push_reserved-requires
push_reserved-requires g c =
    let pushed = c.loop-frame.invariant.pushed in
    let room = c.loop-frame.invariant.room in
    let first = c.requires.room in
    grind (arith, common_steps)

pub loop-frame-preserved : goal.loop-frame-preserved
loop-frame-preserved g c =
    let inv = c.loop-frame.invariant in
    let drew = c.draw_block-owned.ensures in
    let pool = c.draw_block-owned.new.pool in
    let pushed = inv.pushed in
    let are =
    one_more_frame c.loop-frame.frames.items c.draw_block-owned.result c.args.tag c.loop-frame._frame c.args.pool.now c.loop-frame.pool pool inv.are drew.tag
    drew.number drew.pool drew.kept drew.others in
    record {
      are =
          subst (λ (l : List (Owned g.row.CAP)). AreFrames l c.args.tag (c.loop-frame._frame + 1) c.args.pool.now pool) (sym c.push_reserved.ensures.items) are;
      pushed = grind (arith, common_steps);
      room = c.push_reserved.ensures.capacity ∙ inv.room;
    }
