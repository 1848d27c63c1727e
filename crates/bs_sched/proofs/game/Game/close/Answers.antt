use Rattle.std.proofs.Common.{◌≡◌, true, List, map, length, sym, ap, subst, ◌∙◌}
use Rattle.std.specs.Prelude.{nat_eq}
use Rattle.bs_board.proofs.Chains.{and_both}
use Rattle.bs_heap.specs.Heap.{Heap}
use Rattle.bs_sched.specs.Frames.{flattened}
use Rattle.bs_sched.specs.Game.{GameView}
use Rattle.bs_sched.specs.inner.Game.{HasBlocks}
use Rattle.bs_sched.specs.MoveParts.{PartView}
use Rattle.bs_sched.specs.inner.MoveParts.{frames_of, number_of}
use Rattle.bs_sched.specs.Lane.{Lane, is_idle, is_quiet, may_leave}
use Rattle.bs_sched.proofs.PartFrames.{at_rest}
use Rattle.bs_sched.proofs.game.Game.close.Goals as goal

pub returns-clause-blocks : goal.returns-clause-blocks
returns-clause-blocks g c =
    let inside = c.self.inside in
    let has = subst (λ (v : GameView). HasBlocks g.row.CAP v c.args.pool.now) (sym c.self.view_is) c.requires.blocks in
    let free = c.free.ensures in
    let tag = ap (λ (h : Heap). h.tag) free.heap in
    let row = ap (λ (x : Lane). x.row) c.close.ensures in
    let apart = has.apart in
    record {
      records = free.kept;
      room = rw (row, tag, free.others.reservations) has.room;
      frames = free.others.holds inside.parts.tag (flattened (frames_of inside.parts).numbers) (λ same. has.apart (sym same)) has.frames;
      frame_room = rw free.others.reservations has.frame_room;
      apart = rw tag has.apart;
    }

pub returns-clause-no_frames : goal.returns-clause-no_frames
returns-clause-no_frames g c =
    let inside = c.self.inside in
    let may = subst (λ (v : GameView). may_leave v.lane ≡ true) (sym c.self.view_is) c.requires.may in
    let quiet = (and_both inside.fiber.is_open (is_quiet inside.fiber) may).1 in
    let idle = (and_both (is_idle inside.fiber.stage) (nat_eq (length inside.fiber.waiting) 0) quiet).0 in
    ap (λ (v : GameView). v.frames.numbers) (sym c.self.view_is) ∙ ap (λ (l : List PartView). map number_of l) (at_rest inside.fiber inside.parts idle c.self.invariant.parts)
