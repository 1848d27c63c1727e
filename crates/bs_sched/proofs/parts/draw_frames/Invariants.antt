-- That many blocks are drawn so far.
use Rattle.std.proofs.Common.{◌≡◌, length, vec_capacity}
use Rattle.bs_sched.proofs.Behind.{AreFrames}
use Rattle.bs_sched.proofs.parts.draw_frames.Given as goal

abbrev pub invariant-loop-frame : goal.invariant-loop-frame
invariant-loop-frame g l =
    record {
      are : AreFrames l.frames.items l.tag l._frame l.initial.pool l.pool;
      pushed : length l.frames.items ≡ l._frame;
      room : vec_capacity l.frames ≡ vec_capacity l.initial.frames;
    }
