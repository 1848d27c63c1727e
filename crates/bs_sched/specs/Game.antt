-- One stay: its lane, the places of its records and its frame blocks.
use Rattle.std.specs.Prelude.{ℕ}
use Rattle.bs_heap.specs.Packing.{Packing}
use Rattle.bs_sched.specs.Frames.{FramesView}
use Rattle.bs_sched.specs.Lane.{Lane}

pub record GameView : Type 0 where
  -- the tag of its records
  pub tag : ℕ
  pub lane : Lane
  -- where its records lie
  pub packing : Packing
  pub frames : FramesView
