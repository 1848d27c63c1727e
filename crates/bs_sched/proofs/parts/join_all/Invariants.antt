use Rattle.std.proofs.Common.{◌≡◌, ◌++◌, map, take, drop, vec_capacity}
use Rattle.std.specs.Prelude.{flat_map, option_to_list}
use Rattle.bs_sched.specs.inner.PartsLayout.{joined, block_in, pieces_in}
use Rattle.bs_sched.proofs.parts.join_all.Given as goal

-- the parts before this one are empty, and their contents are collected
abbrev pub invariant-loop-part : goal.invariant-loop-part
invariant-loop-part g l = record {
  parts : l.parts.items ≡ map joined (take l.part l.fn.parts.items) ++ drop l.part l.fn.parts.items;
  room : vec_capacity l.parts ≡ vec_capacity l.fn.parts;
  moved : l.moved.items ≡ flat_map (λ s. option_to_list (pieces_in s)) (take l.part l.fn.parts.items);
  moved_space : vec_capacity l.moved ≡ vec_capacity l.fn.moved;
  frames : l.frames.items ≡ flat_map (λ s. option_to_list (block_in s)) (take l.part l.fn.parts.items);
  frames_space : vec_capacity l.frames ≡ vec_capacity l.fn.frames;
}
