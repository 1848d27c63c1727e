use Rattle.std.specs.Prelude.{option_to_list}
use Rattle.std.proofs.Common.{rules, ◌≡◌, ◌<◌, refl, ap, ◌∙◌, arith, length, length-take, take}
use Rattle.bs_sched.specs.declared.parts.Part.{Part}
use Rattle.bs_sched.specs.inner.PartsLayout.{joined, block_in, pieces_in}
use Rattle.bs_sched.proofs.FramesCollected.{same_length, emptied_next, collected_next, few_collected, one_block, one_moved}
use Rattle.bs_sched.proofs.parts.join_all.Goals as goal

pub join_part-requires : goal.join_part-requires
join_part-requires g c =
    let parts = c.args.parts.now.items in
    let i = c.loop-part.part in
    let inv = c.loop-part.invariant in
    let snakes = few_collected (λ (s : Part g.row.CAP). option_to_list (pieces_in s)) one_moved (take i parts) in
    let blocks = few_collected (λ (s : Part g.row.CAP). option_to_list (block_in s)) one_block (take i parts) in
    let many = same_length joined parts c.loop-part.parts.items i inv.parts in
    (omega arith, (omega arith, (omega (arith, ap length inv.moved, length-take i parts, inv.moved_space), omega (arith, ap length inv.frames, length-take i parts, inv.frames_space))))

pub loop-part-preserved : goal.loop-part-preserved
loop-part-preserved g c =
    let parts = c.args.parts.now.items in
    let i = c.loop-part.part in
    let inv = c.loop-part.invariant in
    let many : length c.loop-part.parts.items ≡ length parts = same_length joined parts c.loop-part.parts.items i inv.parts in
    let within : i < length parts = omega arith in
    let x = c.index_mut.result.now in
    record {
      parts = emptied_next joined parts c.loop-part.parts.items i x c.join_part.new.place inv.parts c.index_mut.ensures.value (omega arith) c.join_part.ensures.place;
      room = search rules;
      moved =
          collected_next joined (λ (s : Part g.row.CAP). option_to_list (pieces_in s)) parts c.loop-part.parts.items i x c.loop-part.moved.items c.join_part.new.moved.items (option_to_list (pieces_in x))
          inv.parts c.index_mut.ensures.value within refl inv.moved c.join_part.ensures.moved;
      moved_space = c.join_part.ensures.moved_room ∙ inv.moved_space;
      frames =
          collected_next joined (λ (s : Part g.row.CAP). option_to_list (block_in s)) parts c.loop-part.parts.items i x c.loop-part.frames.items c.join_part.new.frames.items (option_to_list (block_in x))
          inv.parts c.index_mut.ensures.value within refl inv.frames c.join_part.ensures.frames;
      frames_space = c.join_part.ensures.frames_room ∙ inv.frames_space;
    }
