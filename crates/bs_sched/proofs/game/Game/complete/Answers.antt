use Rattle.std.proofs.Common.{◌≡◌, ℕ, true, sym, ap, subst, ◌∙◌, arith, length}
use Rattle.bs_fiber.specs.declared.job.JobKind.{JobKind}
use Rattle.bs_fiber.specs.Tickets.{Frame, bytes_of, frame_in, frames_in, names_of, worked_bytes}
use Rattle.bs_fiber.specs.declared.job.JobKind.TheVariants as kind
use Rattle.std.proofs.lemmas.List.{length-map}
use Rattle.bs_sched.specs.inner.Game.{IsAnswering}
use Rattle.bs_sched.specs.Lane.{is_out, lane_command, lane_view}
use Rattle.bs_sched.proofs.Brought.{answer_of_out, part_block, part_of_moved}
use Rattle.bs_sched.proofs.game.Game.complete.Goals as goal

pub answer-requires : goal.answer-requires
answer-requires g c =
    let x = c.args.self.now.lane in
    let job = c.args.job in
    let is = answer_of_out job.kind job.part (lane_view x) (lane_command x) c.in-Answered.answer (sym c.in-Answered.is ∙ c.requires.worked) in
    let out : IsAnswering c.args.self.now (names_of (frames_in c.args.blocks.now.items)) = record { job = job; worker = c.requires.out.0; kind = is.other; out = c.requires.out.1; names_are = c.requires.names } in
    (omega arith, (omega arith, (omega arith, (out, (is.answer_is, c.requires.blocks)))))

pub only-requires : goal.only-requires
only-requires g c =
    let v = c.args.self.now in
    let job = c.args.job in
    let frames = frames_in c.args.blocks.now.items in
    let part = part_of_moved job.kind job.part (lane_view v.lane) (lane_command v.lane) c.in-Moved.moved (sym c.in-Moved.is ∙ c.requires.worked) in
    let holds : bytes_of frames ≡ worked_bytes kind.Part job.part (lane_view v.lane) (lane_command v.lane) = rw part.kind at c.requires.holds in
    let one : length (bytes_of frames) ≡ 1 = ap length holds in
    let many = length-map frames (λ (f : Frame). f.bytes) in
    let more = length-map c.args.blocks.now.items frame_in in
    (omega arith, omega (arith, one, many, more))

pub complete_part-requires : goal.complete_part-requires
complete_part-requires g c =
    let v = c.args.self.now in
    let job = c.args.job in
    let part = part_of_moved job.kind job.part (lane_view v.lane) (lane_command v.lane) c.in-Moved.moved (sym c.in-Moved.is ∙ c.requires.worked) in
    let out = subst (λ (k : JobKind). (w : ℕ) × (is_out w v.lane k job.part ≡ true)) part.kind c.requires.out in
    let holds = rw part.kind at c.requires.holds in
    let names = rw part.kind at c.requires.names in
    let block = part_block v.frames.tag job.part v.frames.numbers (lane_view v.lane) (lane_command v.lane) c.args.blocks.now.items c.only.result c.only.ensures.one names holds in
    (omega arith, (omega arith, (out, (part.pieces_are, (block.number, (block.tag, block.holds))))))

pub returns-in-Goes-clause-blocks : goal.returns-in-Goes-clause-blocks
returns-in-Goes-clause-blocks g c = c.fork.ensures.blocks c.args.pool.now c.requires.blocks
