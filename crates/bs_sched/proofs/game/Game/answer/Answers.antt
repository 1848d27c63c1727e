use Rattle.std.proofs.Common.{◌≡◌, ℕ, true, List, [], map, sym, ap, subst, ◌∙◌, arith}
use Rattle.bs_fiber.specs.Tickets.{frames_in, names_of}
use Rattle.bs_game.specs.View.{answer_of}
use Rattle.bs_heap.specs.Packing.{numbers_of}
use Rattle.bs_sched.specs.Frames.{flattened}
use Rattle.bs_sched.specs.inner.Frames.{LeavesBut}
use Rattle.bs_sched.specs.MoveParts.{PartView, PartsView}
use Rattle.bs_sched.specs.inner.MoveParts.{frames_of, number_of}
use Rattle.bs_fiber.specs.declared.job.JobKind.{JobKind}
use Rattle.bs_fiber.specs.declared.job.JobKind.TheVariants as kind
use Rattle.bs_sched.proofs.PartFrames.{begun_parts}
use Rattle.bs_sched.specs.Lane.{is_out}
use Rattle.bs_sched.specs.Game.{GameView}
use Rattle.bs_sched.specs.inner.Game.{HasBlocks, IsAnswering, lane_at}
use Rattle.bs_sched.specs.Lane.{Lane, lane_command, lane_view}
use Rattle.bs_sched.proofs.Answered.{answered_boards, fit_effect, is_at_command, told_last, told_reply}
use Rattle.bs_sched.proofs.Brought.{all_of_job, occupied}
use Rattle.bs_sched.proofs.ChangedGame.{answered_kept, keeps_boards, leaves_both, open_at_work, right_game}
use Rattle.bs_sched.proofs.game.Game.answer.Goals as goal

pub change_records-requires : goal.change_records-requires
change_records-requires g c =
    let inside = c.self.inside in
    let is = subst (λ (v : GameView). IsAnswering v (names_of (frames_in c.args.blocks.now.items))) (sym c.self.view_is) c.requires.out in
    let at = is_at_command (lane_at inside) is.worker (occupied is.job.kind (lane_at inside) is.worker is.job.part is.kind is.out) in
    let told = subst (λ (v : GameView). c.args.answer ≡ answer_of (lane_view v.lane) (lane_command v.lane)) (sym c.self.view_is) c.requires.answer in
    let stands = open_at_work g.row.CAP inside c.self.invariant at.0 in
    let boards = keeps_boards g.row.CAP inside c.self.invariant stands in
    let has = subst (λ (v : GameView). HasBlocks g.row.CAP v c.args.pool.now) (sym c.self.view_is) c.requires.blocks in
    let quota = c.self.invariant.quota in
    let room = has.room in
    (omega arith, (omega arith, (c.self.invariant.room at.1, (rw quota room, (has.records, fit_effect (lane_at inside) c.args.answer inside.heap (right_game g.row.CAP inside c.self.invariant c.keeps.ensures) at.0 told boards)))))

pub answer-requires-clause-out : goal.answer-requires-clause-out
answer-requires-clause-out g c =
    let inside = c.self.inside in
    let is = subst (λ (v : GameView). IsAnswering v (names_of (frames_in c.args.blocks.now.items))) (sym c.self.view_is) c.requires.out in
    (is.worker, occupied is.job.kind (lane_at inside) is.worker is.job.part is.kind is.out)

pub answer-requires-clause-reply : goal.answer-requires-clause-reply
answer-requires-clause-reply g c =
    let inside = c.self.inside in
    let is = subst (λ (v : GameView). IsAnswering v (names_of (frames_in c.args.blocks.now.items))) (sym c.self.view_is) c.requires.out in
    let at = is_at_command (lane_at inside) is.worker (occupied is.job.kind (lane_at inside) is.worker is.job.part is.kind is.out) in
    let told = subst (λ (v : GameView). c.args.answer ≡ answer_of (lane_view v.lane) (lane_command v.lane)) (sym c.self.view_is) c.requires.answer in
    told_reply (lane_at inside) c.args.answer (right_game g.row.CAP inside c.self.invariant c.keeps.ensures) at.0 told

pub answer-requires-clause-last : goal.answer-requires-clause-last
answer-requires-clause-last g c =
    let inside = c.self.inside in
    let is = subst (λ (v : GameView). IsAnswering v (names_of (frames_in c.args.blocks.now.items))) (sym c.self.view_is) c.requires.out in
    let at = is_at_command (lane_at inside) is.worker (occupied is.job.kind (lane_at inside) is.worker is.job.part is.kind is.out) in
    let told = subst (λ (v : GameView). c.args.answer ≡ answer_of (lane_view v.lane) (lane_command v.lane)) (sym c.self.view_is) c.requires.answer in
    told_last (lane_at inside) c.args.answer (right_game g.row.CAP inside c.self.invariant c.keeps.ensures) at.0 told

pub give_back-requires : goal.give_back-requires
give_back-requires g c =
    let inside = c.self.inside in
    let is = subst (λ (v : GameView). IsAnswering v (names_of (frames_in c.args.blocks.now.items))) (sym c.self.view_is) c.requires.out in
    let at = is_at_command (lane_at inside) is.worker (occupied is.job.kind (lane_at inside) is.worker is.job.part is.kind is.out) in
    let told = subst (λ (v : GameView). c.args.answer ≡ answer_of (lane_view v.lane) (lane_command v.lane)) (sym c.self.view_is) c.requires.answer in
    let has = subst (λ (v : GameView). HasBlocks g.row.CAP v c.args.pool.now) (sym c.self.view_is) c.requires.blocks in
    let none : is.job.kind ≡ kind.Begin → (frames_of inside.parts).numbers ≡ []
    = λ begins. ap (λ (l : List PartView). map number_of l)
    (begun_parts inside.fiber is.worker is.job.part inside.parts (subst (λ (k : JobKind). is_out is.worker (lane_at inside) k is.job.part ≡ true) begins is.out) c.self.invariant.parts).none in
    let names = is.names_are ∙ ap (λ (ns : List ℕ). map (λ n. (inside.parts.tag, n)) ns)
    (all_of_job is.job.kind is.job.part (frames_of inside.parts).numbers is.kind none) in
    let held = c.change_records.ensures.others.holds inside.parts.tag (flattened (frames_of inside.parts).numbers) (λ same. has.apart (sym same)) has.frames in
    (omega arith, (omega arith, (omega arith, (names, held))))

pub invariant_of-self : goal.invariant_of-self
invariant_of-self g c =
    let inside = c.self.inside in
    let is = subst (λ (v : GameView). IsAnswering v (names_of (frames_in c.args.blocks.now.items))) (sym c.self.view_is) c.requires.out in
    let at = is_at_command (lane_at inside) is.worker (occupied is.job.kind (lane_at inside) is.worker is.job.part is.kind is.out) in
    let told = subst (λ (v : GameView). c.args.answer ≡ answer_of (lane_view v.lane) (lane_command v.lane)) (sym c.self.view_is) c.requires.answer in
    let stands = open_at_work g.row.CAP inside c.self.invariant at.0 in
    let boards = keeps_boards g.row.CAP inside c.self.invariant stands in
    let changed = c.change_records.ensures in
    let kept = answered_boards (lane_at inside) c.args.answer inside.heap c.change_records.new.heap (right_game g.row.CAP inside c.self.invariant c.keeps.ensures) at.0 told boards changed.records changed.quota in
    answered_kept g.row.CAP inside c.answer.new.self c.change_records.new.heap c.give_back.new.self c.self.invariant stands c.answer.ensures kept c.give_back.ensures.parts

pub returns-clause-blocks : goal.returns-clause-blocks
returns-clause-blocks g c =
    let inside = c.self.inside in
    let has = subst (λ (v : GameView). HasBlocks g.row.CAP v c.args.pool.now) (sym c.self.view_is) c.requires.blocks in
    let changed = c.change_records.ensures in
    let given = c.give_back.ensures in
    let tag = ap (λ (v : PartsView). v.tag) given.parts in
    let none = ap (λ (v : PartsView). flattened (frames_of v).numbers) given.parts in
    let row = ap (λ (x : Lane). x.row) c.answer.ensures in
    let reservations = given.others.reservations ∙ changed.others.reservations in
    record {
      records = rw changed.tag (given.others.holds inside.heap.tag (numbers_of c.change_records.new.heap.packing) has.apart (rw (← changed.tag) changed.held));
      room = rw (row, changed.tag, reservations) has.room;
      frames = rw (tag, none) given.kept;
      frame_room = rw (tag, reservations) has.frame_room;
      apart = rw (tag, changed.tag) has.apart;
    }

pub returns-clause-others : goal.returns-clause-others
returns-clause-others g c =
    subst (λ (v : GameView). LeavesBut v.tag v.frames.tag c.args.pool.now c.give_back.new.pool) c.self.view_is
    (leaves_both c.self.inside.heap.tag c.self.inside.parts.tag c.args.pool.now c.change_records.new.pool c.give_back.new.pool c.change_records.ensures.others c.give_back.ensures.others)
