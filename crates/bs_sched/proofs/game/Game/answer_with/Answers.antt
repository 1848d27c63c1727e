-- The next command is begun and answered.
use Rattle.std.proofs.Common.{rules, ◌≡◌, ◌≤◌, ℕ, true, false, [], map, refl, sym, ap, subst, ◌∙◌, arith, vec_capacity}
use Rattle.std.proofs.lemmas.Grind.{common_steps}
use Rattle.bs_fiber.specs.declared.job.JobKind.TheVariants as kind
use Rattle.bs_fiber.specs.Tickets.{frames_in, names_of}
use Rattle.bs_heap.specs.Heap.{Heap}
use Rattle.bs_heap.specs.HeldBlocks.{Holds, LeavesOthers}
use Rattle.bs_heap.specs.Packing.{numbers_of}
use Rattle.bs_pool.specs.Ledger.{Ledger}
use Rattle.bs_sched.specs.Answering.{begun}
use Rattle.bs_sched.specs.Courses.{IsRight}
use Rattle.bs_sched.specs.Game.{GameView}
use Rattle.bs_sched.specs.Lane.{Lane, answered, is_ready, lane_outcome}
use Rattle.bs_sched.specs.inner.Answering.{frame_numbers, game_here, next_answer, number_behind, with_frames}
use Rattle.bs_sched.specs.inner.Frames.{LeavesBut}
use Rattle.bs_sched.specs.inner.Game.{HasBlocks, lane_at}
use Rattle.bs_sched.specs.inner.Insides.{IsRightWithParts}
use Rattle.bs_sched.specs.inner.MoveParts.{states_of}
use Rattle.bs_sched.proofs.Answered.{answered_boards, fit_effect, told_last, told_reply}
use Rattle.bs_sched.proofs.Behind.{blocks_here, held_here, leaves_between, none_held, packing_is_here, pool_is_here, room_here}
use Rattle.bs_sched.proofs.ChangedGame.{keeps_boards, open_ready}
use Rattle.bs_sched.proofs.FramesJoined.{all_numbers, holds_none, lent, others}
use Rattle.bs_sched.proofs.NextAnswer.{begun_boards, frames_idle, game_is_here, idle_parts, kept_here}
use Rattle.bs_sched.proofs.game.Game.answer_with.Goals as goal

pub returns-in_err-grow_index-clause-idle : goal.returns-in_err-grow_index-clause-idle
returns-in_err-grow_index-clause-idle g c =
    let ready = subst (λ (v : GameView). is_ready v.lane kind.Begin 0 ≡ true) (sym c.self.view_is) c.requires.ready in
    frames_idle c.self.inside c.args.self.now c.self.view_is (idle_parts c.self.inside.fiber c.self.inside.parts ready c.self.invariant.parts)

pub returns-in_err-begin-clause-idle : goal.returns-in_err-begin-clause-idle
returns-in_err-begin-clause-idle g c =
    let ready = subst (λ (v : GameView). is_ready v.lane kind.Begin 0 ≡ true) (sym c.self.view_is) c.requires.ready in
    frames_idle c.self.inside c.args.self.now c.self.view_is (idle_parts c.self.inside.fiber c.self.inside.parts ready c.self.invariant.parts)

pub answer-requires-clause-reply : goal.answer-requires-clause-reply
answer-requires-clause-reply g c =
    let inside = c.self.inside in
    let x = begun (lane_at inside) in
    let right : IsRight x
    = subst (λ (y : Lane). IsRightWithParts y) c.in_ok-begin.ensures.ok c.keeps.ensures (states_of inside.parts) (λ plays. let wrong : false ≡ true = plays in absurd cc) in
    let told = c.in_ok-answer.ensures ∙ ap (λ (v : GameView). next_answer v.lane) (sym c.self.view_is) in
    told_reply x c.in_ok-answer.answer right refl told ∙ ap (λ (y : Lane). (lane_outcome y).reply) (sym c.in_ok-begin.ensures.ok)

pub answer-requires-clause-last : goal.answer-requires-clause-last
answer-requires-clause-last g c =
    let inside = c.self.inside in
    let x = begun (lane_at inside) in
    let right : IsRight x
    = subst (λ (y : Lane). IsRightWithParts y) c.in_ok-begin.ensures.ok c.keeps.ensures (states_of inside.parts) (λ plays. let wrong : false ≡ true = plays in absurd cc) in
    let told = c.in_ok-answer.ensures ∙ ap (λ (v : GameView). next_answer v.lane) (sym c.self.view_is) in
    rw c.in_ok-begin.ensures.ok (told_last x c.in_ok-answer.answer right refl told)

pub invariant_of-self-2 : goal.invariant_of-self-2
invariant_of-self-2 g c =
    let inside = c.self.inside in
    let x = begun (lane_at inside) in
    let ready = subst (λ (v : GameView). is_ready v.lane kind.Begin 0 ≡ true) (sym c.self.view_is) c.requires.ready in
    let right : IsRight x
    = subst (λ (y : Lane). IsRightWithParts y) c.in_ok-begin.ensures.ok c.keeps.ensures (states_of inside.parts) (λ plays. let wrong : false ≡ true = plays in absurd cc) in
    let told = c.in_ok-answer.ensures ∙ ap (λ (v : GameView). next_answer v.lane) (sym c.self.view_is) in
    let stands = open_ready g.row.CAP inside kind.Begin 0 c.self.invariant ready in
    let grown = c.grow_index.new.self in
    let boards = begun_boards (lane_at inside) inside.heap grown (keeps_boards g.row.CAP inside c.self.invariant stands) c.grow_index.ensures.heap in
    let did = c.change_records.ensures in
    let kept = answered_boards x c.in_ok-answer.answer grown c.change_records.new.heap right refl told boards did.records did.quota in
    kept_here g.row.CAP inside c.answer.new.self c.change_records.new.heap c.self.invariant stands (idle_parts inside.fiber inside.parts ready c.self.invariant.parts)
    (rw c.in_ok-begin.ensures.ok at c.answer.ensures) (record { quota = kept.quota; records = kept.records })

pub returns-in_err-frames-clause-idle : goal.returns-in_err-frames-clause-idle
returns-in_err-frames-clause-idle g c =
    let ready = subst (λ (v : GameView). is_ready v.lane kind.Begin 0 ≡ true) (sym c.self.view_is) c.requires.ready in
    frames_idle c.self.inside c.args.self.now c.self.view_is (idle_parts c.self.inside.fiber c.self.inside.parts ready c.self.invariant.parts)

pub draw_frames-requires : goal.draw_frames-requires
draw_frames-requires g c =
    let inside = c.self.inside in
    let ready = subst (λ (v : GameView). is_ready v.lane kind.Begin 0 ≡ true) (sym c.self.view_is) c.requires.ready in
    let idle = idle_parts inside.fiber inside.parts ready c.self.invariant.parts in
    let has = subst (λ (v : GameView). HasBlocks g.row.CAP v c.args.pool.now) (sym c.self.view_is) c.requires.blocks in
    let none : c.in_ok-frames.frames.items ≡ [] = search rules in
    let room : c.args.parts ≤ vec_capacity c.in_ok-frames.frames = grind (arith, common_steps) in
    let few = c.requires.few in
    let all = has.frame_room in
    (omega arith, (omega arith, (none, (room, (rw c.tag.ensures (none_held g.row.CAP inside c.args.pool.now has idle.1), rw c.tag.ensures (omega (arith, few, all)))))))

pub change_records-requires : goal.change_records-requires
change_records-requires g c =
    let inside = c.self.inside in
    let ready = subst (λ (v : GameView). is_ready v.lane kind.Begin 0 ≡ true) (sym c.self.view_is) c.requires.ready in
    let idle = idle_parts inside.fiber inside.parts ready c.self.invariant.parts in
    let has = subst (λ (v : GameView). HasBlocks g.row.CAP v c.args.pool.now) (sym c.self.view_is) c.requires.blocks in
    let x = begun (lane_at inside) in
    let right : IsRight x
    = subst (λ (y : Lane). IsRightWithParts y) c.in_ok-begin.ensures.ok c.keeps.ensures (states_of inside.parts) (λ plays. let wrong : false ≡ true = plays in absurd cc) in
    let told = c.in_ok-answer.ensures ∙ ap (λ (v : GameView). next_answer v.lane) (sym c.self.view_is) in
    let stands = open_ready g.row.CAP inside kind.Begin 0 c.self.invariant ready in
    let grown = c.grow_index.new.self in
    let boards = begun_boards (lane_at inside) inside.heap grown (keeps_boards g.row.CAP inside c.self.invariant stands) c.grow_index.ensures.heap in
    let more = c.in_ok-grow_index.ensures.ok in
    let drew : LeavesOthers inside.parts.tag c.args.pool.now c.draw_frames.new.pool
    = subst (λ (tag : ℕ). LeavesOthers tag c.args.pool.now c.draw_frames.new.pool) c.tag.ensures c.draw_frames.ensures.others in
    let numbers = frame_numbers inside.parts.tag c.args.parts c.args.pool.now in
    let kept : Holds inside.parts.tag numbers c.draw_frames.new.pool
    = subst (λ (tag : ℕ). Holds tag (frame_numbers tag c.args.parts c.args.pool.now) c.draw_frames.new.pool) c.tag.ensures c.draw_frames.ensures.kept in
    let room = room_here g.row.CAP inside c.args.pool.now has grown c.draw_frames.new.pool c.self.invariant c.grow_index.ensures.heap drew in
    (omega arith, (omega arith, (omega (arith, more), (room.0, (room.1, fit_effect x c.in_ok-answer.answer grown right refl told boards)))))

pub give_all-requires : goal.give_all-requires
give_all-requires g c =
    let inside = c.self.inside in
    let ready = subst (λ (v : GameView). is_ready v.lane kind.Begin 0 ≡ true) (sym c.self.view_is) c.requires.ready in
    let idle = idle_parts inside.fiber inside.parts ready c.self.invariant.parts in
    let has = subst (λ (v : GameView). HasBlocks g.row.CAP v c.args.pool.now) (sym c.self.view_is) c.requires.blocks in
    let drew : LeavesOthers inside.parts.tag c.args.pool.now c.draw_frames.new.pool
    = subst (λ (tag : ℕ). LeavesOthers tag c.args.pool.now c.draw_frames.new.pool) c.tag.ensures c.draw_frames.ensures.others in
    let numbers = frame_numbers inside.parts.tag c.args.parts c.args.pool.now in
    let kept : Holds inside.parts.tag numbers c.draw_frames.new.pool
    = subst (λ (tag : ℕ). Holds tag (frame_numbers tag c.args.parts c.args.pool.now) c.draw_frames.new.pool) c.tag.ensures c.draw_frames.ensures.kept in
    let frames = c.draw_frames.new.frames.items in
    let changed = c.change_records.new.pool in
    let names : names_of (frames_in frames) ≡ map (λ n. (inside.parts.tag, n)) numbers
    = subst (λ (tag : ℕ). names_of (frames_in frames) ≡ map (λ n. (tag, n)) (frame_numbers tag c.args.parts c.args.pool.now)) c.tag.ensures c.draw_frames.ensures.names in
    let held = held_here g.row.CAP inside c.args.pool.now has c.grow_index.new.self numbers c.draw_frames.new.pool changed c.grow_index.ensures.heap
    c.change_records.ensures.others kept in
    (omega arith, (omega arith, lent frames inside.parts.tag numbers changed names held))

pub returns-clause-pool : goal.returns-clause-pool
returns-clause-pool g c =
    let inside = c.self.inside in
    let ready = subst (λ (v : GameView). is_ready v.lane kind.Begin 0 ≡ true) (sym c.self.view_is) c.requires.ready in
    let idle = idle_parts inside.fiber inside.parts ready c.self.invariant.parts in
    let has = subst (λ (v : GameView). HasBlocks g.row.CAP v c.args.pool.now) (sym c.self.view_is) c.requires.blocks in
    let drew : LeavesOthers inside.parts.tag c.args.pool.now c.draw_frames.new.pool
    = subst (λ (tag : ℕ). LeavesOthers tag c.args.pool.now c.draw_frames.new.pool) c.tag.ensures c.draw_frames.ensures.others in
    let numbers = frame_numbers inside.parts.tag c.args.parts c.args.pool.now in
    let kept : Holds inside.parts.tag numbers c.draw_frames.new.pool
    = subst (λ (tag : ℕ). Holds tag (frame_numbers tag c.args.parts c.args.pool.now) c.draw_frames.new.pool) c.tag.ensures c.draw_frames.ensures.kept in
    let frames = c.draw_frames.new.frames.items in
    let changed = c.change_records.new.pool in
    let names : names_of (frames_in frames) ≡ map (λ n. (inside.parts.tag, n)) numbers
    = subst (λ (tag : ℕ). names_of (frames_in frames) ≡ map (λ n. (tag, n)) (frame_numbers tag c.args.parts c.args.pool.now)) c.tag.ensures c.draw_frames.ensures.names in
    let held = held_here g.row.CAP inside c.args.pool.now has c.grow_index.new.self numbers c.draw_frames.new.pool changed c.grow_index.ensures.heap
    c.change_records.ensures.others kept in
    let told = c.in_ok-answer.ensures ∙ ap (λ (v : GameView). next_answer v.lane) (sym c.self.view_is) in
    pool_is_here g.row.CAP c.args.parts inside c.args.self.now c.in_ok-answer.answer c.grow_index.new.self c.args.pool.now c.draw_frames.new.pool changed
    c.give_all.new.pool c.self.view_is c.grow_index.ensures.heap told
    (c.draw_frames.ensures.pool ∙ ap (λ (tag : ℕ). with_frames tag c.args.parts c.args.pool.now) c.tag.ensures) c.change_records.ensures.pool
    (c.give_all.ensures.given ∙ all_numbers frames inside.parts.tag numbers changed names held)

pub returns-clause-game : goal.returns-clause-game
returns-clause-game g c =
    let inside = c.self.inside in
    let ready = subst (λ (v : GameView). is_ready v.lane kind.Begin 0 ≡ true) (sym c.self.view_is) c.requires.ready in
    let idle = idle_parts inside.fiber inside.parts ready c.self.invariant.parts in
    let has = subst (λ (v : GameView). HasBlocks g.row.CAP v c.args.pool.now) (sym c.self.view_is) c.requires.blocks in
    let told = c.in_ok-answer.ensures ∙ ap (λ (v : GameView). next_answer v.lane) (sym c.self.view_is) in
    let grown = c.grow_index.new.self in
    let number = ap (λ (v : GameView). number_behind v.frames.tag c.args.parts c.args.pool.now) c.self.view_is in
    let packing = packing_is_here g.row.CAP c.args.parts inside c.in_ok-answer.answer grown c.args.pool.now c.draw_frames.new.pool c.change_records.new.heap.packing
    c.grow_index.ensures.heap told (c.draw_frames.ensures.pool ∙ ap (λ (tag : ℕ). with_frames tag c.args.parts c.args.pool.now) c.tag.ensures)
    c.change_records.ensures.packing in
    game_is_here g.row.CAP (number_behind inside.parts.tag c.args.parts c.args.pool.now) inside c.args.self.now c.answer.new.self c.change_records.new.heap
    c.self.view_is idle.1 (c.answer.ensures ∙ ap (λ (y : Lane). answered y) c.in_ok-begin.ensures.ok)
    (c.change_records.ensures.tag ∙ ap (λ (h : Heap). h.tag) c.grow_index.ensures.heap) packing
    ∙ ap (λ (n : ℕ). game_here g.row.CAP n c.args.self.now) number

pub returns-clause-blocks : goal.returns-clause-blocks
returns-clause-blocks g c =
    let inside = c.self.inside in
    let ready = subst (λ (v : GameView). is_ready v.lane kind.Begin 0 ≡ true) (sym c.self.view_is) c.requires.ready in
    let idle = idle_parts inside.fiber inside.parts ready c.self.invariant.parts in
    let has = subst (λ (v : GameView). HasBlocks g.row.CAP v c.args.pool.now) (sym c.self.view_is) c.requires.blocks in
    let drew : LeavesOthers inside.parts.tag c.args.pool.now c.draw_frames.new.pool
    = subst (λ (tag : ℕ). LeavesOthers tag c.args.pool.now c.draw_frames.new.pool) c.tag.ensures c.draw_frames.ensures.others in
    let numbers = frame_numbers inside.parts.tag c.args.parts c.args.pool.now in
    let kept : Holds inside.parts.tag numbers c.draw_frames.new.pool
    = subst (λ (tag : ℕ). Holds tag (frame_numbers tag c.args.parts c.args.pool.now) c.draw_frames.new.pool) c.tag.ensures c.draw_frames.ensures.kept in
    let frames = c.draw_frames.new.frames.items in
    let changed = c.change_records.new.pool in
    let names : names_of (frames_in frames) ≡ map (λ n. (inside.parts.tag, n)) numbers
    = subst (λ (tag : ℕ). names_of (frames_in frames) ≡ map (λ n. (tag, n)) (frame_numbers tag c.args.parts c.args.pool.now)) c.tag.ensures c.draw_frames.ensures.names in
    let held = held_here g.row.CAP inside c.args.pool.now has c.grow_index.new.self numbers c.draw_frames.new.pool changed c.grow_index.ensures.heap
    c.change_records.ensures.others kept in
    let did = c.change_records.ensures in
    let tag = did.tag ∙ ap (λ (h : Heap). h.tag) c.grow_index.ensures.heap in
    let new = c.give_all.new.pool in
    let is = c.give_all.ensures.given ∙ all_numbers frames inside.parts.tag numbers changed names held in
    let gave = subst (λ (pool : Ledger). LeavesOthers inside.parts.tag changed pool) (sym is) (others frames inside.parts.tag numbers changed names held) in
    let none = subst (λ (pool : Ledger). Holds inside.parts.tag [] pool) (sym is) (holds_none frames inside.parts.tag numbers changed names held) in
    let heap = c.change_records.new.heap in
    blocks_here g.row.CAP inside c.args.pool.now has c.answer.new.self heap new idle.1
    (ap (λ (y : Lane). y.row) (c.answer.ensures ∙ ap (λ (y : Lane). answered y) c.in_ok-begin.ensures.ok)) tag
    (gave.holds heap.tag (numbers_of heap.packing) (λ same. has.apart (sym tag ∙ same)) did.held) none
    (gave.reservations ∙ did.others.reservations ∙ drew.reservations)

pub returns-clause-others : goal.returns-clause-others
returns-clause-others g c =
    let inside = c.self.inside in
    let ready = subst (λ (v : GameView). is_ready v.lane kind.Begin 0 ≡ true) (sym c.self.view_is) c.requires.ready in
    let idle = idle_parts inside.fiber inside.parts ready c.self.invariant.parts in
    let has = subst (λ (v : GameView). HasBlocks g.row.CAP v c.args.pool.now) (sym c.self.view_is) c.requires.blocks in
    let drew : LeavesOthers inside.parts.tag c.args.pool.now c.draw_frames.new.pool
    = subst (λ (tag : ℕ). LeavesOthers tag c.args.pool.now c.draw_frames.new.pool) c.tag.ensures c.draw_frames.ensures.others in
    let numbers = frame_numbers inside.parts.tag c.args.parts c.args.pool.now in
    let kept : Holds inside.parts.tag numbers c.draw_frames.new.pool
    = subst (λ (tag : ℕ). Holds tag (frame_numbers tag c.args.parts c.args.pool.now) c.draw_frames.new.pool) c.tag.ensures c.draw_frames.ensures.kept in
    let frames = c.draw_frames.new.frames.items in
    let changed = c.change_records.new.pool in
    let names : names_of (frames_in frames) ≡ map (λ n. (inside.parts.tag, n)) numbers
    = subst (λ (tag : ℕ). names_of (frames_in frames) ≡ map (λ n. (tag, n)) (frame_numbers tag c.args.parts c.args.pool.now)) c.tag.ensures c.draw_frames.ensures.names in
    let held = held_here g.row.CAP inside c.args.pool.now has c.grow_index.new.self numbers c.draw_frames.new.pool changed c.grow_index.ensures.heap
    c.change_records.ensures.others kept in
    let is = c.give_all.ensures.given ∙ all_numbers frames inside.parts.tag numbers changed names held in
    let gave = subst (λ (pool : Ledger). LeavesOthers inside.parts.tag changed pool) (sym is) (others frames inside.parts.tag numbers changed names held) in
    let did = subst (λ (tag : ℕ). LeavesOthers tag c.draw_frames.new.pool changed) (ap (λ (h : Heap). h.tag) c.grow_index.ensures.heap) c.change_records.ensures.others in
    subst (λ (v : GameView). LeavesBut v.tag v.frames.tag c.args.pool.now c.give_all.new.pool) c.self.view_is
    (leaves_between inside.heap.tag inside.parts.tag c.args.pool.now c.draw_frames.new.pool changed c.give_all.new.pool drew did gave)
