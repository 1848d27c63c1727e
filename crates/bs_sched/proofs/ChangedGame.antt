-- One stay after an event: its heap and its frames still match its lane, and its blocks are its own.
use Rattle.std.proofs.Common.{◌≡◌, ◌≢◌, ℕ, ◌<◌, true, false, List, [], length, map, Option, Some, None, Result, Ok, Err, refl, sym, ap, subst, ◌∙◌, arith}
use Rattle.std.specs.Prelude.{replicate, slice_get, OnOk, OnErr}
use Rattle.std.proofs.lemmas.Bool.{cond-true}
use Rattle.std.proofs.lemmas.List.{length-replicate, length-set}
use Rattle.bs_board.specs.plans.Plan.{GameRow}
use Rattle.bs_board.specs.declared.commands.command.Command.{Command}
use Rattle.bs_fiber.specs.declared.job.JobKind.{JobKind}
use Rattle.bs_fiber.specs.declared.job.JobKind.TheVariants as kind
use Rattle.bs_fiber.specs.declared.job.JobName.{JobName}
use Rattle.bs_fiber.specs.Work.{moved_part, parts_of, snakes_in}
use Rattle.bs_counter.specs.Keys.{Key, TallyId}
use Rattle.bs_game.specs.Game.{game_charge, last_board}
use Rattle.bs_game.proofs.Recorded.{same_charge}
use Rattle.bs_heap.specs.Charge.{charge_of}
use Rattle.bs_heap.specs.Heap.{Heap, with_index_room}
use Rattle.bs_heap.specs.HeldBlocks.{Holds, LeavesOthers}
use Rattle.bs_heap.specs.Packing.{Packing, numbers_of}
use Rattle.bs_pool.specs.Ledger.{Ledger}
use Rattle.bs_pool.specs.Reservations.{reserved_by}
use Rattle.bs_sched.specs.declared.game.Game.TheInside.{Inside}
use Rattle.bs_sched.specs.PartState.{PartState}
use Rattle.bs_sched.specs.PartState as state
use Rattle.bs_sched.specs.declared.stage.Stage.{Stage}
use Rattle.bs_sched.specs.declared.stage.Stage.TheVariants as stage
use Rattle.bs_sched.specs.Courses.{IsRight}
use Rattle.bs_sched.specs.Frames.{FramesView, Written, flattened, written}
use Rattle.bs_sched.specs.inner.Frames.{LeavesBut, forked_frames, with_moved}
use Rattle.bs_sched.specs.Game.{GameView}
use Rattle.bs_sched.specs.inner.Game.{HasBlocks, IsGame, KeepsBoards, forked_game, game_in, game_with_part, lane_at, taken_game}
use Rattle.bs_sched.specs.inner.Insides.{HasParts, IsRightWithParts, may_answer}
use Rattle.bs_sched.specs.Lane.{Lane, answered, goes_on, is_idle, is_out, is_playing, is_ready, kept_of, lane_command, lane_view, records_of, with_part_done, with_taken, with_waiting}
use Rattle.bs_sched.specs.MoveParts.{PartsView}
use Rattle.bs_sched.specs.inner.MoveParts.{ArePartsIn, FitParts, frames_of, number_of, part_completed, part_taken, parts_forked, parts_idle, parts_joined, ready_part, states_of}
use Rattle.bs_sched.proofs.JoinFrames.{seen_joined, states_joined, to_join}
use Rattle.bs_sched.proofs.PartFrames.{seen_completed, seen_forked, seen_taken, states_completed, states_forked, states_taken, to_fork}
use Rattle.bs_sched.proofs.RightRuns.{busy_out, busy_ready, not_quiet, open_busy}

-- a stay is right, with its parts
pub right_game : (cap : ℕ) {at : ℕ} (c : Inside at) → IsGame cap c → IsRightWithParts c.fiber → IsRight (lane_at c)
right_game cap c is right = right (states_of c.parts) is.many

-- a stay with a job that is out or may be taken is open

pub open_out : (cap : ℕ) {at : ℕ} (c : Inside at) (worker : ℕ) (k : JobKind) (p : ℕ) → IsGame cap c → is_out worker (lane_at c) k p ≡ true → c.fiber.is_open ≡ true
open_out cap c worker k p is out = open_busy (lane_at c) is.quiet (busy_out (lane_at c) worker k p out)

pub open_ready : (cap : ℕ) {at : ℕ} (c : Inside at) (k : JobKind) (p : ℕ) → IsGame cap c → is_ready (lane_at c) k p ≡ true → c.fiber.is_open ≡ true
open_ready cap c k p is ready = open_busy (lane_at c) is.quiet (busy_ready (lane_at c) k p ready)

pub open_at_work : (cap : ℕ) {at : ℕ} (c : Inside at) → IsGame cap c → is_idle c.fiber.stage ≡ false → c.fiber.is_open ≡ true
open_at_work cap c is busy = open_busy c.fiber is.quiet (not_quiet c.fiber busy)

-- the heap of an open stay keeps the records of its boards

pub kept_open : (x : Lane) → x.is_open ≡ true → kept_of x ≡ records_of x.game
kept_open x stands = cond-true x.is_open (records_of x.game) [] stands

pub keeps_boards : (cap : ℕ) {at : ℕ} (c : Inside at) → IsGame cap c → c.fiber.is_open ≡ true → KeepsBoards (lane_at c) c.heap
keeps_boards cap c is stands = record { quota = is.quota; records = is.records ∙ kept_open c.fiber stands }

pub charge_of_boards : (x : Lane) (heap : Heap) (charge : ℕ) → IsRight x → KeepsBoards x heap → charge ≡ charge_of heap.records → charge ≡ game_charge x.game
charge_of_boards x heap charge right kept is = is ∙ same_charge x.game heap.records (record { right = right.right; is = kept.records })

-- Of an open stay.

-- its boards and its row are unchanged, and its heap may have room for more records
pub record SameBoards (x y : Lane) : Type 0 where
  pub row : y.row ≡ x.row
  pub flag : y.is_open ≡ x.is_open
  pub game : y.game ≡ x.game

pub kept_game : (cap : ℕ) {at : ℕ} (c : Inside at) (x : Lane) (heap : Heap) (ps : PartsView) → IsGame cap c → c.fiber.is_open ≡ true → SameBoards c.fiber x
    → heap ≡ with_index_room heap.index_room c.heap → (may_answer x.stage ≡ true → 0 < heap.index_room) → HasParts x (states_of ps) → FitParts x ps
    → IsGame cap (record c { fiber = x; heap = heap; parts = ps })
kept_game cap c x heap ps is stands same grown room many parts =
    let stands_still : x.is_open ≡ true = same.flag ∙ stands in
    record {
      wide = is.wide;
      quota = ap (λ (h : Heap). h.quota) grown ∙ is.quota ∙ ap (λ (row : GameRow). row.quota) (sym same.row);
      records = ap (λ (h : Heap). h.records) grown ∙ is.records ∙ kept_open c.fiber stands ∙ ap records_of (sym same.game) ∙ sym (kept_open x stands_still);
      room = room;
      quiet = λ shut. let wrong : true ≡ false = sym stands_still ∙ shut in absurd cc;
      many = many;
      parts = parts;
    }

-- the command is answered
pub answered_kept : (cap : ℕ) {at : ℕ} (c : Inside at) (x : Lane) (heap : Heap) (ps : PartsView) → IsGame cap c → c.fiber.is_open ≡ true → x ≡ answered c.fiber
    → KeepsBoards (answered c.fiber) heap → ps ≡ parts_idle c.parts → IsGame cap (record c { fiber = x; heap = heap; parts = ps })
answered_kept cap c x heap ps is stands lane boards idle =
    rw (lane, idle) (record {
      wide = is.wide;
      quota = boards.quota;
      records = boards.records ∙ sym (kept_open (answered c.fiber) stands);
      room = λ may. let wrong : false ≡ true = may in absurd cc;
      quiet = λ shut. let wrong : true ≡ false = sym stands ∙ shut in absurd cc;
      many = λ plays. let wrong : false ≡ true = plays in absurd cc;
      parts = record { few = omega arith; at = (refl, refl) };
    })

-- ---- a command is queued, or is not because memory ran out

pub record SameStage (x y : Lane) : Type 0 where
  pub boards : SameBoards x y
  pub stage : y.stage ≡ x.stage
  pub view : lane_view y ≡ lane_view x
  pub command : lane_command y ≡ lane_command x

pub same_stage : {A B : Type 0} (result : Result A B) (x y : Lane) (command : Command) → OnOk result (y ≡ with_waiting command x) → OnErr result (y ≡ x)
    → SameStage x y
same_stage (Ok value) x y command handed same =
    rw handed (record { boards = record { row = refl; flag = refl; game = refl }; stage = refl; view = refl; command = refl })
same_stage (Err error) x y command handed same =
    rw same (record { boards = record { row = refl; flag = refl; game = refl }; stage = refl; view = refl; command = refl })

same_at : (s : Stage) (x y : Lane) (v : PartsView) → lane_view y ≡ lane_view x → lane_command y ≡ lane_command x → ArePartsIn s x v → ArePartsIn s y v
same_at stage.Idle x y v view command at = at
same_at (stage.Begin worker) x y v view command at = record { none = at.none; keys = rw (view, command) at.keys }
same_at stage.Parts x y v view command at = rw (view, command) at
same_at (stage.Join None) x y v view command at = rw (view, command) at
same_at (stage.Join (Some worker)) x y v view command at = tt

pub handed_fit : (x y : Lane) (v : PartsView) → FitParts x v → SameStage x y → FitParts y v
handed_fit x y v fit same = record {
  few = fit.few;
  at = subst (λ (s : Stage). ArePartsIn s y v) (sym same.stage) (same_at x.stage x y v same.view same.command fit.at);
}

pub handed_parts : (x y : Lane) (parts : List PartState) → HasParts x parts → SameStage x y → HasParts y parts
handed_parts x y parts has same plays = rw same.boards.game (has (ap is_playing (sym same.stage) ∙ plays))

-- ---- a job is taken

pub taken_boards : (x y : Lane) (worker : ℕ) (k : JobKind) (p : ℕ) → y ≡ with_taken worker k p x → SameBoards x y
taken_boards x y worker kind.Begin p is = rw is (record { row = refl; flag = refl; game = refl })
taken_boards x y worker kind.Part p is = rw is (record { row = refl; flag = refl; game = refl })
taken_boards x y worker kind.Join p is = rw is (record { row = refl; flag = refl; game = refl })

-- ---- the blocks of the stay, whatever other tags draw and give back

pub left_blocks : (cap : ℕ) (v : GameView) (tag other : ℕ) (pool pool' : Ledger) → HasBlocks cap v pool → v.tag ≢ tag → v.tag ≢ other → v.frames.tag ≢ tag
    → v.frames.tag ≢ other → LeavesBut tag other pool pool' → HasBlocks cap v pool'
left_blocks cap v tag other pool pool' has a b m n leaves = record {
  records = leaves.holds v.tag (numbers_of v.packing) a b has.records;
  room = rw leaves.reservations has.room;
  frames = leaves.holds v.frames.tag (flattened v.frames.numbers) m n has.frames;
  frame_room = ap (reserved_by v.frames.tag) leaves.reservations ∙ has.frame_room;
  apart = has.apart;
}

-- a change that leaves the blocks of all tags but one leaves those of all but two
pub leaves_more : (tag other : ℕ) (old new : Ledger) → LeavesOthers other old new → LeavesBut tag other old new
leaves_more tag other old new leaves = record { holds = λ own numbers a b held. leaves.holds own numbers b held; reservations = leaves.reservations }

pub leaves_both : (tag other : ℕ) (old mid new : Ledger) → LeavesOthers tag old mid → LeavesOthers other mid new → LeavesBut tag other old new
leaves_both tag other old mid new first second = record {
  holds = λ own numbers a b held. second.holds own numbers b (first.holds own numbers a held);
  reservations = second.reservations ∙ first.reservations;
}

pub leaves_all : (tag other : ℕ) (pool : Ledger) → LeavesBut tag other pool pool
leaves_all tag other pool = record { holds = λ own numbers a b held. held; reservations = refl }

pub leaves_none : (tag : ℕ) (pool : Ledger) → LeavesOthers tag pool pool
leaves_none tag pool = record { holds = λ own numbers a held. held; reservations = refl }

-- the frame blocks change, and no record moves
pub framed_blocks : (cap : ℕ) (v w : GameView) (pool pool' : Ledger) → HasBlocks cap v pool → w.tag ≡ v.tag → w.packing ≡ v.packing → w.lane.row ≡ v.lane.row
    → w.frames.tag ≡ v.frames.tag → Holds v.frames.tag (flattened w.frames.numbers) pool' → LeavesOthers v.frames.tag pool pool' → HasBlocks cap w pool'
framed_blocks cap v w pool pool' has tag packing row frame_tag holds leaves = record {
  records = rw (tag, packing) (leaves.holds v.tag (numbers_of v.packing) has.apart has.records);
  room = rw (tag, row, leaves.reservations) has.room;
  frames = rw frame_tag holds;
  frame_room = rw (frame_tag, leaves.reservations) has.frame_room;
  apart = rw (tag, frame_tag) has.apart;
}

-- ---- as many parts as the board of the move needs

pub taken_parts : (cap : ℕ) {at : ℕ} (c : Inside at) (p worker n : ℕ) → IsGame cap c → HasParts c.fiber (states_of (part_taken p worker n c.parts))
taken_parts cap c p worker n is plays =
    ap length (states_taken c.parts p worker n) ∙ length-set (states_of c.parts) p (state.Out worker) ∙ is.many plays

pub joined_parts : (cap : ℕ) {at : ℕ} (c : Inside at) (x : Lane) (p worker : ℕ) → is_ready c.fiber kind.Join p ≡ true → IsGame cap c
    → x ≡ with_taken worker kind.Join p c.fiber → HasParts x (states_of (parts_joined c.parts))
joined_parts cap c x p worker ready is lane plays =
    let at : c.fiber.stage ≡ stage.Join None = (to_join c.fiber c.parts p ready is.parts).at in
    rw (lane, states_joined c.parts) (is.many (ap is_playing at))

done_parts : (cap : ℕ) {at : ℕ} (c : Inside at) (s : Stage) (p n : ℕ) (moved : Written) → c.fiber.stage ≡ stage.Parts → IsGame cap c
    → HasParts (record c.fiber { stage = s }) (states_of (part_completed p moved n c.parts))
done_parts cap c s p n moved at is plays =
    ap length (states_completed c.parts p n moved) ∙ length-set (states_of c.parts) p state.Done ∙ is.many (ap is_playing at)

-- a part is completed, and the stage is then this one
pub done_game : (cap : ℕ) {at : ℕ} (c : Inside at) (x : Lane) (s : Stage) (p n : ℕ) (moved : Written) → IsGame cap c → c.fiber.is_open ≡ true → c.fiber.stage ≡ stage.Parts
    → x ≡ record c.fiber { stage = s } → may_answer s ≡ false → FitParts (record c.fiber { stage = s }) (part_completed p moved n c.parts)
    → IsGame cap (record c { fiber = x; parts = part_completed p moved n c.parts })
done_game cap c x s p n moved is stands at x_is silent fit =
    rw x_is (kept_game cap c (record c.fiber { stage = s }) c.heap (part_completed p moved n c.parts) is stands (record { row = refl; flag = refl; game = refl }) refl
    (λ may. let wrong : false ≡ true = sym silent ∙ may in absurd cc) (done_parts cap c s p n moved at is) fit)

-- ---- what contracts see of a stay whose parts changed

same_view : (tag : ℕ) (packing : Packing) (x y : Lane) (f h : FramesView) → x ≡ y → f ≡ h
    → ◌≡◌ {A = GameView} (record { tag = tag; lane = x; packing = packing; frames = f }) (record { tag = tag; lane = y; packing = packing; frames = h })
same_view tag packing x y f h lane frames = rw (lane, frames) refl

pub game_taken : {at : ℕ} (c : Inside at) (v : GameView) (ps : PartsView) (worker n : ℕ) (job : JobName) (tally : Option TallyId) (keys : List Key) → game_in c ≡ v → job.kind ≡ kind.Part
    → slice_get c.parts.list job.part ≡ Some ready_part → ps ≡ part_taken job.part worker n c.parts → game_in (record c { parts = ps }) ≡ taken_game worker job n tally keys v
game_taken c v ps worker n job tally keys is part free taken =
    let lane = ap (λ (l : List PartState). record c.fiber { parts = l }) (states_taken c.parts job.part worker n) in
    let new = same_view c.heap.tag c.heap.packing _ _ _ _ lane (seen_taken c.parts job.part worker n free) in
    subst (λ (u : GameView). game_in (record c { parts = ps }) ≡ taken_game worker job n tally keys u) is (rw (taken, part) new)

pub game_joined : {at : ℕ} (c : Inside at) (v : GameView) (x : Lane) (heap : Heap) (ps : PartsView) (worker n : ℕ) (job : JobName) (tally : Option TallyId) (keys : List Key) → game_in c ≡ v → job.kind ≡ kind.Join
    → x ≡ with_taken worker kind.Join job.part c.fiber → heap ≡ with_index_room heap.index_room c.heap → ps ≡ parts_joined c.parts
    → game_in (record c { fiber = x; heap = heap; parts = ps }) ≡ taken_game worker job n tally keys v
game_joined c v x heap ps worker n job tally keys is join lane grown joined =
    let parts = ap (λ (l : List PartState). record (with_taken worker kind.Join job.part c.fiber) { parts = l }) (states_joined c.parts) in
    let new = same_view c.heap.tag c.heap.packing _ _ _ _ parts (seen_joined c.parts) in
    subst (λ (u : GameView). game_in (record c { fiber = x; heap = heap; parts = ps }) ≡ taken_game worker job n tally keys u) is
    (rw (lane, joined, join, ap (λ (h : Heap). h.tag) grown, ap (λ (h : Heap). h.packing) grown) new)

pub game_forked : (cap : ℕ) {at : ℕ} (c : Inside at) (v : GameView) (x : Lane) (ps : PartsView) (worker : ℕ) → IsGame cap c → game_in c ≡ v → is_out worker c.fiber kind.Begin 0 ≡ true → goes_on c.fiber ≡ true
    → x ≡ record c.fiber { stage = stage.Parts } → ps ≡ parts_forked c.parts → game_in (record c { fiber = x; parts = ps }) ≡ forked_game v
game_forked cap c v x ps worker kept is out goes lane parts =
    let n = parts_of (length (snakes_in (last_board c.fiber.game))) in
    let many = (to_fork c.fiber worker c.parts out goes kept.parts).many in
    let states = ap (λ (l : List PartState). record c.fiber { stage = stage.Parts; parts = l }) (states_forked c.parts ∙ ap (λ (k : ℕ). replicate k state.Ready) many) in
    let frames = seen_forked c.parts ∙ ap (forked_frames c.parts.tag c.parts.tally) (many ∙ sym (length-replicate n state.Ready)) in
    subst (λ (u : GameView). game_in (record c { fiber = x; parts = ps }) ≡ forked_game u) is (rw (lane, parts) (same_view c.heap.tag c.heap.packing _ _ _ _ states frames))

pub game_completed : {at : ℕ} (c : Inside at) (v : GameView) (x : Lane) (p n : ℕ) (moved : Written) → game_in c ≡ v → slice_get (map number_of c.parts.list) p ≡ Some (Some n)
    → moved ≡ written (moved_part p (lane_view c.fiber) (lane_command c.fiber)) → record x { parts = states_of (part_completed p moved n c.parts) } ≡ with_part_done p (lane_at c)
    → game_in (record c { fiber = x; parts = part_completed p moved n c.parts }) ≡ game_with_part p v
game_completed c v x p n moved is number moved_is lane =
    let frames = seen_completed c.parts p n moved number ∙ ap (λ (m : Written). with_moved p m (frames_of c.parts)) moved_is in
    subst (λ (u : GameView). game_in (record c { fiber = x; parts = part_completed p moved n c.parts }) ≡ game_with_part p u) is
    (same_view c.heap.tag c.heap.packing _ _ _ _ lane frames)
