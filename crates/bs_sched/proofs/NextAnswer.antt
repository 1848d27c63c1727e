-- The answer to the next command of a stay, from what its Begin would read; and the stay once it is
-- answered.
use Rattle.std.proofs.Common.{◌≡◌, ℕ, true, false, List, [], map, refl, sym, ap, subst, ◌∙◌}
use Rattle.bs_fiber.specs.declared.expected.Expected.{Expected}
use Rattle.bs_fiber.specs.declared.input.Input.{Input}
use Rattle.bs_fiber.specs.declared.job.JobKind.TheVariants as kind
use Rattle.bs_fiber.specs.declared.job.JobName.{JobName}
use Rattle.bs_fiber.specs.Expected.{IsOf}
use Rattle.bs_fiber.specs.Fit.{IsFitGame}
use Rattle.bs_fiber.specs.Seeing.{IsSeen}
use Rattle.bs_game.specs.declared.reply.Answer.{Answer}
use Rattle.bs_game.specs.declared.view.View.{View}
use Rattle.bs_game.specs.View.{answer_of}
use Rattle.bs_heap.specs.Heap.{Heap, with_index_room}
use Rattle.bs_sched.specs.declared.event.Event.TheVariants as event
use Rattle.bs_sched.specs.declared.game.Game.TheInside.{Inside}
use Rattle.bs_sched.specs.Answering.{begin_job, begun}
use Rattle.bs_sched.specs.Courses.{IsRight}
use Rattle.bs_sched.specs.Game.{GameView}
use Rattle.bs_sched.specs.Inputs.{input_for}
use Rattle.bs_sched.specs.Lane.{Lane, answered, is_ready, lane_command, lane_view}
use Rattle.bs_sched.specs.MoveParts.{PartView, PartsView}
use Rattle.bs_sched.specs.declared.stage.Stage.{Stage}
use Rattle.bs_sched.specs.Storage.{packing_after}
use Rattle.bs_sched.specs.inner.Answering.{game_here, next_answer}
use Rattle.bs_sched.specs.inner.Answers.{input_in}
use Rattle.bs_sched.specs.inner.Game.{IsGame, KeepsBoards, game_in, lane_at}
use Rattle.bs_sched.specs.inner.Frames.{idle_frames}
use Rattle.bs_sched.specs.inner.MoveParts.{ArePartsIn, FitParts, moved_of, number_of, state_of}
use Rattle.bs_sched.proofs.HereLanes.{at_idle}
use Rattle.bs_sched.proofs.ChangedGame.{kept_open}
use Rattle.bs_sched.proofs.FitInputs.{lane_input, lane_seen, out_taken}
use Rattle.bs_sched.proofs.RightRuns.{right_after}

expected_input : (input : Input) (expected : Expected) → IsOf input expected → input.parts ≡ [] → input_in expected ≡ input
expected_input input expected is none =
    let n = is.numbers in
    let c = is.contents in
    λ i.
    record {
      job = sym n.job i;
      worker = sym n.worker i;
      seq = sym n.seq i;
      quota = sym n.quota i;
      charge = sym n.charge i;
      kept = sym n.kept i;
      last = sym c.last i;
      asked = sym c.asked i;
      command = sym c.command i;
      parts = sym none i;
    }

pub right_begun : (x : Lane) → IsRight x → is_ready x kind.Begin 0 ≡ true → IsRight (begun x)
right_begun x right ready = right_after x (event.Take 0 (begin_job 0)) right tt ready

module _ (x : Lane) (right : IsRight x) (ready : is_ready x kind.Begin 0 ≡ true) (seq worker : ℕ) (job : JobName) where
  abbrev read : Input
  read = input_for x (lane_command (begun x)) seq worker job

  fit_read : IsFitGame read
  fit_read =
      let fit = (lane_input (begun x) 0 (begin_job 0) (right_begun x right ready) (out_taken x 0 kind.Begin 0 ready)).game in
      record { last = fit.last; asked = fit.asked; asked_by = fit.asked_by; within = fit.within; small = fit.small }

  seen_read : IsSeen (lane_view (begun x)) read
  seen_read =
      let seen = lane_seen (begun x) 0 (begin_job 0) (right_begun x right ready) in
      record { quota = seen.quota; charge = seen.charge; kept = seen.kept; last = seen.last; asked = seen.asked }

  pub fit_expected : (expected : Expected) → IsOf read expected → IsFitGame (input_in expected)
  fit_expected expected is = subst IsFitGame (sym (expected_input read expected is refl)) fit_read

  pub answer_is_next : (expected : Expected) (answer : Answer) → IsOf read expected
      → ((view : View) → IsSeen view (input_in expected) → answer ≡ answer_of view expected.command.now) → answer ≡ next_answer x
  answer_is_next expected answer is told =
      told (lane_view (begun x)) (subst (IsSeen (lane_view (begun x))) (sym (expected_input read expected is refl)) seen_read)
      ∙ ap (answer_of (lane_view (begun x))) (sym is.contents.command)

-- ---- the stay once its next command is answered

pub kept_here : (cap : ℕ) {at : ℕ} (c : Inside at) (x : Lane) (heap : Heap) → IsGame cap c → c.fiber.is_open ≡ true → (c.parts.keys ≡ []) × (c.parts.list ≡ [])
    → x ≡ answered (begun c.fiber) → KeepsBoards (answered (begun c.fiber)) heap → IsGame cap (record c { fiber = x; heap = heap })
kept_here cap c x heap is stands none lane boards =
    rw lane (record {
      wide = is.wide;
      quota = boards.quota;
      records = boards.records ∙ sym (kept_open (answered (begun c.fiber)) stands);
      room = λ may. let wrong : false ≡ true = may in absurd cc;
      quiet = λ shut. let wrong : true ≡ false = sym stands ∙ shut in absurd cc;
      many = λ plays. let wrong : false ≡ true = plays in absurd cc;
      parts = record { few = is.parts.few; at = none };
    })

pub game_is_here : (cap number : ℕ) {at : ℕ} (c : Inside at) (v : GameView) (x : Lane) (heap : Heap) → game_in c ≡ v → c.parts.list ≡ [] → x ≡ answered (begun c.fiber)
    → heap.tag ≡ c.heap.tag → heap.packing ≡ packing_after cap number (next_answer (lane_at c)).effect c.heap.packing
    → game_in (record c { fiber = x; heap = heap }) ≡ game_here cap number v
game_is_here cap number c v x heap is none lane tag packing =
    let parts = ap (λ (l : List PartView). map state_of l) none in
    rw (lane, tag, packing, parts) refl ∙ ap (game_here cap number) is

pub idle_parts : (x : Lane) (v : PartsView) → is_ready x kind.Begin 0 ≡ true → FitParts x v → (v.keys ≡ []) × (v.list ≡ [])
idle_parts x v ready fit = subst (λ (s : Stage). ArePartsIn s x v) (at_idle x ready) fit.at

-- the boards are the same once the command is begun, and the index may have grown
pub begun_boards : (x : Lane) (heap grown : Heap) → KeepsBoards x heap → grown ≡ with_index_room grown.index_room heap → KeepsBoards (begun x) grown
begun_boards x heap grown boards is = rw is (record { quota = boards.quota; records = boards.records })

pub frames_idle : {at : ℕ} (c : Inside at) (v : GameView) → game_in c ≡ v → (c.parts.keys ≡ []) × (c.parts.list ≡ []) → v.frames ≡ idle_frames v.frames.tag v.frames.tally
frames_idle c v is none =
    subst (λ (u : GameView). u.frames ≡ idle_frames u.frames.tag u.frames.tally) is
    (λ i. record { tag = c.parts.tag; tally = c.parts.tally; keys = none.0 i; numbers = map number_of (none.1 i); moved = map moved_of (none.1 i) })
