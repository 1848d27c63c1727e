-- A game whose command is answered: its lane, its records and its heap.
use Rattle.std.proofs.Common.{◌≡◌, ℕ, ◌-◌, ◌++◌, ◌∷◌, [], Option, true, false, length, refl, sym, ap, ◌∙◌, arith}
use Rattle.std.specs.Prelude.{Some, None, is_some, ◌||◌}
use Rattle.std.proofs.lemmas.List.Elements.{All-get_or}
use Rattle.bs_board.specs.declared.boards.board.Board.{Board}
use Rattle.bs_board.specs.declared.commands.command.Command.TheVariants as command
use Rattle.bs_board.specs.declared.commands.command.Word.TheVariants as word
use Rattle.bs_board.specs.declared.commands.reply.Reply.{Reply}
use Rattle.bs_board.specs.declared.commands.reply.Reply.TheVariants.{Shown, Plain, Refused}
use Rattle.bs_board.specs.records.Record.{record_of}
use Rattle.bs_board.proofs.records.KeptRecord.{only_board_in}
use Rattle.bs_game.specs.declared.reply.Answer.{Answer}
use Rattle.bs_game.specs.Answer.{Fits, after_reply, answer_to}
use Rattle.bs_game.specs.Game.{Game, IsGame, game_charge, last_board, newest}
use Rattle.bs_game.specs.Law.{IsAnswerTo, IsFitEffect, effected}
use Rattle.bs_game.specs.View.{answer_of, effect_of}
use Rattle.bs_game.proofs.AnswerLaw.{answers_the_game}
use Rattle.bs_game.proofs.Games.{last_of_more, legal_last, newest_is_last, nothing_runs}
use Rattle.bs_game.specs.inner.Recorded.{IsRecorded}
use Rattle.bs_game.proofs.Recorded.{same_charge}
use Rattle.bs_heap.specs.Charge.{charge_of}
use Rattle.bs_heap.specs.Heap.{Heap}
use Rattle.bs_sched.specs.inner.Game.{KeepsBoards}
use Rattle.bs_sched.specs.Courses.{IsRight}
use Rattle.bs_sched.specs.inner.Insides.{may_answer}
use Rattle.bs_sched.specs.inner.LastBoards.{last_after}
use Rattle.bs_sched.specs.Lane.{Lane, lane_view, lane_command, lane_outcome, answered, is_idle, occupies, has_begin, has_join}
use Rattle.bs_sched.specs.declared.stage.Stage.{Stage}
use Rattle.bs_sched.specs.declared.stage.Stage.TheVariants as stage

-- a worker with a Begin or a Join is in the middle of a command, which may be answered

occupied : (worker : ℕ) (s : Stage) → (has_begin worker s || has_join worker s) ≡ true → (is_idle s ≡ false) × (may_answer s ≡ true)
occupied worker stage.Idle has = let wrong : false ≡ true = has in absurd cc
occupied worker (stage.Begin other) has = (refl, refl)
occupied worker stage.Parts has = let wrong : false ≡ true = has in absurd cc
occupied worker (stage.Join None) has = let wrong : false ≡ true = has in absurd cc
occupied worker (stage.Join (Some other)) has = (refl, refl)

pub is_at_command : (x : Lane) (worker : ℕ) → occupies worker x ≡ true → (is_idle x.stage ≡ false) × (may_answer x.stage ≡ true)
is_at_command x worker has = occupied worker x.stage has

pub fit_command : (x : Lane) → IsRight x → is_idle x.stage ≡ false → Fits (lane_command x)
fit_command x right busy =
    let some = right.some busy in
    All-get_or Fits x.taken (length x.taken - 1) command.Bad (omega arith) right.taken

-- the answer that the definition gives to the lane's command
pub told : (x : Lane) → IsRight x → is_idle x.stage ≡ false
    → IsAnswerTo x.row.quota x.game (lane_outcome x) (answer_of (lane_view x) (lane_command x))
told x right busy = answers_the_game x.row.quota x.game (lane_command x) right.right right.within (fit_command x right busy)

pub told_reply : (x : Lane) (answer : Answer) → IsRight x → is_idle x.stage ≡ false → answer ≡ answer_of (lane_view x) (lane_command x)
    → answer.reply ≡ (lane_outcome x).reply
told_reply x answer right busy is = ap (λ (a : Answer). a.reply) is ∙ (told x right busy).reply

-- the newest board after the answer

newest_stays : (game : Game) (last : Option Board) → last_board game ≡ last → last_board game ≡ last_board (newest game)
newest_stays game None is = rw (nothing_runs game (ap is_some is)) refl
newest_stays game (Some last) is = is ∙ sym (ap last_board (newest_is_last game last is))

last_by : (reply : Reply) (game : Game) → IsGame (after_reply reply game) → last_after (effect_of reply) (last_board game) ≡ last_board (after_reply reply game)
last_by (Shown word.New board charge) game right =
    let last = last_of_more game board in
    ap Some (only_board_in (record_of board) board (legal_last (game ++ board ∷ []) board right (sym last)) refl) ∙ sym last
last_by (Shown word.Move board charge) game right =
    let last = last_of_more game board in
    ap Some (only_board_in (record_of board) board (legal_last (game ++ board ∷ []) board right (sym last)) refl) ∙ sym last
last_by (Shown word.Show board charge) game right = refl
last_by (Shown word.Turn board charge) game right = refl
last_by (Shown word.Free board charge) game right = refl
last_by (Shown word.End board charge) game right = refl
last_by (Plain word.New charge) game right = refl
last_by (Plain word.Move charge) game right = refl
last_by (Plain word.Show charge) game right = refl
last_by (Plain word.Turn charge) game right = refl
last_by (Plain word.Free charge) game right = newest_stays game (last_board game) refl
last_by (Plain word.End charge) game right = refl
last_by (Refused reason) game right = refl

pub told_last : (x : Lane) (answer : Answer) → IsRight x → is_idle x.stage ≡ false → answer ≡ answer_of (lane_view x) (lane_command x)
    → last_after answer.effect (last_board x.game) ≡ last_board (lane_outcome x).game
unfolding answer_to
told_last x answer right busy is =
    let here = told x right busy in
    let effect : answer.effect ≡ effect_of (lane_outcome x).reply = ap (λ (a : Answer). a.effect) is ∙ here.told in
    ap (λ e. last_after e (last_board x.game)) effect ∙ last_by (lane_outcome x).reply x.game here.right

pub recorded : (x : Lane) (heap : Heap) → IsRight x → KeepsBoards x heap → IsRecorded x.game heap.records
recorded x heap right kept = record { right = right.right; is = kept.records }

pub fit_effect : (x : Lane) (answer : Answer) (heap : Heap) → IsRight x → is_idle x.stage ≡ false
    → answer ≡ answer_of (lane_view x) (lane_command x) → KeepsBoards x heap → IsFitEffect heap.quota (charge_of heap.records) answer.effect
fit_effect x answer heap right busy is kept =
    let charge : charge_of heap.records ≡ game_charge x.game = same_charge x.game heap.records (recorded x heap right kept) in
    rw (is, charge, kept.quota) (told x right busy).fits

-- the heap after the answer keeps the records of the boards after it
pub answered_boards : (x : Lane) (answer : Answer) (heap new : Heap) → IsRight x → is_idle x.stage ≡ false
    → answer ≡ answer_of (lane_view x) (lane_command x) → KeepsBoards x heap → new.records ≡ effected answer.effect heap.records
    → new.quota ≡ heap.quota → KeepsBoards (answered x) new
answered_boards x answer heap new right busy is kept records quota =
    record {
      quota = quota ∙ kept.quota;
      records = records ∙ ap (λ (a : Answer). effected a.effect heap.records) is ∙ ap (effected (answer_of (lane_view x) (lane_command x)).effect) kept.records
          ∙ (told x right busy).records;
    }
