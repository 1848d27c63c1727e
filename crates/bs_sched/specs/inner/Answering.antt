-- What private contracts add to specs/Answering.
use Rattle.std.specs.Prelude.{ℕ, zero, suc, List, [], ◌∷◌, ◌++◌, fold}
use Rattle.bs_heap.specs.HeldBlocks.{all_given, next_number}
use Rattle.bs_pool.specs.Ledger.{Ledger, drawn}
use Rattle.bs_sched.specs.declared.event.Event.{Event}
use Rattle.bs_game.specs.declared.reply.Answer.{Answer}
use Rattle.bs_game.specs.View.{answer_of}
use Rattle.bs_sched.specs.Answering.{begun}
use Rattle.bs_sched.specs.Game.{GameView}
use Rattle.bs_sched.specs.Games.{GamesView, after}
use Rattle.bs_sched.specs.Lane.{Lane, answered, lane_command, lane_view}
use Rattle.bs_sched.specs.Storage.{packing_after, pool_after}

-- the answer to the next command
abbrev pub next_answer : Lane → Answer
next_answer x = answer_of (lane_view (begun x)) (lane_command (begun x))

-- the pool once that many blocks are drawn for the tag
abbrev pub with_frames : ℕ → ℕ → Ledger → Ledger
with_frames tag zero pool = pool
with_frames tag (suc n) pool = drawn tag (next_number (with_frames tag n pool)) (with_frames tag n pool)

-- the numbers of these blocks
abbrev pub frame_numbers : ℕ → ℕ → Ledger → List ℕ
frame_numbers tag zero pool = []
frame_numbers tag (suc n) pool = frame_numbers tag n pool ++ next_number (with_frames tag n pool) ∷ []

-- the number that is drawn next
abbrev pub number_behind : ℕ → ℕ → Ledger → ℕ
number_behind tag n pool = next_number (with_frames tag n pool)

-- a stay whose next command is answered; a block that is drawn for its record has that number
abbrev pub game_here : ℕ → ℕ → GameView → GameView
game_here cap number v =
    record v { lane = answered (begun v.lane); packing = packing_after cap number (next_answer v.lane).effect v.packing }

-- `n` frame blocks are drawn, the records change, and these blocks are given back
abbrev pub pool_here : ℕ → ℕ → GameView → Ledger → Ledger
pool_here cap n v pool =
    let tag = v.frames.tag in
    all_given (frame_numbers tag n pool) (pool_after cap v.tag (next_answer v.lane).effect v.packing (with_frames tag n pool))

-- the games after a list of events
abbrev pub games_after : ℕ → GamesView → List Event → GamesView
games_after cap = fold (after cap)
