use Rattle.std.proofs.Common.{◌≡◌, ℕ, ◌<◌, ◌≤◌, get_or, slice_index}
use Rattle.bs_batch.specs.declared.layout.SmallGame.{SmallGame}
use Rattle.bs_batch.specs.Games.{StepsSmall, words_of}
use Rattle.bs_batch.specs.Starting.{piece_of}
use Rattle.bs_batch.proofs.small.step_small.Given as goal

-- the games so far have played, the others have not
abbrev pub invariant-loop-number : goal.invariant-loop-number
invariant-loop-number l = record {
  played : (i : ℕ) (d : SmallGame) → i < l.number
      → StepsSmall (piece_of l.orders.moves.now i l.orders.moves_each) (words_of l.orders.words.now i l.orders.words_each)
      (piece_of l.orders.hazards.now i l.orders.hazards_each) (slice_index l.orders.damages.now i) (get_or l.fn.games i d) (get_or l.games i d);
  rest : (i : ℕ) (d : SmallGame) → l.number ≤ i → get_or l.games i d ≡ get_or l.fn.games i d;
}
