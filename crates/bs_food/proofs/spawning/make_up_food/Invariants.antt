use Rattle.std.proofs.Common.{◌≡◌, take}
use Rattle.bs_food.proofs.Minimum.{after_words}
use Rattle.bs_food.proofs.spawning.make_up_food.Given as goal

-- the board after the words used so far
abbrev pub invariant-loop-word : goal.invariant-loop-word
invariant-loop-word l = l.board ≡ after_words l.initial.board (take l.word-index l.word-items)
