use Rattle.std.proofs.Common.{◌≡◌, take}
use Rattle.bs_batch.specs.Food.{AddsFood}
use Rattle.bs_batch.specs.inner.Food.{with_food_by}
use Rattle.bs_batch.proofs.food.place_missing.Given as goal

-- the settings stay, and there is food for each word so far
abbrev pub invariant-loop-word : goal.invariant-loop-word
invariant-loop-word l = record {
  settings : l.head.settings ≡ l.fn.head.settings;
  board : AddsFood (with_food_by (take l.word-index l.words)) l.fn.head l.fn.food l.fn.plane l.head l.food l.plane;
}
