use Rattle.std.proofs.Common.{take}
use Rattle.bs_plane.specs.inner.Food.{AddsFood, with_food_by}
use Rattle.bs_plane.proofs.food.place_missing.Given as goal

-- there is food for each word so far
abbrev pub invariant-loop-word : goal.invariant-loop-word
invariant-loop-word l = AddsFood (with_food_by (take l.word-index l.words)) l.fn.plane l.fn.into.items l.plane l.into.items
