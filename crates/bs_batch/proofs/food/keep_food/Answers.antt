use Rattle.std.proofs.Common.{refl, sym, ◌∙◌}
use Rattle.std.proofs.lemmas.Bool.{false≢true}
use Rattle.bs_batch.proofs.food.keep_food.Goals as goal

pub returns-then-gone : goal.returns-then-gone
returns-then-gone c = record {
  taken = λ _. (refl, refl, c.remove_food.ensures);
  kept = λ e. absurd (false≢true (sym e ∙ c.if-gone.true));
}
