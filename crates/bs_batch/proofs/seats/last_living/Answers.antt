use Rattle.bs_batch.proofs.Living.{last_of_others, last_of_solo}
use Rattle.bs_batch.proofs.seats.last_living.Goals as goal

pub returns-then-mode-eq-SOLO : goal.returns-then-mode-eq-SOLO
returns-then-mode-eq-SOLO c m is = last_of_solo m c.args.mode is c.if-mode-eq-SOLO.true

pub returns-else-mode-eq-SOLO : goal.returns-else-mode-eq-SOLO
returns-else-mode-eq-SOLO c m is = last_of_others m c.args.mode is c.if-mode-eq-SOLO.false
