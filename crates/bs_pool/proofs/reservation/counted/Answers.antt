use Rattle.std.proofs.Common.{sym, ◌∙◌}
use Rattle.bs_pool.proofs.Accounts.{no_account, counted_at, counted_nowhere}
use Rattle.bs_pool.proofs.reservation.counted.Goals as goal

pub returns-in_default : goal.returns-in_default
returns-in_default c = sym (counted_nowhere c.args.tag c.args.accounts.now (sym c.place.ensures ∙ c.in_default.is))

pub returns : goal.returns
returns c = sym (counted_at c.args.tag c.args.accounts.now c.in-Some.at no_account (sym c.place.ensures ∙ c.in-Some.is))
