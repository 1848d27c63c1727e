use Rattle.std.proofs.Common.{rules, not}
use Rattle.std.proofs.lemmas.Fn.{filter_same}
use Rattle.bs_pool.specs.inner.Accounts.{is_account_of}
use Rattle.bs_pool.proofs.reservation.withdraw.Goals as goal

pub returns : goal.returns
returns c = filter_same _ (λ a. not (is_account_of c.args.tag a)) _ (λ a kept f k. search rules) _ _ c.retain.ensures.filtered
