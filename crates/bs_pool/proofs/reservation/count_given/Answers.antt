use Rattle.std.proofs.Common.{arith, sym, ◌-◌, ◌∙◌}
use Rattle.bs_pool.proofs.Accounts.{no_account, counted_at, recounts_at}
use Rattle.bs_pool.proofs.reservation.count_given.Goals as goal

pub overflow_sub-accounts : goal.overflow_sub-accounts
overflow_sub-accounts c =
    let counts = counted_at c.args.tag c.args.accounts.now c.in-Some.at no_account (sym c.place.ensures ∙ c.in-Some.is) in
    omega (arith, counts, c.requires.some)

pub returns-in-Some : goal.returns-in-Some
returns-in-Some c =
    recounts_at (λ n. n - 1) c.args.tag c.args.accounts.now c.in-Some.at no_account (sym c.place.ensures ∙ c.in-Some.is)
