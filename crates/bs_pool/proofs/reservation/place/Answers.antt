use Rattle.std.proofs.Common.{sym, ap, ◌∙◌}
use Rattle.std.proofs.lemmas.Bool.{eq-eqb}
use Rattle.bs_pool.proofs.Accounts.{no_account, placed}
use Rattle.bs_pool.proofs.reservation.place.Goals as goal

pub returns-then-account-tag : goal.returns-then-account-tag
returns-then-account-tag c =
    let found = c.in-Some.ensures.lookup.3 in
    let passes = eq-eqb _ c.args.tag (ap (λ a. a.reservation.tag) (sym (found.1 no_account)) ∙ c.if-account-tag.true) in
    sym (placed c.args.tag c.args.accounts.now c.args.tag no_account c.requires found.0 passes)
