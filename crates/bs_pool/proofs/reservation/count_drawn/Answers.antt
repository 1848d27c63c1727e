use Rattle.std.proofs.Common.{◌+◌, ◌∙◌, refl, sym, arith}
use Rattle.std.proofs.lemmas.Bool.{le-ltb, lt-ltb}
use Rattle.bs_pool.proofs.Accounts.{no_account, counted_at, granted_at, counted_nowhere, granted_nowhere, recounts_at}
use Rattle.bs_pool.proofs.reservation.count_drawn.Goals as goal

pub returns-in_default-clause-room : goal.returns-in_default-clause-room
returns-in_default-clause-room c =
    let nowhere = sym c.place.ensures ∙ c.in_default.is in
    rw (counted_nowhere c.args.tag c.args.accounts.now nowhere, granted_nowhere c.args.tag c.args.accounts.now nowhere) refl

pub returns-then-account-clause-room : goal.returns-then-account-clause-room
returns-then-account-clause-room c =
    let there = sym c.place.ensures ∙ c.in-Some.is in
    let held = counted_at c.args.tag c.args.accounts.now c.in-Some.at no_account there in
    let blocks = granted_at c.args.tag c.args.accounts.now c.in-Some.at no_account there in
    sym (le-ltb _ _ (omega (arith, held, blocks, c.if-account.true)))

pub returns-clause-room : goal.returns-clause-room
returns-clause-room c =
    let there = sym c.place.ensures ∙ c.in-Some.is in
    let held = counted_at c.args.tag c.args.accounts.now c.in-Some.at no_account there in
    let blocks = granted_at c.args.tag c.args.accounts.now c.in-Some.at no_account there in
    sym (lt-ltb _ _ (omega (arith, held, blocks, c.if-account.false)))

pub returns-clause-drawn : goal.returns-clause-drawn
returns-clause-drawn c = λ _.
    recounts_at (λ n. n + 1) c.args.tag c.args.accounts.now c.in-Some.at no_account (sym c.place.ensures ∙ c.in-Some.is)
