-- A newly opened core is sound.
use Rattle.std.proofs.Common.{◌≡◌, ap, ◌∙◌}
use Rattle.bs_pool.specs.Ledger.{Ledger, ledger_of, opened, size}
use Rattle.bs_sched.specs.PlanBlocks.{reservations_of}
use Rattle.bs_sched.proofs.OpenedGames.{sound_opened}
use Rattle.bs_sched.proofs.games.Games.open_in.Goals as goal

pub invariant_of-result : goal.invariant_of-result
invariant_of-result g c =
    let rows = c.as_slice-all.ensures.value in
    let many = size c.args.pool in
    let owners = c.in_ok-reserve_rows.ensures.owners ∙ ap (λ (p : Ledger). p.owners) c.requires.pool in
    let pool : c.reserve_rows.new.pool ≡ ledger_of (opened many).owners (reservations_of g.row.CAP c.as_slice-all.result.now)
    = (λ i. ledger_of (owners i) (c.in_ok-reserve_rows.ensures.reservations i)) in
    sound_opened g.row.CAP many _ c.requires.wide c.as_slice-all.ensures.fits c.requires.room
    (rw rows at c.in_ok-list.ensures)
    c.in_ok-registry.ensures (rw rows at pool)
