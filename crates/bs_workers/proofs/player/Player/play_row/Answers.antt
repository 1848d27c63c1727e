-- One more stay is kept.
use Rattle.bs_workers.proofs.PlayedStays.{slot_more}
use Rattle.bs_workers.proofs.player.Player.play_row.Goals as goal

pub returns-clause-played : goal.returns-clause-played
returns-clause-played g c =
    let player = c.args.self.now in
    slot_more g.row.CAP player.workers player.acts.now player.stays.now _ _ _ _ c.in_ok-put.ensures.row c.in_ok-put.ensures.kept c.in_ok-lone.ensures.played c.requires
