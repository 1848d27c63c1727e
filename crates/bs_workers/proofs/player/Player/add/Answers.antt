-- One more stay was played.
use Rattle.std.proofs.Common.{sym, subst}
use Rattle.std.specs.Prelude.{All}
use Rattle.std.proofs.lemmas.List.Elements.{All-push}
use Rattle.bs_workers.specs.declared.player.Lone.{Lone}
use Rattle.bs_workers.specs.inner.Stays.{IsPlayedStay}
use Rattle.bs_workers.proofs.player.Player.add.Goals as goal

pub returns : goal.returns
returns g c =
    let player = c.args.self.now in
    let P : Lone g.row.CAP → Type 0 = λ lone. IsPlayedStay g.row.CAP player.workers player.acts.now player.stays.now lone.row lone.stay in
    subst (All P) (sym c.in_ok-put_lone.ensures) (All-push P c.args.ran.now.items c.args.lone c.requires.before c.requires.played)
