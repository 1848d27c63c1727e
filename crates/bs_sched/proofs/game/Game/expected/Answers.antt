use Rattle.std.proofs.Common.{ℕ, List, Option, length, [], refl, sym, ap, subst, ◌∙◌}
use Rattle.std.specs.Prelude.{IfSome, option_map}
use Rattle.std.proofs.lemmas.Bool.{cond-true}
use Rattle.std.proofs.lemmas.List.{length-map}
use Rattle.bs_board.specs.records.Kept.{IsLegalRecord}
use Rattle.bs_board.specs.records.Record.{record_of}
use Rattle.bs_game.specs.Game.{last_board}
use Rattle.bs_sched.specs.Courses.{IsRight}
use Rattle.bs_sched.specs.Game.{GameView}
use Rattle.bs_sched.specs.Lane.{records_of}
use Rattle.bs_sched.proofs.ChangedGame.{right_game}
use Rattle.bs_sched.proofs.FitInputs.{legal_asked}
use Rattle.bs_sched.proofs.KeptRecords.{asked_of}
use Rattle.bs_sched.proofs.game.Game.expected.Goals as goal

pub returns-clause-value : goal.returns-clause-value
returns-clause-value g c =
    let x = c.args.self.now.lane in
    record {
      numbers = record {
        job = refl;
        worker = refl;
        seq = refl;
        quota = sym (c.quota.ensures ∙ ap (λ (v : GameView). v.lane.row.quota) c.self.view_is);
        charge = sym c.charge.ensures;
        kept = sym (c.count.ensures ∙ ap length (cond-true x.is_open (records_of x.game) [] c.requires) ∙ length-map x.game record_of);
      };
      contents = record {
        last = sym (c.last_record.ensures ∙ ap (λ (v : GameView). option_map record_of (last_board v.lane.game)) c.self.view_is);
        asked = sym (rw c.asked_turn.ensures at c.asked_record.ensures ∙ asked_of c.args.command.now x.game);
        command = refl;
      };
    }

pub returns-clause-legal : goal.returns-clause-legal
returns-clause-legal g c =
    let x = c.args.self.now.lane in
    let right = subst (λ (v : GameView). IsRight v.lane) c.self.view_is (right_game g.row.CAP c.self.inside c.self.invariant c.keeps.ensures) in
    subst (λ (asked : Option (List ℕ)). IfSome asked IsLegalRecord)
    (sym (rw c.asked_turn.ensures at c.asked_record.ensures ∙ asked_of c.args.command.now x.game))
    (legal_asked c.args.command.now x.game right.right)
