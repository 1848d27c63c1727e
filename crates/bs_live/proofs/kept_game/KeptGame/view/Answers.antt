use Rattle.std.proofs.Common.{◌≡◌, ◌≤◌, length, map, sym, ap, subst, ◌∙◌, option_copied}
use Rattle.std.specs.Prelude.{IfSome}
use Rattle.bs_board.specs.boards.Legal.{IsLegal}
use Rattle.bs_board.specs.inner.Kept.{board_in}
use Rattle.bs_pool.specs.Ledger.{size}
use Rattle.bs_game.specs.Answer.{asked_board}
use Rattle.bs_game.specs.Game.{last_board}
use Rattle.bs_game.proofs.AnswerLaw.{view_by_parts}
use Rattle.bs_game.proofs.Recorded.{as_many}
use Rattle.bs_live.specs.Game.{KeptBoards}
use Rattle.bs_live.proofs.Boards.{fit_view, legal_record}
use Rattle.bs_live.proofs.kept_game.KeptGame.view.Goals as goal

pub decoded-requires-2 : goal.decoded-requires-2
decoded-requires-2 g c =
    let inside = c.self.inside in
    let charge = c.charge-charge.ensures in
    let fit = fit_view inside.heap.records inside.quota c.args.self.now c.args.command.now c.charge-charge.result (size inside.pool) c.self.view_is c.self.invariant.recorded c.self.invariant.small charge.value charge.within in
    legal_record (option_copied c.asked_record.result) (asked_board c.args.command.now c.args.self.now.game) c.asked_record.ensures fit.asked

pub returns-clause-value : goal.returns-clause-value
returns-clause-value g c =
    let inside = c.self.inside in
    let old = c.args.self.now in
    let command = c.args.command.now in
    let charge = c.charge-charge.ensures in
    let fit = fit_view inside.heap.records inside.quota old command c.charge-charge.result (size inside.pool) c.self.view_is c.self.invariant.recorded c.self.invariant.small charge.value charge.within in
    let many = subst (λ (v : KeptBoards). length inside.heap.records ≡ length v.game) c.self.view_is (as_many (map board_in inside.heap.records) inside.heap.records c.self.invariant.recorded) in
    view_by_parts (record { quota = inside.quota; charge = c.charge-charge.result; kept = c.count-kept.result; last = c.in_ok-last.last; asked = c.in_ok-asked.asked })
    old.quota old.game command (ap (λ (v : KeptBoards). v.quota) c.self.view_is) charge.value (c.count-kept.ensures.value ∙ many)
    (c.in_ok-last.ensures (last_board old.game) fit.legal c.last_record.ensures.record)
    (c.in_ok-asked.ensures (asked_board command old.game) fit.asked c.asked_record.ensures)

pub returns-clause-fit : goal.returns-clause-fit
returns-clause-fit g c =
    let inside = c.self.inside in
    let old = c.args.self.now in
    let command = c.args.command.now in
    let charge = c.charge-charge.ensures in
    let fit = fit_view inside.heap.records inside.quota old command c.charge-charge.result (size inside.pool) c.self.view_is c.self.invariant.recorded c.self.invariant.small charge.value charge.within in
    record {
      legal = subst (λ last. IfSome last IsLegal) (sym (c.in_ok-last.ensures (last_board old.game) fit.legal c.last_record.ensures.record)) fit.legal;
      asked = subst (λ asked. IfSome asked IsLegal) (sym (c.in_ok-asked.ensures (asked_board command old.game) fit.asked c.asked_record.ensures)) fit.asked;
      within = subst (λ (v : KeptBoards). c.charge-charge.result ≤ v.quota) (sym c.self.view_is) charge.within;
      small = c.self.invariant.small;
    }
