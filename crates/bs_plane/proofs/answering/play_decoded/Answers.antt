use Rattle.std.proofs.Common.{◌∙◌, subst, sym}
use Rattle.bs_board.specs.declared.boards.board.Board.{Board}
use Rattle.bs_board.proofs.records.BoardRecord.{record_is_of_one_board}
use Rattle.bs_plane.specs.Plane.{ShowsBoard}
use Rattle.bs_plane.proofs.answering.play_decoded.Goals as goal

pub returns-clause-follows : goal.returns-clause-follows
returns-clause-follows c current b legal is =
    subst (λ (x : Board). ShowsBoard x c.load.new.self.plane)
    (record_is_of_one_board c.in_ok-next.next b c.in_ok-next.ensures.legal legal (sym c.in_ok-record.ensures ∙ is)) (c.in_ok-load.ensures.ok current)
