use Rattle.std.proofs.Common.{subst}
use Rattle.bs_board.specs.boards.Legal.{IsLegal}
use Rattle.bs_board.proofs.records.KeptRecord.{legal_board_in}
use Rattle.bs_board.proofs.records.kept_board.KeptBoard.shared.Goals as goal

pub returns-clause-legal : goal.returns-clause-legal
returns-clause-legal c = subst IsLegal c.self.view_is (legal_board_in _ c.self.invariant)
