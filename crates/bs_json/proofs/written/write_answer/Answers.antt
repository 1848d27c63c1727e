use Rattle.bs_board.proofs.records.Parts.{puts_both}
use Rattle.bs_json.proofs.written.write_answer.Goals as goal

pub returns : goal.returns
returns c = puts_both _ _ _ _ _ _ _ _ c.write_charge-next.ensures.value c.write_word.ensures
