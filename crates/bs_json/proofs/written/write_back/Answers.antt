use Rattle.bs_board.proofs.records.Parts.{puts_both}
use Rattle.bs_json.proofs.written.write_back.Goals as goal

pub returns : goal.returns
returns c =
    puts_both _ _ _ _ _ _ _ _ c.write-turn.ensures (puts_both _ _ _ _ _ _ _ _ c.write_turn-turn.ensures.value (puts_both _ _ _ _ _ _ _ _ c.write-width.ensures
    (puts_both _ _ _ _ _ _ _ _ c.write_small-width.ensures.value c.write.ensures)))
