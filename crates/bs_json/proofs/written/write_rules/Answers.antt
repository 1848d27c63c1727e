use Rattle.bs_board.proofs.records.Parts.{puts_both}
use Rattle.bs_json.proofs.written.write_rules.Goals as goal

pub returns : goal.returns
returns c =
    puts_both _ _ _ _ _ _ _ _ c.write-height.ensures (puts_both _ _ _ _ _ _ _ _ c.write_small-height.ensures.value (puts_both _ _ _ _ _ _ _ _ c.write-fewest.ensures
    (puts_both _ _ _ _ _ _ _ _ c.write_small-fewest.ensures.value (puts_both _ _ _ _ _ _ _ _ c.write_mode-mode.ensures.value c.write_over.ensures))))
