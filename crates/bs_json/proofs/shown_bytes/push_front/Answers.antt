use Rattle.bs_json.proofs.Puts.{next}
use Rattle.bs_json.proofs.shown_bytes.push_front.Goals as goal

pub returns : goal.returns
returns c =
    next _ _ _ _ _ c.push.ensures (next _ _ _ _ _ c.push_cells.ensures (next _ _ _ _ _ c.push-2.ensures (next _ _ _ _ _ c.push_small.ensures (next _ _ _ _ _ c.push_hazards.ensures c.push_rules.ensures))))
