use Rattle.bs_json.proofs.Puts.{next}
use Rattle.bs_json.proofs.pieces.push_string.Goals as goal

pub returns : goal.returns
returns c = next _ _ _ _ _ c.push.ensures (next _ _ _ _ _ c.push_bytes.ensures c.push-2.ensures)
