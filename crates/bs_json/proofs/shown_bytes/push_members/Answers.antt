use Rattle.bs_json.proofs.Puts.{next}
use Rattle.bs_json.proofs.shown_bytes.push_members.Goals as goal

pub returns : goal.returns
returns c =
    next _ _ _ _ _ c.push.ensures (next _ _ _ _ _ c.push_cells.ensures (next _ _ _ _ _ c.push-2.ensures (next _ _ _ _ _ c.push_string_or_null.ensures (next _ _ _ _ _ c.push-3.ensures (next _ _ _ _ _ c.push_cause.ensures
    (next _ _ _ _ _ c.push-4.ensures (next _ _ _ _ _ c.push_small.ensures (next _ _ _ _ _ c.push-5.ensures (next _ _ _ _ _ c.push_string.ensures (next _ _ _ _ _ c.push-6.ensures (next _ _ _ _ _ c.push_out.ensures c.push-7.ensures)))))))))))
