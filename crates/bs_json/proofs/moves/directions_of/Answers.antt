-- The directions found are the definition's for the whole object, which keeps its members in order.
use Rattle.std.proofs.Common.{◌≡◌, rules}
use Rattle.serde_json.specs.View.{members_view}
use Rattle.bs_json.specs.Moves.{directions_of}
use Rattle.bs_json.proofs.Ascending.{directions_ascend}
use Rattle.bs_json.proofs.moves.directions_of.Goals as goal

pub returns-clause-ascending : goal.returns-clause-ascending
returns-clause-ascending c =
    let whole : c.loop-id.found ≡ directions_of (members_view c.args.members.entries) = search rules in
    rw whole (directions_ascend c.args.members.entries c.len-count.ensures.ordered)
