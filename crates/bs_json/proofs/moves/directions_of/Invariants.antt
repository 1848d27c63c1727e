use Rattle.std.proofs.Common.{◌≡◌, ◌++◌}
use Rattle.serde_json.specs.View.{members_view}
use Rattle.bs_json.specs.Moves.{directions_of}
use Rattle.bs_json.proofs.moves.directions_of.Given as goal

abbrev pub invariant-loop-id : goal.invariant-loop-id
invariant-loop-id l =
    l.found ++ directions_of (members_view l.id-iterator) ≡ directions_of (members_view l.fn.members.entries)
