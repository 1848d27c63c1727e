use Rattle.bs_board.proofs.commands.PackedMoves.{pushed}
use Rattle.bs_board.proofs.commands.moves.Moves.push.Goals as goal

pub invariant_of-self : goal.invariant_of-self
invariant_of-self c =
    (pushed c.push_entry.result c.self.inside.bytes.items c.push_entry.new.bytes.items c.args.id.now c.args.direction c.args.self.now c.self.invariant c.self.view_is c.requires c.push_entry.ensures).0

pub returns : goal.returns
returns c =
    (pushed c.push_entry.result c.self.inside.bytes.items c.push_entry.new.bytes.items c.args.id.now c.args.direction c.args.self.now c.self.invariant c.self.view_is c.requires c.push_entry.ensures).1
