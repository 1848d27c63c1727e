-- The command is answered, which makes no act.
use Rattle.bs_workers.proofs.MadeActs.{fewer_here, here, makes_here}
use Rattle.bs_workers.proofs.alone.Alone.answer.Goals as goal

pub returns-clause-made : goal.returns-clause-made
returns-clause-made g c =
    let old = c.args.self.now.core in
    let new = c.answer_here.new.self in
    let worker = c.args.self.now.worker in
    let next = c.args.next in
    makes_here g.row.CAP old new worker next.game next.parts
    (here g.row.CAP old new worker next.game next.parts c.requires c.in_ok-answer_here.ensures.ok)

pub returns-clause-fewer : goal.returns-clause-fewer
returns-clause-fewer g c =
    let old = c.args.self.now.core in
    let new = c.answer_here.new.self in
    let worker = c.args.self.now.worker in
    let next = c.args.next in
    fewer_here g.row.CAP old new worker next.game next.parts
    (here g.row.CAP old new worker next.game next.parts c.requires c.in_ok-answer_here.ensures.ok)
