use Rattle.bs_pool.proofs.Marks.{unmarked}
use Rattle.bs_pool.proofs.words.unmark.Goals as goal

pub returns : goal.returns
returns c = unmarked c.args.words.now c.args.number c.requires
