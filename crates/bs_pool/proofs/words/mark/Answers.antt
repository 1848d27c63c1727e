use Rattle.bs_pool.proofs.Marks.{marked}
use Rattle.bs_pool.proofs.words.mark.Goals as goal

pub returns : goal.returns
returns c = marked c.args.words.now c.args.number c.requires
