use Rattle.bs_batch.proofs.Saved.{head_written}
use Rattle.bs_batch.proofs.saving.put_head.Goals as goal

pub returns : goal.returns
returns c = head_written c.args.head.now c.version_of.result c.put.result c.args.into.now c.put.new.into c.version_of.ensures c.put.ensures
