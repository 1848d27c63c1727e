-- The lemma is the law.
use Rattle.bs_host.proofs.PlainStays.{plain_law}
use Rattle.bs_host.proofs.plain.plain_law.Goals as goal

pub returns : goal.returns
returns c = plain_law
