use Rattle.bs_rules.proofs.CollisionLaw.{law_holds}
use Rattle.bs_rules.proofs.law.collision_law.Goals as goal

pub returns : goal.returns
returns c = law_holds
