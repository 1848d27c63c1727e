use Rattle.bs_host.proofs.LiveLaw.{live_law, transcript_law}
use Rattle.bs_host.proofs.LiveTexts.{answers_append}
use Rattle.bs_host.proofs.live.live_law.Goals as goal

pub returns-clause-sections : goal.returns-clause-sections
returns-clause-sections c = live_law

pub returns-clause-prefix : goal.returns-clause-prefix
returns-clause-prefix c = answers_append

pub returns-clause-transcript : goal.returns-clause-transcript
returns-clause-transcript c = transcript_law
