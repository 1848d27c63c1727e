-- The journal went on by the Begin, by the parts that were taken and completed, and by the Join.
use Rattle.bs_workers.proofs.GoneOn.{goes_on_both}
use Rattle.bs_workers.proofs.team.Team.answer.Goals as goal

pub returns-clause-made : goal.returns-clause-made
returns-clause-made g c =
    goes_on_both c.args.core.now c.run_job.new.core c.run_job-2.new.core c.in_ok-run_job.ensures.made
    (goes_on_both c.run_job.new.core c.take_parts.new.core c.run_job-2.new.core c.in_ok-shares.ensures.made
    (goes_on_both c.take_parts.new.core c.put_parts.new.core c.run_job-2.new.core c.in_ok-put_parts.ensures.made c.in_ok-run_job-2.ensures.made))
