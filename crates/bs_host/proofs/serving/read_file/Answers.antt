use Rattle.std.proofs.Common.{arith, rules}
use Rattle.std.specs.Prelude.{option_copied}
use Rattle.bs_host.specs.inner.File.{pieces_after}
use Rattle.bs_host.proofs.FileTexts.{for_all_blocks, plan_refused, refusal_of_long}
use Rattle.bs_host.proofs.serving.read_file.Goals as goal

pub returns-then-input-gt-MOST_FILE_BYTES-clause-fault :
    goal.returns-then-input-gt-MOST_FILE_BYTES-clause-fault
returns-then-input-gt-MOST_FILE_BYTES-clause-fault c =
    λ blocks. refusal_of_long blocks c.args.input.now c.if-input-gt-MOST_FILE_BYTES.true

pub returns-in_err-read_plan-clause-fault : goal.returns-in_err-read_plan-clause-fault
returns-in_err-read_plan-clause-fault c =
    for_all_blocks c.args.input.now c.from_residual.result (λ blocks.
    let refused = plan_refused c.args.input.now c.split_line.result.0.now (pieces_after (option_copied c.split_line.result.1)) c.in_err-read_plan.field-0.0
    (omega arith) c.split_line.ensures.pieces c.in_err-read_plan.ensures blocks in
    search rules)
