use denote.Param.Send.{IsSend}
use Rattle.bs_block.proofs.ThreadSafety.{Region-send}
use Rattle.bs_block.specs.contracts.raw.Region.{the_row}

pub send : IsSend the_row
send = Region-send
