use denote.Param.Send.{IsSync}
use Rattle.bs_block.proofs.ThreadSafety.{Region-sync}
use Rattle.bs_block.specs.contracts.raw.Region.{the_row}

pub sync : IsSync the_row
sync = Region-sync
