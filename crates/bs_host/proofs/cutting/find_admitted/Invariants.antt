use Rattle.std.proofs.Common.{◌≡◌, length}
use Rattle.std.specs.Prelude.{option_copied}
use Rattle.bs_workers.specs.Acts.{opened}
use Rattle.bs_host.specs.Cut.{nth_from}
use Rattle.bs_host.specs.inner.File.{pieces_after}
use Rattle.bs_registry.specs.OpenStays.{open_stays_of}
use Rattle.bs_host.specs.inner.OpenStays.{rows_by_open_stays}
use Rattle.bs_registry.specs.Registry.{seen}
use Rattle.bs_host.specs.Routing.{capacity_of}
use Rattle.bs_host.proofs.CutFile.{bytes_left}
use Rattle.bs_host.proofs.cutting.find_admitted.Given as goal

-- the result of a search in the rows that the remaining lines admit is the stay that is looked for
abbrev pub invariant-lines : goal.invariant-lines
invariant-lines l =
    nth_from l.open_stays.made (rows_by_open_stays (capacity_of l.file.blocks) l.file.plan.now.version (seen l.open_stays) (pieces_after (option_copied l.left))) l.search.name.now l.search.left
    ≡ nth_from (length l.file.plan.now.rows) (rows_by_open_stays (capacity_of l.file.blocks) l.file.plan.now.version (open_stays_of (opened l.file.plan.now.rows)) (pieces_after (option_copied l.file.rest))) l.fn.search.name.now l.fn.search.left

abbrev pub decreases-lines : goal.decreases-lines
decreases-lines l = bytes_left l.left
