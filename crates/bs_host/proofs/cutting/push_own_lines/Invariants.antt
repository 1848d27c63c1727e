use Rattle.std.proofs.Common.{◌≡◌, ◌++◌}
use Rattle.std.specs.Prelude.{option_copied}
use Rattle.bs_workers.specs.Acts.{opened}
use Rattle.bs_host.specs.inner.Cut.{behind_feeds}
use Rattle.bs_host.specs.inner.File.{pieces_after}
use Rattle.bs_registry.specs.OpenStays.{open_stays_of}
use Rattle.bs_host.specs.inner.OpenStays.{own_by_open_stays}
use Rattle.bs_registry.specs.Registry.{seen}
use Rattle.bs_host.specs.Routing.{capacity_of}
use Rattle.bs_host.proofs.CutFile.{bytes_left}
use Rattle.bs_host.proofs.cutting.push_own_lines.Given as goal

-- the text so far, and what the remaining lines add
abbrev pub invariant-lines : goal.invariant-lines
invariant-lines l =
    l.text.items ++ behind_feeds (own_by_open_stays (capacity_of l.file.blocks) l.file.plan.now.version (seen l.open_stays) l.stay (pieces_after (option_copied l.left)))
    ≡ l.fn.text.items ++ behind_feeds (own_by_open_stays (capacity_of l.file.blocks) l.file.plan.now.version (open_stays_of (opened l.file.plan.now.rows)) l.stay (pieces_after (option_copied l.file.rest)))

abbrev pub decreases-lines : goal.decreases-lines
decreases-lines l = bytes_left l.left
