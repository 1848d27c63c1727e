use Rattle.std.proofs.Common.{◌≡◌, ◌↔◌, map, drop}
use Rattle.bs_fiber.specs.Tickets.{frames_in, names_of}
use Rattle.bs_sched.specs.inner.PartsLayout.{number_in}
use Rattle.bs_sched.specs.Frames.{flattened}
use Rattle.bs_sched.proofs.parts.are_named.Given as goal

-- the remaining blocks are those of the remaining parts exactly if all are
abbrev pub invariant-loop-part : goal.invariant-loop-part
invariant-loop-part g l =
    (names_of (frames_in l.blocks) ≡ map (λ n. (l.tag, n)) (flattened (map number_in l.parts)))
    ↔ (names_of (frames_in l.rest) ≡ map (λ n. (l.tag, n)) (flattened (map number_in (drop l.part-index l.parts))))
