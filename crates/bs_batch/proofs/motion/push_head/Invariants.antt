use Rattle.std.proofs.Common.{◌≡◌, ◌∷◌, ◌++◌, take, drop, get_or}
use Rattle.bs_batch.proofs.motion.push_head.Given as goal

-- the parts so far are shifted, the others are not, and the one between them is carried
abbrev pub invariant-loop-part : goal.invariant-loop-part
invariant-loop-part l =
    (l.body ≡ take l.part-index (l.head ∷ l.initial.body) ++ drop l.part-index l.initial.body)
    × (l.carried ≡ get_or (l.head ∷ l.initial.body) l.part-index 0)
