use Rattle.std.proofs.Common.{◌∙◌, [], sym, subst, arith}
use Rattle.bs_pool.specs.Ledger.{Ledger}
use Rattle.bs_heap.specs.HeldBlocks.{Holds, LeavesOthers}
use Rattle.bs_sched.specs.Frames.{flattened}
use Rattle.bs_sched.specs.inner.MoveParts.{frames_of}
use Rattle.bs_sched.proofs.FramesJoined.{lent, all_numbers, holds_none, others}
use Rattle.bs_sched.proofs.parts.MoveParts.give_back.Goals as goal

pub give_all-requires : goal.give_all-requires
give_all-requires g c =
    let now = frames_of c.args.self.now in
    (omega arith, (omega arith, lent c.args.frames.now.items now.tag (flattened now.numbers) c.args.pool.now c.requires.names c.requires.held))

pub returns-clause-pool : goal.returns-clause-pool
returns-clause-pool g c =
    let now = frames_of c.args.self.now in
    c.give_all.ensures.given ∙ all_numbers c.args.frames.now.items now.tag (flattened now.numbers) c.args.pool.now c.requires.names c.requires.held

pub returns-clause-kept : goal.returns-clause-kept
returns-clause-kept g c =
    let now = frames_of c.args.self.now in
    let pool = c.give_all.ensures.given ∙ all_numbers c.args.frames.now.items now.tag (flattened now.numbers) c.args.pool.now c.requires.names c.requires.held in
    subst (λ (p : Ledger). Holds now.tag [] p) (sym pool) (holds_none c.args.frames.now.items now.tag (flattened now.numbers) c.args.pool.now c.requires.names c.requires.held)

pub returns-clause-others : goal.returns-clause-others
returns-clause-others g c =
    let now = frames_of c.args.self.now in
    let pool = c.give_all.ensures.given ∙ all_numbers c.args.frames.now.items now.tag (flattened now.numbers) c.args.pool.now c.requires.names c.requires.held in
    subst (λ (p : Ledger). LeavesOthers now.tag c.args.pool.now p) (sym pool) (others c.args.frames.now.items now.tag (flattened now.numbers) c.args.pool.now c.requires.names c.requires.held)
