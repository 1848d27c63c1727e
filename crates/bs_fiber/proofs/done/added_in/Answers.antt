use Rattle.std.proofs.Common.{◌≡◌, ◌∙◌, ap, Some, length, List, ℕ, arith}
use Rattle.bs_block.specs.Bytes as Bytes
use Rattle.bs_fiber.proofs.Added.{has_added}
use Rattle.bs_fiber.proofs.done.added_in.Goals as goal

pub bounds-frames-0 : goal.bounds-frames-0
bounds-frames-0 g c =
    (has_added c.args.ticket.now c.frames-frames.result.now c.args.out.now c.in-Joined.field-0 c.in-Joined.piece c.in-Some.piece c.frames-frames.ensures.value c.frames-frames.ensures.fit c.requires.worked c.requires.holds c.in-Joined.is c.in-Some.is).some

pub get-requires : goal.get-requires
get-requires g c =
    let has = has_added c.args.ticket.now c.frames-frames.result.now c.args.out.now c.in-Joined.field-0 c.in-Joined.piece c.in-Some.piece c.frames-frames.ensures.value c.frames-frames.ensures.fit c.requires.worked c.requires.holds c.in-Joined.is c.in-Some.is in
    let there = (has.first c.index-frames-0.result c.index-frames-0.is).there in
    (omega arith, omega (arith, ap length c.block.ensures))

pub returns-in-Some : goal.returns-in-Some
returns-in-Some g c view seen =
    let has = has_added c.args.ticket.now c.frames-frames.result.now c.args.out.now c.in-Joined.field-0 c.in-Joined.piece c.in-Some.piece c.frames-frames.ensures.value c.frames-frames.ensures.fit c.requires.worked c.requires.holds c.in-Joined.is c.in-Some.is in
    let range : c.get.result.now ≡ Bytes.range c.in-Some.piece.at c.in-Some.piece.len c.index-frames-0.result.block = c.get.ensures.value ∙ ap (λ (b : List ℕ). Bytes.range c.in-Some.piece.at c.in-Some.piece.len b) c.block.ensures in
    ap (λ (b : List ℕ). Some b) range ∙ (has.first c.index-frames-0.result c.index-frames-0.is).is ∙ has.seen view seen
