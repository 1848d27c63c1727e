use Rattle.std.proofs.Common.{◌≡◌, ◌∙◌, ap, sym, arith, List, [], ◌∷◌, ◌+◌, ◌++◌, get_or, take}
use Rattle.std.specs.Prelude.{flat_map}
use Rattle.std.proofs.lemmas.List.{append-nil, take_more}
use Rattle.std.proofs.lemmas.List.Concat.{flat_map-append}
use Rattle.bs_board.specs.declared.boards.snake.Snake.{Snake}
use Rattle.bs_fiber.proofs.Blocks.{as_many, held_at}
use Rattle.bs_fiber.proofs.frames.read_all.Goals as goal

pub read_moved-requires : goal.read_moved-requires
read_moved-requires g c =
    let all = c.requires.0 in
    let held = held_at c.args.frames.now c.args.parts.now all c.loop-part.part _ _ c.requires.1 c.loop-part-test.true c.index-frames-part.is c.index-parts-part.is in
    (omega arith, (get_or all c.loop-part.part [], held))

pub loop-part-preserved : goal.loop-part-preserved
loop-part-preserved g c all held =
    let i = c.loop-part.part in
    let here = held_at c.args.frames.now c.args.parts.now all i _ _ held c.loop-part-test.true c.index-frames-part.is c.index-parts-part.is in
    let within = (as_many c.args.frames.now c.args.parts.now all held).0 in
    let more : flat_map (λ part. part) (take (i + 1) all) ≡ flat_map (λ part. part) (take i all) ++ get_or all i [] =
    ap (flat_map (λ part. part)) (take_more all i [] (omega (arith, within, c.loop-part-test.true))) ∙ flat_map-append (λ part. part) (take i all) (get_or all i [] ∷ [])
    ∙ ap (λ (s : List Snake). flat_map (λ part. part) (take i all) ++ s) (append-nil (get_or all i [])) in
    c.in_ok-read_moved.ensures (get_or all i []) here ∙ ap (λ (s : List Snake). s ++ get_or all i []) (c.loop-part.invariant all held) ∙ sym more
