use Rattle.std.proofs.Common.{◌≡◌, List, All, subst, arith}
use Rattle.std.proofs.lemmas.List.{take_all}
use Rattle.std.proofs.lemmas.List.Elements.{All-more}
use Rattle.bs_board.specs.declared.boards.point.Point.{Point}
use Rattle.bs_board.specs.boards.Cell.{origin}
use Rattle.bs_plane.proofs.motion.are_alone.Goals as goal

pub loop-head-preserved : goal.loop-head-preserved
loop-head-preserved c on shows =
    All-more (λ (head : Point). (on head).parts ≡ 1) c.args.heads.now c.loop-head.head-index origin c.loop-head-test.true (c.loop-head.invariant on shows)
    (c.has_one_part.ensures c.if-not-has_one_part.false on shows)

pub returns : goal.returns
returns c _ on shows =
    subst (λ (l : List Point). All (λ (head : Point). (on head).parts ≡ 1) l)
    (take_all c.loop-head.head-index c.args.heads.now (omega (arith, c.loop-head-test.false))) (c.loop-head.invariant on shows)
