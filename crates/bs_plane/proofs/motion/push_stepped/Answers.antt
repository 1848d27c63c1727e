use Rattle.std.proofs.Common.{◌+◌, ◌++◌, ◌∙◌, ap, length}
use Rattle.std.proofs.lemmas.Result.{on_ok_weaker}
use Rattle.bs_plane.proofs.StepBytes.{record_pushed, stepped_length}
use Rattle.bs_plane.proofs.Steps.{half_of}
use Rattle.bs_plane.proofs.motion.push_stepped.Goals as goal

pub returns : goal.returns
returns c =
    on_ok_weaker c.push_body.result
    (λ is s sees.
    let half = half_of s c.args.snake.now sees in
    let count = ap (λ n. n + c.one_if.result) half ∙ ap (λ n. length s.body + n) c.one_if.ensures ∙ stepped_length c.args.step s sees.long in
    record_pushed s c.args.snake.now c.args.step _ c.args.into.now.items c.push.new.self.items c.extend_from_slice.new.self.items c.extend_from_slice-2.new.self.items
    c.push_body.new.into.items sees c.in_ok-push.ensures.items c.in_ok-extend_from_slice.ensures.items
    (c.in_ok-extend_from_slice-2.ensures.items ∙ ap (λ l. c.extend_from_slice.new.self.items ++ l) c.state.ensures) is count)
    c.push_body.ensures
