use Rattle.std.proofs.Common.{◌++◌, ap, ◌∙◌}
use Rattle.serde_json.specs.Written.{comma_if}
use Rattle.bs_json.specs.Text.{put}
use Rattle.bs_json.proofs.Puts.{next}
use Rattle.bs_json.proofs.ShownSnakes.{snake_text}
use Rattle.bs_json.proofs.shown_bytes.push_snake.Goals as goal

pub returns : goal.returns
returns c b s fits own whole parts =
    next _ _ _ _ _ c.push_comma.ensures c.push_parts.ensures
    ∙ ap (λ t. put c.args.text.now (comma_if c.args.later ++ t)) (snake_text b.snakes s c.args.snake.now _ own parts (c.killer_id.ensures b whole))
