use Rattle.std.proofs.Common.{ap, ap₂, false, is_some, ◌∙◌, arith}
use Rattle.std.specs.Prelude.{unwrap_or}
use Rattle.bs_board.specs.declared.boards.board.Mode.TheVariants.{Standard}
use Rattle.bs_board.specs.inner.Decoder.{kind_from_bytes}
use Rattle.bs_board.proofs.records.Fields.{kind_again}
use Rattle.bs_board.proofs.records.LayoutBytes.{cut_cells, head_fits, head_parts}
use Rattle.bs_board.proofs.records.layout.split_board.Goals as goal

pub returns-in_default : goal.returns-in_default
returns-in_default c b is = let some = head_fits b c.args.bytes.now is in absurd (let none = c.in_default.len_below in omega arith)

pub returns-in-len11-up : goal.returns-in-len11-up
returns-in-len11-up c b is =
    let found = head_parts b c.args.bytes.now is in
    let kind = c.known_kind-hazardous.ensures ∙ ap₂ (λ version byte. unwrap_or (kind_from_bytes version byte) (false, Standard)) found.version found.mode
    ∙ ap (λ o. unwrap_or o (false, Standard)) (kind_again (is_some b.hazards) b.mode) in
    let cut = cut_cells 0 b.food _ _ c.cut.result.0.now c.cut.result.1.now c.from-count.result found.left (c.from-count.ensures ∙ c.from_two_bytes.ensures ∙ found.food) c.cut.ensures.front c.cut.ensures.rest in
    let hazards = c.split_hazards-damage.ensures b.hazards _ (ap (λ kind. kind.0) kind) cut.1 in
    record {
      mode = ap (λ kind. kind.1) kind;
      width = found.width;
      height = found.height;
      turn = c.from_two_bytes-in-len11-up.ensures ∙ found.turn;
      min_food = found.min_food;
      chance = found.chance;
      food = cut.0;
      hazardous = ap (λ kind. kind.0) kind;
      damage = hazards.0;
      hazards = hazards.1;
      seats = c.from.ensures ∙ found.seats;
      snakes = hazards.2;
    }
