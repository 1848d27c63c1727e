use Rattle.std.proofs.Common.{ap, ◌∙◌, None}
use Rattle.std.specs.Prelude.{unwrap_or}
use Rattle.bs_board.specs.inner.Decoder.{cause_from_byte, killer_from_byte, out_from_number}
use Rattle.bs_board.proofs.records.Fields.{cause_again, killer_again, out_again}
use Rattle.bs_board.proofs.records.LayoutBytes.{cut_cells, state_parts}
use Rattle.bs_board.proofs.records.layout.split_state.Goals as goal

pub returns-in-len7-up : goal.returns-in-len7-up
returns-in-len7-up c s rest id is =
    let found = state_parts s rest c.args.bytes.now is in
    let cut = cut_cells 1 s.body rest _ c.cut.result.0.now c.cut.result.1.now c.from-parts.result found.left (c.from-parts.ensures ∙ c.from_two_bytes.ensures ∙ found.parts) c.cut.ensures.front c.cut.ensures.rest in (
      record {
        id = id;
        health = found.health;
        cause = c.known_cause.ensures ∙ ap (λ byte. unwrap_or (cause_from_byte byte) None) found.cause ∙ ap (λ o. unwrap_or o None) (cause_again s.cause);
        killer = c.killer_from_byte.ensures ∙ ap killer_from_byte found.killer ∙ killer_again s.killer;
        out = λ fits. c.out_from_number.ensures ∙ ap out_from_number (c.from_two_bytes-in-len7-up.ensures ∙ found.out) ∙ out_again s.out fits.out;
        body = cut.0;
      },
      cut.1,
    )
