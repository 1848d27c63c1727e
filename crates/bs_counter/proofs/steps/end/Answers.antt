use Rattle.std.proofs.Common.{rules, ap, ◌∙◌, ◌∷◌, Some}
use Rattle.atomic_table.specs.Table.{rest}
use Rattle.bs_counter.proofs.Keeps.{ends}
use Rattle.bs_counter.proofs.steps.end.Goals as goal

pub fetch_sub-requires : goal.fetch_sub-requires
fetch_sub-requires g c = (
  search rules,
  search rules,
  ends g.T.Parted.part_of _ _ _ _ c.args.out _ c.requires.part
      (c.exchange.ensures.3 ∙ ap (λ m. (m.0, (c.args.part, Some c.args.out) ∷ rest m.1)) c.requires.writes),
)
