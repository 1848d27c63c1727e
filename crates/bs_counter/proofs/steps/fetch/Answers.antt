use Rattle.std.proofs.Common.{rules, ap, sym, ◌≡◌, ◌∙◌, ◌∷◌, Some, ℕ, List, Option}
use Rattle.atomic_table.specs.Table.{rest}
use Rattle.bs_counter.specs.Tally.{first_of_view}
use Rattle.bs_counter.proofs.Keeps.{fetches}
use Rattle.bs_counter.proofs.steps.fetch.Goals as goal

pub load-requires : goal.load-requires
load-requires g c = (search rules, search rules, fetches g.T.Parted.part_of _ _ _ _ _ c.requires.there c.requires.last)

pub exchange-requires : goal.exchange-requires
exchange-requires g c =
    let out = c.load.ensures.2.1 in
    let at : first_of_view c.args.seat.now.me.0 ≡ c.args.part = ap first_of_view c.requires.last in (
      search rules,
      (
        Some out.0,
        out.1 ∙ ap (λ (k : ℕ). (k, Some out.0) ∷ c.args.seat.now.me.1) at
            ∙ ap (λ (all : List (ℕ × Option g.row.T.Denot)). (c.args.part, Some out.0) ∷ all) (sym (ap rest out.1)),
      ),
    )
