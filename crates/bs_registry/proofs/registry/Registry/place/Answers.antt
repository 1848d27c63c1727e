use Rattle.std.proofs.Common.{ap, ◌∙◌}
use Rattle.std.specs.List.{position}
use Rattle.bs_board.specs.Texts.{is_same_text}
use Rattle.bs_registry.specs.declared.registry.Listed.{Listed}
use Rattle.bs_registry.specs.OpenStays.{bears}
use Rattle.bs_registry.specs.Registry.{Listing, rows_in}
use Rattle.bs_registry.proofs.Rows.{place_named}
use Rattle.bs_registry.proofs.registry.Registry.place.Goals as goal

pub returns : goal.returns
returns g c =
    let name = c.args.name.now in
    c.place_in.ensures ∙ ap (position (λ (stay : Listed g.row.T.Denot). is_same_text name stay.row.game)) c.deref.ensures.value
    ∙ place_named name c.self.inside.stays.items
    ∙ ap (λ (all : Listing g.row.T.Denot). position (bears name) (rows_in all)) c.self.view_is
