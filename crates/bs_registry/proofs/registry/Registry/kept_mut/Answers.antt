use Rattle.std.proofs.Common.{◌≡◌, ◌<◌, Some, length, slice_get, rules, refl, sym, ap, ◌∙◌}
use Rattle.bs_registry.specs.declared.registry.Listed.{Listed}
use Rattle.bs_registry.specs.Registry.{Listing, kept_in, with_kept}
use Rattle.bs_registry.proofs.Rows.{kept_there, lent, lent_once}
use Rattle.bs_registry.proofs.registry.Registry.kept_mut.Goals as goal

pub invariant_of-self-lent : goal.invariant_of-self-lent
invariant_of-self-lent g c =
    λ kept. lent_once c.self.inside.stays.items c.args.place c.index_mut-stay.result.now kept c.index_mut-stay.ensures.value c.self.invariant

pub returns : goal.returns
returns g c =
    let stays = c.self.inside.stays.items in
    let made = c.self.inside.made in
    let at = c.index_mut-stay.result.now in
    let is = c.index_mut-stay.ensures.value in
    let within : c.args.place < length stays = search rules in
    let value : slice_get (kept_in c.args.self.now) c.args.place ≡ Some at.kept
    = ap (λ (all : Listing g.row.T.Denot). slice_get (kept_in all) c.args.place) (sym c.self.view_is) ∙ kept_there stays c.args.place at within
    ∙ ap (λ (one : Listed g.row.T.Denot). Some one.kept) (sym is) in (
      (
        refl,
        λ kept.
            lent made stays c.args.place at kept within is
            ∙ ap (λ (all : Listing g.row.T.Denot). with_kept c.args.place kept all) c.self.view_is,
      ),
      record { value = value; writes_back = tt },
    )
