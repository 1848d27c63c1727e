use Rattle.std.proofs.Common.{rules, ◌<◌, subst, sym}
use Rattle.bs_block.specs.declared.group.Layout.{Layout}
use Rattle.bs_block.specs.Returns.{LiesAt, place_of}
use Rattle.bs_block.proofs.ReturnSteps.{takes_out, gives_back}
use Rattle.bs_block.proofs.group.Group.give.Goals as goal

pub swap_new_seat-found-requires : goal.swap_new_seat-found-requires
swap_new_seat-found-requires c =
    let own = c.args.self.now in
    (search rules, takes_out own.table.shared.key _ c.args.number (subst (λ (l : Layout). c.args.number < l.count) (sym own.keyed) c.requires.there))

pub store-requires : goal.store-requires
store-requires c =
    let own = c.args.self.now in
    let within = subst (λ (l : Layout). c.args.number < l.count) (sym own.keyed) c.requires.there in
    let lies = subst (λ (l : Layout). LiesAt (place_of l c.args.number) c.args.region) (sym own.keyed) (c.requires.at, c.requires.len) in
    (search rules, search rules, gives_back own.table.shared.key _ _ _ _ _ _ c.exchange.ensures.3 within lies)
