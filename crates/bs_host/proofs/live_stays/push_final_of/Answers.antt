use Rattle.std.proofs.Common.{◌++◌, sym, ap, ◌∙◌, append-nil}
use Rattle.bs_host.proofs.LiveStays.{no_final}
use Rattle.bs_host.proofs.live_stays.push_final_of.Goals as goal

pub returns-in-None : goal.returns-in-None
returns-in-None c =
    let none = no_final c.args.number c.args.stays.now (sym c.in-None.is ∙ c.place_of.ensures) in
    sym (ap (λ line. c.args.text.now.bytes ++ line) none ∙ append-nil c.args.text.now.bytes)
