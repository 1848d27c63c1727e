use Rattle.std.proofs.Common.{[], List, length, map, ap, sym, subst, ◌∙◌, All, arith}
use Rattle.bs_sched.specs.inner.Keyed.{AreKeysOf}
use Rattle.bs_sched.specs.declared.parts.Part.{Part}
use Rattle.bs_sched.specs.MoveParts.{PartView, PartsView}
use Rattle.bs_sched.specs.inner.MoveParts.{parts_forked}
use Rattle.bs_sched.specs.inner.PartsLayout.{view_of, AreReadyAt, IsPartOf}
use Rattle.bs_sched.proofs.FrameBlocks.{ready_views, no_block_stands, ready_with_keys}
use Rattle.bs_sched.proofs.parts.MoveParts.fork.Goals as goal

pub invariant_of-self : goal.invariant_of-self
invariant_of-self g c =
    let inside = c.self.inside in
    let room = c.self.invariant.room in
    let keys : AreKeysOf inside.tally (length inside.keys.items) inside.keys.items
    = subst (λ (v : PartsView). AreKeysOf v.tally (length v.keys) v.keys) (sym c.self.view_is) c.requires.keys in
    record {
      blocks = subst (λ (l : List (Part g.row.CAP)). All (IsPartOf inside.tag) l) (sym c.push_ready.ensures.parts) (no_block_stands inside.tag inside.keys.items);
      ready = subst (λ (l : List (Part g.row.CAP)). AreReadyAt inside.tally l) (sym c.push_ready.ensures.parts) (ready_with_keys g.row.CAP inside.tally inside.keys.items keys);
      room = omega (arith, room, c.push_ready.ensures.room);
    }

pub returns : goal.returns
returns g c =
    let inside = c.self.inside in
    let list = ap (λ (l : List (Part g.row.CAP)). map view_of l) c.push_ready.ensures.parts ∙ ready_views g.row.CAP inside.keys.items in
    rw c.push_ready.ensures.keys
    (ap (λ (l : List PartView). record { tag = inside.tag; tally = inside.tally; keys = []; list = l }) list)
    ∙ ap parts_forked c.self.view_is
