use Rattle.std.proofs.Common.{◌≡◌, List, Some, map, ap, sym, ◌∙◌, subst, arith, All}
use Rattle.bs_pool.specs.declared.owned.Owned.{Owned}
use Rattle.bs_fiber.specs.Tickets.{bytes_of, frames_in, names_of}
use Rattle.bs_sched.specs.declared.parts.Part.{Part}
use Rattle.bs_sched.specs.inner.PartsLayout.{view_of, AreReadyAt, IsPartOf}
use Rattle.bs_sched.specs.Frames.{flattened}
use Rattle.bs_sched.specs.MoveParts.{PartView, PartsView}
use Rattle.bs_sched.specs.inner.MoveParts.{frames_of, moved_of, parts_joined}
use Rattle.bs_sched.proofs.FramesJoined.{all_bytes, all_moved, all_names, views_joined, all_sent_fit, all_sent_ready}
use Rattle.bs_sched.proofs.parts.MoveParts.join.Goals as goal

pub invariant_of-self : goal.invariant_of-self
invariant_of-self g c =
    let inside = c.self.inside in
    let room = c.self.invariant.room in
    record {
      blocks = subst (λ (l : List (Part g.row.CAP)). All (IsPartOf inside.tag) l) (sym c.join_all.ensures.parts) (all_sent_fit inside.tag inside.list.items);
      ready = subst (λ (l : List (Part g.row.CAP)). AreReadyAt inside.tally l) (sym c.join_all.ensures.parts) (all_sent_ready inside.tally inside.list.items c.self.invariant.ready);
      room = omega (arith, c.join_all.ensures.room);
    }

pub returns-clause-parts : goal.returns-clause-parts
returns-clause-parts g c =
    let inside = c.self.inside in
    let list = ap (λ (l : List (Part g.row.CAP)). map view_of l) c.join_all.ensures.parts ∙ views_joined inside.list.items in
    ap (λ (l : List PartView). record { tag = inside.tag; tally = inside.tally; keys = inside.keys.items; list = l }) list ∙ ap parts_joined c.self.view_is

pub returns-clause-moved : goal.returns-clause-moved
returns-clause-moved g c = c.join_all.ensures.moved ∙ all_moved c.self.inside.list.items ∙ ap (λ (f : PartsView). map (λ w. w.pieces) (flattened (frames_of f).moved)) c.self.view_is

pub returns-clause-bytes : goal.returns-clause-bytes
returns-clause-bytes g c =
    let inside = c.self.inside in
    ap (λ (l : List (Owned g.row.CAP)). bytes_of (frames_in l)) c.join_all.ensures.frames ∙ all_bytes inside.list.items
    ∙ ap (λ (f : PartsView). map (λ w. w.bytes) (flattened (frames_of f).moved)) c.self.view_is

pub returns-clause-names : goal.returns-clause-names
returns-clause-names g c =
    let inside = c.self.inside in
    let back : map moved_of (map view_of inside.list.items) ≡ map Some c.requires.back.0 = ap (λ (f : PartsView). (frames_of f).moved) c.self.view_is ∙ c.requires.back.1 in
    ap (λ (l : List (Owned g.row.CAP)). names_of (frames_in l)) c.join_all.ensures.frames
    ∙ all_names inside.tag inside.list.items c.requires.back.0 c.self.invariant.blocks back
    ∙ ap (λ (f : PartsView). map (λ n. (f.tag, n)) (flattened (frames_of f).numbers)) c.self.view_is
