use Rattle.std.proofs.Common.{◌≡◌, ℕ, length, List, Some, ◌++◌, ◌∷◌, map, slice_get, sym, ap, ◌∙◌, subst}
use Rattle.std.specs.Prelude.{slice_set}
use Rattle.std.proofs.lemmas.List.{length-map, map-set}
use Rattle.bs_heap.specs.HeldBlocks.{Holds, next_number}
use Rattle.bs_sched.specs.declared.parts.Part.{Part}
use Rattle.bs_sched.specs.declared.parts.Part.TheVariants as field
use Rattle.bs_sched.specs.Frames.{flattened}
use Rattle.bs_sched.specs.Keyed.{IsKeyAt}
use Rattle.bs_sched.specs.MoveParts.{PartView, PartsView}
use Rattle.bs_sched.specs.inner.MoveParts.{frames_of, part_taken, ready_part}
use Rattle.bs_sched.specs.inner.PartsLayout.{view_of}
use Rattle.bs_sched.proofs.FrameBlocks.{key_in, there}
use Rattle.bs_sched.proofs.FrameNumbers.{parted}
use Rattle.bs_sched.proofs.ListedGames.{read_at}
use Rattle.bs_sched.proofs.PartFrames.{no_number, numbers_taken}
use Rattle.bs_sched.proofs.parts.MoveParts.take.Goals as goal

pub returns-clause-parts : goal.returns-clause-parts
returns-clause-parts g c =
    let inside = c.self.inside in
    let p = c.args.part in
    let next = next_number c.args.pool.now in
    let number : c.number.result ≡ next = c.number.ensures ∙ c.draw_block-owned.ensures.number in
    let place = c.take_key-key.ensures.place ∙ ap (λ (n : ℕ). field.Out c.args.worker n) number in
    let list = map-set view_of inside.list.items p c.take_key-key.new.place
    ∙ ap (λ (s : Part g.row.CAP). slice_set (map view_of inside.list.items) p (view_of s)) place in
    ap (λ (l : List PartView). record { tag = inside.tag; tally = inside.tally; keys = inside.keys.items; list = l }) list
    ∙ ap (part_taken p c.args.worker next) c.self.view_is

pub returns-clause-kept : goal.returns-clause-kept
returns-clause-kept g c holds =
    let now = c.args.self.now in
    let part = c.args.part in
    let next = next_number c.args.pool.now in
    let numbers = (frames_of now).numbers in
    let pool = c.draw_block-owned.new.pool in
    let tag : c.self.inside.tag ≡ now.tag = ap (λ (v : PartsView). v.tag) c.self.view_is in
    let p = parted numbers part next (no_number now.list part c.requires.ready) in
    let old : Holds c.self.inside.tag (p.0 ++ p.1) c.args.pool.now =
    subst (λ (t : ℕ). Holds t (p.0 ++ p.1) c.args.pool.now) (sym tag) (subst (λ (l : List ℕ). Holds now.tag l c.args.pool.now) p.2 holds) in
    let new = subst (λ (t : ℕ). Holds t (p.0 ++ next ∷ p.1) pool) tag (c.draw_block-owned.ensures.kept p.0 p.1 old) in
    let same = ap flattened (sym (numbers_taken now.list part c.args.worker next)) ∙ ap (λ (v : PartsView). flattened (frames_of v).numbers) (sym (returns-clause-parts g c)) in
    subst (λ (l : List ℕ). Holds now.tag l pool) (sym p.3 ∙ same) new

pub returns-clause-key : goal.returns-clause-key
returns-clause-key g c =
    let inside = c.self.inside in
    let p = c.args.part in
    let key = c.take_key-key.result in
    let free = subst (λ (v : PartsView). slice_get v.list p ≡ Some ready_part) (sym c.self.view_is) c.requires.ready in
    let within = there inside.list.items p ready_part free in
    let place = read_at inside.list.items p c.index_mut.result.now (field.Joining 0) within c.index_mut.ensures.value in
    let own = key_in inside.tally inside.list.items p key c.self.invariant.ready within (sym place ∙ c.take_key-key.ensures.key) in
    subst (λ (v : PartsView). IsKeyAt v.tally (length v.list) p key) c.self.view_is
    (subst (λ (n : ℕ). IsKeyAt inside.tally n p key) (sym (length-map inside.list.items view_of)) own)
