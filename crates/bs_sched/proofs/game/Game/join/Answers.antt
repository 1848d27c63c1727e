use Rattle.std.proofs.Common.{rules, ◌≡◌, ◌≤◌, true, List, [], map, sym, ap, subst, ◌∙◌, arith, vec_capacity}
use Rattle.std.proofs.lemmas.Grind.{common_steps}
use Rattle.bs_fiber.specs.declared.contents.Contents.{Contents}
use Rattle.bs_fiber.specs.declared.job.JobKind.{JobKind}
use Rattle.bs_fiber.specs.declared.job.JobKind.TheVariants as kind
use Rattle.bs_fiber.specs.Tickets.{IsFresh, TicketView, bytes_of, frames_in, fresh_bytes, names_of}
use Rattle.bs_pool.specs.declared.owned.Owned.{Owned}
use Rattle.bs_sched.specs.Game.{GameView}
use Rattle.bs_sched.specs.inner.Game.{lane_at}
use Rattle.bs_sched.specs.inner.Insides.{HasParts}
use Rattle.bs_sched.specs.MoveParts.{PartsView}
use Rattle.bs_sched.specs.inner.MoveParts.{frames_of, parts_joined, states_of}
use Rattle.bs_sched.specs.PartState.{PartState}
use Rattle.bs_sched.specs.Inputs.{written_by}
use Rattle.bs_sched.specs.inner.Inputs.{current_input}
use Rattle.bs_sched.specs.Lane.{Lane, is_out, is_ready, lane_command, lane_view, with_taken}
use Rattle.bs_sched.proofs.ChangedGame.{game_joined, joined_parts, kept_game, open_ready, taken_boards}
use Rattle.bs_sched.proofs.FitInputs.{fresh_ticket, join_input, joining_bytes, lane_input, out_taken}
use Rattle.bs_sched.proofs.JoinFrames.{join_names, joined_fit, joined_moved, seen_joined, states_joined, to_join}
use Rattle.bs_sched.proofs.game.Game.join.Goals as goal

pub join-requires-2 : goal.join-requires-2
join-requires-2 g c =
    let inside = c.self.inside in
    let p = c.args.job.part in
    let ready = subst (λ (k : JobKind). is_ready (lane_at inside) k p ≡ true) c.requires.kind
    (subst (λ (v : GameView). is_ready v.lane c.args.job.kind p ≡ true) (sym c.self.view_is) c.requires.ready) in
    let here = to_join inside.fiber inside.parts p ready c.self.invariant.parts in
    let few = here.few in
    let none : c.in_ok-moved.moved.items ≡ [] = search rules in
    let room : 4 ≤ vec_capacity c.in_ok-moved.moved = grind (arith, common_steps) in
    let no_blocks : c.deref_mut-2.result.now.frames.items ≡ [] = search rules in
    let blocks : 4 ≤ vec_capacity c.deref_mut-2.result.now.frames = grind (arith, common_steps) in
    (omega arith, (omega arith, ((_, here.back), (none, (omega (arith, few, room), (no_blocks, omega (arith, few, blocks)))))))

pub new-requires : goal.new-requires
new-requires g c =
    let inside = c.self.inside in
    let job = c.args.job in
    let y = c.join.new.self in
    let ps = c.join-2.new.self in
    let x : Lane = record y { parts = states_of ps } in
    let ready = subst (λ (k : JobKind). is_ready (lane_at inside) k job.part ≡ true) c.requires.kind
    (subst (λ (v : GameView). is_ready v.lane job.kind job.part ≡ true) (sym c.self.view_is) c.requires.ready) in
    let here = to_join inside.fiber inside.parts job.part ready c.self.invariant.parts in
    let states = ap states_of c.join-2.ensures.parts ∙ states_joined inside.parts in
    let lane : x ≡ with_taken c.args.worker kind.Join job.part (lane_at inside) = rw c.in_ok-join.ensures.ok (ap (λ (l : List PartState). record (with_taken c.args.worker kind.Join job.part inside.fiber) { parts = l }) states) in
    let held : c.deref_mut-3.result.now.input ≡ current_input (lane_at inside) c.args.worker job
    = ap (λ (t : Contents g.row.CAP). t.input) c.deref_mut-3.ensures.value ∙ ap (λ (t : Contents g.row.CAP). t.input) c.deref_mut-2.ensures.value
    ∙ ap (λ (t : Contents g.row.CAP). t.input) c.deref_mut.ensures.value ∙ c.in_ok-contents.ensures.input
    ∙ ap (λ (v : GameView). current_input v.lane c.args.worker job) (sym c.self.view_is) in
    let blocks : c.deref_mut-3.result.now.frames.items ≡ c.join-2.new.frames.items = ap (λ (t : Contents g.row.CAP). t.frames.items) c.deref_mut-3.ensures.value in
    let wrote = joined_moved inside.fiber inside.parts here in
    let moved = c.from_vec.ensures ∙ c.join-2.ensures.moved ∙ ap (map (λ w. w.pieces)) wrote in
    let input = join_input (lane_at inside) x c.args.worker job c.deref_mut-3.result.now.input c.from_vec.result c.requires.kind lane held moved in
    let out : is_out c.args.worker x job.kind job.part ≡ true = rw (lane, c.requires.kind) (out_taken (lane_at inside) c.args.worker kind.Join job.part ready) in
    let many = subst (λ (v : PartsView). HasParts y (states_of v)) (sym c.join-2.ensures.parts)
    (joined_parts g.row.CAP inside y job.part c.args.worker ready c.self.invariant c.in_ok-join.ensures.ok) in
    let right = c.keeps.ensures (states_of ps) many in
    let joins = subst (λ (k : JobKind). is_out c.args.worker x k job.part ≡ true) c.requires.kind out in
    let bytes : bytes_of (frames_in c.deref_mut-3.result.now.frames.items) ≡ fresh_bytes kind.Join (lane_view x) (lane_command x)
    = ap (λ (l : List (Owned g.row.CAP)). bytes_of (frames_in l)) blocks ∙ c.join-2.ensures.bytes ∙ ap (map (λ w. w.bytes)) wrote
    ∙ ap (λ (l : Lane). map (λ w. w.bytes) (written_by l)) (sym lane) ∙ joining_bytes x c.args.worker job.part right joins in
    let ticket : TicketView = record { input = record c.deref_mut-3.result.now.input { parts = c.from_vec.result }; frames = frames_in c.deref_mut-3.result.now.frames.items; out = c.deref_mut-3.result.now.out } in
    let fresh : IsFresh ticket = fresh_ticket x c.args.worker job ticket right input
    (subst (λ (k : JobKind). bytes_of ticket.frames ≡ fresh_bytes k (lane_view x) (lane_command x)) (sym c.requires.kind) bytes) in
    (omega arith, (omega arith, (c.self.invariant.wide, (rw input (lane_input x c.args.worker job right out), fresh))))

pub invariant_of-self-2 : goal.invariant_of-self-2
invariant_of-self-2 g c =
    let inside = c.self.inside in
    let p = c.args.job.part in
    let y = c.join.new.self in
    let ready = subst (λ (k : JobKind). is_ready (lane_at inside) k p ≡ true) c.requires.kind
    (subst (λ (v : GameView). is_ready v.lane c.args.job.kind p ≡ true) (sym c.self.view_is) c.requires.ready) in
    let stands = open_ready g.row.CAP inside kind.Join p c.self.invariant ready in
    let lane : y ≡ with_taken c.args.worker kind.Join p inside.fiber = c.in_ok-join.ensures.ok in
    rw c.join-2.ensures.parts
    (kept_game g.row.CAP inside y c.grow_index.new.self (parts_joined inside.parts) c.self.invariant stands (taken_boards inside.fiber y c.args.worker kind.Join p lane)
    c.grow_index.ensures.heap (λ may. c.in_ok-grow_index.ensures.ok) (joined_parts g.row.CAP inside y p c.args.worker ready c.self.invariant lane)
    (joined_fit inside.fiber y inside.parts c.args.worker p lane c.self.invariant.parts))

pub returns-clause-ok : goal.returns-clause-ok
returns-clause-ok g c =
    game_joined c.self.inside c.args.self.now c.join.new.self c.grow_index.new.self c.join-2.new.self c.args.worker 0 c.args.job _ _ c.self.view_is c.requires.kind
    c.in_ok-join.ensures.ok c.grow_index.ensures.heap c.join-2.ensures.parts

pub returns-clause-ticket : goal.returns-clause-ticket
returns-clause-ticket g c =
    let inside = c.self.inside in
    let job = c.args.job in
    let y = c.join.new.self in
    let ps = c.join-2.new.self in
    let x : Lane = record y { parts = states_of ps } in
    let ready = subst (λ (k : JobKind). is_ready (lane_at inside) k job.part ≡ true) c.requires.kind
    (subst (λ (v : GameView). is_ready v.lane job.kind job.part ≡ true) (sym c.self.view_is) c.requires.ready) in
    let here = to_join inside.fiber inside.parts job.part ready c.self.invariant.parts in
    let states = ap states_of c.join-2.ensures.parts ∙ states_joined inside.parts in
    let lane : x ≡ with_taken c.args.worker kind.Join job.part (lane_at inside) = rw c.in_ok-join.ensures.ok (ap (λ (l : List PartState). record (with_taken c.args.worker kind.Join job.part inside.fiber) { parts = l }) states) in
    let held : c.deref_mut-3.result.now.input ≡ current_input (lane_at inside) c.args.worker job
    = ap (λ (t : Contents g.row.CAP). t.input) c.deref_mut-3.ensures.value ∙ ap (λ (t : Contents g.row.CAP). t.input) c.deref_mut-2.ensures.value
    ∙ ap (λ (t : Contents g.row.CAP). t.input) c.deref_mut.ensures.value ∙ c.in_ok-contents.ensures.input
    ∙ ap (λ (v : GameView). current_input v.lane c.args.worker job) (sym c.self.view_is) in
    let blocks : c.deref_mut-3.result.now.frames.items ≡ c.join-2.new.frames.items = ap (λ (t : Contents g.row.CAP). t.frames.items) c.deref_mut-3.ensures.value in
    let wrote = joined_moved inside.fiber inside.parts here in
    let moved = c.from_vec.ensures ∙ c.join-2.ensures.moved ∙ ap (map (λ w. w.pieces)) wrote in
    let input = join_input (lane_at inside) x c.args.worker job c.deref_mut-3.result.now.input c.from_vec.result c.requires.kind lane held moved in
    let out : is_out c.args.worker x job.kind job.part ≡ true = rw (lane, c.requires.kind) (out_taken (lane_at inside) c.args.worker kind.Join job.part ready) in
    let many = subst (λ (v : PartsView). HasParts y (states_of v)) (sym c.join-2.ensures.parts)
    (joined_parts g.row.CAP inside y job.part c.args.worker ready c.self.invariant c.in_ok-join.ensures.ok) in
    let right = c.keeps.ensures (states_of ps) many in
    let joins = subst (λ (k : JobKind). is_out c.args.worker x k job.part ≡ true) c.requires.kind out in
    let bytes : bytes_of (frames_in c.deref_mut-3.result.now.frames.items) ≡ fresh_bytes kind.Join (lane_view x) (lane_command x)
    = ap (λ (l : List (Owned g.row.CAP)). bytes_of (frames_in l)) blocks ∙ c.join-2.ensures.bytes ∙ ap (map (λ w. w.bytes)) wrote
    ∙ ap (λ (l : Lane). map (λ w. w.bytes) (written_by l)) (sym lane) ∙ joining_bytes x c.args.worker job.part right joins in
    let ticket : TicketView = record { input = record c.deref_mut-3.result.now.input { parts = c.from_vec.result }; frames = frames_in c.deref_mut-3.result.now.frames.items; out = c.deref_mut-3.result.now.out } in
    let fresh : IsFresh ticket = fresh_ticket x c.args.worker job ticket right input
    (subst (λ (k : JobKind). bytes_of ticket.frames ≡ fresh_bytes k (lane_view x) (lane_command x)) (sym c.requires.kind) bytes) in
    let names = ap (λ (l : List (Owned g.row.CAP)). names_of (frames_in l)) blocks
    ∙ join_names job.kind job.part (frames_of inside.parts) (frames_of ps) _ c.requires.kind (ap frames_of c.join-2.ensures.parts ∙ seen_joined inside.parts) c.join-2.ensures.names in
    record {
      input = ap (λ (t : TicketView). t.input) c.new.ensures ∙ input;
      names = ap (λ (t : TicketView). names_of t.frames) c.new.ensures ∙ names;
      fresh = subst (λ (t : TicketView). IsFresh t) (sym c.new.ensures) fresh;
    }
