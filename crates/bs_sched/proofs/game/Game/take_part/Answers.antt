use Rattle.std.proofs.Common.{rules, ◌≡◌, ℕ, true, List, [], ◌∷◌, map, refl, sym, ap, subst, ◌∙◌, arith}
use Rattle.bs_fiber.specs.declared.contents.Contents.{Contents}
use Rattle.bs_fiber.specs.declared.job.JobKind.{JobKind}
use Rattle.bs_fiber.specs.declared.job.JobKind.TheVariants as kind
use Rattle.bs_fiber.specs.Tickets.{IsFresh, TicketView, bytes_of, frames_in, fresh_bytes, names_of}
use Rattle.bs_pool.specs.declared.owned.Owned.{Owned}
use Rattle.bs_heap.specs.HeldBlocks.{next_number}
use Rattle.bs_sched.specs.Game.{GameView}
use Rattle.bs_sched.specs.inner.Game.{HasBlocks, game_in, lane_at, own_names}
use Rattle.bs_sched.specs.PartState.{PartState}
use Rattle.bs_sched.specs.MoveParts.{PartsView}
use Rattle.bs_sched.specs.inner.MoveParts.{part_taken, states_of}
use Rattle.bs_sched.specs.inner.Insides.{HasParts}
use Rattle.bs_sched.specs.inner.Inputs.{current_input}
use Rattle.bs_sched.specs.Lane.{Lane, is_out, is_ready, lane_command, lane_view, with_taken}
use Rattle.bs_sched.proofs.ChangedGame.{framed_blocks, game_taken, kept_game, open_ready, taken_parts}
use Rattle.bs_sched.proofs.Lanes.{ready_part}
use Rattle.bs_sched.proofs.FitInputs.{fresh_ticket, lane_input, out_taken, part_input}
use Rattle.bs_sched.proofs.PartFrames.{free_part, one_free, states_taken, taken_fit, taken_numbers}
use Rattle.bs_sched.proofs.game.Game.take_part.Goals as goal

pub take-owned-requires : goal.take-owned-requires
take-owned-requires g c =
    let inside = c.self.inside in
    let p = c.args.job.part in
    let ready = subst (λ (k : JobKind). is_ready (lane_at inside) k p ≡ true) c.requires.kind
    (subst (λ (v : GameView). is_ready v.lane c.args.job.kind p ≡ true) (sym c.self.view_is) c.requires.ready) in
    let free = free_part inside.fiber p inside.parts ready in
    let has = subst (λ (v : GameView). HasBlocks g.row.CAP v c.args.pool.now) (sym c.self.view_is) c.requires.blocks in
    let held = has.frames.all in
    let room = has.frame_room in
    (omega arith, (omega arith, (omega arith, (omega arith, (free, omega (arith, one_free inside.parts p free c.self.invariant.parts.few, held, room))))))

pub new-requires : goal.new-requires
new-requires g c =
    let inside = c.self.inside in
    let job = c.args.job in
    let ps = c.take-owned.new.self in
    let x : Lane = record inside.fiber { parts = states_of ps } in
    let states = ap states_of c.take-owned.ensures.parts ∙ states_taken inside.parts job.part c.args.worker (next_number c.args.pool.now) in
    let lane : x ≡ with_taken c.args.worker kind.Part job.part (lane_at inside) = ap (λ (l : List PartState). record inside.fiber { parts = l }) states in
    let ready = subst (λ (k : JobKind). is_ready (lane_at inside) k job.part ≡ true) c.requires.kind
    (subst (λ (v : GameView). is_ready v.lane job.kind job.part ≡ true) (sym c.self.view_is) c.requires.ready) in
    let held : c.deref_mut-2.result.now.input ≡ current_input (lane_at inside) c.args.worker job
    = ap (λ (t : Contents g.row.CAP). t.input) c.deref_mut-2.ensures.value ∙ ap (λ (t : Contents g.row.CAP). t.input) c.deref_mut.ensures.value
    ∙ c.in_ok-contents.ensures.input ∙ ap (λ (v : GameView). current_input v.lane c.args.worker job) (sym c.self.view_is) in
    let one : c.push_reserved.new.self.items ≡ c.take-owned.result.0 ∷ [] = search rules in
    let bytes : bytes_of (frames_in c.push_reserved.new.self.items) ≡ fresh_bytes kind.Part (lane_view x) (lane_command x)
    = ap (λ (l : List (Owned g.row.CAP)). bytes_of (frames_in l)) one ∙ ap (λ (b : List ℕ). b ∷ []) c.take-owned.ensures.block in
    let input = part_input (lane_at inside) x c.args.worker job c.deref_mut-2.result.now.input c.requires.kind lane held in
    let out : is_out c.args.worker x job.kind job.part ≡ true = rw (lane, c.requires.kind) (out_taken (lane_at inside) c.args.worker kind.Part job.part ready) in
    let many = subst (λ (v : PartsView). HasParts inside.fiber (states_of v)) (sym c.take-owned.ensures.parts)
    (taken_parts g.row.CAP inside job.part c.args.worker (next_number c.args.pool.now) c.self.invariant) in
    let right = c.keeps.ensures (states_of ps) many in
    let ticket : TicketView = record { input = c.deref_mut-2.result.now.input; frames = frames_in c.push_reserved.new.self.items; out = c.deref_mut-2.result.now.out } in
    let fresh : IsFresh ticket = fresh_ticket x c.args.worker job ticket right input
    (subst (λ (k : JobKind). bytes_of ticket.frames ≡ fresh_bytes k (lane_view x) (lane_command x)) (sym c.requires.kind) bytes) in
    (omega arith, (omega arith, (c.self.invariant.wide, (rw input (lane_input x c.args.worker job right out), fresh))))

pub returns-clause-ticket : goal.returns-clause-ticket
returns-clause-ticket g c =
    let inside = c.self.inside in
    let job = c.args.job in
    let ps = c.take-owned.new.self in
    let x : Lane = record inside.fiber { parts = states_of ps } in
    let states = ap states_of c.take-owned.ensures.parts ∙ states_taken inside.parts job.part c.args.worker (next_number c.args.pool.now) in
    let lane : x ≡ with_taken c.args.worker kind.Part job.part (lane_at inside) = ap (λ (l : List PartState). record inside.fiber { parts = l }) states in
    let ready = subst (λ (k : JobKind). is_ready (lane_at inside) k job.part ≡ true) c.requires.kind
    (subst (λ (v : GameView). is_ready v.lane job.kind job.part ≡ true) (sym c.self.view_is) c.requires.ready) in
    let held : c.deref_mut-2.result.now.input ≡ current_input (lane_at inside) c.args.worker job
    = ap (λ (t : Contents g.row.CAP). t.input) c.deref_mut-2.ensures.value ∙ ap (λ (t : Contents g.row.CAP). t.input) c.deref_mut.ensures.value
    ∙ c.in_ok-contents.ensures.input ∙ ap (λ (v : GameView). current_input v.lane c.args.worker job) (sym c.self.view_is) in
    let one : c.push_reserved.new.self.items ≡ c.take-owned.result.0 ∷ [] = search rules in
    let bytes : bytes_of (frames_in c.push_reserved.new.self.items) ≡ fresh_bytes kind.Part (lane_view x) (lane_command x)
    = ap (λ (l : List (Owned g.row.CAP)). bytes_of (frames_in l)) one ∙ ap (λ (b : List ℕ). b ∷ []) c.take-owned.ensures.block in
    let input = part_input (lane_at inside) x c.args.worker job c.deref_mut-2.result.now.input c.requires.kind lane held in
    let many = subst (λ (v : PartsView). HasParts inside.fiber (states_of v)) (sym c.take-owned.ensures.parts)
    (taken_parts g.row.CAP inside job.part c.args.worker (next_number c.args.pool.now) c.self.invariant) in
    let ticket : TicketView = record { input = c.deref_mut-2.result.now.input; frames = frames_in c.push_reserved.new.self.items; out = c.deref_mut-2.result.now.out } in
    let fresh : IsFresh ticket = fresh_ticket x c.args.worker job ticket (c.keeps.ensures (states_of ps) many) input
    (subst (λ (k : JobKind). bytes_of ticket.frames ≡ fresh_bytes k (lane_view x) (lane_command x)) (sym c.requires.kind) bytes) in
    let n = next_number c.args.pool.now in
    let free = free_part inside.fiber job.part inside.parts ready in
    let taken = c.take-owned.ensures in
    let numbers = taken_numbers inside.parts job.kind job.part c.args.worker n c.requires.kind free in
    let pair : ◌≡◌ {A = List (ℕ × ℕ)} ((c.take-owned.result.0.tag, c.take-owned.result.0.number) ∷ []) ((inside.parts.tag, n) ∷ []) = rw (taken.tag, taken.number) refl in
    let own : (inside.parts.tag, n) ∷ [] ≡ own_names (game_in (record inside { parts = part_taken job.part c.args.worker n inside.parts })) job
    = ap (λ (ns : List ℕ). map (λ m. (inside.parts.tag, m)) ns) (sym numbers) in
    let all : own_names (game_in (record inside { parts = part_taken job.part c.args.worker n inside.parts })) job ≡ own_names (game_in (record inside { parts = ps })) job
    = ap (λ (v : PartsView). own_names (game_in (record inside { parts = v })) job) (sym taken.parts) in
    let names = ap (λ (l : List (Owned g.row.CAP)). names_of (frames_in l)) one ∙ pair ∙ own ∙ all in
    record {
      input = ap (λ (t : TicketView). t.input) c.new.ensures ∙ input;
      names = ap (λ (t : TicketView). names_of t.frames) c.new.ensures ∙ names;
      fresh = subst (λ (t : TicketView). IsFresh t) (sym c.new.ensures) fresh;
    }

pub invariant_of-self : goal.invariant_of-self
invariant_of-self g c =
    let inside = c.self.inside in
    let p = c.args.job.part in
    let n = next_number c.args.pool.now in
    let ready = subst (λ (k : JobKind). is_ready (lane_at inside) k p ≡ true) c.requires.kind
    (subst (λ (v : GameView). is_ready v.lane c.args.job.kind p ≡ true) (sym c.self.view_is) c.requires.ready) in
    let stands = open_ready g.row.CAP inside kind.Part p c.self.invariant ready in
    let fit = taken_fit inside.fiber inside.parts p c.args.worker n (ready_part (lane_at inside) p ready) c.self.invariant.parts in
    rw c.take-owned.ensures.parts
    (kept_game g.row.CAP inside inside.fiber inside.heap (part_taken p c.args.worker n inside.parts) c.self.invariant stands (record { row = refl; flag = refl; game = refl }) refl
    c.self.invariant.room (taken_parts g.row.CAP inside p c.args.worker n c.self.invariant) fit)

pub returns-clause-ok : goal.returns-clause-ok
returns-clause-ok g c =
    let inside = c.self.inside in
    let p = c.args.job.part in
    let ready = subst (λ (k : JobKind). is_ready (lane_at inside) k p ≡ true) c.requires.kind
    (subst (λ (v : GameView). is_ready v.lane c.args.job.kind p ≡ true) (sym c.self.view_is) c.requires.ready) in
    game_taken inside c.args.self.now c.take-owned.new.self c.args.worker (next_number c.args.pool.now) c.args.job _ _ c.self.view_is c.requires.kind
    (free_part inside.fiber p inside.parts ready) c.take-owned.ensures.parts

pub returns-clause-blocks : goal.returns-clause-blocks
returns-clause-blocks g c =
    let inside = c.self.inside in
    let has = subst (λ (v : GameView). HasBlocks g.row.CAP v c.args.pool.now) (sym c.self.view_is) c.requires.blocks in
    let drawn = c.take-owned.ensures in
    let held = drawn.kept has.frames in
    framed_blocks g.row.CAP _ _ c.args.pool.now c.take-owned.new.pool has refl refl refl (ap (λ (v : PartsView). v.tag) drawn.parts) held drawn.others
