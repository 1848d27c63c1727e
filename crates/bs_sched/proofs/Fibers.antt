-- The invariant of a fiber, after each event.
use Rattle.std.proofs.Common.{◌≡◌, ℕ, ◌<◌, true, false, length, refl, sym, subst, ◌∙◌, arith, Global, Vec, vec_len, vec_capacity}
use Rattle.std.specs.Prelude.{Option, Some, None, IfSome, MatchOption, drop, nat_eq}
use Rattle.std.proofs.lemmas.Bool.{eqb-true}
use Rattle.std.proofs.lemmas.List.{length-drop}
use Rattle.bs_board.proofs.Chains.{and_both}
use Rattle.bs_board.specs.declared.commands.reply.Reply.{Reply}
use Rattle.bs_game.specs.Game.{game_charge}
use Rattle.bs_fiber.specs.declared.job.JobKind.TheVariants as kind
use Rattle.bs_sched.specs.declared.fiber.Fiber.TheInside.{Inside}
use Rattle.bs_sched.specs.declared.stage.Stage.TheVariants as stage
use Rattle.bs_sched.specs.inner.Insides.{lane_in, IsFiber}
use Rattle.bs_sched.specs.Lane.{Lane, goes_on, is_idle, is_quiet, is_ready, with_taken}
use Rattle.bs_sched.proofs.Lanes.{ready_join, joined_lane}

-- the stage of a fiber whose Join is ready
at_join : (f : Inside) (x : Lane) → lane_in f ≡ x → is_ready x kind.Join 0 ≡ true → f.stage ≡ stage.Join None
at_join f x is ready = ready_join (lane_in f) (subst (λ (y : Lane). is_ready y kind.Join 0 ≡ true) (sym is) ready)

-- the Join is taken

pub joined_fiber : (f : Inside) (x : Lane) (replies : Vec Reply Global) (worker : ℕ) → IsFiber f → lane_in f ≡ x
    → is_ready x kind.Join 0 ≡ true → replies.items ≡ f.replies.items → vec_len replies < vec_capacity replies
    → IsFiber (record f { replies = replies; stage = stage.Join (Some worker) })
joined_fiber f x replies worker kept is ready same room =
    let at = at_join f x is ready in
    let new : Inside = record f { replies = replies; stage = stage.Join (Some worker) } in
    let lane : lane_in new ≡ with_taken worker kind.Join 0 (lane_in f)
    = joined_lane f (lane_in f) replies worker refl (subst (λ (y : Lane). is_ready y kind.Join 0 ≡ true) (sym is) ready) same in
    record {
      begun = kept.begun;
      at = λ idle. kept.at (rw at refl);
      closed = λ shut. let wrong : false ≡ true = rw at at (kept.closed shut).0 in absurd cc;
      small = kept.small;
      fits = kept.fits;
      replies = same ∙ (rw at at kept.replies);
      last = rw at at kept.last;
      goes = λ plays. subst (λ (y : Lane). goes_on y ≡ true) (sym lane) (kept.goes (rw at refl));
      room = λ answers. room;
    }

-- the stay leaves
pub closed_fiber : (f : Inside) (charge : ℕ) → IsFiber f → is_quiet (lane_in f) ≡ true → charge ≡ game_charge (lane_in f).game
    → IsFiber (record f { left = Some charge })
closed_fiber f charge kept quiet is =
    let both = and_both (is_idle f.stage) (nat_eq (length (drop f.begun f.commands.items)) 0) quiet in
    let none : length (drop f.begun f.commands.items) ≡ 0 = eqb-true (length (drop f.begun f.commands.items)) 0 both.1 in
    let all : f.begun ≡ length f.commands.items = let long = length-drop f.begun f.commands.items in let begun = kept.begun in omega (arith, none, long, begun) in
    record {
      begun = kept.begun;
      at = kept.at;
      closed = λ _. (both.0, all, is);
      last = kept.last;
      small = kept.small;
      fits = kept.fits;
      replies = kept.replies;
      goes = kept.goes;
      room = kept.room;
    }

-- the charge of its records, if it has left
ended_by : (f : Inside) (left : Option ℕ) → IsFiber f → f.left ≡ left
    → MatchOption left ((lane_in f).is_open ≡ true) (λ charge. charge ≡ game_charge (lane_in f).game)
ended_by f None kept is = rw is refl
ended_by f (Some charge) kept is =
    let closed = kept.closed (rw is refl) in
    subst (λ (l : Option ℕ). IfSome l (λ charge. charge ≡ game_charge (lane_in f).game)) is closed.2

pub ended : (f : Inside) → IsFiber f → MatchOption f.left ((lane_in f).is_open ≡ true) (λ charge. charge ≡ game_charge (lane_in f).game)
ended f kept = ended_by f f.left kept refl
