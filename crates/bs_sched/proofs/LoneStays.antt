-- The only stay of a core, which stays open or leaves.
use Rattle.std.proofs.Common.{◌≡◌, ℕ, true, List, [], ◌∷◌, length, refl, ap, ◌∙◌, arith}
use Rattle.std.specs.Prelude.{Option, Some, None, count_by, slice_index_or, slice_set}
use Rattle.std.specs.List.{list_all}
use Rattle.std.proofs.lemmas.Bool.{and_from}
use Rattle.std.proofs.lemmas.List.{get_or-set_same, length-set}
use Rattle.bs_board.proofs.Chains.{and_both}
use Rattle.bs_heap.specs.Packing.{Packing, no_packing}
use Rattle.bs_pool.specs.Ledger.{Ledger, free, is_unowned, size}
use Rattle.bs_sched.specs.declared.event.Event.{Event}
use Rattle.bs_sched.specs.declared.event.Event.TheVariants as event
use Rattle.bs_sched.specs.Assembly.{own_frames, own_lane}
use Rattle.bs_sched.specs.Core.{CoreView}
use Rattle.bs_sched.specs.Game.{GameView}
use Rattle.bs_sched.specs.Games.{GamesView, after}
use Rattle.bs_sched.specs.Journal.{IsItsJournal}
use Rattle.bs_sched.specs.Lane.{Lane, closed_lane, is_quiet, may_leave, no_lane}
use Rattle.bs_sched.specs.Machine.{lane_of}
use Rattle.bs_sched.specs.LoneStay.{LoneView, kept_of_core, left_of_core}
use Rattle.bs_sched.specs.Storage.{packing_of}
use Rattle.bs_sched.specs.inner.Assembling.{IsOnly}
use Rattle.bs_sched.specs.inner.GamesLayout.{lanes_in, storage_in}
use Rattle.bs_sched.proofs.ApartGames.{all_unowned}
use Rattle.bs_sched.proofs.ApartStep.{IsLone}
use Rattle.bs_sched.proofs.StayLeaves.{left_free}

abbrev pub lone_with : GameView → List Event → Option Ledger → LoneView
lone_with v events pool = record { lane = v.lane; packing = v.packing; frames = v.frames.numbers; journal = events; pool = pool }

-- the open stay of a core
pub is_kept : (core : CoreView) (v : GameView) (events : List Event) (pool : Ledger) → IsOnly core.games v → events ≡ core.journal → pool ≡ core.games.storage.pool
    → lone_with v events (Some pool) ≡ kept_of_core core
is_kept core v events pool only same blocks =
    ap (λ (x : Lane). record { lane = x; packing = v.packing; frames = v.frames.numbers; journal = events; pool = Some pool }) only.lane
    ∙ ap (λ (p : Packing). record { lane = own_lane core; packing = p; frames = v.frames.numbers; journal = events; pool = Some pool }) only.packing
    ∙ ap (λ (f : List (Option ℕ)). record { lane = own_lane core; packing = packing_of core.games.storage 0; frames = f; journal = events; pool = Some pool }) only.numbers
    ∙ ap (λ (es : List Event). record { lane = own_lane core; packing = packing_of core.games.storage 0; frames = own_frames core; journal = es; pool = Some pool }) same
    ∙ ap (λ (l : Ledger). record { lane = own_lane core; packing = packing_of core.games.storage 0; frames = own_frames core; journal = core.journal; pool = Some l }) blocks

none_packed : (packings : List Packing) → slice_index_or (slice_set packings 0 no_packing) 0 no_packing ≡ no_packing
none_packed [] = refl
none_packed (p ∷ packings) = refl

-- a list of one game
pub one_lone : (games : List GameView) (pool : Ledger) → length (lanes_in games) ≡ 1 → IsLone (storage_in games pool)
one_lone [] pool one = absurd (omega (arith, one))
one_lone (v ∷ []) pool one = refl
one_lone (v ∷ w ∷ games) pool one = absurd (omega (arith, one))

-- the only stay may leave
pub may_go : (lanes : List Lane) → length lanes ≡ 1 → (lane_of lanes 0).is_open ≡ true → list_all is_quiet lanes ≡ true → may_leave (lane_of lanes 0) ≡ true
may_go [] one stands quiet = absurd (omega (arith, one))
may_go (x ∷ lanes) one stands quiet = and_from x.is_open (is_quiet x) stands (and_both _ _ quiet).0

module _ (cap : ℕ) (core : CoreView) (journaled : IsItsJournal cap core) (one : length core.games.lanes ≡ 1) (may : may_leave (own_lane core) ≡ true) where
  abbrev pub games_left : GamesView
  games_left = after cap core.games (event.Leave 0)

  pub one_left : length games_left.lanes ≡ 1
  one_left = length-set core.games.lanes 0 (closed_lane (own_lane core)) ∙ one

  pub is_left : (v : GameView) (events : List Event) → IsOnly games_left v → events ≡ core.journal → lone_with v events None ≡ left_of_core core
  is_left v events only same =
      ap (λ (x : Lane). record { lane = x; packing = v.packing; frames = v.frames.numbers; journal = events; pool = None })
      (only.lane ∙ get_or-set_same core.games.lanes 0 (closed_lane (own_lane core)) no_lane (omega (arith, one)))
      ∙ ap (λ (p : Packing). record { lane = closed_lane (own_lane core); packing = p; frames = v.frames.numbers; journal = events; pool = None })
      (only.packing ∙ none_packed core.games.storage.packings)
      ∙ ap (λ (f : List (Option ℕ)). record { lane = closed_lane (own_lane core); packing = no_packing; frames = f; journal = events; pool = None }) only.numbers
      ∙ ap (λ (es : List Event). record { lane = closed_lane (own_lane core); packing = no_packing; frames = own_frames core; journal = es; pool = None }) same

  pub blocks_left : IsLone core.games.storage → free games_left.storage.pool ≡ size core.games.storage.pool
  blocks_left lone = ap (count_by is_unowned) (left_free cap core journaled one lone may) ∙ all_unowned (size core.games.storage.pool)
