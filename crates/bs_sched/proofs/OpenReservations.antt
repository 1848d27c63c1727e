-- The reservations of the open stays, in the order of their rows.
use Rattle.std.proofs.Common.{◌≡◌, ℕ, zero, suc, ◌+◌, ◌<◌, Bool, true, false, if◌then◌else◌, List, [], ◌∷◌, ◌++◌, length, refl, sym, ap, ◌∙◌, arith}
use Rattle.std.specs.Prelude.{slice_set}
use Rattle.std.proofs.lemmas.Bool.{eq-eqb, ne_eqb}
use Rattle.std.proofs.lemmas.List.{append_assoc}
use Rattle.bs_board.specs.plans.Plan.{GameRow}
use Rattle.bs_pool.specs.declared.reservation.Reservation.{Reservation}
use Rattle.bs_registry.specs.Blocks.{record_blocks}
use Rattle.bs_registry.specs.declared.blocks.TheConstants.{FRAME_BLOCKS}
use Rattle.bs_sched.specs.Isolation.{opened_lanes}
use Rattle.bs_sched.specs.Lane.{Lane, empty_lane}
use Rattle.bs_sched.specs.Machine.{lane_of}
use Rattle.bs_sched.specs.PlanBlocks.{reservations_from}
use Rattle.bs_sched.specs.Storage.{frame_tag, record_tag}
use Rattle.bs_sched.proofs.Reserved.{rest_of}

-- those of one row
abbrev pub row_reserved : ℕ → ℕ → GameRow → List Reservation
row_reserved cap game row = record { tag = record_tag game; blocks = record_blocks cap row } ∷ record { tag = frame_tag game; blocks = FRAME_BLOCKS } ∷ []

abbrev pub lane_reserved : ℕ → ℕ → Lane → List Reservation
lane_reserved cap game x = if x.is_open then row_reserved cap game x.row else []

abbrev pub lanes_reserved : ℕ → ℕ → List Lane → List Reservation
lanes_reserved cap game [] = []
lanes_reserved cap game (x ∷ lanes) = lane_reserved cap game x ++ lanes_reserved cap (suc game) lanes

pub opened_reserved : (cap game : ℕ) (rows : List GameRow) → reservations_from cap game rows ≡ lanes_reserved cap game (opened_lanes rows)
opened_reserved cap game [] = refl
opened_reserved cap game (row ∷ rows) =
    let next : game + 1 ≡ suc game = omega arith in
    ap (λ g. row_reserved cap game row ++ reservations_from cap g rows) next
    ∙ ap (λ rs. row_reserved cap game row ++ rs) (opened_reserved cap (suc game) rows)

-- a lane changes, and neither its row nor whether it is open
pub same_reserved : (cap first k : ℕ) (lanes : List Lane) (y : Lane) → y.row ≡ (lane_of lanes k).row → y.is_open ≡ (lane_of lanes k).is_open
    → lanes_reserved cap first (slice_set lanes k y) ≡ lanes_reserved cap first lanes
same_reserved cap first k [] y row same = refl
same_reserved cap first zero (x ∷ lanes) y row same =
    ap (λ (b : Bool). (if b then row_reserved cap first y.row else []) ++ lanes_reserved cap (suc first) lanes) same
    ∙ ap (λ (r : GameRow). (if x.is_open then row_reserved cap first r else []) ++ lanes_reserved cap (suc first) lanes) row
same_reserved cap first (suc k) (x ∷ lanes) y row same = ap (λ rs. lane_reserved cap first x ++ rs) (same_reserved cap (suc first) k lanes y row same)

-- a stay is admitted
pub more_reserved : (cap first game : ℕ) (lanes : List Lane) (row : GameRow) → first + length lanes ≡ game
    → lanes_reserved cap first (lanes ++ empty_lane row ∷ []) ≡ lanes_reserved cap first lanes ++ row_reserved cap game row
more_reserved cap first game [] row is =
    let here : first ≡ game = omega (arith, is) in
    ap (λ g. row_reserved cap g row) here
more_reserved cap first game (x ∷ lanes) row is =
    ap (λ rs. lane_reserved cap first x ++ rs) (more_reserved cap (suc first) game lanes row (omega (arith, is)))
    ∙ sym (append_assoc (lane_reserved cap first x) (lanes_reserved cap (suc first) lanes) (row_reserved cap game row))

-- a stay leaves

rest_other : (cap game other : ℕ) (row : GameRow) (b : Bool) (rs : List Reservation) → (other ≡ game → ⊥)
    → rest_of game ((if b then row_reserved cap other row else []) ++ rs) ≡ (if b then row_reserved cap other row else []) ++ rest_of game rs
rest_other cap game other row true rs differ =
    rw (
      ne_eqb (record_tag other) (record_tag game) (λ same. differ (omega (arith, same))),
      ne_eqb (record_tag other) (frame_tag game) (λ same. omega (arith, same)),
      ne_eqb (frame_tag other) (record_tag game) (λ same. omega (arith, same)),
      ne_eqb (frame_tag other) (frame_tag game) (λ same. differ (omega (arith, same))),
    ) refl
rest_other cap game other row false rs differ = refl

rest_own : (cap game : ℕ) (row : GameRow) (b : Bool) (rs : List Reservation)
    → rest_of game ((if b then row_reserved cap game row else []) ++ rs) ≡ rest_of game rs
rest_own cap game row true rs =
    rw (
      eq-eqb (record_tag game) (record_tag game) refl,
      ne_eqb (frame_tag game) (record_tag game) (λ same. omega (arith, same)),
      eq-eqb (frame_tag game) (frame_tag game) refl,
    ) refl
rest_own cap game row false rs = refl

rest_past : (cap game first : ℕ) (lanes : List Lane) → game < first → rest_of game (lanes_reserved cap first lanes) ≡ lanes_reserved cap first lanes
rest_past cap game first [] less = refl
rest_past cap game first (x ∷ lanes) less =
    rest_other cap game first x.row x.is_open (lanes_reserved cap (suc first) lanes) (λ same. omega (arith, same, less))
    ∙ ap (λ rs. lane_reserved cap first x ++ rs) (rest_past cap game (suc first) lanes (omega (arith, less)))

pub left_reserved : (cap first k game : ℕ) (lanes : List Lane) (y : Lane) → first + k ≡ game → k < length lanes → y.is_open ≡ false
    → rest_of game (lanes_reserved cap first lanes) ≡ lanes_reserved cap first (slice_set lanes k y)
left_reserved cap first k game [] y is within shut = absurd (omega (arith, within))
left_reserved cap first zero game (x ∷ lanes) y is within shut =
    let here : game ≡ first = omega (arith, is) in
    let others = lanes_reserved cap (suc first) lanes in
    ap (λ g. rest_of g (lane_reserved cap first x ++ others)) here
    ∙ rest_own cap first x.row x.is_open others
    ∙ rest_past cap first (suc first) lanes (omega arith)
    ∙ ap (λ (b : Bool). (if b then row_reserved cap first y.row else []) ++ others) (sym shut)
left_reserved cap first (suc k) game (x ∷ lanes) y is within shut =
    rest_other cap game first x.row x.is_open (lanes_reserved cap (suc first) lanes) (λ same. omega (arith, same, is))
    ∙ ap (λ rs. lane_reserved cap first x ++ rs) (left_reserved cap (suc first) k game lanes y (omega (arith, is)) (omega (arith, within)) shut)
