-- The reservations of the games of a plan, from which nothing is drawn yet.
use Rattle.std.proofs.Common.{◌≡◌, ◌≢◌, ℕ, zero, suc, ◌+◌, ◌*◌, ◌<◌, ◌≤◌, true, false, List, [], ◌∷◌, ◌++◌, None, Some, length, slice_index_or, refl, ap, ◌∙◌, arith, inl, inr, All}
use Rattle.std.proofs.lemmas.Bool.{cases_Bool, eqb-true, eq-eqb, ne_eqb}
use Rattle.std.proofs.lemmas.List.Elements.{All-tail, filter-append}
use Rattle.std.specs.Prelude.{IsSome, nat_eq, not, find, count_by}
use Rattle.bs_board.specs.plans.Plan.{GameRow}
use Rattle.bs_pool.specs.declared.reservation.Reservation.{Reservation}
use Rattle.bs_pool.proofs.Soundness.{held_opened}
use Rattle.bs_pool.proofs.Reservations.{reserved_none, reserved_pushed, reserved_some, reserved_without_other, unreserved_pushed}
use Rattle.bs_registry.specs.declared.blocks.TheConstants.{FRAME_BLOCKS}
use Rattle.bs_pool.specs.Ledger.{IsSound, held, ledger_of, reserved, size, unreserved, Ledger, reservation_of, opened, is_owned_by, with_reservation, without_reservation}
use Rattle.bs_pool.specs.Reservations.{is_of, reserved_by, all_reserved, without}
use Rattle.bs_heap.specs.HeldBlocks.{Holds}
use Rattle.bs_registry.specs.Blocks.{record_blocks}
use Rattle.bs_sched.specs.PlanBlocks.{reservations_from, reservations_of}

-- no tag from some tag on has a reservation if all reserved tags are below it
none_above : (least tag : ℕ) (rs : List Reservation) → All (λ r. r.tag < least) rs → least ≤ tag → find (is_of tag) rs ≡ None
none_above least tag [] below above = refl
none_above least tag (r ∷ rs) below above =
    elim (cases_Bool (nat_eq r.tag tag)) [
      | inl same ↦
          let is = eqb-true r.tag tag same in
          let less : r.tag < least = below zero r (omega arith) in
          absurd (omega arith)
      | inr differ ↦ rw differ (none_above least tag rs (All-tail (λ r. r.tag < least) r rs below) above)
    ]

pub none_from : (place : ℕ) (pool : Ledger) → All (λ r. r.tag < 2 * place) pool.reservations → reservation_of (2 * place) pool ≡ None
none_from place pool below = none_above (2 * place) (2 * place) pool.reservations below (omega arith)

pub none_next : (place : ℕ) (pool : Ledger) → All (λ r. r.tag < 2 * place) pool.reservations → reservation_of (2 * place + 1) pool ≡ None
none_next place pool below = none_above (2 * place) (2 * place + 1) pool.reservations below (omega arith)

more_above : (tag : ℕ) (rs : List Reservation) (r : Reservation) → find (is_of tag) rs ≡ None → r.tag ≢ tag → find (is_of tag) (rs ++ r ∷ []) ≡ None
more_above tag [] r none other =
    elim (cases_Bool (nat_eq r.tag tag)) [
      | inl same ↦ absurd (other (eqb-true r.tag tag same))
      | inr differ ↦ rw differ refl
    ]
more_above tag (first ∷ rs) r none other =
    elim (cases_Bool (nat_eq first.tag tag)) [
      | inl same ↦
          let wrong : Some first ≡ None = rw same at none in
          cc
      | inr differ ↦
          let rest : find (is_of tag) rs ≡ None = rw differ at none in
          rw differ (more_above tag rs r rest other)
    ]

-- the place of each game's record blocks among the reservations
reserved_place : (cap from place at : ℕ) (rows : List GameRow) (d : GameRow) → at ≡ from + place → place < length rows
    → reserved_by (2 * at) (reservations_from cap from rows) ≡ record_blocks cap (slice_index_or rows place d)
reserved_place cap from place at [] d is within = absurd (omega arith)
reserved_place cap from zero at (row ∷ rows) d is within =
    let here : nat_eq (2 * from) (2 * at) ≡ true = eq-eqb _ _ (omega arith) in
    rw here refl
reserved_place cap from (suc place) at (row ∷ rows) d is within =
    let here : nat_eq (2 * from) (2 * at) ≡ false = ne_eqb _ _ (λ same. omega arith) in
    let next : nat_eq (2 * from + 1) (2 * at) ≡ false = ne_eqb _ _ (λ same. omega arith) in
    rw (here, next) (reserved_place cap (from + 1) place at rows d (omega arith) (omega arith))

pub reserved_for_row : (cap game : ℕ) (rows : List GameRow) (d : GameRow) → game < length rows
    → reserved_by (2 * game) (reservations_of cap rows) ≡ record_blocks cap (slice_index_or rows game d)
reserved_for_row cap game rows d within = reserved_place cap 0 game game rows d (omega arith) within

-- and the place of its frame blocks
frames_place : (cap from place at : ℕ) (rows : List GameRow) → at ≡ from + place → place < length rows
    → reserved_by (2 * at + 1) (reservations_from cap from rows) ≡ FRAME_BLOCKS
frames_place cap from place at [] is within = absurd (omega arith)
frames_place cap from zero at (row ∷ rows) is within =
    let beside : nat_eq (2 * from) (2 * at + 1) ≡ false = ne_eqb _ _ (λ same. omega arith) in
    let here : nat_eq (2 * from + 1) (2 * at + 1) ≡ true = eq-eqb _ _ (omega arith) in
    rw (beside, here) refl
frames_place cap from (suc place) at (row ∷ rows) is within =
    let beside : nat_eq (2 * from) (2 * at + 1) ≡ false = ne_eqb _ _ (λ same. omega arith) in
    let next : nat_eq (2 * from + 1) (2 * at + 1) ≡ false = ne_eqb _ _ (λ same. omega arith) in
    rw (beside, next) (frames_place cap (from + 1) place at rows (omega arith) (omega arith))

pub reserved_for_frames : (cap game : ℕ) (rows : List GameRow) → game < length rows → reserved_by (2 * game + 1) (reservations_of cap rows) ≡ FRAME_BLOCKS
reserved_for_frames cap game rows within = frames_place cap 0 game game rows (omega arith) within

-- no tag has a block of a pool that was just opened
pub nothing_held : (blocks tag : ℕ) (pool : Ledger) → pool.owners ≡ (opened blocks).owners → Holds tag [] pool
nothing_held blocks tag pool same =
    record {
      owned = record { each = λ i d within. absurd (omega arith); once = λ i j d less within. absurd (omega arith) };
      all = ap (count_by (is_owned_by tag)) same ∙ held_opened tag blocks;
    }

-- the two tags of a game are above those of the games before it

pub none_beside : (place blocks : ℕ) (pool : Ledger) → All (λ r. r.tag < 2 * place) pool.reservations
    → reservation_of (2 * place + 1) (with_reservation (2 * place) blocks pool) ≡ None
none_beside place blocks pool below =
    more_above (2 * place + 1) pool.reservations (record { tag = 2 * place; blocks = blocks })
    (none_above (2 * place) (2 * place + 1) pool.reservations below (omega arith)) (λ same. omega arith)

-- after its record blocks a game's frame blocks can be reserved
pub frames_fit : (game tag blocks : ℕ) (pool reserved_pool : Ledger) → reserved_pool ≡ with_reservation (2 * game) blocks pool
    → All (λ r. r.tag < 2 * game) pool.reservations → all_reserved pool.reservations + (blocks + FRAME_BLOCKS) ≤ size pool → tag ≡ 2 * game
    → (reservation_of (tag + 1) reserved_pool ≡ None) × (FRAME_BLOCKS ≤ unreserved reserved_pool)
frames_fit game tag blocks pool reserved_pool is below room same =
    let left = unreserved_pushed (2 * game) blocks pool in
    (rw (is, same) (none_beside game blocks pool below), rw is (omega (arith, left)))

-- a reservation that was just made is ended

removed_pushed : (tag n : ℕ) (rs : List Reservation) → find (is_of tag) rs ≡ None → without tag (rs ++ record { tag = tag; blocks = n } ∷ []) ≡ rs
removed_pushed tag n [] none = let same : nat_eq tag tag ≡ true = eq-eqb tag tag refl in rw same refl
removed_pushed tag n (r ∷ rs) none =
    elim (cases_Bool (nat_eq r.tag tag)) [
      | inl same ↦
          let wrong : Some r ≡ None = rw same at none in
          cc
      | inr differ ↦
          let rest : find (is_of tag) rs ≡ None = rw differ at none in
          rw (differ, removed_pushed tag n rs rest) refl
    ]

-- and two that were just made are
pub both_removed : (tag m n : ℕ) (rs : List Reservation) → find (is_of tag) rs ≡ None → find (is_of (tag + 1)) rs ≡ None
    → without (tag + 1) (without tag ((rs ++ record { tag = tag; blocks = m } ∷ []) ++ record { tag = tag + 1; blocks = n } ∷ [])) ≡ rs
both_removed tag m n rs none none_beside =
    let other : nat_eq (tag + 1) tag ≡ false = ne_eqb _ _ (λ same. omega (arith, same)) in
    let apart = filter-append (λ (r : Reservation). not (is_of tag r)) (rs ++ record { tag = tag; blocks = m } ∷ []) (record { tag = tag + 1; blocks = n } ∷ []) in
    rw (apart, removed_pushed tag m rs none, other) (removed_pushed (tag + 1) n rs none_beside)

pub record IsTakenBack (tag : ℕ) (old new : Ledger) : Type 0 where
  pub some : IsSome (reservation_of tag new)
  pub idle : held tag new ≡ 0
  pub same : without_reservation tag new ≡ old

pub taken_back : (tag n : ℕ) (old new : Ledger) → IsSound old → reservation_of tag old ≡ None → 1 ≤ n → new ≡ with_reservation tag n old → IsTakenBack tag old new
taken_back tag n old new sound none some is =
    let kept = sound.kept tag in
    let nothing = reserved_none tag old.reservations none in
    let many = reserved_pushed tag n old.reservations none in
    rw is (record {
      some = reserved_some tag (old.reservations ++ record { tag = tag; blocks = n } ∷ []) (omega (arith, many, some));
      idle = omega (arith, kept, nothing);
      same = ap (ledger_of old.owners) (removed_pushed tag n old.reservations none);
    })

-- both reservations of a stay are ended

pub first_released : (game tag : ℕ) (pool : Ledger) → tag ≡ 2 * game → 0 < reserved (2 * game) pool → held (2 * game) pool ≡ 0
    → IsSome (reservation_of tag pool) × (held tag pool ≡ 0)
first_released game tag pool is some none = rw is (reserved_some (2 * game) pool.reservations some, none)

pub second_released : (game tag : ℕ) (pool mid : Ledger) → tag ≡ 2 * game → 0 < reserved (2 * game + 1) pool → held (2 * game + 1) pool ≡ 0
    → mid ≡ without_reservation tag pool → IsSome (reservation_of (tag + 1) mid) × (held (tag + 1) mid ≡ 0)
second_released game tag pool mid is some none gone =
    let beside = reserved_without_other (2 * game) (2 * game + 1) pool.reservations (λ same. omega arith) in
    rw (gone, is) (reserved_some (2 * game + 1) (without (2 * game) pool.reservations) (omega (arith, beside, some)), none)
