-- All stays' records and blocks, after any events.
use Rattle.std.proofs.Common.{◌≡◌, ◌≢◌, ℕ, zero, suc, ◌+◌, ◌<◌, ◌≤◌, true, false, List, [], ◌∷◌, ◌++◌, length, Option, Some, None, IsSome, refl, ap, ◌∙◌, arith, inl, inr}
use Rattle.std.specs.Prelude.{slice_index_or, slice_set, unwrap_or}
use Rattle.std.proofs.lemmas.Bool.{cases_Bool, cases_eq, cases_lt}
use Rattle.std.proofs.lemmas.List.{length-map, length-set, length_push, get_or-set_other, get_or_append_left, get_or_push}
use Rattle.std.proofs.lemmas.List.Sums.{sum_by-set, sum_by_push}
use Rattle.std.proofs.lemmas.Grind.{get_or-set_at}
use Rattle.bs_block.specs.Rounding.{rounded}
use Rattle.bs_board.specs.plans.Plan.{GameRow}
use Rattle.bs_game.specs.declared.reply.Effect.{Effect}
use Rattle.bs_game.specs.declared.reply.Effect.TheVariants as effect
use Rattle.bs_game.specs.Law.{IsFitEffect}
use Rattle.bs_fiber.specs.declared.job.JobKind.TheVariants as kind
use Rattle.bs_heap.specs.declared.heap.TheConstants.{MOST_RECORD_BYTES}
use Rattle.bs_heap.specs.Charge.{charge_of, blocks_for}
use Rattle.bs_heap.specs.HeldBlocks.{Holds, LeavesOthers, next_number}
use Rattle.bs_heap.specs.Packing.{Packing, uses, numbers_of, no_packing}
use Rattle.bs_heap.proofs.Fullness.{few_blocks, may_draw, full_none}
use Rattle.bs_heap.proofs.PackedPlaces.{apart_none}
use Rattle.bs_pool.specs.declared.reservation.Reservation.{Reservation}
use Rattle.bs_pool.specs.Ledger.{Ledger, ledger_of, Owns, size, free, held, reserved, least_free, is_unowned}
use Rattle.bs_pool.specs.Reservations.{reserved_by}
use Rattle.bs_pool.proofs.Owners.{all_numbers}
use Rattle.bs_pool.proofs.Pigeonhole.{left_free}
use Rattle.bs_pool.proofs.Soundness.{first_some}
use Rattle.bs_sched.specs.Memory.{Memory, block_in, CanDraw}
use Rattle.bs_registry.specs.Blocks.{record_blocks}
use Rattle.bs_sched.specs.SharedMemory.{all_held}
use Rattle.bs_sched.specs.Storage.{record_tag, frame_tag}
use Rattle.bs_sched.proofs.PlacedRecords.{laid_elsewhere, laid_nothing}
use Rattle.bs_sched.proofs.StoredRecords.{IsKept, IsChanged, AreWiped, small_record}
use Rattle.bs_sched.specs.Lane.{Lane, empty_lane, is_ready, no_lane, records_of}
use Rattle.bs_sched.specs.Machine.{lane_of}
use Rattle.bs_sched.proofs.BegunParts.{few_numbers, none_quiet, one_left}
use Rattle.bs_sched.proofs.PartFrames.{length_known}
use Rattle.bs_sched.proofs.Reframed.{AreFramed, IsReframed, numbers_at}
use Rattle.bs_sched.specs.inner.Reserved.{AreReserved, IsReserved}
use Rattle.bs_sched.proofs.Reserved.{enough}
use Rattle.bs_sched.proofs.RightRuns.{AreWell}

abbrev pub packing_at : List Packing → ℕ → Packing
packing_at packings game = slice_index_or packings game no_packing

-- a stay that has left keeps nothing
pub record IsGone (tag : ℕ) (packing : Packing) (pool : Ledger) : Type 0 where
  pub none : packing ≡ no_packing
  pub held : Holds tag [] pool

-- the records of the lane's boards are kept while it is open
pub record KeepsLane (cap game : ℕ) (x : Lane) (packing : Packing) (pool : Ledger) (memory : Memory) : Type 0 where
  pub there : x.is_open ≡ true → IsKept cap x.row.quota (record_tag game) (records_of x.game) packing pool memory
  pub gone : x.is_open ≡ false → IsGone (record_tag game) packing pool

pub record IsNoStays (count tag : ℕ) : Type 0 where
  pub records : (game : ℕ) → game < count → tag ≢ record_tag game
  pub frames : (game : ℕ) → game < count → tag ≢ frame_tag game

pub record AreStored (cap blocks framed : ℕ) (lanes : List Lane) (packings : List Packing) (pool : Ledger) (memory : Memory) : Type 0 where
  pub wide : MOST_RECORD_BYTES < cap
  pub many : length packings ≡ length lanes
  pub numbers : size pool ≡ blocks
  pub bytes : length memory ≡ blocks
  pub kept : (game : ℕ) → game < length lanes → KeepsLane cap game (lane_of lanes game) (packing_at packings game) pool memory
  -- only the stays' tags own blocks
  pub rest : (tag : ℕ) → IsNoStays (length lanes) tag → Holds tag [] pool
  pub wiped : AreWiped pool memory
  -- the number of blocks that hold parts of moves
  pub counts : free pool + (all_held packings + framed) ≡ blocks

-- a block can be drawn

data IsTagOf (tag count : ℕ) : Type 0 where
  of_records : (game : ℕ) → game < count → tag ≡ record_tag game → IsTagOf tag count
  of_frames : (game : ℕ) → game < count → tag ≡ frame_tag game → IsTagOf tag count
  of_none : IsNoStays count tag → IsTagOf tag count

more_tags : (tag count : ℕ) → tag ≢ record_tag count → tag ≢ frame_tag count → IsTagOf tag count → IsTagOf tag (suc count)
more_tags tag count not_record not_frame (of_records game within is) = of_records game (omega (arith, within)) is
more_tags tag count not_record not_frame (of_frames game within is) = of_frames game (omega (arith, within)) is
more_tags tag count not_record not_frame (of_none none) =
    of_none (record {
      records = λ game within.
          elim (cases_eq game count) [
            | inl is ↦ rw is not_record
            | inr other ↦ none.records game (omega (arith, within, other))
          ];
      frames = λ game within.
          elim (cases_eq game count) [
            | inl is ↦ rw is not_frame
            | inr other ↦ none.frames game (omega (arith, within, other))
          ];
    })

find_tag : (count tag : ℕ) → IsTagOf tag count
find_tag zero tag = of_none (record { records = λ game within. absurd (omega (arith, within)); frames = λ game within. absurd (omega (arith, within)) })
find_tag (suc count) tag =
    elim (cases_eq tag (record_tag count)) [
      | inl same ↦ of_records count (omega arith) same
      | inr not_record ↦
          elim (cases_eq tag (frame_tag count)) [
            | inl same ↦ of_frames count (omega arith) same
            | inr not_frame ↦ more_tags tag count not_record not_frame (find_tag count tag)
          ]
    ]

pub few_of : (cap tag : ℕ) (x : Lane) (packing : Packing) (pool : Ledger) (memory : Memory) → MOST_RECORD_BYTES < cap
    → IsKept cap x.row.quota tag (records_of x.game) packing pool memory → length (numbers_of packing) ≤ blocks_for cap x.row.quota
few_of cap tag x packing pool memory wide kept =
    let few = few_blocks cap (charge_of (records_of x.game)) x.row.quota wide kept.within packing kept.full in
    let many = length-map (uses packing) (λ u. u.number) in
    omega (arith, few, many)

some_is : (o : Option ℕ) → IsSome o → o ≡ Some (unwrap_or o 0)
some_is None some = let none : Option ℕ = None in let shut : IsSome none = some in cc
some_is (Some n) some = refl

module _ (cap blocks framed : ℕ) (lanes : List Lane) (packings : List Packing) (frames : List (List (Option ℕ))) (pool : Ledger) (memory : Memory)
    (stored : AreStored cap blocks framed lanes packings pool memory) (are : AreReserved cap blocks lanes pool.reservations)
    (parts : AreFramed lanes frames pool memory) (well : AreWell lanes) where
  held_of_records : (game : ℕ) → game < length lanes → held (record_tag game) pool ≤ reserved (record_tag game) pool
  held_of_records game within =
      let kept = stored.kept game within in
      elim (cases_Bool (lane_of lanes game).is_open) [
        | inl stands ↦
            let there = kept.there stands in
            let few = few_of cap (record_tag game) (lane_of lanes game) (packing_at packings game) pool memory stored.wide there in
            let all = there.held.all in
            let room = there.reserved in
            omega (arith, few, all, room)
        | inr shut ↦ let nothing = (kept.gone shut).held.all in omega (arith, nothing)
      ]

  held_of_frames : (game : ℕ) → game < length lanes → held (frame_tag game) pool ≤ reserved (frame_tag game) pool
  held_of_frames game within =
      let x = lane_of lanes game in
      let mine = parts.each game within in
      let all = mine.held.all in
      elim (cases_Bool x.is_open) [
        | inl stands ↦
            let few = few_numbers x (numbers_at frames game) (well game within).right mine.begun in
            let less = length_known (numbers_at frames game) in
            let room = (are.each game within stands).frames in
            omega (arith, few, less, all, room)
        | inr shut ↦
            let none = ap length (none_quiet x (numbers_at frames game) ((well game within).closed shut) mine.begun) in
            omega (arith, all, none)
      ]

  held_by : (tag : ℕ) → IsTagOf tag (length lanes) → held tag pool ≤ reserved tag pool
  held_by tag (of_records game within is) = rw is (held_of_records game within)
  held_by tag (of_frames game within is) = rw is (held_of_frames game within)
  held_by tag (of_none none) = let nothing = (stored.rest tag none).all in omega (arith, nothing)

  pub free_number : (tag : ℕ) → held tag pool < reserved tag pool → least_free pool ≡ Some (next_number pool)
  free_number tag less =
      let left = left_free pool.reservations pool.owners tag (λ other. held_by other (find_tag (length lanes) other)) in
      let all = all_numbers pool in
      let within = are.within in
      let room = are.room in
      let numbers = stored.numbers in
      some_is (least_free pool) (first_some is_unowned pool.owners (omega (arith, left, all, within, room, numbers, less)))

  -- a part that can be taken has a place for its block
  pub frame_there : (game p : ℕ) → game < length lanes → (lane_of lanes game).is_open ≡ true → is_ready (lane_of lanes game) kind.Part p ≡ true
      → least_free pool ≡ Some (next_number pool)
  frame_there game p within stands ready =
      let mine = parts.each game within in
      let less = one_left (lane_of lanes game) p (numbers_at frames game) (well game within).right ready mine.begun in
      let all = mine.held.all in
      let room = (are.each game within stands).frames in
      free_number (frame_tag game) (omega (arith, less, all, room))

  pub can_draw : (effect : Effect) (game : ℕ) → game < length lanes → (lane_of lanes game).is_open ≡ true
      → IsFitEffect (lane_of lanes game).row.quota (charge_of (records_of (lane_of lanes game).game)) effect → CanDraw cap effect (packing_at packings game) pool
  can_draw effect.Keep game within stands fit = tt
  can_draw (effect.Add bytes) game within stands fit = λ no_room.
      let kept = (stored.kept game within).there stands in
      let x = lane_of lanes game in
      let packing = packing_at packings game in
      let one_more = may_draw cap (charge_of (records_of x.game)) x.row.quota stored.wide kept.within packing (rounded (length bytes))
      (small_record x.row.quota (charge_of (records_of x.game)) bytes fit) no_room kept.full in
      let many = length-map (uses packing) (λ u. u.number) in
      let all = kept.held.all in
      let room = kept.reserved in
      free_number (record_tag game) (omega (arith, one_more, many, all, room))
  can_draw effect.Trim game within stands fit = tt
  can_draw effect.Drop game within stands fit = tt

-- one stay's records change

kept_elsewhere : (cap quota own tag : ℕ) (records : List (List ℕ)) (packing : Packing) (pool pool' : Ledger) (memory memory' : Memory) → own ≢ tag
    → LeavesOthers tag pool pool' → ((other number : ℕ) → other ≢ tag → Owns other number pool → block_in memory' number ≡ block_in memory number)
    → IsKept cap quota own records packing pool memory → IsKept cap quota own records packing pool' memory'
kept_elsewhere cap quota own tag records packing pool pool' memory memory' differ leaves same kept =
    record {
      within = kept.within;
      full = kept.full;
      apart = kept.apart;
      held = leaves.holds own (numbers_of packing) differ kept.held;
      laid = laid_elsewhere records packing memory memory' kept.apart (λ k d within. same own _ differ (kept.held.owned.each k d within)) kept.laid;
      reserved = rw leaves.reservations kept.reserved;
    }

pub stored_changed : (cap blocks framed game quota : ℕ) (records : List (List ℕ)) (lanes : List Lane) (packings : List Packing) (pool pool' : Ledger) (memory memory' : Memory)
    (y : Lane) (packing : Packing) → AreStored cap blocks framed lanes packings pool memory → game < length lanes
    → IsChanged cap quota (record_tag game) records (packing_at packings game) pool memory packing pool' memory' → KeepsLane cap game y packing pool' memory'
    → AreStored cap blocks framed (slice_set lanes game y) (slice_set packings game packing) pool' memory'
stored_changed cap blocks framed game quota records lanes packings pool pool' memory memory' y packing stored within changed keeps =
    let same_lanes = length-set lanes game y in
    let same_packings = length-set packings game packing in
    let many = stored.many in
    let sum = sum_by-set (λ (p : Packing). length (numbers_of p)) packings game packing no_packing (omega (arith, many, within)) in
    let counts = stored.counts in
    let moved = changed.counts in
    record {
      wide = stored.wide;
      many = omega (arith, same_lanes, same_packings, many);
      numbers = changed.size ∙ stored.numbers;
      bytes = changed.many ∙ stored.bytes;
      kept = λ other less.
          elim (cases_eq other game) [
            | inl same ↦
                rw (get_or-set_at lanes game other y no_lane same within, get_or-set_at packings game other packing no_packing same (omega (arith, many, within)), same)
                keeps
            | inr differ ↦
                let x = lane_of lanes other in
                let before = stored.kept other (omega (arith, less, same_lanes)) in
                let apart : record_tag other ≢ record_tag game = λ twice. differ (omega (arith, twice)) in
                rw (get_or-set_other lanes game other y no_lane differ, get_or-set_other packings game other packing no_packing differ)
                (record {
                  there = λ stands. kept_elsewhere cap x.row.quota (record_tag other) (record_tag game) (records_of x.game) (packing_at packings other)
                      pool pool' memory memory' apart changed.others changed.blocks (before.there stands);
                  gone = λ shut. record { none = (before.gone shut).none; held = changed.others.holds (record_tag other) [] apart (before.gone shut).held };
                })
          ];
      rest = λ tag none.
          let before = stored.rest tag (record {
            records = λ other less. none.records other (omega (arith, less, same_lanes));
            frames = λ other less. none.frames other (omega (arith, less, same_lanes));
          }) in
          changed.others.holds tag [] (none.records game (omega (arith, within, same_lanes))) before;
      wiped = changed.wiped;
      counts = omega (arith, sum, counts, moved);
    }

-- only the reservations change

held_by_owners : (tag : ℕ) (numbers : List ℕ) (pool : Ledger) (rs : List Reservation) → Holds tag numbers pool → Holds tag numbers (ledger_of pool.owners rs)
held_by_owners tag numbers pool rs holds = record { owned = record { each = holds.owned.each; once = holds.owned.once }; all = holds.all }

pub stored_reserved : (cap blocks framed : ℕ) (lanes : List Lane) (packings : List Packing) (pool : Ledger) (memory : Memory) (rs : List Reservation)
    → AreStored cap blocks framed lanes packings pool memory
    → ((game : ℕ) → game < length lanes → (lane_of lanes game).is_open ≡ true → record_blocks cap (lane_of lanes game).row ≤ reserved_by (record_tag game) rs)
    → AreStored cap blocks framed lanes packings (ledger_of pool.owners rs) memory
stored_reserved cap blocks framed lanes packings pool memory rs stored each =
    record {
      wide = stored.wide;
      many = stored.many;
      numbers = stored.numbers;
      bytes = stored.bytes;
      kept = λ game less.
          let before = stored.kept game less in
          record {
            there = λ stands.
                let kept = before.there stands in
                record {
                  within = kept.within;
                  full = kept.full;
                  apart = kept.apart;
                  held = held_by_owners (record_tag game) (numbers_of (packing_at packings game)) pool rs kept.held;
                  laid = record { used = kept.laid.used; reads = kept.laid.reads };
                  reserved = each game less stands;
                };
            gone = λ shut. record { none = (before.gone shut).none; held = held_by_owners (record_tag game) [] pool rs (before.gone shut).held };
          };
      rest = λ tag none. held_by_owners tag [] pool rs (stored.rest tag none);
      wiped = stored.wiped;
      counts = stored.counts;
    }

-- a stay is admitted

pub kept_nothing : (cap quota tag : ℕ) (pool : Ledger) (memory : Memory) → Holds tag [] pool → blocks_for cap quota ≤ reserved tag pool
    → IsKept cap quota tag [] no_packing pool memory
kept_nothing cap quota tag pool memory held room =
    record {
      within = omega arith;
      full = full_none cap 0;
      apart = apart_none;
      held = held;
      laid = laid_nothing memory;
      reserved = room;
    }

-- its blocks are reserved by then
pub stored_comes : (cap blocks framed : ℕ) (lanes : List Lane) (packings : List Packing) (pool : Ledger) (memory : Memory) (row : GameRow)
    → AreStored cap blocks framed lanes packings pool memory → IsReserved cap (length lanes) row pool.reservations
    → AreStored cap blocks framed (lanes ++ empty_lane row ∷ []) (packings ++ no_packing ∷ []) pool memory
stored_comes cap blocks framed lanes packings pool memory row stored mine =
    let y = empty_lane row in
    let long = length_push lanes y in
    let long_packings = length_push packings no_packing in
    let many = stored.many in
    let sum = sum_by_push (λ (p : Packing). length (numbers_of p)) packings no_packing in
    let counts = stored.counts in
    record {
      wide = stored.wide;
      many = omega (arith, long, long_packings, many);
      numbers = stored.numbers;
      bytes = stored.bytes;
      kept = λ game less.
          elim (cases_lt game (length lanes)) [
            | inl before ↦
                rw (get_or_append_left lanes (y ∷ []) no_lane game before, get_or_append_left packings (no_packing ∷ []) no_packing game (omega (arith, before, many)))
                (stored.kept game before)
            | inr past ↦
                let last : length lanes ≡ game = omega (arith, long, less, past) in
                let nothing : Holds (record_tag game) [] pool
                = stored.rest (record_tag game)
                (record { records = λ other there same. omega (arith, there, last, same); frames = λ other there same. omega (arith, there, last, same) }) in
                rw (get_or_push lanes y no_lane game last, get_or_push packings no_packing no_packing game (omega (arith, many, last)))
                (record {
                  there = λ stands. kept_nothing cap row.quota (record_tag game) pool memory nothing (rw (← last) (enough cap (length lanes) row pool.reservations mine));
                  gone = λ shut. record { none = refl; held = nothing };
                })
          ];
      rest = λ tag none. stored.rest tag (record {
        records = λ game less. none.records game (omega (arith, long, less));
        frames = λ game less. none.frames game (omega (arith, long, less));
      });
      wiped = stored.wiped;
      counts = omega (arith, sum, counts);
    }

-- blocks for parts of one stay's move are drawn or given back
pub stored_framed : (cap blocks framed framed' game : ℕ) (lanes : List Lane) (packings : List Packing) (pool pool' : Ledger) (memory : Memory) (numbers numbers' : List ℕ)
    → AreStored cap blocks framed lanes packings pool memory → game < length lanes → IsReframed (frame_tag game) numbers numbers' pool pool' memory
    → framed' + length numbers ≡ framed + length numbers' → AreStored cap blocks framed' lanes packings pool' memory
stored_framed cap blocks framed framed' game lanes packings pool pool' memory numbers numbers' stored within new sum =
    let before = stored.counts in
    let counts = new.counts in
    record {
      wide = stored.wide;
      many = stored.many;
      numbers = new.size ∙ stored.numbers;
      bytes = stored.bytes;
      kept = λ other less.
          let kept = stored.kept other less in
          let x = lane_of lanes other in
          let apart : record_tag other ≢ frame_tag game = λ same. absurd (omega (arith, same)) in
          record {
            there = λ stands.
                kept_elsewhere cap x.row.quota (record_tag other) (frame_tag game) (records_of x.game) (packing_at packings other) pool pool' memory memory apart new.others
                (λ _ _ _ _. refl) (kept.there stands);
            gone = λ shut. record { none = (kept.gone shut).none; held = new.others.holds (record_tag other) [] apart (kept.gone shut).held };
          };
      rest = λ tag none. new.others.holds tag [] (none.frames game within) (stored.rest tag none);
      wiped = new.wiped;
      counts = omega (arith, before, counts, sum);
    }
