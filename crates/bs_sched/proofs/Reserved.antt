-- The reservations of the open stays.
use Rattle.std.proofs.Common.{◌≡◌, ◌≢◌, ℕ, zero, suc, ◌+◌, ◌-◌, ◌*◌, ◌<◌, ◌≤◌, true, false, List, [], ◌∷◌, ◌++◌, length, refl, sym, ◌∙◌, arith, inl, inr}
use Rattle.std.specs.Prelude.{◌⊎◌, All, AllPairs, not, slice_set}
use Rattle.std.proofs.lemmas.Bool.{cases_eq, cases_lt}
use Rattle.std.proofs.lemmas.Grind.{get_or-set_at}
use Rattle.std.proofs.lemmas.List.{length-set, length_push, length-map, get_or-set_other, get_or_append_left, get_or_push}
use Rattle.std.proofs.lemmas.List.Elements.{All-nil, All-cons, All-push, All-weaker, All-filter}
use Rattle.std.proofs.lemmas.List.Quantifiers.{all_pairs_push}
use Rattle.std.proofs.lemmas.List.Kept.{AllPairs-filter}
use Rattle.std.proofs.lemmas.List.Sums.{sum_by-cons, sum_by_push, sum_by-set}
use Rattle.bs_board.specs.plans.Plan.{GameRow, row_of}
use Rattle.bs_pool.specs.declared.reservation.Reservation.{Reservation}
use Rattle.bs_pool.specs.Ledger.{Ledger, ledger_of}
use Rattle.bs_pool.specs.Reservations.{is_of, reserved_by, all_reserved, without}
use Rattle.bs_pool.proofs.Reservations.{all_removed, reserved_pushed, reserved_pushed_other, all_reserved_pushed, reserved_without_other, other_tags}
use Rattle.bs_registry.specs.declared.blocks.TheConstants.{FRAME_BLOCKS}
use Rattle.bs_registry.specs.Blocks.{record_blocks, blocks_of, blocks_of_all}
use Rattle.bs_sched.specs.PlanBlocks.{reservations_from, reservations_of}
use Rattle.bs_sched.specs.Storage.{record_tag, frame_tag}
use Rattle.bs_sched.specs.inner.Reserved.{AreReserved, IsReserved}
use Rattle.bs_sched.proofs.PlanBlocks.{none_from, none_beside, reserved_for_frames, reserved_for_row}
use Rattle.bs_sched.specs.Isolation.{opened_lanes}
use Rattle.bs_sched.specs.Lane.{Lane, empty_lane, no_lane}
use Rattle.bs_sched.specs.Machine.{lane_of, blocks_in, open_blocks}
use Rattle.bs_sched.proofs.RightRuns.{opened_lane}

pub enough : (cap game : ℕ) (row : GameRow) (rs : List Reservation) → IsReserved cap game row rs → record_blocks cap row ≤ reserved_by (record_tag game) rs
enough cap game row rs is = let records = is.records in omega (arith, records)

-- with another number of blocks
pub with_room : (cap blocks blocks' : ℕ) (lanes : List Lane) (rs : List Reservation) → AreReserved cap blocks lanes rs → open_blocks cap lanes ≤ blocks'
    → AreReserved cap blocks' lanes rs
with_room cap blocks blocks' lanes rs are room = record { within = are.within; distinct = are.distinct; room = room; below = are.below; each = are.each }

-- a lane changes, and not whether it is open

pub reserved_changed : (cap blocks game : ℕ) (lanes : List Lane) (rs : List Reservation) (y : Lane) → AreReserved cap blocks lanes rs → game < length lanes
    → y.row ≡ (lane_of lanes game).row → y.is_open ≡ (lane_of lanes game).is_open → AreReserved cap blocks (slice_set lanes game y) rs
reserved_changed cap blocks game lanes rs y are within row same =
    let x = lane_of lanes game in
    let many = length-set lanes game y in
    let sum = sum_by-set (blocks_in cap) lanes game y no_lane within in
    let term : blocks_in cap y ≡ blocks_in cap x = rw (row, same) refl in
    let all = are.within in
    let room = are.room in
    record {
      within = omega (arith, sum, term, all);
      distinct = are.distinct;
      room = omega (arith, sum, term, room);
      below = rw many are.below;
      each = λ other less is_open.
          elim (cases_eq other game) [
            | inl here ↦
                let there : lane_of (slice_set lanes game y) other ≡ y = get_or-set_at lanes game other y no_lane here within in
                let open_now : y.is_open ≡ true = rw there at is_open in
                rw (there, row, here) (are.each game within (sym same ∙ open_now))
            | inr differ ↦
                let there : lane_of (slice_set lanes game y) other ≡ lane_of lanes other = get_or-set_other lanes game other y no_lane differ in
                rw there (are.each other (omega (arith, less, many)) (rw there at is_open))
          ];
    }

-- a stay leaves

abbrev pub rest_of : ℕ → List Reservation → List Reservation
rest_of game rs = without (frame_tag game) (without (record_tag game) rs)

pub reserved_rest : (game other : ℕ) (rs : List Reservation) (tag : ℕ) → other ≢ game → (tag ≡ record_tag other) ⊎ (tag ≡ frame_tag other)
    → reserved_by tag (rest_of game rs) ≡ reserved_by tag rs
reserved_rest game other rs tag differ either =
    let not_record : record_tag game ≢ tag = λ same. elim either [ inl is ↦ differ (omega (arith, same, is)) | inr is ↦ absurd (omega (arith, same, is)) ] in
    let not_frame : frame_tag game ≢ tag = λ same. elim either [ inl is ↦ absurd (omega (arith, same, is)) | inr is ↦ differ (omega (arith, same, is)) ] in
    reserved_without_other (frame_tag game) tag (without (record_tag game) rs) not_frame ∙ reserved_without_other (record_tag game) tag rs not_record

pub reserved_left : (cap blocks game : ℕ) (lanes : List Lane) (rs : List Reservation) (y : Lane) → AreReserved cap blocks lanes rs → game < length lanes
    → (lane_of lanes game).is_open ≡ true → y.is_open ≡ false → AreReserved cap blocks (slice_set lanes game y) (rest_of game rs)
reserved_left cap blocks game lanes rs y are within stands shut =
    let x = lane_of lanes game in
    let many = length-set lanes game y in
    let sum = sum_by-set (blocks_in cap) lanes game y no_lane within in
    let gone : blocks_in cap y ≡ 0 = rw shut refl in
    let had : blocks_in cap x ≡ record_blocks cap x.row + FRAME_BLOCKS = rw stands refl in
    let mine = are.each game within stands in
    let records = mine.records in
    let frames = mine.frames in
    let once = AllPairs-filter (λ (r s : Reservation). r.tag ≢ s.tag) (λ (r : Reservation). not (is_of (record_tag game) r)) rs are.distinct in
    let first = all_removed (record_tag game) rs are.distinct in
    let second = all_removed (frame_tag game) (without (record_tag game) rs) once in
    let beside : reserved_by (frame_tag game) (without (record_tag game) rs) ≡ reserved_by (frame_tag game) rs
    = reserved_without_other (record_tag game) (frame_tag game) rs (λ same. absurd (omega (arith, same))) in
    let all = are.within in
    let room = are.room in
    let Below : Reservation → Type 0 = λ r. r.tag < 2 * length lanes in
    record {
      within = omega (arith, sum, gone, had, records, frames, first, second, beside, all);
      distinct = AllPairs-filter (λ (r s : Reservation). r.tag ≢ s.tag) (λ (r : Reservation). not (is_of (frame_tag game) r)) (without (record_tag game) rs) once;
      room = omega (arith, sum, gone, had, room);
      below = rw many (All-filter _ Below (without (record_tag game) rs) (All-filter _ Below rs are.below));
      each = λ other less is_open.
          elim (cases_eq other game) [
            | inl here ↦
                let there : lane_of (slice_set lanes game y) other ≡ y = get_or-set_at lanes game other y no_lane here within in
                let wrong : true ≡ false = sym (rw there at is_open) ∙ shut in
                absurd cc
            | inr differ ↦
                let there : lane_of (slice_set lanes game y) other ≡ lane_of lanes other = get_or-set_other lanes game other y no_lane differ in
                let before = are.each other (omega (arith, less, many)) (rw there at is_open) in
                rw there (record {
                  records = rw (reserved_rest game other rs (record_tag other) differ (inl refl)) before.records;
                  frames = rw (reserved_rest game other rs (frame_tag other) differ (inr refl)) before.frames;
                })
          ];
    }

-- a stay is admitted

abbrev pub more_of : ℕ → ℕ → GameRow → List Reservation → List Reservation
more_of cap game row rs = (rs ++ record { tag = record_tag game; blocks = record_blocks cap row } ∷ []) ++ record { tag = frame_tag game; blocks = FRAME_BLOCKS } ∷ []

pub reserved_more : (cap game : ℕ) (row : GameRow) (rs : List Reservation) (tag : ℕ) → record_tag game ≢ tag → frame_tag game ≢ tag
    → reserved_by tag (more_of cap game row rs) ≡ reserved_by tag rs
reserved_more cap game row rs tag not_record not_frame =
    reserved_pushed_other (frame_tag game) FRAME_BLOCKS tag (rs ++ record { tag = record_tag game; blocks = record_blocks cap row } ∷ []) not_frame
    ∙ reserved_pushed_other (record_tag game) (record_blocks cap row) tag rs not_record

pub reserved_comes : (cap blocks : ℕ) (lanes : List Lane) (rs : List Reservation) (row : GameRow) → AreReserved cap blocks lanes rs
    → blocks_of cap row ≤ blocks - open_blocks cap lanes → AreReserved cap blocks (lanes ++ empty_lane row ∷ []) (more_of cap (length lanes) row rs)
reserved_comes cap blocks lanes rs row are fits =
    let game = length lanes in
    let y = empty_lane row in
    let many = length_push lanes y in
    let sum = sum_by_push (blocks_in cap) lanes y in
    let with_records = rs ++ record { tag = record_tag game; blocks = record_blocks cap row } ∷ [] in
    let first = all_reserved_pushed (record_tag game) (record_blocks cap row) rs in
    let second = all_reserved_pushed (frame_tag game) FRAME_BLOCKS with_records in
    let D : Reservation → Reservation → Type 0 = λ r s. r.tag ≢ s.tag in
    let new_records : Reservation = record { tag = record_tag game; blocks = record_blocks cap row } in
    let new_frames : Reservation = record { tag = frame_tag game; blocks = FRAME_BLOCKS } in
    let all = are.within in
    let room = are.room in
    let Below : Reservation → Type 0 = λ r. r.tag < 2 * length (lanes ++ y ∷ []) in
    let pool : Ledger = ledger_of [] rs in
    let no_records = none_from game pool are.below in
    let no_frames = none_beside game (record_blocks cap row) pool are.below in
    let mine : IsReserved cap game row (more_of cap game row rs)
    = record {
      records =
          let one = reserved_pushed (record_tag game) (record_blocks cap row) rs no_records in
          let two = reserved_pushed_other (frame_tag game) FRAME_BLOCKS (record_tag game) with_records (λ same. absurd (omega (arith, same))) in
          omega (arith, one, two);
      frames =
          let one = reserved_pushed (frame_tag game) FRAME_BLOCKS with_records no_frames in
          omega (arith, one);
    } in
    record {
      within = omega (arith, sum, first, second, all);
      distinct = all_pairs_push D with_records new_frames (all_pairs_push D rs new_records are.distinct (other_tags (record_tag game) rs no_records))
          (other_tags (frame_tag game) with_records no_frames);
      room = omega (arith, sum, fits, room);
      below =
          All-push Below with_records (record { tag = frame_tag game; blocks = FRAME_BLOCKS })
          (All-push Below rs (record { tag = record_tag game; blocks = record_blocks cap row })
          (All-weaker (λ r. r.tag < 2 * length lanes) Below (λ r less. omega (arith, less, many)) rs are.below) (omega (arith, many))) (omega (arith, many));
      each = λ other less is_open.
          elim (cases_lt other game) [
            | inl before ↦
                let there : lane_of (lanes ++ y ∷ []) other ≡ lane_of lanes other = get_or_append_left lanes (y ∷ []) no_lane other before in
                let had = are.each other before (rw there at is_open) in
                rw there (record {
                  records = rw (reserved_more cap game row rs (record_tag other) (λ same. omega (arith, same, before)) (λ same. omega (arith, same, before))) had.records;
                  frames = rw (reserved_more cap game row rs (frame_tag other) (λ same. omega (arith, same, before)) (λ same. omega (arith, same, before))) had.frames;
                })
            | inr past ↦
                let last : other ≡ game = omega (arith, less, many, past) in
                let there : lane_of (lanes ++ y ∷ []) other ≡ y = get_or_push lanes y no_lane other (sym last) in
                rw (there, last) mine
          ];
    }

-- a newly opened core

reserved_from : (cap from : ℕ) (rows : List GameRow) → all_reserved (reservations_from cap from rows) ≡ blocks_of_all cap rows
reserved_from cap from [] = refl
reserved_from cap from (row ∷ rows) =
    let blocks : Reservation → ℕ = λ r. r.blocks in
    let records : Reservation = record { tag = record_tag from; blocks = record_blocks cap row } in
    let frames : Reservation = record { tag = frame_tag from; blocks = FRAME_BLOCKS } in
    let rest = reservations_from cap (from + 1) rows in
    let first : all_reserved (reservations_from cap from (row ∷ rows)) ≡ record_blocks cap row + all_reserved (frames ∷ rest) = sum_by-cons blocks records (frames ∷ rest) in
    let second : all_reserved (frames ∷ rest) ≡ FRAME_BLOCKS + all_reserved rest = sum_by-cons blocks frames rest in
    let whole : blocks_of_all cap (row ∷ rows) ≡ blocks_of cap row + blocks_of_all cap rows = sum_by-cons (blocks_of cap) row rows in
    let later = reserved_from cap (from + 1) rows in
    omega (arith, first, second, whole, later)

pub opened_blocks : (cap : ℕ) (rows : List GameRow) → open_blocks cap (opened_lanes rows) ≡ blocks_of_all cap rows
opened_blocks cap [] = refl
opened_blocks cap (row ∷ rows) =
    let first = sum_by-cons (blocks_in cap) (empty_lane row) (opened_lanes rows) in
    let whole = sum_by-cons (blocks_of cap) row rows in
    let rest = opened_blocks cap rows in
    omega (arith, first, whole, rest)

tags_below : (cap from to : ℕ) (rows : List GameRow) → from + length rows ≤ to → All (λ r. r.tag < 2 * to) (reservations_from cap from rows)
tags_below cap from to [] less = All-nil (λ r. r.tag < 2 * to)
tags_below cap from to (row ∷ rows) less =
    let Below : Reservation → Type 0 = λ r. r.tag < 2 * to in
    let rest = reservations_from cap (from + 1) rows in
    let frames : Reservation = record { tag = frame_tag from; blocks = FRAME_BLOCKS } in
    All-cons Below (record { tag = record_tag from; blocks = record_blocks cap row }) (frames ∷ rest) (omega (arith, less))
    (All-cons Below frames rest (omega (arith, less)) (tags_below cap (from + 1) to rows (omega (arith, less))))

tags_above : (cap from least : ℕ) (rows : List GameRow) → least ≤ 2 * from → All (λ r. least ≤ r.tag) (reservations_from cap from rows)
tags_above cap from least [] less = All-nil (λ r. least ≤ r.tag)
tags_above cap from least (row ∷ rows) less =
    let Above : Reservation → Type 0 = λ r. least ≤ r.tag in
    let rest = reservations_from cap (from + 1) rows in
    let frames : Reservation = record { tag = frame_tag from; blocks = FRAME_BLOCKS } in
    All-cons Above (record { tag = record_tag from; blocks = record_blocks cap row }) (frames ∷ rest) (omega (arith, less))
    (All-cons Above frames rest (omega (arith, less)) (tags_above cap (from + 1) least rows (omega (arith, less))))

pairs_cons : (r : Reservation) (rs : List Reservation) → All (λ s. r.tag ≢ s.tag) rs → AllPairs (λ r s. r.tag ≢ s.tag) rs → AllPairs (λ r s. r.tag ≢ s.tag) (r ∷ rs)
pairs_cons r rs head tail zero zero d less within = absurd (omega (arith, less))
pairs_cons r rs head tail zero (suc j) d less within = head j d (omega (arith, within))
pairs_cons r rs head tail (suc i) zero d less within = absurd (omega (arith, less))
pairs_cons r rs head tail (suc i) (suc j) d less within = tail i j d (omega (arith, less)) (omega (arith, within))

once_from : (cap from : ℕ) (rows : List GameRow) → AllPairs (λ r s. r.tag ≢ s.tag) (reservations_from cap from rows)
once_from cap from [] = λ i j d less within. absurd (omega (arith, within))
once_from cap from (row ∷ rows) =
    let rest = reservations_from cap (from + 1) rows in
    let records : Reservation = record { tag = record_tag from; blocks = record_blocks cap row } in
    let frames : Reservation = record { tag = frame_tag from; blocks = FRAME_BLOCKS } in
    let above = tags_above cap (from + 1) (2 * (from + 1)) rows (omega arith) in
    let Above : Reservation → Type 0 = λ r. 2 * (from + 1) ≤ r.tag in
    let apart : (tag : ℕ) → tag < 2 * (from + 1) → All (λ s. tag ≢ s.tag) rest
    = λ tag less. All-weaker Above (λ s. tag ≢ s.tag) (λ s high same. omega (arith, less, high, same)) rest above in
    pairs_cons records (frames ∷ rest) (All-cons (λ s. records.tag ≢ s.tag) frames rest (λ same. omega (arith, same)) (apart (record_tag from) (omega arith)))
    (pairs_cons frames rest (apart (frame_tag from) (omega arith)) (once_from cap (from + 1) rows))

pub reserved_opened : (cap blocks : ℕ) (rows : List GameRow) → blocks_of_all cap rows ≤ blocks → AreReserved cap blocks (opened_lanes rows) (reservations_of cap rows)
reserved_opened cap blocks rows room =
    let many : length (opened_lanes rows) ≡ length rows = length-map rows empty_lane in
    let all = reserved_from cap 0 rows in
    let set_aside = opened_blocks cap rows in
    record {
      within = omega (arith, all, set_aside);
      distinct = once_from cap 0 rows;
      room = omega (arith, set_aside, room);
      below = tags_below cap 0 (length (opened_lanes rows)) rows (omega (arith, many));
      each = λ game less _.
          let within : game < length rows = omega (arith, less, many) in
          let records = reserved_for_row cap game rows (row_of [] 0) within in
          let frames = reserved_for_frames cap game rows within in
          rw (opened_lane rows game) (record { records = omega (arith, records); frames = omega (arith, frames) });
    }
