-- The result of the search among the open stays of a core.
use Rattle.std.proofs.Common.{◌≡◌, ℕ, ◌<◌, List, length, inl, inr, subst, arith}
use Rattle.std.specs.Prelude.{slice_index_or, Option, None, Some, MatchOption}
use Rattle.bs_fiber.specs.declared.job.JobName.{JobName}
use Rattle.std.proofs.lemmas.Bool.{cases_lt}
use Rattle.bs_sched.specs.inner.GamesLayout.{open_rows}
use Rattle.bs_sched.specs.Lane.{Lane}
use Rattle.bs_sched.specs.inner.Lane.{HasNoneReady}
use Rattle.bs_sched.specs.Machine.{lane_of}
use Rattle.bs_sched.specs.inner.Taking.{AreNoneOpenReady, AreNoneReadyBetween, IsReadyJob}
use Rattle.bs_sched.proofs.OpenRows.{open_listed}

-- what holds from a place on and before it holds of all places
none_listed : (from : ℕ) (rows : List ℕ) (lanes : List Lane) → AreNoneReadyBetween from (length rows) rows lanes → AreNoneReadyBetween 0 from rows lanes
    → (place : ℕ) → place < length rows → HasNoneReady (lane_of lanes (slice_index_or rows place 0))
none_listed from rows lanes behind before place within =
    elim (cases_lt place from) [
      | inl ahead ↦ before place (omega arith) ahead
      | inr past ↦ behind place past within
    ]

pub none_anywhere : (from : ℕ) (rows : List ℕ) (lanes : List Lane) → rows ≡ open_rows lanes → AreNoneReadyBetween from (length rows) rows lanes
    → AreNoneReadyBetween 0 from rows lanes → AreNoneOpenReady lanes
none_anywhere from rows lanes is behind before game within stands =
    let listed = open_listed lanes game within stands in
    let all = subst (λ (rs : List ℕ). (place : ℕ) → place < length rs → HasNoneReady (lane_of lanes (slice_index_or rs place 0))) is (none_listed from rows lanes behind before) in
    subst (λ (g : ℕ). HasNoneReady (lane_of lanes g)) listed.is (all listed.place listed.within)

-- the second search covers the places before the first one's
pub found_before : (from : ℕ) (rows : List ℕ) (lanes : List Lane) (found : Option JobName) → rows ≡ open_rows lanes → AreNoneReadyBetween from (length rows) rows lanes
    → MatchOption found (AreNoneReadyBetween 0 from rows lanes) (IsReadyJob lanes) → MatchOption found (AreNoneOpenReady lanes) (IsReadyJob lanes)
found_before from rows lanes None is behind before = none_anywhere from rows lanes is behind before
found_before from rows lanes (Some job) is behind ready = ready
