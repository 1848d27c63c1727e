-- The statuses of the calls.
use Rattle.std.specs.Prelude.{◌≡◌, ◌⊎◌, ℕ}
use Rattle.bs_batch.specs.declared.loading.Misfit.{Misfit}
use Rattle.bs_batch.specs.declared.loading.Misfit.TheVariants.{Hazards as HasHazards, Room as HasNoRoom}
use Rattle.bs_calls.specs.declared.fault.Fault.{Fault}
use Rattle.bs_calls.specs.declared.fault.Fault.TheVariants.{NotARecord, NotASetup, LastTurn, Room, Memory}

abbrev pub status_of : Fault → ℕ
status_of NotARecord = 1
status_of NotASetup = 2
status_of LastTurn = 3
status_of Room = 4
status_of Memory = 5

-- why a board is not loaded
abbrev pub status_of_misfit : Misfit → ℕ
status_of_misfit HasNoRoom = 4
status_of_misfit HasHazards = 6

-- an answer has status 0, and a fault its own status; there is no other status
abbrev pub IsStatus : ℕ → Type 0 → (Fault → Type 0) → Type 0
IsStatus status Answer Fails =
    ((status ≡ 0) × Answer) ⊎ ((fault : Fault) × (status ≡ status_of fault) × Fails fault)
