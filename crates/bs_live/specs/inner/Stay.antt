-- What private contracts add to specs/Stay.
use Rattle.std.specs.Prelude.{◌≡◌, ℕ}
use Rattle.bs_live.specs.declared.live_stay.LiveStay.TheInside.{Inside}
use Rattle.bs_live.specs.Stay.{Stay}

-- the value of a stay, from its fields
abbrev pub stay_in : {cap : ℕ} → Inside cap → Stay
stay_in s = record { row = s.row; game = s.game.game; answered = s.answered; blocks = s.game.blocks }

-- its invariant: the quota is the row's
abbrev pub IsStay : {cap : ℕ} → Inside cap → Type 0
IsStay s = s.game.quota ≡ s.row.quota
