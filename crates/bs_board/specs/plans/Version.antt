-- The versions of the format of command files.
use Rattle.std.specs.Prelude.{ℕ, ◌==◌, Bool, true, false, find, [], ◌∷◌, Option}
use Rattle.bs_board.specs.declared.plans.version.Version.{Version}
use Rattle.bs_board.specs.declared.plans.version.Version.TheVariants.{One, Two, Three, Five}

abbrev pub version_number : Version → ℕ
version_number One = 1
version_number Two = 2
version_number Three = 3
version_number Five = 5

abbrev pub version_numbered : ℕ → Option Version
version_numbered number = find (λ version. version_number version == number) (One ∷ Two ∷ Three ∷ Five ∷ [])

-- whether a game may be played in wrapped mode
abbrev pub has_wrapped : Version → Bool
has_wrapped One = false
has_wrapped Two = true
has_wrapped Three = true
has_wrapped Five = true

-- whether games may be admitted and leave after the plan
abbrev pub has_stays : Version → Bool
has_stays One = false
has_stays Two = false
has_stays Three = true
has_stays Five = true

-- whether games have hazards
abbrev pub has_hazards : Version → Bool
has_hazards One = false
has_hazards Two = false
has_hazards Three = false
has_hazards Five = true
