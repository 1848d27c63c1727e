-- The answers to some lines, which are written while the lines are answered.
use Rattle.std.specs.Prelude.{◌≡◌, ℕ, ◌+◌, ◌<◌, ◌≤◌, List, ◌++◌, fold, length, take, Option}
use Rattle.std.specs.Io.KnownBytes.{Appends}
use Rattle.bs_host.specs.declared.fault.Fault.{Fault}
use Rattle.bs_host.specs.declared.fault.Fault.TheVariants.{Memory, Write, Flush}
use Rattle.bs_host.specs.declared.live.Answers.{Answers}
use Rattle.bs_host.specs.declared.live_host.LiveHost.{LiveHost}
use Rattle.bs_host.specs.inner.LiveHost.{live_after, live_texts}

-- the writer has the whole answers to some first lines
pub record HasTexts (host : LiveHost) (lines : List (List ℕ)) (old new : Option (List ℕ)) : Type 0 where
  pub count : ℕ
  pub few : count ≤ length lines
  pub written : Appends old new (live_texts host (take count lines))

-- All of the lines but those that are left are answered. Their answers are written but for the text.
pub record HasAnswers (from now : Answers) (lines left : List (List ℕ)) (old new : Option (List ℕ)) : Type 0 where
  pub done : List (List ℕ)
  pub parts : lines ≡ done ++ left
  pub answered : now.host ≡ fold live_after from.host done
  pub told : List ℕ
  pub all : live_texts from.host done ≡ told ++ now.text.bytes
  pub written : Appends old new told
  pub counted : now.written ≡ from.written + length told
  pub whole : HasTexts from.host lines old new

-- After a fault whole answers are written; if the writer failed, a proper prefix of all answers.
abbrev pub LeavesTexts : Answers → List (List ℕ) → Option (List ℕ) → Option (List ℕ) → Fault → Type 0
LeavesTexts from lines old new Memory = HasTexts from.host lines old new
LeavesTexts from lines old new (Write written) =
    (taken : ℕ) × (written ≡ from.written + taken) × (taken < length (live_texts from.host lines)) × Appends old new (take taken (live_texts from.host lines))
LeavesTexts from lines old new Flush = HasTexts from.host lines old new
LeavesTexts from lines old new _ = ⊥
