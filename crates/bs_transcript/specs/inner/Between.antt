-- Some lines of a transcript, by their numbers.
use Rattle.std.specs.Prelude.{ℕ, ◌+◌, ◌-◌, List, [], ◌∷◌, length, take, drop}
use Rattle.bs_transcript.specs.declared.section.Section.{Section}
use Rattle.bs_transcript.specs.inner.Parts.{joined}

-- the text of the lines from one number on, up to another
abbrev pub between : ℕ → ℕ → List (List ℕ) → List ℕ
between from to lines = joined (take (to - from) (drop from lines))

-- how many lines the first section has; one more than `index` if there is none
abbrev pub lines_of_first : ℕ → List Section → ℕ
lines_of_first index [] = index + 1
lines_of_first index (section ∷ sections) = length section.replies.now + 1
