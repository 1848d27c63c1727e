-- Lines on their way to a writer, through a buffer that has room for the longest of them.
use Rattle.std.specs.Prelude.{◌≡◌, ℕ, ◌<◌, ◌≤◌, ◌^◌, List, ◌++◌, length, All, Option}
use Rattle.std.specs.Io.KnownBytes.{Appends}
use Rattle.bs_transcript.specs.declared.line_buffer.LineBuffer.{LineBuffer}
use Rattle.bs_transcript.specs.declared.bounds.Bounds.{Bounds}
use Rattle.bs_transcript.specs.inner.Parts.{joined}

-- there are `count` lines, no line is longer than `longest`, and all together have at most `total`
-- bytes, which `usize` holds
pub record AreBounded (bounds : Bounds) (lines : List (List ℕ)) : Type 0 where
  pub each : All (λ line. length line ≤ bounds.longest) lines
  pub total : length (joined lines) ≤ bounds.total
  pub few : bounds.total < 2 ^ 64
  pub count : length lines ≡ bounds.count

-- The text is what the writer took, then the bytes in the buffer, then the lines that are left.
-- Once the buffer is empty it has room for each of these lines.
pub record IsOnItsWay (first now : Option (List ℕ)) (buffer : LineBuffer) (text : List ℕ) (left : List (List ℕ)) : Type 0 where
  pub front : List ℕ
  pub taken : Appends first now front
  pub many : buffer.written ≡ length front
  pub whole : text ≡ front ++ (buffer.text.bytes ++ joined left)
  pub none_lost : buffer.text.missing ≡ 0
  pub room : buffer.longest ≤ buffer.text.room
  pub each : All (λ line. length line ≤ buffer.longest) left
  pub few : length text < 2 ^ 64
