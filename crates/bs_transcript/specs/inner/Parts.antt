-- A transcript as the list of its lines.
use Rattle.std.specs.Prelude.{ℕ, List, [], ◌∷◌, ◌++◌, map, option_copied}
use Rattle.std.specs.List.{enumerate_from, flat_map}
use Rattle.bs_json.specs.declared.line.Stray.{Stray}
use Rattle.bs_json.specs.Replies.{reply_line_of, final_line_of, stray_line_of}
use Rattle.bs_transcript.specs.declared.section.Part.{Part}
use Rattle.bs_transcript.specs.declared.section.Part.TheVariants.{Game, Strays}
use Rattle.bs_transcript.specs.declared.section.Section.{Section}

-- the lines of a game, one by one
abbrev pub lines_of_section : Section → List (List ℕ)
lines_of_section section =
    map (λ reply. reply_line_of section.name.now reply.0 reply.1) (enumerate_from 1 section.replies.now)
    ++ final_line_of section.name.now (option_copied section.board) section.charge ∷ []

abbrev pub lines_of_strays : List (ℕ × Stray) → List (List ℕ)
lines_of_strays = map (λ stray. stray_line_of stray.0 stray.1)

abbrev pub lines_of_part : Part → List (List ℕ)
lines_of_part (Game section) = lines_of_section section.now
lines_of_part (Strays strays) = lines_of_strays strays.now

-- the lines of the games in order, then those of the strays
abbrev pub all_lines_of : List Section → List (ℕ × Stray) → List (List ℕ)
all_lines_of sections strays = flat_map lines_of_section sections ++ lines_of_strays strays

-- the text of lines, one after the other
abbrev pub joined : List (List ℕ) → List ℕ
joined = flat_map (λ line. line)
