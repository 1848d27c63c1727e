-- Places in a transcript, and the text between two of them.
use Rattle.std.proofs.Common.{◌≡◌, ◌≢◌, ℕ, ◌+◌, ◌-◌, ◌<◌, ◌≤◌, List, [], ◌∷◌, ◌++◌, length, take, drop, get_or, refl, sym, ap, ◌∙◌, arith, append_assoc, append-nil, length-append, length-drop, take-append-drop}
use Rattle.std.specs.Prelude.{Bool, true, false, nat_lt}
use Rattle.std.specs.List.{flat_map}
use Rattle.std.proofs.lemmas.Bool.{ltb-false, ltb-true}
use Rattle.std.proofs.lemmas.Bool.Decides.{nat_tests}
use Rattle.std.proofs.lemmas.List.{length-take-le, drop-drop, drop_at, get_or-drop, get_or_append_left, take_more}
use Rattle.std.proofs.lemmas.List.Concat.{flat_map-append}
use Rattle.bs_json.specs.Text.{Text, blank, put}
use Rattle.bs_json.proofs.Puts.{put_full, put_more, put_none, put_put, put_whole}
use Rattle.bs_json.specs.declared.line.Stray.{Stray}
use Rattle.bs_transcript.specs.declared.section.Section.{Section}
use Rattle.bs_transcript.specs.inner.Between.{between, lines_of_first}
use Rattle.bs_transcript.specs.inner.Parts.{all_lines_of, joined, lines_of_section, lines_of_strays}
use Rattle.bs_transcript.proofs.PartLines.{section_count, strays_count}

-- the line at an index of the first list is the next
pub same_line : (xs rest lines : List (List ℕ)) (i n : ℕ) → i < length xs → drop i (xs ++ rest) ≡ drop n lines → get_or xs i [] ≡ get_or lines n []
same_line xs rest lines i n within is =
    let ends : i + 0 ≡ i = omega arith in
    let ends' : n + 0 ≡ n = omega arith in
    sym (get_or_append_left xs rest [] i within) ∙ ap (λ k. get_or (xs ++ rest) k []) (sym ends) ∙ sym (get_or-drop i (xs ++ rest) 0 [])
    ∙ ap (λ l. get_or l 0 []) is ∙ get_or-drop n lines 0 [] ∙ ap (λ k. get_or lines k []) ends'

-- as many lines are left as in the list of the lines
left_count : (xs lines : List (List ℕ)) (i n : ℕ) → drop i xs ≡ drop n lines → length xs - i ≡ length lines - n
left_count xs lines i n is = sym (length-drop i xs) ∙ ap length is ∙ length-drop n lines

-- with a section left there is a line
pub line_in_section : (some : List Section) (strays : List (ℕ × Stray)) (lines : List (List ℕ)) (index number : ℕ) → 0 < length some
    → index < lines_of_first index some → number ≤ length lines → drop index (all_lines_of some strays) ≡ drop number lines → number < length lines
line_in_section [] strays lines index number one within passed is = absurd (omega arith)
line_in_section (section ∷ some) strays lines index number one within passed is =
    let count = left_count (all_lines_of (section ∷ some) strays) lines index number is in
    omega (
      arith,
      count,
      section_count section,
      length-append (lines_of_section section ++ flat_map lines_of_section some) (lines_of_strays strays),
      length-append (lines_of_section section) (flat_map lines_of_section some),
    )

-- the first section's line is the next
pub section_line : (some : List Section) (section : Section) (others : List Section) (strays : List (ℕ × Stray)) (lines : List (List ℕ)) (index number : ℕ)
    → some ≡ section ∷ others → index < lines_of_first index some → drop index (all_lines_of some strays) ≡ drop number lines
    → (index < length (lines_of_section section)) × (get_or (lines_of_section section) index [] ≡ get_or lines number [])
section_line some section others strays lines index number first within is =
    let count : lines_of_first index some ≡ length (lines_of_section section) = ap (lines_of_first index) first ∙ sym (section_count section) in
    let inside : index < length (lines_of_section section) = omega (arith, count) in
    let rest = flat_map lines_of_section others ++ lines_of_strays strays in
    let cut : drop index (lines_of_section section ++ rest) ≡ drop number lines
    = ap (drop index) (sym (append_assoc (lines_of_section section) (flat_map lines_of_section others) (lines_of_strays strays)))
    ∙ ap (λ (s : List Section). drop index (all_lines_of s strays)) (sym first) ∙ is in
    (inside, same_line (lines_of_section section) rest lines index number inside cut)

-- without a section the next line is a stray
pub stray_line : (some : List Section) (strays : List (ℕ × Stray)) (lines : List (List ℕ)) (index number : ℕ) → some ≡ []
    → number < length lines → drop index (all_lines_of some strays) ≡ drop number lines
    → (index < length (lines_of_strays strays)) × (get_or (lines_of_strays strays) index [] ≡ get_or lines number [])
stray_line some strays lines index number none more is =
    let cut : drop index (lines_of_strays strays) ≡ drop number lines = ap (λ (s : List Section). drop index (all_lines_of s strays)) (sym none) ∙ is in
    let count = left_count (lines_of_strays strays) lines index number cut in
    let inside : index < length (lines_of_strays strays) = omega (arith, count) in
    let whole : drop index (lines_of_strays strays ++ []) ≡ drop number lines = ap (drop index) (append-nil (lines_of_strays strays)) ∙ cut in
    (inside, same_line (lines_of_strays strays) [] lines index number inside whole)

-- as many strays are left as lines
pub strays_left : (some : List Section) (strays : List (ℕ × Stray)) (lines : List (List ℕ)) (index number : ℕ) → some ≡ []
    → drop index (all_lines_of some strays) ≡ drop number lines → length strays - index ≡ length lines - number
strays_left some strays lines index number none is =
    let cut : drop index (lines_of_strays strays) ≡ drop number lines = ap (λ (s : List Section). drop index (all_lines_of s strays)) (sym none) ∙ is in
    ap (λ n. n - index) (sym (strays_count strays)) ∙ left_count (lines_of_strays strays) lines index number cut

pub same_test : (a b c d : ℕ) → b - a ≡ d - c → nat_lt a b ≡ nat_lt c d
same_test a b c d same = grind (arith, nat_tests)

-- one line on
pub one_on : (xs lines : List (List ℕ)) (i n : ℕ) → drop i xs ≡ drop n lines → drop (i + 1) xs ≡ drop (n + 1) lines
one_on xs lines i n is = sym (drop-drop 1 i xs) ∙ ap (drop 1) is ∙ drop-drop 1 n lines

-- behind the last line of a section
pub next_section : (some : List Section) (strays : List (ℕ × Stray)) (lines : List (List ℕ)) (index number : ℕ) → 0 < length some
    → index + 1 ≡ lines_of_first index some → drop index (all_lines_of some strays) ≡ drop number lines
    → all_lines_of (drop 1 some) strays ≡ drop (number + 1) lines
next_section [] strays lines index number one last is = absurd (omega arith)
next_section (section ∷ some) strays lines index number one last is =
    let own = lines_of_section section in
    let rest = flat_map lines_of_section some ++ lines_of_strays strays in
    let count : length own ≡ index + 1 = omega (arith, section_count section) in
    sym (drop_at own rest (index + 1) count)
    ∙ ap (drop (index + 1)) (sym (append_assoc own (flat_map lines_of_section some) (lines_of_strays strays)))
    ∙ one_on (all_lines_of (section ∷ some) strays) lines index number is

pub some_count : (index : ℕ) (some : List Section) → 0 < lines_of_first index some
some_count index [] = omega arith
some_count index (section ∷ some) = omega arith

-- before the last line of a section, or without one
pub stays_within : (some : List Section) (index count : ℕ) → (0 < length some → count ≡ lines_of_first index some) → index < count → index + 1 ≢ count
    → index + 1 < lines_of_first (index + 1) some
stays_within [] index count is within other = omega arith
stays_within (section ∷ some) index count is within other = let same = is (omega arith) in omega arith

pub none_within : (some : List Section) (index : ℕ) → some ≡ [] → index + 1 < lines_of_first (index + 1) some
none_within some index none = let count = ap (lines_of_first (index + 1)) none in omega arith

pub first_count : (some : List Section) (section : Section) (others : List Section) (index : ℕ) → some ≡ section ∷ others
    → length (lines_of_section section) ≡ lines_of_first index some
first_count some section others index first = section_count section ∙ sym (ap (lines_of_first index) first)

-- ---- the text between two places

pub between_none : (from : ℕ) (lines : List (List ℕ)) → between from from lines ≡ []
between_none from lines = let none : from - from ≡ 0 = omega arith in ap (λ n. joined (take n (drop from lines))) none

pub between_more : (from to : ℕ) (lines : List (List ℕ)) → from ≤ to → to < length lines → between from (to + 1) lines ≡ between from to lines ++ get_or lines to []
between_more from to lines later inside =
    let count : to + 1 - from ≡ to - from + 1 = omega arith in
    let place : from + (to - from) ≡ to = omega arith in
    let some = drop from lines in
    ap (λ n. joined (take n some)) count
    ∙ ap joined (take_more some (to - from) [] (omega (arith, length-drop from lines)))
    ∙ flat_map-append (λ line. line) (take (to - from) some) (get_or some (to - from) [] ∷ [])
    ∙ ap (λ t. between from to lines ++ t) (append-nil (get_or some (to - from) []))
    ∙ ap (λ t. between from to lines ++ t) (get_or-drop from lines (to - from) [] ∙ ap (λ n. get_or lines n []) place)

-- nothing is put yet
pub put_between_none : (text : Text) (from : ℕ) (lines : List (List ℕ)) → text ≡ put text (between from from lines)
put_between_none text from lines = sym (ap (put text) (between_none from lines) ∙ put_none text)

-- a line more is put
pub put_between : (first text : Text) (from to : ℕ) (lines : List (List ℕ)) → from ≤ to → to < length lines
    → text ≡ put first (between from to lines) → put text (get_or lines to []) ≡ put first (between from (to + 1) lines)
put_between first text from to lines later inside so_far =
    put_more first text (between from to lines) (get_or lines to []) so_far ∙ ap (put first) (sym (between_more from to lines later inside))

none_missing_if : (room : ℕ) (piece : List ℕ) (text : Text) (fits : Bool) → nat_lt room (length piece) ≡ fits → text ≡ put (blank room) piece → text.missing ≡ 0 → text.bytes ≡ piece
none_missing_if room piece text false test is none =
    ap (λ (t : Text). t.bytes) (is ∙ put_whole (blank room) piece (omega (arith, ltb-false room (length piece) test)))
none_missing_if room piece text true test is none =
    let long = ltb-true room (length piece) test in
    let front = take room piece in
    let rest = drop room piece in
    let whole : put (blank room) front ≡ record { bytes = front; missing = 0; room = room } = put_whole (blank room) front (omega (arith, length-take-le room piece (omega arith))) in
    let full = put_full (record { bytes = front; missing = 0; room = room }) rest (omega (arith, length-take-le room piece (omega arith))) (omega arith) in
    let cut : put (blank room) piece ≡ put (put (blank room) front) rest = ap (put (blank room)) (sym (take-append-drop room piece)) ∙ sym (put_put (blank room) front rest) in
    let counted = ap (λ (t : Text). t.missing) (is ∙ cut ∙ ap (λ t. put t rest) whole ∙ full) in
    absurd (omega (arith, counted, none, length-drop room piece, long))

-- where no byte was dropped, the text is the piece
pub none_missing : (room : ℕ) (piece : List ℕ) (text : Text) → text ≡ put (blank room) piece → text.missing ≡ 0 → text.bytes ≡ piece
none_missing room piece text is none = none_missing_if room piece text (nat_lt room (length piece)) refl is none
