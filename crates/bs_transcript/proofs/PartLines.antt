-- The lines of a transcript, one by one and together.
use Rattle.std.proofs.Common.{◌≡◌, ℕ, zero, suc, ◌+◌, ◌<◌, ◌≤◌, drop, get_or, List, [], ◌∷◌, ◌++◌, length, map, refl, sym, ap, ◌∙◌, arith, append_assoc, append-nil, length-append}
use Rattle.std.specs.Prelude.{IfSome, Option, None, Some, Ok, ok_or, option_copied}
use Rattle.std.specs.List.{enumerate_from, flat_map}
use Rattle.std.proofs.lemmas.List.{length-map, drop_more, drop_all}
use Rattle.std.proofs.lemmas.List.Concat.{flat_map-append}
use Rattle.std.proofs.lemmas.List.FromFn.{length-enumerate_from}
use Rattle.bs_board.specs.declared.commands.reply.Reply.{Reply}
use Rattle.bs_json.specs.declared.line.Stray.{Stray}
use Rattle.bs_json.specs.Replies.{reply_line_of, final_line_of, stray_line_of}
use Rattle.bs_transcript.specs.declared.section.Section.{Section}
use Rattle.bs_transcript.specs.Lines.{section_lines_of, text_of}
use Rattle.bs_transcript.specs.inner.Parts.{lines_of_section, lines_of_strays, all_lines_of, joined}

-- how many lines there are

pub section_count : (section : Section) → length (lines_of_section section) ≡ length section.replies.now + 1
section_count section =
    let line = λ (reply : ℕ × Reply). reply_line_of section.name.now reply.0 reply.1 in
    let numbered = enumerate_from 1 section.replies.now in
    length-append (map line numbered) _ ∙ ap (λ n. n + 1) (length-map numbered line ∙ length-enumerate_from 1 section.replies.now)

pub strays_count : (strays : List (ℕ × Stray)) → length (lines_of_strays strays) ≡ length strays
strays_count strays = length-map strays (λ (stray : ℕ × Stray). stray_line_of stray.0 stray.1)

-- the line at a place

numbered_at : {X Y : Type 0} (h : ℕ × X → Y) (n at : ℕ) (xs : List X) (more : List Y) (x : X) (d : Y) → at < length xs
    → get_or (map h (enumerate_from n xs) ++ more) at d ≡ h (n + at, get_or xs at x)
numbered_at h n at [] more x d within = absurd (omega arith)
numbered_at h n zero (y ∷ xs) more x d within = let e : n ≡ n + 0 = omega arith in ap (λ k. h (k, y)) e
numbered_at h n (suc at) (y ∷ xs) more x d within =
    let e : n + 1 + at ≡ n + suc at = omega arith in
    numbered_at h (n + 1) at xs more x d (omega arith) ∙ ap (λ k. h (k, get_or xs at x)) e

pub reply_line_at : (section : Section) (at : ℕ) (reply : Reply) → at < length section.replies.now → reply ≡ get_or section.replies.now at reply
    → reply_line_of section.name.now (at + 1) reply ≡ get_or (lines_of_section section) at []
reply_line_at section at reply within is =
    let line = λ (reply : ℕ × Reply). reply_line_of section.name.now reply.0 reply.1 in
    let e : 1 + at ≡ at + 1 = omega arith in
    sym (numbered_at line 1 at section.replies.now (final_line_of section.name.now (option_copied section.board) section.charge ∷ []) reply [] within
    ∙ ap (λ k. line (k, get_or section.replies.now at reply)) e
    ∙ ap (λ r. line (at + 1, r)) (sym is))

at_end : {Y : Type 0} (ys : List Y) (end d : Y) (at : ℕ) → at ≡ length ys → get_or (ys ++ end ∷ []) at d ≡ end
at_end [] end d zero is = refl
at_end [] end d (suc at) is = absurd (omega arith)
at_end (y ∷ ys) end d zero is = absurd (omega arith)
at_end (y ∷ ys) end d (suc at) is = at_end ys end d at (omega arith)

pub final_line_at : (section : Section) (at : ℕ) → at < length (lines_of_section section) → length section.replies.now ≤ at
    → final_line_of section.name.now (option_copied section.board) section.charge ≡ get_or (lines_of_section section) at []
final_line_at section at within behind =
    let line = λ (reply : ℕ × Reply). reply_line_of section.name.now reply.0 reply.1 in
    let numbered = enumerate_from 1 section.replies.now in
    let many : length (map line numbered) ≡ length section.replies.now = length-map numbered line ∙ length-enumerate_from 1 section.replies.now in
    let is : at ≡ length (map line numbered) = omega (arith, section_count section, many) in
    sym (at_end (map line numbered) (final_line_of section.name.now (option_copied section.board) section.charge) [] at is)

mapped_at : {X Y : Type 0} (h : X → Y) (at : ℕ) (xs : List X) (x : X) (d : Y) → at < length xs → get_or (map h xs) at d ≡ h (get_or xs at x)
mapped_at h at [] x d within = absurd (omega arith)
mapped_at h zero (y ∷ xs) x d within = refl
mapped_at h (suc at) (y ∷ xs) x d within = mapped_at h at xs x d (omega arith)

pub stray_line_at : (strays : List (ℕ × Stray)) (at : ℕ) (stray : ℕ × Stray) → at < length strays
    → stray_line_of (get_or strays at stray).0 (get_or strays at stray).1 ≡ get_or (lines_of_strays strays) at []
stray_line_at strays at stray within = sym (mapped_at (λ (stray : ℕ × Stray). stray_line_of stray.0 stray.1) at strays stray [] within)

-- all lines together

joined_map : {X : Type 0} (h : X → List ℕ) (xs : List X) → joined (map h xs) ≡ flat_map h xs
joined_map h [] = refl
joined_map h (x ∷ xs) = ap (λ rest. h x ++ rest) (joined_map h xs)

section_text : (section : Section) → joined (lines_of_section section) ≡ section_lines_of section
section_text section =
    let line = λ (reply : ℕ × Reply). reply_line_of section.name.now reply.0 reply.1 in
    let numbered = enumerate_from 1 section.replies.now in
    let end = final_line_of section.name.now (option_copied section.board) section.charge in
    flat_map-append (λ line. line) (map line numbered) (end ∷ []) ∙ ap (λ t. t ++ (end ++ [])) (joined_map line numbered)
    ∙ ap (λ t. flat_map line numbered ++ t) (append-nil end)

sections_text : (sections : List Section) → joined (flat_map lines_of_section sections) ≡ flat_map section_lines_of sections
sections_text [] = refl
sections_text (section ∷ sections) =
    flat_map-append (λ line. line) (lines_of_section section) (flat_map lines_of_section sections)
    ∙ ap (λ t. t ++ joined (flat_map lines_of_section sections)) (section_text section)
    ∙ ap (λ t. section_lines_of section ++ t) (sections_text sections)

-- all lines are the text
pub all_lines_text : (sections : List Section) (strays : List (ℕ × Stray)) → joined (all_lines_of sections strays) ≡ text_of sections strays
all_lines_text sections strays =
    flat_map-append (λ line. line) (flat_map lines_of_section sections) (lines_of_strays strays)
    ∙ ap (λ t. t ++ joined (lines_of_strays strays)) (sections_text sections)
    ∙ ap (λ t. flat_map section_lines_of sections ++ t) (joined_map (λ (stray : ℕ × Stray). stray_line_of stray.0 stray.1) strays)

-- the lines of the sections from a place on: those of the first, then the others

pub section_first : (sections : List Section) (strays : List (ℕ × Stray)) (at : ℕ) (section : Section) → at < length sections
    → section ≡ get_or sections at section
    → all_lines_of (drop at sections) strays ≡ lines_of_section section ++ all_lines_of (drop (at + 1) sections) strays
section_first sections strays at section within is =
    let others = flat_map lines_of_section (drop (at + 1) sections) in
    let first : drop at sections ≡ section ∷ drop (at + 1) sections =
    drop_more sections at section within ∙ ap (λ s. s ∷ drop (at + 1) sections) (sym is) in
    ap (λ (some : List Section). all_lines_of some strays) first ∙ append_assoc (lines_of_section section) others (lines_of_strays strays)

pub strays_alone : (sections : List Section) (strays : List (ℕ × Stray)) (at : ℕ) → length sections ≤ at
    → all_lines_of (drop at sections) strays ≡ lines_of_strays strays ++ []
strays_alone sections strays at past =
    ap (λ (some : List Section). all_lines_of some strays) (drop_all at sections past) ∙ sym (append-nil (lines_of_strays strays))

-- ---- bounds

-- the bound of a line is that of an equal one
pub bound_of_equal : (line other : List ℕ) (bound : Option ℕ) → line ≡ other → IfSome bound (λ b. length line ≤ b) → IfSome bound (λ b. length other ≤ b)
bound_of_equal line other None same short = tt
bound_of_equal line other (Some b) same short = let equal = ap length same in omega arith

-- what a bound that is found says
pub bound_found : {E : Type 0} (line : List ℕ) (bound : Option ℕ) (error : E) (found : ℕ) → IfSome bound (λ b. length line ≤ b) → Ok found ≡ ok_or bound error → length line ≤ found
bound_found line None error found short is = absurd cc
bound_found line (Some b) error found short is = let same : found ≡ b = cc in omega arith
