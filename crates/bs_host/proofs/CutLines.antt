-- The lines of a joined text are the lines that were joined, and the length of that text.
use Rattle.std.proofs.Common.{◌≡◌, ℕ, zero, suc, ◌+◌, ◌≤◌, Bool, true, false, List, [], ◌∷◌, ◌++◌, length, All, inl, inr, refl, sym, ap, ◌∙◌, arith, append-nil, length-append}
use Rattle.std.proofs.Math.Dec.{eqb}
use Rattle.std.proofs.lemmas.Bool.{and_parts, cases_Bool}
use Rattle.std.proofs.lemmas.List.Concat.{flat_map-cons, length-flat_map}
use Rattle.std.proofs.lemmas.List.Sums.{sum_by-cons}
use Rattle.std.proofs.lemmas.List.Splits.{slice_split_none, slice_split_at}
use Rattle.std.specs.List.{join_with_byte, list_all, onto_first, sum_by}
use Rattle.std.specs.Prelude.{not}
use Rattle.bs_board.specs.declared.plans.version.Version.{Version}
use Rattle.bs_registry.specs.Stays.{Capacity, Stay}
use Rattle.bs_host.specs.declared.lines.TheConstants.{LINE_FEED}
use Rattle.bs_host.specs.Cut.{is_own_line, own_lines_in}
use Rattle.bs_host.specs.inner.Cut.{behind_feeds}
use Rattle.bs_host.specs.File.{pieces_of, later_pieces}
use Rattle.bs_host.specs.Routing.{next_registry}
use Rattle.bs_host.proofs.CutPlan.{is_no_feed}

-- bytes without a line feed
abbrev pub is_line : List ℕ → Bool
is_line = list_all is_no_feed

abbrev pub are_lines : List (List ℕ) → Bool
are_lines = list_all is_line

abbrev is_feed : ℕ → Bool
is_feed byte = eqb byte LINE_FEED

pub joined_behind : (first : List ℕ) (lines : List (List ℕ)) → join_with_byte LINE_FEED (first ∷ lines) ≡ first ++ behind_feeds lines
joined_behind first [] = sym (append-nil first)
joined_behind first (next ∷ lines) =
    ap (λ rest. first ++ LINE_FEED ∷ rest) (joined_behind next lines)
    ∙ ap (λ rest. first ++ rest) (sym (flat_map-cons (λ line. LINE_FEED ∷ line) next lines))

no_feed : (byte : ℕ) → not (is_feed byte) ≡ true → is_feed byte ≡ false
no_feed byte other = elim (cases_Bool (is_feed byte)) [
  | inl feed ↦ let wrong : false ≡ true = rw feed at other in cc
  | inr apart ↦ apart
]

line_has_no_feed : (line : List ℕ) → is_line line ≡ true → All (λ byte. is_feed byte ≡ false) line
line_has_no_feed [] is k d within = absurd (omega arith)
line_has_no_feed (byte ∷ line) is zero d within = no_feed byte (and_parts _ _ is).0
line_has_no_feed (byte ∷ line) is (suc k) d within = line_has_no_feed line (and_parts (is_no_feed byte) (is_line line) is).1 k d (omega arith)

pub pieces_of_joined : (first : List ℕ) (lines : List (List ℕ)) → is_line first ≡ true → are_lines lines ≡ true
    → pieces_of (join_with_byte LINE_FEED (first ∷ lines)) ≡ first ∷ lines
pieces_of_joined first [] is all = slice_split_none is_feed first (line_has_no_feed first is)
pieces_of_joined first (next ∷ lines) is all =
    let parts = and_parts (is_line next) (are_lines lines) all in
    slice_split_at is_feed first LINE_FEED (join_with_byte LINE_FEED (next ∷ lines)) (line_has_no_feed first is) refl
    ∙ ap (λ rest. first ∷ rest) (pieces_of_joined next lines parts.0 parts.1)

onto_first_are_lines : (byte : ℕ) (lines : List (List ℕ)) → is_no_feed byte ≡ true → are_lines lines ≡ true → are_lines (onto_first byte lines) ≡ true
onto_first_are_lines byte [] is all = rw is refl
onto_first_are_lines byte (line ∷ lines) is all = rw is all

pub pieces_are_lines : (file : List ℕ) → are_lines (pieces_of file) ≡ true
pieces_are_lines [] = refl
pieces_are_lines (byte ∷ file) = elim (cases_Bool (is_feed byte)) [
  | inl feed ↦ rw feed (pieces_are_lines file)
  | inr apart ↦
      let is : is_no_feed byte ≡ true = rw apart refl in
      rw apart (onto_first_are_lines byte (pieces_of file) is (pieces_are_lines file))
]

pub later_are_lines : (lines : List (List ℕ)) → are_lines lines ≡ true → are_lines (later_pieces lines) ≡ true
later_are_lines [] all = refl
later_are_lines (line ∷ lines) all = (and_parts (is_line line) (are_lines lines) all).1

-- with one line feed each
abbrev pub bytes_of : List (List ℕ) → ℕ
bytes_of = sum_by (λ line. suc (length line))

pub length_of_joined : (first : List ℕ) (lines : List (List ℕ)) → length (join_with_byte LINE_FEED (first ∷ lines)) ≡ length first + bytes_of lines
length_of_joined first lines =
    ap length (joined_behind first lines) ∙ length-append first (behind_feeds lines)
    ∙ ap (λ n. length first + n) (length-flat_map (λ line. LINE_FEED ∷ line) lines)

pub later_fit : (lines : List (List ℕ)) → bytes_of (later_pieces lines) ≤ length (join_with_byte LINE_FEED lines)
later_fit [] = omega arith
later_fit (first ∷ lines) = let all = length_of_joined first lines in omega (arith, all)

-- a stay's own lines
module _ (capacity : Capacity) (version : Version) (stay : ℕ) where
  pub own_are_lines : (registry : List Stay) (lines : List (List ℕ)) → are_lines lines ≡ true → are_lines (own_lines_in capacity version registry stay lines) ≡ true
  own_are_lines registry [] all = refl
  own_are_lines registry (text ∷ lines) all =
      let parts = and_parts (is_line text) (are_lines lines) all in
      let rest = own_are_lines (next_registry capacity version registry text) lines parts.1 in
      elim (cases_Bool (is_own_line capacity version registry stay text)) [
        | inl own ↦ rw (own, parts.0) rest
        | inr other ↦ rw other rest
      ]

  pub own_are_fewer : (registry : List Stay) (lines : List (List ℕ)) → bytes_of (own_lines_in capacity version registry stay lines) ≤ bytes_of lines
  own_are_fewer registry [] = omega arith
  own_are_fewer registry (text ∷ lines) =
      let next = next_registry capacity version registry text in
      let rest = own_are_fewer next lines in
      let all = sum_by-cons (λ (line : List ℕ). suc (length line)) text lines in
      elim (cases_Bool (is_own_line capacity version registry stay text)) [
        | inl own ↦
            let some = sum_by-cons (λ (line : List ℕ). suc (length line)) text (own_lines_in capacity version next stay lines) in
            rw own (omega (arith, rest, all, some))
        | inr other ↦ rw other (omega (arith, rest, all))
      ]
