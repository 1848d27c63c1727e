-- The kept bytes of a line that is too long.
use Rattle.std.proofs.Common.{◌≡◌, ℕ, zero, suc, ◌+◌, ◌<◌, ◌≤◌, true, false, List, [], ◌∷◌, ◌++◌, Option, Some, None, All, length, map, take, refl, sym, ap, ◌∙◌, arith, length-take}
use Rattle.std.specs.Prelude.{nat_lt}
use Rattle.std.specs.List.{cons_option, onto_first, position}
use Rattle.std.proofs.lemmas.Bool.{cond-true, lt-ltb}
use Rattle.std.proofs.lemmas.List.{length-map, take_all, take-append-le}
use Rattle.std.proofs.lemmas.List.Elements.{All-head, All-tail, All-take}
use Rattle.std.proofs.lemmas.List.Quantifiers.{position-Some}
use Rattle.std.proofs.lemmas.List.Splits.{slice_split-cons_no, length-slice_split}
use Rattle.bs_board.specs.declared.plans.version.Version.{Version}
use Rattle.bs_board.specs.plans.Plan.{GameRow}
use Rattle.bs_json.specs.declared.limits.TheConstants.{MAX_LINE}
use Rattle.bs_json.specs.Line.{line_of}
use Rattle.bs_registry.specs.Stays.{Capacity, Stay}
use Rattle.bs_workers.specs.Acts.{opened}
use Rattle.bs_host.specs.File.{pieces_of}
use Rattle.bs_registry.specs.OpenStays.{open_of}
use Rattle.bs_host.specs.Live.{acts_behind, answer_after, answers_from, closing_behind, closing_of, live_lines_of, route_line, stays_left}
use Rattle.bs_host.specs.inner.Live.{IsSameText, held_of}
use Rattle.bs_host.specs.Routing.{act_in, acts_in, capacity_of, next_registry, registry_behind, registry_then, route_at, route_of, routes_from}
use Rattle.bs_host.proofs.CutPieces.{fails_everywhere, is_feed}

-- a text without a line feed, before another

abbrev pub in_front : List ℕ → List (List ℕ) → List (List ℕ)
in_front [] parts = parts
in_front (x ∷ xs) parts = onto_first x (in_front xs parts)

pub in_front_some : (xs part : List ℕ) (parts : List (List ℕ)) → in_front xs (part ∷ parts) ≡ (xs ++ part) ∷ parts
in_front_some [] part parts = refl
in_front_some (x ∷ xs) part parts = ap (onto_first x) (in_front_some xs part parts)

pub pieces_in_front : (xs more : List ℕ) → All (λ byte. is_feed byte ≡ false) xs → pieces_of (xs ++ more) ≡ in_front xs (pieces_of more)
pieces_in_front [] more none = refl
pieces_in_front (x ∷ xs) more none =
    slice_split-cons_no is_feed x (xs ++ more) (All-head (λ byte. is_feed byte ≡ false) x xs none)
    ∙ ap (onto_first x) (pieces_in_front xs more (All-tail (λ byte. is_feed byte ≡ false) x xs none))

same_taken : (n : ℕ) (xs part : List ℕ) → n ≤ length xs → take n (xs ++ part) ≡ take n (take n xs ++ part)
same_taken n xs part few =
    let long : length (take n xs) ≡ n = omega (arith, few, length-take n xs) in
    take-append-le n xs part few ∙ sym (take_all n (take n xs) (omega (arith, long))) ∙ sym (take-append-le n (take n xs) part (omega (arith, long)))

same_front : (n : ℕ) (xs : List ℕ) (parts : List (List ℕ)) → n ≤ length xs → 0 < length parts
    → map (take n) (in_front xs parts) ≡ map (take n) (in_front (take n xs) parts)
same_front n xs [] few some = absurd (omega (arith, some))
same_front n xs (part ∷ parts) few some =
    ap (map (take n)) (in_front_some xs part parts) ∙ ap (λ first. first ∷ map (take n) parts) (same_taken n xs part few)
    ∙ sym (ap (map (take n)) (in_front_some (take n xs) part parts))

pub same_text : (text : List ℕ) → IsSameText text text
same_text text = λ more. refl

held_at : (n : ℕ) (text more : List ℕ) → position is_feed text ≡ None → n ≤ length text
    → map (take n) (pieces_of (text ++ more)) ≡ map (take n) (pieces_of (take n text ++ more))
held_at n text more none few =
    let no_feed : All (λ byte. is_feed byte ≡ false) text = fails_everywhere is_feed text none in
    let many : length (pieces_of more) ≡ _ = length-slice_split is_feed more in
    ap (map (take n)) (pieces_in_front text more no_feed) ∙ same_front n text (pieces_of more) few (omega (arith, many))
    ∙ sym (ap (map (take n)) (pieces_in_front (take n text) more (All-take (λ byte. is_feed byte ≡ false) n text no_feed)))

pub held_back : (text : List ℕ) → position is_feed text ≡ None → MAX_LINE + 1 ≤ length text → IsSameText text (take (MAX_LINE + 1) text)
unfolding held_of
held_back text none few = λ more. held_at (MAX_LINE + 1) text more none few

pub none_found : (xs : List ℕ) (found : Option ℕ) → position is_feed xs ≡ found → All (λ byte. is_feed byte ≡ false) xs → found ≡ None
none_found xs None is fails = refl
none_found xs (Some at) is fails =
    let (inside, hit, before) = position-Some is_feed xs at 0 is in
    let wrong : true ≡ false = sym hit ∙ fails at 0 inside in
    absurd cc

pub still_none : (n : ℕ) (text : List ℕ) → position is_feed text ≡ None → position is_feed (take n text) ≡ None
still_none n text none =
    none_found (take n text) (position is_feed (take n text)) refl (All-take (λ byte. is_feed byte ≡ false) n text (fails_everywhere is_feed text none))

-- how a line is read does not depend on the bytes after the kept ones

pub by_length : {C : Type 0} (k at : ℕ) → (k ≤ at → C) → (at < k → C) → C
by_length zero at short long = short (omega arith)
by_length (suc k) zero short long = long (omega arith)
by_length (suc k) (suc at) short long = by_length k at (λ few. short (omega (arith, few))) (λ many. long (omega (arith, many)))

line_held : (n : ℕ) (version : Version) (text : List ℕ) → n ≡ MAX_LINE + 1 → line_of version (take n text) ≡ line_of version text
unfolding line_of
line_held n version text is =
    by_length (length text) MAX_LINE
    (λ few. ap (line_of version) (take_all n text (omega (arith, is, few))))
    (λ many.
    cond-true (nat_lt MAX_LINE (length (take n text))) _ _ (lt-ltb MAX_LINE (length (take n text)) (omega (arith, is, many, length-take n text)))
    ∙ sym (cond-true (nat_lt MAX_LINE (length text)) _ _ (lt-ltb MAX_LINE (length text) many)))

pub line_same : (version : Version) (text : List ℕ) → line_of version (held_of text) ≡ line_of version text
unfolding held_of
line_same version text = line_held (MAX_LINE + 1) version text refl

-- so the output depends only on the kept bytes of the lines

module _ (capacity : Capacity) (version : Version) where
  registry_same : (registry : List Stay) (lines : List (List ℕ))
      → registry_behind capacity version registry (map held_of lines) ≡ registry_behind capacity version registry lines
  registry_same registry [] = refl
  registry_same registry (text ∷ lines) =
      ap (λ l. registry_behind capacity version (registry_then registry (route_of capacity registry l)) (map held_of lines)) (line_same version text)
      ∙ registry_same (next_registry capacity version registry text) lines

  acts_same : (registry : List Stay) (number : ℕ) (lines : List (List ℕ))
      → acts_in (routes_from capacity version registry number (map held_of lines)) ≡ acts_in (routes_from capacity version registry number lines)
  acts_same registry number [] = refl
  acts_same registry number (text ∷ lines) =
      ap (λ l. cons_option (act_in (route_of capacity registry l))
      (acts_in (routes_from capacity version (registry_then registry (route_of capacity registry l)) (number + 1) (map held_of lines)))) (line_same version text)
      ∙ ap (λ rest. cons_option (act_in (route_at capacity version registry text)) rest)
      (acts_same (next_registry capacity version registry text) (number + 1) lines)

map_more : (lines : List (List ℕ)) (text : List ℕ) → map held_of (lines ++ text ∷ []) ≡ map held_of lines ++ held_of text ∷ []
map_more [] text = refl
map_more (line ∷ lines) text = ap (λ rest. held_of line ∷ rest) (map_more lines text)

pub map_both : (lines more : List (List ℕ)) → map held_of (lines ++ more) ≡ map held_of lines ++ map held_of more
map_both [] more = refl
map_both (line ∷ lines) more = ap (λ rest. held_of line ∷ rest) (map_both lines more)

module _ (blocks : ℕ) (version : Version) (plan : List GameRow) where
  answer_same : (before : List (List ℕ)) (text : List ℕ)
      → answer_after blocks version plan (map held_of before) (held_of text) ≡ answer_after blocks version plan before text
  unfolding answer_after
  answer_same before text =
      ap (λ acts. route_line plan acts (2 + length (map held_of before)) (route_at (capacity_of blocks) version (stays_left blocks version plan (map held_of before)) (held_of text)))
      (acts_same (capacity_of blocks) version (opened plan) 2 before)
      ∙ ap (λ n. route_line plan (acts_behind blocks version plan before) (2 + n) (route_at (capacity_of blocks) version (stays_left blocks version plan (map held_of before)) (held_of text)))
      (length-map before held_of)
      ∙ ap (λ stays. route_line plan (acts_behind blocks version plan before) (2 + length before) (route_at (capacity_of blocks) version stays (held_of text)))
      (registry_same (capacity_of blocks) version (opened plan) before)
      ∙ ap (λ l. route_line plan (acts_behind blocks version plan before) (2 + length before) (route_of (capacity_of blocks) (stays_left blocks version plan before) l))
      (line_same version text)

  pub answers_same : (before lines : List (List ℕ))
      → answers_from blocks version plan (map held_of before) (map held_of lines) ≡ answers_from blocks version plan before lines
  answers_same before [] = refl
  answers_same before (text ∷ lines) =
      ap (λ first. first ++ answers_from blocks version plan (map held_of before ++ held_of text ∷ []) (map held_of lines)) (answer_same before text)
      ∙ ap (λ all. answer_after blocks version plan before text ++ answers_from blocks version plan all (map held_of lines)) (sym (map_more before text))
      ∙ ap (λ rest. answer_after blocks version plan before text ++ rest) (answers_same (before ++ text ∷ []) lines)

  closing_same : (lines : List (List ℕ)) → closing_behind blocks version plan (map held_of lines) ≡ closing_behind blocks version plan lines
  unfolding closing_behind
  closing_same lines =
      ap (λ acts. closing_of acts (open_of (stays_left blocks version plan (map held_of lines)))) (acts_same (capacity_of blocks) version (opened plan) 2 lines)
      ∙ ap (λ stays. closing_of (acts_behind blocks version plan lines) (open_of stays)) (registry_same (capacity_of blocks) version (opened plan) lines)

  live_held : (lines : List (List ℕ)) → live_lines_of blocks version plan (map held_of lines) ≡ live_lines_of blocks version plan lines
  live_held lines =
      ap (λ text. text ++ closing_behind blocks version plan (map held_of lines)) (answers_same [] lines)
      ∙ ap (λ text. answers_from blocks version plan [] lines ++ text) (closing_same lines)

  -- if the same is kept of the lines, the same is written
  pub live_same : (a b : List (List ℕ)) → map held_of a ≡ map held_of b → live_lines_of blocks version plan a ≡ live_lines_of blocks version plan b
  live_same a b same = sym (live_held a) ∙ ap (live_lines_of blocks version plan) same ∙ live_held b
