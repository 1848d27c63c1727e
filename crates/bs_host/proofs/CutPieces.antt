-- A file split at its line feeds.
use Rattle.std.proofs.Common.{◌≡◌, Option, ℕ, zero, suc, ◌+◌, ◌-◌, ◌<◌, ◌≤◌, Bool, false, true, refl, List, [], ◌∷◌, ◌++◌, Some, None, length, take, drop, get_or, sym, ap, ◌∙◌, arith, All, length-take, length-drop, take-append-drop, add-one, inl, inr}
use Rattle.std.proofs.Math.Dec.{eqb, ltb}
use Rattle.std.proofs.Math.Seq.{drop-cons}
use Rattle.std.proofs.lemmas.Bool.{cases_Bool, ltb-false, lt-ltb, le-ltb, cond-true}
use Rattle.std.proofs.lemmas.List.{get_or-take, get_or-drop, take_rest}
use Rattle.std.proofs.lemmas.List.Quantifiers.{position-Some}
use Rattle.std.proofs.lemmas.List.Sums.{position_or_len_is}
use Rattle.std.proofs.lemmas.List.Splits.{slice_split_none, slice_split_at, slice_split-cons_yes, slice_split-cons_no, length-slice_split}
use Rattle.std.specs.List.{onto_first, position, position_or_len}
use Rattle.memchr.specs.Find.{IsFirstByte, Passes, is_byte}
use Rattle.bs_host.specs.declared.lines.TheConstants.{LINE_FEED}
use Rattle.bs_host.specs.File.{pieces_of}

module _ {X : Type 0} (p : X → Bool) where
  all_behind : (x : X) (xs : List X) → p x ≡ false → All (λ y. p y ≡ false) xs → All (λ y. p y ≡ false) (x ∷ xs)
  all_behind x xs fails rest zero d within = fails
  all_behind x xs fails rest (suc k) d within = rest k d (omega arith)

  all_fail : (xs : List X) → length xs ≤ position_or_len p xs → All (λ x. p x ≡ false) xs
  all_fail [] all = λ k d within. absurd (omega arith)
  all_fail (x ∷ xs) all = elim (cases_Bool (p x)) [
    | inl passes ↦ let none : suc (length xs) ≤ 0 = rw passes at all in absurd (omega arith)
    | inr fails ↦ let more : suc (length xs) ≤ 1 + position_or_len p xs = rw fails at all in all_behind x xs fails (all_fail xs (omega arith))
  ]

  -- the search found no place
  pub fails_everywhere : (xs : List X) → position p xs ≡ None → All (λ x. p x ≡ false) xs
  fails_everywhere xs none = elim (cases_Bool (ltb (position_or_len p xs) (length xs))) [
    | inl within ↦ let wrong = sym (cond-true _ (Some (position_or_len p xs)) None within) ∙ none in cc
    | inr past ↦ all_fail xs (ltb-false _ _ past)
  ]

abbrev pub is_feed : ℕ → Bool
is_feed byte = eqb byte LINE_FEED

-- the first position of a byte, if there is one, is where a search for it stops

pub is_not : (b : Bool) → (b ≡ true → ⊥) → b ≡ false
is_not true never = absurd (never refl)
is_not false never = refl

place_of_first : (byte : ℕ) (text : List ℕ) (at : ℕ) → at ≤ length text → ((k : ℕ) → k < at → Passes (is_byte byte) text k → ⊥)
    → (at < length text → Passes (is_byte byte) text at) → position_or_len (is_byte byte) text ≡ at
place_of_first byte text at within before there =
    position_or_len_is (is_byte byte) text at 0 within (λ k below. is_not (is_byte byte (get_or text k 0)) (before k below)) there

pub first_byte_is_position : (byte : ℕ) (text : List ℕ) (found : Option ℕ) → IsFirstByte (is_byte byte) text found → found ≡ position (is_byte byte) text
first_byte_is_position byte text None nowhere =
    let all = place_of_first byte text (length text) (omega arith) (λ k below. nowhere k (omega arith) below) (λ past. absurd (omega arith)) in
    rw (all, le-ltb (length text) (length text) (omega arith)) refl
first_byte_is_position byte text (Some at) found =
    let first = place_of_first byte text at (omega (arith, found.0.high)) (λ k below. found.0.before k (omega arith) below) (λ within. found.1) in
    rw (first, lt-ltb at (length text) found.0.high) refl

parts_at_feed : (text : List ℕ) (at : ℕ) → position is_feed text ≡ Some at → pieces_of text ≡ take at text ∷ pieces_of (drop (at + 1) text)
parts_at_feed text at found =
    let (within, hit, before) = position-Some is_feed text at 0 found in
    let front : All (λ byte. is_feed byte ≡ false) (take at text) = λ k d inside.
    let place : k < at = omega (arith, length-take at text) in
    rw (get_or-take at text k d place) ((position-Some is_feed text at d found).2 k place) in
    let parts : text ≡ take at text ++ get_or text at 0 ∷ drop (suc at) text = sym (ap (λ t. take at text ++ t) (sym (drop-cons text at 0 within)) ∙ take-append-drop at text) in
    rw add-one (ap pieces_of parts ∙ slice_split_at is_feed (take at text) (get_or text at 0) (drop (suc at) text) front hit)

-- the bytes of `&text[..at]` and of `&text[at + 1..]`
pub pieces_at_feed : (text : List ℕ) (at : ℕ) → position is_feed text ≡ Some at
    → pieces_of text ≡ take at text ∷ pieces_of (take (length text - (at + 1)) (drop (at + 1) text))
pieces_at_feed text at found = rw (take_rest text (at + 1)) (parts_at_feed text at found)

onto_first_append : (byte : ℕ) (parts more : List (List ℕ)) → 0 < length parts → onto_first byte (parts ++ more) ≡ onto_first byte parts ++ more
onto_first_append byte [] more some = absurd (omega arith)
onto_first_append byte (part ∷ parts) more some = refl

some_pieces : (text : List ℕ) → 0 < length (pieces_of text)
some_pieces text = omega (arith, length-slice_split is_feed text)

pub pieces_between : (front : List ℕ) (feed : ℕ) (back : List ℕ) → is_feed feed ≡ true → pieces_of (front ++ feed ∷ back) ≡ pieces_of front ++ pieces_of back
pieces_between [] feed back hit = slice_split-cons_yes is_feed feed back hit
pieces_between (byte ∷ front) feed back hit = elim (cases_Bool (is_feed byte)) [
  | inl hits ↦
      slice_split-cons_yes is_feed byte (front ++ feed ∷ back) hits ∙ ap (λ parts. [] ∷ parts) (pieces_between front feed back hit)
      ∙ ap (λ parts. parts ++ pieces_of back) (sym (slice_split-cons_yes is_feed byte front hits))
  | inr misses ↦
      slice_split-cons_no is_feed byte (front ++ feed ∷ back) misses ∙ ap (onto_first byte) (pieces_between front feed back hit)
      ∙ onto_first_append byte (pieces_of front) (pieces_of back) (some_pieces front)
      ∙ ap (λ parts. parts ++ pieces_of back) (sym (slice_split-cons_no is_feed byte front misses))
]

-- the bytes of `&text[..at]` and of `&text[at + 1..]`, where the feed at that place is the first
-- one from an earlier place on
pub pieces_around : (text : List ℕ) (place found : ℕ) → place ≤ length text → position is_feed (take (length text - place) (drop place text)) ≡ Some found
    → pieces_of text ≡ pieces_of (take (place + found) text) ++ pieces_of (take (length text - (place + found + 1)) (drop (place + found + 1) text))
pieces_around text place found within is =
    let at = place + found in
    let (inside, hit, before) = position-Some is_feed (drop place text) found 0 (ap (position is_feed) (sym (take_rest text place)) ∙ is) in
    let short : at < length text = omega (arith, inside, length-drop place text) in
    let feed : is_feed (get_or text at 0) ≡ true = ap is_feed (sym (get_or-drop place text found 0)) ∙ hit in
    let parts : text ≡ take at text ++ get_or text at 0 ∷ drop (suc at) text = sym (ap (λ t. take at text ++ t) (sym (drop-cons text at 0 short)) ∙ take-append-drop at text) in
    rw (take_rest text (at + 1), add-one) (ap pieces_of parts ∙ pieces_between (take at text) (get_or text at 0) (drop (suc at) text) feed)

pub piece_without_feed : (text : List ℕ) → position is_feed text ≡ None → pieces_of text ≡ text ∷ []
piece_without_feed text none = slice_split_none is_feed text (fails_everywhere is_feed text none)
