-- The rows of the open stays, without what is kept for them.
use Rattle.std.proofs.Common.{◌≡◌, ℕ, zero, suc, ◌+◌, ◌-◌, ◌<◌, ◌&&◌, Bool, true, false, not, List, [], ◌∷◌, ◌++◌, Some, None, drop, get_or, length, map, set, take, inl, inr, refl, sym, ap, ◌∙◌, arith}
use Rattle.std.specs.Prelude.{nat_eq, nat_lt, slice_get}
use Rattle.std.specs.List.{filter, list_any, position, position_or_len}
use Rattle.std.proofs.Math.Seq.{map-set_same, take-append_seam}
use Rattle.std.proofs.lemmas.Bool.{and_parts, cases_Bool, ltb-true}
use Rattle.std.proofs.lemmas.List.{drop_more, length-map, length_push, map-append, take-map}
use Rattle.std.proofs.lemmas.List.Quantifiers.{position-Some}
use Rattle.std.proofs.lemmas.List.Sums.{sum_by-cons}
use Rattle.bs_board.specs.plans.Plan.{GameRow, row_of}
use Rattle.bs_board.specs.Texts.{is_same_text}
use Rattle.bs_board.proofs.Distinct.{list_any_map}
use Rattle.bs_registry.specs.declared.registry.Listed.{Listed}
use Rattle.bs_board.specs.declared.limits.TheConstants.{MOST_ROWS}
use Rattle.bs_registry.specs.declared.blocks.TheConstants.{MOST_STAYS}
use Rattle.bs_registry.specs.declared.refusal.Refusal.TheVariants as refused
use Rattle.bs_registry.specs.Stays.{refusal_in_order}
use Rattle.bs_registry.specs.Blocks.{blocks_of}
use Rattle.bs_registry.specs.OpenStays.{are_named_once, bears, blocks_in, found_in, is_full_open}
use Rattle.bs_registry.specs.Registry.{Listing, before_push, listing_of, row_open, rows_open, with_kept, with_stay}
use Rattle.bs_registry.proofs.Found.{found_at}
use Rattle.bs_registry.proofs.NamedOnce.{first_named_once, pushed_named_once, rest_named_once}

suc_same : (m n : ℕ) → m ≡ n → 1 + m ≡ 1 + n
suc_same m n same = omega (arith, same)

position_len_map : {X Y : Type 0} (p : Y → Bool) (f : X → Y) (xs : List X) → position_or_len p (map f xs) ≡ position_or_len (λ x. p (f x)) xs
position_len_map p f [] = refl
position_len_map p f (x ∷ xs) = elim (cases_Bool (p (f x))) [
  | inl hit ↦ rw hit refl
  | inr miss ↦ rw miss (suc_same _ _ (position_len_map p f xs))
]

position_map : {X Y : Type 0} (p : Y → Bool) (f : X → Y) (xs : List X) → position p (map f xs) ≡ position (λ x. p (f x)) xs
position_map p f xs = rw (position_len_map p f xs, length-map xs f) refl

-- if nothing refuses a row, its name is new, and there is a number for it
pub unrefused : (named : Bool) (made needed left : ℕ) (stays : List (ℕ × GameRow)) → refusal_in_order named (is_full_open made stays) needed left ≡ None
    → (named ≡ false) × (made < MOST_STAYS)
unrefused true made needed left stays none = absurd cc
unrefused false made needed left stays none = elim (cases_Bool (nat_lt (length stays) MOST_ROWS && nat_lt made MOST_STAYS)) [
  | inl fits ↦ (refl, ltb-true made MOST_STAYS (and_parts (nat_lt (length stays) MOST_ROWS) (nat_lt made MOST_STAYS) fits).1)
  | inr full ↦ let wrong : Some refused.Full ≡ None = rw full at none in absurd cc
]

module _ {X : Type 0} where
  pub place_named : (name : List ℕ) (stays : List (Listed X)) → position (λ stay. is_same_text name stay.row.game) stays ≡ position (bears name) (rows_open stays)
  place_named name stays = sym (position_map (bears name) row_open stays)

  pub any_named : (name : List ℕ) (stays : List (Listed X)) → list_any (λ stay. is_same_text name stay.row.game) stays ≡ list_any (bears name) (rows_open stays)
  any_named name stays = sym (list_any_map (bears name) row_open stays)

  pub row_read : (stays : List (Listed X)) (place : ℕ) (d : Listed X) (e : ℕ × GameRow) → place < length stays
      → get_or (rows_open stays) place e ≡ row_open (get_or stays place d)
  row_read [] place d e within = absurd (omega (arith, within))
  row_read (stay ∷ stays) zero d e within = refl
  row_read (stay ∷ stays) (suc place) d e within =
      let few : suc place < suc (length stays) = within in
      row_read stays place d e (omega (arith, few))

  pub found_listed : (name : List ℕ) (stays : List (Listed X)) (place : ℕ) (d : Listed X) → Some place ≡ position (bears name) (rows_open stays)
      → Some (get_or stays place d).number ≡ found_in name (rows_open stays)
  found_listed name stays place d is =
      let inside = (position-Some (bears name) (rows_open stays) place (0, row_of [] 0) (sym is)).0 in
      let within : place < length stays = omega (arith, inside, length-map stays row_open) in
      ap (λ (at : ℕ × GameRow). Some at.0) (sym (row_read stays place d (0, row_of [] 0) within)) ∙ found_at name (rows_open stays) place (0, row_of [] 0) is

  -- the free blocks after one more open stay is counted
  pub one_less_left : (cap : ℕ) (stays : List (Listed X)) (index : ℕ) (d : Listed X) (old new total : ℕ) → index < length stays
      → new ≡ old - blocks_of cap (get_or stays index d).row → old - blocks_in cap (drop index (rows_open stays)) ≡ total
      → new - blocks_in cap (drop (index + 1) (rows_open stays)) ≡ total
  one_less_left cap stays index d old new total within is before =
      let rows = rows_open stays in
      let e : ℕ × GameRow = (0, row_of [] 0) in
      let here = ap (λ (at : ℕ × GameRow). blocks_of cap at.1) (row_read stays index d e within) in
      let next = ap (blocks_in cap) (drop_more rows index e (omega (arith, within, length-map stays row_open))) in
      let one = sum_by-cons (λ (stay : ℕ × GameRow). blocks_of cap stay.1) (get_or rows index e) (drop (index + 1) rows) in
      omega (arith, is, before, next, one, here)

  -- one more stay, one stay less, and another value kept for a stay

  pub pushed_once : (stays : List (Listed X)) (made : ℕ) (row : GameRow) (kept : X) → are_named_once (rows_open stays) ≡ true → list_any (bears row.game) (rows_open stays) ≡ false
      → are_named_once (rows_open (stays ++ record { number = made; row = row; kept = kept } ∷ [])) ≡ true
  pushed_once stays made row kept once new =
      ap are_named_once (map-append row_open stays (record { number = made; row = row; kept = kept } ∷ [])) ∙ pushed_named_once (rows_open stays) made row once new

  pub filtered_rows : (number : ℕ) (stays : List (Listed X))
      → rows_open (filter (λ stay. not (nat_eq stay.number number)) stays) ≡ filter (λ other. not (nat_eq other.0 number)) (rows_open stays)
  filtered_rows number [] = refl
  filtered_rows number (stay ∷ stays) = elim (cases_Bool (nat_eq stay.number number)) [
    | inl left ↦ rw left (filtered_rows number stays)
    | inr other ↦ rw other (ap (λ rest. row_open stay ∷ rest) (filtered_rows number stays))
  ]

  pub undone_once : (n : ℕ) (stays : List (Listed X)) → are_named_once (rows_open stays) ≡ true → are_named_once (rows_open (take n stays)) ≡ true
  undone_once n stays once = ap are_named_once (sym (take-map row_open n stays)) ∙ first_named_once n (rows_open stays) once

  pub undone : (registry : Listing X) (row : GameRow) (kept : X) → before_push (with_stay row kept registry) ≡ registry
  undone registry row kept =
      let stay : Listed X = record { number = registry.made; row = row; kept = kept } in
      let made : registry.made + 1 - 1 ≡ registry.made = omega arith in
      let one : length (registry.stays ++ stay ∷ []) - 1 ≡ length registry.stays = omega (arith, length_push registry.stays stay) in
      let stays = ap (λ n. take n (registry.stays ++ stay ∷ [])) one ∙ take-append_seam registry.stays (stay ∷ []) in
      (λ i. listing_of (made i) (stays i))

  pub removed_once : (number : ℕ) (stays : List (Listed X)) → are_named_once (rows_open stays) ≡ true
      → are_named_once (rows_open (filter (λ stay. not (nat_eq stay.number number)) stays)) ≡ true
  removed_once number stays once = ap are_named_once (filtered_rows number stays) ∙ rest_named_once number (rows_open stays) once

  pub lent_once : (stays : List (Listed X)) (place : ℕ) (at : Listed X) (kept : X) → at ≡ get_or stays place at → are_named_once (rows_open stays) ≡ true
      → are_named_once (rows_open (set stays place (record { number = at.number; row = at.row; kept = kept }))) ≡ true
  lent_once stays place at kept is once =
      ap are_named_once (map-set_same row_open stays place (record { number = at.number; row = at.row; kept = kept }) at (ap row_open is)) ∙ once

  pub lent : (made : ℕ) (stays : List (Listed X)) (place : ℕ) (at : Listed X) (kept : X) → place < length stays → at ≡ get_or stays place at
      → listing_of made (set stays place (record { number = at.number; row = at.row; kept = kept })) ≡ with_kept place kept (listing_of made stays)
  lent made stays place at kept within is =
      let here : row_open at ≡ get_or (rows_open stays) place (0, row_of [] 0) = ap row_open is ∙ sym (row_read stays place at (0, row_of [] 0) within) in
      ap (λ (one : ℕ × GameRow). listing_of made (set stays place (record { number = one.0; row = one.1; kept = kept }))) here

  -- what is kept there
  pub kept_there : (stays : List (Listed X)) (place : ℕ) (d : Listed X) → place < length stays
      → slice_get (map (λ stay. stay.kept) stays) place ≡ Some (get_or stays place d).kept
  kept_there [] place d within = absurd (omega (arith, within))
  kept_there (stay ∷ stays) zero d within = refl
  kept_there (stay ∷ stays) (suc place) d within =
      let few : suc place < suc (length stays) = within in
      kept_there stays place d (omega (arith, few))
