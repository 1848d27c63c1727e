-- The places of a packing stay apart as records are added and dropped.
use Rattle.std.proofs.Common.{◌≡◌, ◌≢◌, ℕ, ◌+◌, ◌-◌, ◌≤◌, Bool, true, false, if◌then◌else◌, List, [], ◌∷◌, ◌++◌, length, map, slice_index_or, Option, Some, None, IsSome, refl, sym, subst, ◌∙◌, arith, drop_at, length-drop}
use Rattle.std.specs.Prelude.{All, AllPairs, Contains, option_to_list}
use Rattle.std.proofs.lemmas.List.{map_push, length-map, length_push, get_or-map, get_or_append_left, get_or_push}
use Rattle.std.proofs.lemmas.List.Elements.{All-nil, All-push, All-pop, All-drop, All-weaker, All-contains, All-cons, Contains-append_left, Contains-push}
use Rattle.std.proofs.lemmas.List.Quantifiers.{all_pairs_push}
use Rattle.bs_block.specs.Rounding.{rounded}
use Rattle.bs_block.proofs.Rounded.{rounded_above}
use Rattle.bs_heap.specs.Packing.{Use, Place, Packing, uses, numbers_of, no_packing, fits, with_block, with_place, packed, last_alone, packing_of_last}
use Rattle.bs_heap.specs.PackedPlaces.{IsBefore, IsInside, AreApart}

pub last_of_push : {X : Type 0} (xs : List X) (x : X) → last_alone (xs ++ x ∷ []) ≡ x ∷ []
last_of_push xs x = drop_at xs (x ∷ []) (length (xs ++ x ∷ []) - 1) (omega (arith, length_push xs x))

-- a record that fits has a block to fit into
pub some_fits : (cap size : ℕ) (o : Option Use) → fits cap size o ≡ true → IsSome o
some_fits cap size None h = h
some_fits cap size (Some u) h = refl

abbrev number_of_use : Use → ℕ
number_of_use u = u.number

-- the last of distinct numbers differs from the others
last_differs : (ms : List ℕ) (n : ℕ) → AllPairs (λ l m. l ≢ m) (ms ++ n ∷ []) → All (λ m. m ≢ n) ms
last_differs ms n once = λ k d h e.
    let long = length_push ms n in
    once k (length ms) d h (omega (arith, long)) (get_or_append_left ms (n ∷ []) d k h ∙ e ∙ sym (get_or_push ms n d (length ms) refl))

others_differ : (us : List Use) (n : ℕ) → All (λ m. m ≢ n) (map number_of_use us) → All (λ u. u.number ≢ n) us
others_differ us n all = λ k d h e. all k d.number (omega (arith, h, length-map us number_of_use)) (get_or-map number_of_use us k d d.number h ∙ e)

pub apart_none : AreApart no_packing
apart_none =
    record {
      once = λ i j d below h. absurd (omega (arith, h));
      inside = All-nil (IsInside []);
      before = λ i j d below h. absurd (omega (arith, h));
      last = All-nil (λ p. Contains (numbers_of (packing_of_last no_packing)) p.number);
    }

-- `AreApart` without `last`, which fails between the opening of a block and its first record
record AreApartSoFar (packing : Packing) : Type 0 where
  once : AllPairs (λ m n. m ≢ n) (numbers_of packing)
  inside : All (IsInside (uses packing)) packing.places
  before : AllPairs IsBefore packing.places

-- a block is opened
module _ (number : ℕ) (p : Packing) (fresh : All (λ m. m ≢ number) (numbers_of p)) where
  abbrev empty : Use
  empty = record { number = number; used = 0 }

  numbers_opened : numbers_of (with_block number p) ≡ numbers_of p ++ number ∷ []
  numbers_opened = map_push number_of_use (uses p) empty

  still_inside : (place : Place) → IsInside (uses p) place → IsInside (uses (with_block number p)) place
  still_inside place inside =
      record {
        block = subst (λ (ns : List ℕ). Contains ns place.number) (sym numbers_opened) (Contains-append_left (numbers_of p) (number ∷ []) place.number inside.block);
        within = All-push (λ u. u.number ≡ place.number → place.at + place.len ≤ u.used) (uses p) empty inside.within
            (λ same. absurd (All-contains (λ m. m ≢ number) (numbers_of p) place.number fresh inside.block (sym same)));
      }

  apart_opened : AreApart p → AreApartSoFar (with_block number p)
  apart_opened apart =
      record {
        once = subst (λ (ns : List ℕ). AllPairs (λ m n. m ≢ n) ns) (sym numbers_opened) (all_pairs_push (λ m n. m ≢ n) (numbers_of p) number apart.once fresh);
        inside = All-weaker (IsInside (uses p)) (IsInside (uses (with_block number p))) still_inside p.places apart.inside;
        before = apart.before;
      }

-- a record is written to the current block
module _ (closed : List Use) (u : Use) (places : List Place) (len : ℕ) where
  abbrev old : Packing
  old = record { closed = closed; current = Some u; places = places }

  abbrev new : Packing
  new = with_place len old

  abbrev more : Use
  more = record { number = u.number; used = u.used + rounded len }

  abbrev spot : Place
  spot = record { number = u.number; at = u.used; len = len }

  same_numbers : numbers_of old ≡ numbers_of new
  same_numbers = map_push number_of_use closed u ∙ sym (map_push number_of_use closed more)

  grown_inside : (place : Place) → IsInside (uses old) place → IsInside (uses new) place
  grown_inside place inside =
      let P : Use → Type 0 = λ v. v.number ≡ place.number → place.at + place.len ≤ v.used in
      let parts = All-pop P (closed ++ u ∷ []) closed (Some u) refl inside.within in
      record {
        block = subst (λ (ns : List ℕ). Contains ns place.number) same_numbers inside.block;
        within = All-push P closed more parts.0 (λ same. let le : place.at + place.len ≤ u.used = parts.1 same in omega (arith, le));
      }

  spot_inside : AreApartSoFar old → IsInside (uses new) spot
  spot_inside apart =
      let P : Use → Type 0 = λ v. v.number ≡ spot.number → spot.at + spot.len ≤ v.used in
      let differ = others_differ closed u.number (last_differs (map number_of_use closed) u.number (subst (λ (ns : List ℕ). AllPairs (λ m n. m ≢ n) ns) (map_push number_of_use closed u) apart.once)) in
      record {
        block = subst (λ (ns : List ℕ). Contains ns u.number) (sym (map_push number_of_use closed more)) (Contains-push (map number_of_use closed) u.number);
        within = All-push P closed more (All-weaker (λ v. v.number ≢ u.number) P (λ v ne same. absurd (ne same)) closed differ) (λ same. omega (arith, rounded_above len));
      }

  apart_written : AreApartSoFar old → AreApart new
  apart_written apart =
      record {
        once = subst (λ (ns : List ℕ). AllPairs (λ m n. m ≢ n) ns) same_numbers apart.once;
        inside = All-push (IsInside (uses new)) places spot (All-weaker (IsInside (uses old)) (IsInside (uses new)) grown_inside places apart.inside) (spot_inside apart);
        before = all_pairs_push IsBefore places spot apart.before (λ k d h same.
            let place = slice_index_or places k d in
            let P : Use → Type 0 = λ v. v.number ≡ place.number → place.at + place.len ≤ v.used in
            (All-pop P (closed ++ u ∷ []) closed (Some u) refl (apart.inside k d h).within).1 (sym same));
        last =
            let P : Place → Type 0 = λ p. Contains (u.number ∷ []) p.number in
            subst (All P) (sym (last_of_push places spot)) (All-cons P spot [] (0, omega arith, refl) (All-nil P));
      }

apart_by : (b : Bool) (number len : ℕ) (closed : List Use) (o : Option Use) (places : List Place) → (b ≡ true → IsSome o)
    → let p : Packing = record { closed = closed; current = o; places = places } in (b ≡ false → All (λ m. m ≢ number) (numbers_of p))
    → AreApart p → AreApart (with_place len (if b then p else with_block number p))
apart_by true number len closed None places some fresh apart = let none : Option Use = None in let no : IsSome none = some refl in cc
apart_by true number len closed (Some u) places some fresh apart =
    apart_written closed u places len (record { once = apart.once; inside = apart.inside; before = apart.before })
apart_by false number len closed o places some fresh apart =
    let p : Packing = record { closed = closed; current = o; places = places } in
    apart_written (uses p) (record { number = number; used = 0 }) places len (apart_opened number p (fresh refl) apart)

-- a record is added; if it needs a new block, the number of that block is not in the packing
pub apart_packed : (cap number len : ℕ) (p : Packing) → (fits cap (rounded len) p.current ≡ false → All (λ m. m ≢ number) (numbers_of p)) → AreApart p → AreApart (packed cap number len p)
apart_packed cap number len p fresh apart =
    apart_by (fits cap (rounded len) p.current) number len p.closed p.current p.places (some_fits cap (rounded len) p.current) fresh apart

-- all records but the last are dropped
one_alone : (o : Option Use) → AllPairs (λ m n. m ≢ n) (map number_of_use (option_to_list o))
one_alone None = λ i j d below h. absurd (omega (arith, h))
one_alone (Some u) = λ i j d below h. absurd (omega (arith, below, h))

pub apart_last : (p : Packing) → AreApart p → AreApart (packing_of_last p)
apart_last p apart =
    let inside = All-drop (IsInside (uses p)) (length p.places - 1) p.places apart.inside in
    record {
      once = one_alone p.current;
      inside = λ k d h.
          let place = slice_index_or (last_alone p.places) k d in
          let P : Use → Type 0 = λ v. v.number ≡ place.number → place.at + place.len ≤ v.used in
          record {
            block = apart.last k d h;
            within = subst (All P) (drop_at p.closed (option_to_list p.current) (length p.closed) refl) (All-drop P (length p.closed) (uses p) (inside k d h).within);
          };
      before = λ i j d below h. absurd (omega (arith, below, h, length-drop (length p.places - 1) p.places));
      last = All-drop (λ q. Contains (numbers_of (packing_of_last p)) q.number) (length (last_alone p.places) - 1) (last_alone p.places) apart.last;
    }
