-- The open stays decide whether an act is acceptable, and which stays are open after it.
use Rattle.std.proofs.Common.{◌≡◌, ◌≢◌, ℕ, suc, ◌+◌, ◌-◌, ◌<◌, Bool, true, false, not, List, [], ◌∷◌, ◌++◌, length, map, take, get_or, Option, Some, None, refl, sym, ap, subst, ◌∙◌, arith, inl, inr}
use Rattle.std.specs.Prelude.{◌&&◌, fold, nat_eq, nat_le, nat_lt}
use Rattle.std.specs.List.{filter, list_any, position}
use Rattle.std.specs.Option.{is_some}
use Rattle.std.proofs.lemmas.Bool.{and_from, and_parts, cases_Bool, lt-ltb, ltb-true}
use Rattle.std.proofs.lemmas.Bool.Decides.{eqb_tells}
use Rattle.std.proofs.lemmas.List.{get_or_default, length-append, length-set, map-append, take_more}
use Rattle.std.proofs.lemmas.List.Folds.{list_any-from_Any}
use Rattle.std.proofs.lemmas.List.Quantifiers.{position-Some}
use Rattle.bs_board.specs.declared.limits.TheConstants.{MOST_ROWS}
use Rattle.bs_board.specs.plans.Plan.{GameRow, row_of}
use Rattle.bs_board.proofs.Distinct.{list_any_map}
use Rattle.bs_registry.specs.Blocks.{blocks_of}
use Rattle.bs_registry.specs.OpenStays.{OpenStayList, bears, blocks_in, is_full_open, open_from, open_of, open_stays_of}
use Rattle.bs_registry.specs.Registry.{Listing, is_numbered, row_open, rows_in, rows_open, seen, with_stay, without_stay}
use Rattle.bs_registry.specs.Stays.{Capacity, Stay, blocks_in_registry, closed_stay, has_name, is_full, is_in, may_admit_in, open_stay, refusal_in_order, stay_at, with_admitted, with_closed}
use Rattle.bs_registry.specs.declared.registry.Listed.{Listed}
use Rattle.bs_registry.specs.declared.blocks.TheConstants.{MOST_STAYS}
use Rattle.bs_registry.specs.declared.refusal.Refusal.{Refusal}
use Rattle.bs_registry.specs.declared.refusal.Refusal.TheVariants as refused
use Rattle.bs_registry.proofs.OpenStays.{open_law}
use Rattle.bs_registry.proofs.Rows.{filtered_rows}
use Rattle.bs_board.specs.declared.commands.command.Command.{Command}
use Rattle.bs_workers.specs.declared.act.Act.{Act}
use Rattle.bs_workers.specs.declared.act.Act.TheVariants as act
use Rattle.bs_workers.specs.Acts.{are_acceptable, is_acceptable, registry_after}
use Rattle.bs_workers.specs.inner.Stays.{IsFollowed}

-- a stay of that number is listed, so it is there and open

one_behind : (entry : Stay) (registry : List Stay) (at : ℕ) → is_in registry at ≡ true → is_in (entry ∷ registry) (suc at) ≡ true
one_behind entry registry at there =
    let parts = and_parts (nat_lt at (length registry)) (stay_at registry at).is_open there in
    let less : at < length registry = ltb-true at (length registry) parts.0 in
    and_from (nat_lt (suc at) (suc (length registry))) (stay_at registry at).is_open (lt-ltb (suc at) (suc (length registry)) (omega (arith, less))) parts.1

numbered : (first number : ℕ) (registry : List Stay) → list_any (λ (stay : ℕ × GameRow). nat_eq stay.0 number) (open_from first registry) ≡ true
    → (at : ℕ) × (number ≡ first + at) × (is_in registry at ≡ true)
numbered first number [] any = absurd cc
numbered first number (entry ∷ registry) any =
    elim (cases_Bool entry.is_open) [
      | inl on ↦
          elim (eqb_tells first number) [
            | inl same ↦
                let here : number ≡ first + 0 = sym same.1 ∙ omega arith in
                let there : is_in (entry ∷ registry) 0 ≡ true = and_from (nat_lt 0 (suc (length registry))) entry.is_open (lt-ltb 0 (suc (length registry)) (omega arith)) on in
                (0, here, there)
            | inr other ↦
                let later : list_any (λ (stay : ℕ × GameRow). nat_eq stay.0 number) (open_from (first + 1) registry) ≡ true = rw (on, other.0) at any in
                let rest = numbered (first + 1) number registry later in
                (suc rest.0, rest.1 ∙ omega arith, one_behind entry registry rest.0 rest.2)
          ]
      | inr off ↦
          let later : list_any (λ (stay : ℕ × GameRow). nat_eq stay.0 number) (open_from (first + 1) registry) ≡ true = rw off at any in
          let rest = numbered (first + 1) number registry later in
          (suc rest.0, rest.1 ∙ omega arith, one_behind entry registry rest.0 rest.2)
    ]

pub is_there : (registry : List Stay) (listing : Listing (Unit {0})) (number place : ℕ) → seen listing ≡ open_stays_of registry
    → position (is_numbered number) listing.stays ≡ Some place → is_in registry number ≡ true
is_there registry listing number place sees found =
    let none : Listed (Unit {0}) = record { number = 0; row = row_of [] 0; kept = tt } in
    let at = position-Some (is_numbered number) listing.stays place none found in
    let x = get_or listing.stays place none in
    let some : list_any (is_numbered number) listing.stays ≡ true
    = list_any-from_Any (is_numbered number) listing.stays (place, x, at.0, get_or_default listing.stays place x none at.0, at.1) in
    let rows : rows_in listing ≡ open_of registry = ap (λ (o : OpenStayList). o.stays) sees in
    let any : list_any (λ (stay : ℕ × GameRow). nat_eq stay.0 number) (open_of registry) ≡ true
    = ap (list_any (λ (stay : ℕ × GameRow). nat_eq stay.0 number)) (sym rows)
    ∙ list_any_map (λ (stay : ℕ × GameRow). nat_eq stay.0 number) row_open listing.stays ∙ some in
    let one = numbered 0 number registry any in
    subst (λ n. is_in registry n ≡ true) (sym (one.1 ∙ omega arith)) one.2

-- no reason stands against a row, so it may be admitted

unrefused : (named full : Bool) (needed left : ℕ) → refusal_in_order named full needed left ≡ None → (not named && (not full && nat_le needed left)) ≡ true
unrefused true full needed left none = absurd cc
unrefused false true needed left none = absurd cc
unrefused false false needed left none =
    elim (cases_Bool (nat_le needed left)) [
      | inl fits ↦ fits
      | inr short ↦ let wrong : Some (refused.Short left) ≡ None = rw short at none in absurd cc
    ]

pub may_admit : (capacity : Capacity) (registry : List Stay) (listing : Listing (Unit {0})) (row : GameRow) → seen listing ≡ open_stays_of registry
    → refusal_in_order (list_any (bears row.game) (rows_in listing)) (is_full_open listing.made (rows_in listing)) (blocks_of capacity.cap row)
    (capacity.blocks - blocks_in capacity.cap (rows_in listing)) ≡ None
    → may_admit_in capacity registry row ≡ true
may_admit capacity registry listing row sees none =
    let told = open_law capacity.cap registry in
    let rows : rows_in listing ≡ open_of registry = ap (λ (o : OpenStayList). o.stays) sees in
    let made : listing.made ≡ length registry = ap (λ (o : OpenStayList). o.made) sees in
    let any : list_any (has_name row.game) registry ≡ list_any (bears row.game) (rows_in listing) = told.any row.game ∙ ap (list_any (bears row.game)) (sym rows) in
    let full : is_full registry ≡ is_full_open listing.made (rows_in listing)
    = ap (λ n. not (nat_lt n MOST_ROWS && nat_lt (length registry) MOST_STAYS)) (told.many ∙ ap length (sym rows))
    ∙ ap (λ n. not (nat_lt (length (rows_in listing)) MOST_ROWS && nat_lt n MOST_STAYS)) (sym made) in
    let blocks : blocks_in_registry capacity.cap registry ≡ blocks_in capacity.cap (rows_in listing) = told.blocks ∙ ap (blocks_in capacity.cap) (sym rows) in
    ap (λ b. not b && (not (is_full registry) && nat_le (blocks_of capacity.cap row) (capacity.blocks - blocks_in_registry capacity.cap registry))) any
    ∙ ap (λ b. not (list_any (bears row.game) (rows_in listing)) && (not b && nat_le (blocks_of capacity.cap row) (capacity.blocks - blocks_in_registry capacity.cap registry))) full
    ∙ ap (λ n. not (list_any (bears row.game) (rows_in listing)) && (not (is_full_open listing.made (rows_in listing)) && nat_le (blocks_of capacity.cap row) (capacity.blocks - n))) blocks
    ∙ unrefused (list_any (bears row.game) (rows_in listing)) (is_full_open listing.made (rows_in listing)) (blocks_of capacity.cap row)
    (capacity.blocks - blocks_in capacity.cap (rows_in listing)) none

-- the open stays after an act

abbrev open_stays_with : ℕ → List (ℕ × GameRow) → OpenStayList
open_stays_with made stays = record { made = made; stays = stays }

hand_followed : (capacity : Capacity) (registry : List Stay) (listing : Listing (Unit {0})) (number place : ℕ) (command : Command) → seen listing ≡ open_stays_of registry
    → position (is_numbered number) listing.stays ≡ Some place → IsFollowed capacity registry (act.Hand number command) (seen listing)
hand_followed capacity registry listing number place command sees found =
    record { may = is_there registry listing number place sees found; after = sees }

admit_followed : (capacity : Capacity) (registry : List Stay) (listing new : Listing (Unit {0})) (row : GameRow) → seen listing ≡ open_stays_of registry
    → refusal_in_order (list_any (bears row.game) (rows_in listing)) (is_full_open listing.made (rows_in listing)) (blocks_of capacity.cap row)
    (capacity.blocks - blocks_in capacity.cap (rows_in listing)) ≡ None
    → new ≡ with_stay row tt listing → IsFollowed capacity registry (act.Admit row) (seen new)
admit_followed capacity registry listing new row sees none is =
    let rows : rows_in listing ≡ open_of registry = ap (λ (o : OpenStayList). o.stays) sees in
    let made : listing.made ≡ length registry = ap (λ (o : OpenStayList). o.made) sees in
    let many : length (registry ++ open_stay row ∷ []) ≡ length registry + 1 = omega (arith, length-append registry (open_stay row ∷ [])) in
    let pushed : rows_open (listing.stays ++ record { number = listing.made; row = row; kept = tt } ∷ []) ≡ rows_in listing ++ (listing.made, row) ∷ []
    = map-append row_open listing.stays (record { number = listing.made; row = row; kept = tt } ∷ []) in
    record {
      may = may_admit capacity registry listing row sees none;
      after =
          ap seen is ∙ ap (open_stays_with (listing.made + 1)) pushed
          ∙ ap (λ n. open_stays_with (n + 1) (rows_in listing ++ (n, row) ∷ [])) made
          ∙ ap (λ some. open_stays_with (length registry + 1) (some ++ (length registry, row) ∷ [])) rows
          ∙ ap (open_stays_with (length registry + 1)) (sym ((open_law capacity.cap registry).admits row))
          ∙ ap (λ n. open_stays_with n (open_of (with_admitted row registry))) (sym many);
    }

leave_followed : (capacity : Capacity) (registry : List Stay) (listing new : Listing (Unit {0})) (number place : ℕ) → seen listing ≡ open_stays_of registry
    → position (is_numbered number) listing.stays ≡ Some place → new ≡ without_stay number listing → IsFollowed capacity registry (act.Leave number) (seen new)
leave_followed capacity registry listing new number place sees found is =
    let rows : rows_in listing ≡ open_of registry = ap (λ (o : OpenStayList). o.stays) sees in
    let made : listing.made ≡ length registry = ap (λ (o : OpenStayList). o.made) sees in
    record {
      may = is_there registry listing number place sees found;
      after =
          ap seen is ∙ ap (open_stays_with listing.made) (filtered_rows number listing.stays)
          ∙ ap (λ n. open_stays_with n (filter (λ (other : ℕ × GameRow). not (nat_eq other.0 number)) (rows_in listing))) made
          ∙ ap (λ some. open_stays_with (length registry) (filter (λ (other : ℕ × GameRow). not (nat_eq other.0 number)) some)) rows
          ∙ ap (open_stays_with (length registry)) (sym ((open_law capacity.cap registry).leaves number))
          ∙ ap (λ n. open_stays_with n (open_of (with_closed number registry))) (sym (length-set registry number (closed_stay (stay_at registry number))));
    }

-- what a search has found

found : (o : Option ℕ) → is_some o ≡ true → (place : ℕ) × (o ≡ Some place)
found None on = absurd cc
found (Some place) on = (place, refl)

none_of : (o : Option Refusal) → is_some o ≡ false → o ≡ None
none_of None off = refl
none_of (Some refusal) off = absurd cc

pub follows_hand : (capacity : Capacity) (registry : List Stay) (listing : Listing (Unit {0})) (a : Act) (number : ℕ) (command : Command) (at : Option ℕ)
    → a ≡ act.Hand number command → seen listing ≡ open_stays_of registry → at ≡ position (is_numbered number) listing.stays → is_some at ≡ true
    → IsFollowed capacity registry a (seen listing)
follows_hand capacity registry listing a number command at is sees looked some =
    let one = found at some in
    subst (λ (b : Act). IsFollowed capacity registry b (seen listing)) (sym is)
    (hand_followed capacity registry listing number one.0 command sees (sym looked ∙ one.1))

pub follows_leave : (capacity : Capacity) (registry : List Stay) (listing new : Listing (Unit {0})) (a : Act) (number : ℕ) (at : Option ℕ) → a ≡ act.Leave number
    → seen listing ≡ open_stays_of registry → at ≡ position (is_numbered number) listing.stays → is_some at ≡ true → new ≡ without_stay number listing
    → IsFollowed capacity registry a (seen new)
follows_leave capacity registry listing new a number at is sees looked some removed =
    let one = found at some in
    subst (λ (b : Act). IsFollowed capacity registry b (seen new)) (sym is)
    (leave_followed capacity registry listing new number one.0 sees (sym looked ∙ one.1) removed)

pub follows_admit : (capacity : Capacity) (registry : List Stay) (listing new : Listing (Unit {0})) (a : Act) (row first second third copy : GameRow) (needed left : ℕ)
    (reason : Option Refusal) → a ≡ act.Admit row → seen listing ≡ open_stays_of registry → first ≡ row → second ≡ row → third ≡ row → copy ≡ third
    → needed ≡ blocks_of capacity.cap first → left ≡ capacity.blocks - blocks_in capacity.cap (rows_in listing)
    → reason ≡ refusal_in_order (list_any (bears second.game) (rows_in listing)) (is_full_open listing.made (rows_in listing)) needed left
    → is_some reason ≡ false → new ≡ with_stay copy tt listing → IsFollowed capacity registry a (seen new)
follows_admit capacity registry listing new a row first second third copy needed left reason is sees one two three copied needs has judged none pushed =
    let refuses : refusal_in_order (list_any (bears row.game) (rows_in listing)) (is_full_open listing.made (rows_in listing)) (blocks_of capacity.cap row)
    (capacity.blocks - blocks_in capacity.cap (rows_in listing)) ≡ None
    = ap (λ n. refusal_in_order (list_any (bears row.game) (rows_in listing)) (is_full_open listing.made (rows_in listing)) n
    (capacity.blocks - blocks_in capacity.cap (rows_in listing))) (sym (needs ∙ ap (blocks_of capacity.cap) one))
    ∙ ap (λ n. refusal_in_order (list_any (bears row.game) (rows_in listing)) (is_full_open listing.made (rows_in listing)) needed n) (sym has)
    ∙ ap (λ (r : GameRow). refusal_in_order (list_any (bears r.game) (rows_in listing)) (is_full_open listing.made (rows_in listing)) needed left) (sym two)
    ∙ sym judged ∙ none_of reason none in
    subst (λ (b : Act). IsFollowed capacity registry b (seen new)) (sym is)
    (admit_followed capacity registry listing new row sees refuses (pushed ∙ ap (λ r. with_stay r tt listing) (copied ∙ three)))

-- all acts so far

pub record AreFollowed (capacity : Capacity) (registry : List Stay) (acts : List Act) (open_stays : OpenStayList) : Type 0 where
  pub may : are_acceptable capacity registry acts ≡ true
  pub after : open_stays ≡ open_stays_of (fold registry_after registry acts)

acceptable_append : (capacity : Capacity) (registry : List Stay) (acts : List Act) (next : Act) → are_acceptable capacity registry acts ≡ true
    → is_acceptable capacity (fold registry_after registry acts) next ≡ true → are_acceptable capacity registry (acts ++ next ∷ []) ≡ true
acceptable_append capacity registry [] next before may = and_from (is_acceptable capacity registry next) true may refl
acceptable_append capacity registry (first ∷ acts) next before may =
    let parts = and_parts (is_acceptable capacity registry first) (are_acceptable capacity (registry_after registry first) acts) before in
    and_from (is_acceptable capacity registry first) (are_acceptable capacity (registry_after registry first) (acts ++ next ∷ [])) parts.0
    (acceptable_append capacity (registry_after registry first) acts next parts.1 may)

after_append : (registry : List Stay) (acts : List Act) (next : Act)
    → fold registry_after registry (acts ++ next ∷ []) ≡ registry_after (fold registry_after registry acts) next
after_append registry [] next = refl
after_append registry (first ∷ acts) next = after_append (registry_after registry first) acts next

pub one_followed : (capacity : Capacity) (registry : List Stay) (acts : List Act) (i : ℕ) (next : Act) (open_stays new : OpenStayList) → i < length acts
    → next ≡ get_or acts i next → AreFollowed capacity registry (take i acts) open_stays
    → (open_stays ≡ open_stays_of (fold registry_after registry (take i acts)) → IsFollowed capacity (fold registry_after registry (take i acts)) next new)
    → AreFollowed capacity registry (take (i + 1) acts) new
one_followed capacity registry acts i next open_stays new within is before followed =
    let one = followed before.after in
    let more : take (i + 1) acts ≡ take i acts ++ next ∷ []
    = take_more acts i next within ∙ ap (λ (a : Act). take i acts ++ a ∷ []) (sym is) in
    subst (λ some. AreFollowed capacity registry some new) (sym more)
    (record {
      may = acceptable_append capacity registry (take i acts) next before.may one.may;
      after = one.after ∙ ap open_stays_of (sym (after_append registry (take i acts) next));
    })
