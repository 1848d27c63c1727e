-- The open stays of a live host, by their places.
use Rattle.std.proofs.Common.{◌≡◌, ℕ, suc, ◌+◌, ◌<◌, false, List, [], ◌∷◌, ◌++◌, Option, Some, None, length, get_or, set, drop, refl, sym, ap, subst, ◌∙◌, arith, inl, inr, append-nil, append_assoc}
use Rattle.std.specs.Prelude.{find, option_map, slice_get}
use Rattle.std.specs.List.{position}
use Rattle.std.proofs.lemmas.Bool.{cases_Bool, lt-ltb}
use Rattle.std.proofs.lemmas.List.{drop_all, drop_more}
use Rattle.std.proofs.lemmas.List.Concat.{flat_map-cons}
use Rattle.bs_board.specs.declared.commands.command.Command.{Command}
use Rattle.bs_board.specs.declared.commands.command.Command.TheVariants as command
use Rattle.bs_board.specs.plans.Plan.{GameRow, row_of}
use Rattle.bs_live.specs.Stay.{Stay, final_line, next_line, opened_stay, stay_after}
use Rattle.bs_registry.specs.declared.registry.Listed.{Listed}
use Rattle.bs_registry.specs.Registry.{Listing, is_numbered, kept_in, listing_of, with_kept}
use Rattle.bs_registry.proofs.OpenStays.{position_behind}
use Rattle.bs_registry.proofs.Rows.{kept_there, row_read}
use Rattle.bs_host.specs.inner.LiveHost.{answered_by, final_in, final_of, finals_of, reply_in, reply_of, with_answer}

no_stay : Listed Stay
no_stay = record { number = 0; row = row_of [] 0; kept = opened_stay (row_of [] 0) 0 }

-- the stay of a number is the one at its place

abbrev answering : Command → Listed Stay → Listed Stay
answering given stay = record { number = stay.number; row = stay.row; kept = stay_after given stay.kept }

record IsPlaced (number : ℕ) (given : Command) (stays : List (Listed Stay)) (place : ℕ) (d : Listed Stay) : Type 0 where
  inside : place < length stays
  found : find (is_numbered number) stays ≡ Some (get_or stays place d)
  answered : set stays place (answering given (get_or stays place d)) ≡ answered_by number given stays

IsFound : ℕ → Command → List (Listed Stay) → Option ℕ → Type 0
IsFound number given stays None = (answered_by number given stays ≡ stays) × (find (is_numbered number) stays ≡ None)
IsFound number given stays (Some place) = (d : Listed Stay) → IsPlaced number given stays place d

placed_behind : (number : ℕ) (given : Command) (x : Listed Stay) (xs : List (Listed Stay)) (place : ℕ) (d : Listed Stay) → is_numbered number x ≡ false
    → IsPlaced number given xs place d → IsPlaced number given (x ∷ xs) (suc place) d
placed_behind number given x xs place d miss one =
    let inside = one.inside in
    record {
      inside = omega (arith, inside);
      found = rw miss one.found;
      answered = rw miss (ap (λ rest. x ∷ rest) one.answered);
    }

behind : (number : ℕ) (given : Command) (x : Listed Stay) (xs : List (Listed Stay)) (o : Option ℕ) → is_numbered number x ≡ false
    → IsFound number given xs o → IsFound number given (x ∷ xs) (option_map (λ i. 1 + i) o)
unfolding IsFound
behind number given x xs None miss found = (rw miss (ap (λ rest. x ∷ rest) found.0), rw miss found.1)
behind number given x xs (Some place) miss found =
    λ d.
    let next : suc place ≡ 1 + place = omega arith in
    subst (λ at. IsPlaced number given (x ∷ xs) at d) next (placed_behind number given x xs place d miss (found d))

found_by : (number : ℕ) (given : Command) (stays : List (Listed Stay)) → IsFound number given stays (position (is_numbered number) stays)
unfolding IsFound
found_by number given [] = (refl, refl)
found_by number given (x ∷ xs) = elim (cases_Bool (is_numbered number x)) [
  | inl hit ↦
      let at : position (is_numbered number) (x ∷ xs) ≡ Some 0 = (let more = lt-ltb 0 (suc (length xs)) (omega arith) in rw (hit, more) refl) in
      subst (IsFound number given (x ∷ xs)) (sym at) (λ d. record { inside = omega arith; found = rw hit refl; answered = rw hit refl })
  | inr miss ↦
      subst (IsFound number given (x ∷ xs)) (sym (position_behind (is_numbered number) x xs miss))
      (behind number given x xs (position (is_numbered number) xs) miss (found_by number given xs))
]

placed : (number : ℕ) (given : Command) (stays : List (Listed Stay)) (place : ℕ) (d : Listed Stay) → Some place ≡ position (is_numbered number) stays
    → IsPlaced number given stays place d
unfolding IsFound
placed number given stays place d is = (subst (IsFound number given stays) (sym is) (found_by number given stays)) d

pub place_inside : (number : ℕ) (stays : List (Listed Stay)) (place : ℕ) → Some place ≡ position (is_numbered number) stays → place < length stays
place_inside number stays place is = (placed number command.Show stays place no_stay is).inside

same_some : (one other : Stay) → Some one ≡ Some other → one ≡ other
same_some one other same = cc

-- the stay of that number has answered, and its reply is written
pub answered_there : (number : ℕ) (given : Command) (stays : Listing Stay) (place : ℕ) (stay : Stay) → Some place ≡ position (is_numbered number) stays.stays
    → slice_get (kept_in stays) place ≡ Some stay
    → (with_kept place (stay_after given stay) stays ≡ with_answer number given stays) × (next_line given stay ≡ reply_of number given stays)
answered_there number given stays place stay is kept =
    let at = get_or stays.stays place no_stay in
    let one = placed number given stays.stays place no_stay is in
    let same : stay ≡ at.kept = same_some stay at.kept (sym kept ∙ kept_there stays.stays place no_stay one.inside) in
    let row = row_read stays.stays place no_stay (0, row_of [] 0) one.inside in (
      ap (λ (here : ℕ × GameRow). listing_of stays.made (set stays.stays place (record { number = here.0; row = here.1; kept = stay_after given stay }))) row
          ∙ ap (λ (s : Stay). listing_of stays.made (set stays.stays place (record { number = at.number; row = at.row; kept = stay_after given s }))) same
          ∙ ap (listing_of stays.made) one.answered,
      ap (next_line given) same ∙ sym (ap (reply_in given) one.found),
    )

pub final_there : (number : ℕ) (stays : Listing Stay) (place : ℕ) (d : Listed Stay) → Some place ≡ position (is_numbered number) stays.stays
    → final_line (get_or stays.stays place d).kept ≡ final_of number stays
final_there number stays place d is = sym (ap final_in (placed number command.Show stays.stays place d is).found)

-- no stay has that number
pub none_answers : (number : ℕ) (given : Command) (stays : Listing Stay) → None ≡ position (is_numbered number) stays.stays
    → (stays ≡ with_answer number given stays) × (reply_of number given stays ≡ [])
unfolding IsFound
none_answers number given stays is =
    let none = subst (IsFound number given stays.stays) (sym is) (found_by number given stays.stays) in
    (sym (ap (listing_of stays.made) none.0), ap (reply_in given) none.1)

pub no_final : (number : ℕ) (stays : Listing Stay) → None ≡ position (is_numbered number) stays.stays → final_of number stays ≡ []
unfolding IsFound
no_final number stays is =
    let none = subst (IsFound number command.Show stays.stays) (sym is) (found_by number command.Show stays.stays) in
    ap final_in none.1

-- the final lines

pub one_more_final : (stays : List (Listed Stay)) (index : ℕ) (d : Listed Stay) (mid new total : List ℕ) → index < length stays
    → new ≡ mid ++ final_line (get_or stays index d).kept → mid ++ finals_of (drop index stays) ≡ total → new ++ finals_of (drop (index + 1) stays) ≡ total
one_more_final stays index d mid new total within is before =
    let line = final_line (get_or stays index d).kept in
    let rest = finals_of (drop (index + 1) stays) in
    let next = ap finals_of (drop_more stays index d within)
    ∙ flat_map-cons (λ (stay : Listed Stay). final_line stay.kept) (get_or stays index d) (drop (index + 1) stays) in
    ap (λ text. text ++ rest) is ∙ append_assoc mid line rest ∙ ap (λ text. mid ++ text) (sym next) ∙ before

pub all_final : (stays : List (Listed Stay)) (text total : List ℕ) (end : ℕ) → end ≡ length stays → text ++ finals_of (drop end stays) ≡ total → text ≡ total
all_final stays text total end is before =
    let none : [] ≡ drop end stays = sym (drop_all end stays (omega (arith, is))) in
    sym (append-nil text) ∙ ap (λ left. text ++ finals_of left) none ∙ before
