-- No two open stays have one name.
use Rattle.std.proofs.Common.{◌≡◌, ℕ, ◌<◌, Bool, true, false, ◌&&◌, not, List, [], ◌∷◌, ◌++◌, Option, Some, None, length, inl, inr, refl, sym, ap, ◌∙◌, arith, length-append}
use Rattle.std.specs.List.{list_any}
use Rattle.std.proofs.Math.ListN.{get_or-map}
use Rattle.std.proofs.Math.Seq.{get_or-append_seam}
use Rattle.std.proofs.lemmas.Bool.{cases_Bool, cases_eq, cases_lt, and_parts, lt-ltb}
use Rattle.std.proofs.lemmas.List.{get_or_append_left, get_or-set_same, get_or-set_other, length-map, length-set}
use Rattle.std.proofs.lemmas.List.Folds.{list_any_at}
use Rattle.std.proofs.lemmas.List.Quantifiers.{position-Some}
use Rattle.std.proofs.lemmas.List.Sums.{position_or_len_is}
use Rattle.std.proofs.lemmas.Slice.Eq.{bytes_eq-Decides}
use Rattle.bs_board.specs.declared.commands.command.Command.{Command}
use Rattle.bs_board.specs.plans.Plan.{GameRow, row_of, IsFitPlan}
use Rattle.bs_board.specs.Texts.{is_same_text}
use Rattle.bs_json.specs.declared.line.Line.{Line}
use Rattle.bs_json.specs.declared.line.Stray.{Stray}
use Rattle.bs_json.specs.declared.line.Line.TheVariants as line
use Rattle.bs_registry.specs.Stays.{Capacity, Stay, closed_stay, has_name, has_room, is_full, no_stay, open_stay, stay_at}
use Rattle.bs_workers.specs.Acts.{opened, stay_named}
use Rattle.bs_workers.specs.declared.act.Act.TheVariants as act
use Rattle.bs_host.specs.Routing.{admit_refusal, admit_route, registry_then, hand_route, leave_route, route_of}
use Rattle.bs_host.specs.Cut.{row_at}
use Rattle.bs_host.specs.declared.route.Route.TheVariants as route
use Rattle.bs_host.proofs.RowNames.{only_row_named, row_named}
use Rattle.bs_host.proofs.FitStays.{may_come}

pub Apart : List Stay → Type 0
Apart registry = (i j : ℕ) (name : List ℕ) → i < length registry → j < length registry → has_name name (stay_at registry i) ≡ true → has_name name (stay_at registry j) ≡ true → i ≡ j

-- so a search in either order finds the open stay of a name
pub only_named : (registry : List Stay) (stay : ℕ) (name : List ℕ) → Apart registry → stay < length registry → has_name name (stay_at registry stay) ≡ true → stay_named registry name ≡ Some stay
unfolding Apart
only_named registry stay name apart within hit =
    let before : (k : ℕ) → k < stay → has_name name (stay_at registry k) ≡ false = λ k below.
    elim (cases_Bool (has_name name (stay_at registry k))) [
      | inl on ↦ let same = apart k stay name (omega (arith, below, within)) within on hit in absurd (omega (arith, same, below))
      | inr off ↦ off
    ] in
    let at = position_or_len_is (has_name name) registry stay no_stay (omega (arith, within)) before (λ inside. hit) in
    let inside = lt-ltb stay (length registry) within in
    rw (at, inside) refl

closed_has_no_name : (name : List ℕ) (entry : Stay) → has_name name (closed_stay entry) ≡ true → ⊥
closed_has_no_name name entry hit = absurd cc

apart_left : (registry : List Stay) (to : ℕ) → to < length registry → Apart registry → Apart (registry_then registry (route.Act (act.Leave to)))
unfolding Apart
apart_left registry to inside apart i j name i_in j_in i_on j_on =
    let many = length-set registry to (closed_stay (stay_at registry to)) in
    let other : (k : ℕ) → has_name name (stay_at (registry_then registry (route.Act (act.Leave to))) k) ≡ true → has_name name (stay_at registry k) ≡ true = λ k on.
    elim (cases_eq k to) [
      | inl same ↦
          let here : has_name name (stay_at (registry_then registry (route.Act (act.Leave to))) to) ≡ true =
          ap (λ n. has_name name (stay_at (registry_then registry (route.Act (act.Leave to))) n)) (sym same) ∙ on in
          let gone = ap (has_name name) (sym (get_or-set_same registry to (closed_stay (stay_at registry to)) no_stay inside)) ∙ here in
          absurd (closed_has_no_name name (stay_at registry to) gone)
      | inr apart_from ↦ ap (has_name name) (sym (get_or-set_other registry to k (closed_stay (stay_at registry to)) no_stay apart_from)) ∙ on
    ] in
    apart i j name (omega (arith, i_in, many)) (omega (arith, j_in, many)) (other i i_on) (other j j_on)

-- one more stay, whose name no open stay has
module _ (registry : List Stay) (row : GameRow) (new : list_any (has_name row.game) registry ≡ false) where
  clash : (i : ℕ) (name : List ℕ) → i < length registry → has_name name (stay_at registry i) ≡ true → is_same_text name row.game ≡ true → ⊥
  clash i name inside on same =
      let equal : name ≡ row.game = (bytes_eq-Decides name row.game).0 same in
      let on_new : has_name row.game (stay_at registry i) ≡ true = rw (← equal) on in
      let twice = list_any_at (has_name row.game) registry i no_stay inside on_new in
      let wrong : false ≡ true = sym new ∙ twice in
      absurd cc

  at_old : (k : ℕ) → k < length registry → stay_at (registry ++ open_stay row ∷ []) k ≡ stay_at registry k
  at_old k inside = get_or_append_left registry (open_stay row ∷ []) no_stay k inside

  at_new : (k : ℕ) (name : List ℕ) → k ≡ length registry → has_name name (stay_at (registry ++ open_stay row ∷ []) k) ≡ true → is_same_text name row.game ≡ true
  at_new k name last on =
      let there : stay_at (registry ++ open_stay row ∷ []) k ≡ open_stay row = rw last (get_or-append_seam registry (open_stay row) [] no_stay) in
      let hit : has_name name (open_stay row) ≡ true = ap (has_name name) (sym there) ∙ on in
      (and_parts true (is_same_text name row.game) hit).1

  apart_more : Apart registry → Apart (registry ++ open_stay row ∷ [])
  unfolding Apart
  apart_more apart i j name i_in j_in i_on j_on =
      let many = length-append registry (open_stay row ∷ []) in
      elim (cases_lt i (length registry)) [
        | inl i_old ↦ elim (cases_lt j (length registry)) [
          | inl j_old ↦ apart i j name i_old j_old (ap (has_name name) (sym (at_old i i_old)) ∙ i_on) (ap (has_name name) (sym (at_old j j_old)) ∙ j_on)
          | inr j_new ↦
              let last : j ≡ length registry = omega (arith, j_in, many, j_new) in
              absurd (clash i name i_old (ap (has_name name) (sym (at_old i i_old)) ∙ i_on) (at_new j name last j_on))
        ]
        | inr i_new ↦
            let i_last : i ≡ length registry = omega (arith, i_in, many, i_new) in
            elim (cases_lt j (length registry)) [
              | inl j_old ↦ absurd (clash j name j_old (ap (has_name name) (sym (at_old j j_old)) ∙ j_on) (at_new i name i_last i_on))
              | inr j_new ↦ omega (arith, i_last, j_in, many, j_new)
            ]
      ]

new_name : (a b : Bool) → (not a && b) ≡ true → a ≡ false
new_name true b both = absurd cc
new_name false b both = refl

after_hand : (registry : List Stay) (command : Command) (found : Option ℕ) → Apart registry → Apart (registry_then registry (hand_route found command))
after_hand registry command None apart = apart
after_hand registry command (Some stay) apart = apart

after_admit : (capacity : Capacity) (registry : List Stay) (row : GameRow) (found : Option Stray) → admit_refusal capacity registry row ≡ found → Apart registry → Apart (registry_then registry (admit_route found row))
after_admit capacity registry row None is apart =
    let come = may_come capacity registry row is in
    apart_more registry row (new_name (list_any (has_name row.game) registry) (not (is_full registry) && has_room capacity registry row) come) apart
after_admit capacity registry row (Some kind) is apart = apart

after_leave : (registry : List Stay) (name : List ℕ) (found : Option ℕ) → stay_named registry name ≡ found → Apart registry → Apart (registry_then registry (leave_route found))
after_leave registry name None is apart = apart
after_leave registry name (Some to) is apart = apart_left registry to (position-Some (has_name name) registry to no_stay is).0 apart

pub apart_then : (capacity : Capacity) (registry : List Stay) (l : Line) → Apart registry → Apart (registry_then registry (route_of capacity registry l))
apart_then capacity registry line.Blank apart = apart
apart_then capacity registry (line.Command name command) apart = after_hand registry command (stay_named registry name) apart
apart_then capacity registry (line.Bad name) apart = after_hand registry _ (stay_named registry name) apart
apart_then capacity registry (line.Stray kind) apart = apart
apart_then capacity registry (line.Admit row) apart = after_admit capacity registry row (admit_refusal capacity registry row) refl apart
apart_then capacity registry line.BadAdmit apart = apart
apart_then capacity registry (line.Leave None) apart = apart
apart_then capacity registry (line.Leave (Some name)) apart = after_leave registry name (stay_named registry name) refl apart

-- the plan's games

pub opened_at : (rows : List GameRow) (i : ℕ) → stay_at (opened rows) i ≡ open_stay (row_at rows i)
opened_at rows i = get_or-map open_stay rows i (row_of [] 0)

opened_named : (rows : List GameRow) (i : ℕ) (name : List ℕ) → IsFitPlan rows → i < length (opened rows) → has_name name (stay_at (opened rows) i) ≡ true → row_named rows name ≡ Some i
opened_named rows i name fit within on =
    let inside : i < length rows = omega (arith, within, length-map rows open_stay) in
    let hit : has_name name (open_stay (row_at rows i)) ≡ true = ap (has_name name) (sym (opened_at rows i)) ∙ on in
    only_row_named rows i name fit (record { within = inside; same = (and_parts true (is_same_text name (row_at rows i).game) hit).1 })

same_place : (i j : ℕ) → Some i ≡ Some j → i ≡ j
same_place i j same = cc

pub apart_opened : (rows : List GameRow) → IsFitPlan rows → Apart (opened rows)
unfolding Apart
apart_opened rows fit i j name i_in j_in i_on j_on = same_place i j (sym (opened_named rows i name fit i_in i_on) ∙ opened_named rows j name fit j_in j_on)
