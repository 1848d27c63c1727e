-- A stay keeps its row while lines are read.
use Rattle.std.proofs.Common.{◌≡◌, ℕ, ◌<◌, ◌≤◌, List, [], ◌∷◌, length, refl, ap, ◌∙◌, arith, inl, inr, length-append}
use Rattle.std.proofs.Math.ListN.{get_or-map}
use Rattle.std.proofs.lemmas.Bool.{cases_eq}
use Rattle.std.proofs.lemmas.List.{get_or_append_left, get_or-set_same, get_or-set_other, length-set}
use Rattle.bs_board.specs.declared.plans.version.Version.{Version}
use Rattle.bs_registry.specs.Stays.{Capacity, Stay, closed_stay, no_stay, open_stay, stay_at}
use Rattle.bs_workers.specs.Acts.{rows_in_registry}
use Rattle.bs_workers.specs.declared.act.Act.TheVariants as act
use Rattle.bs_host.specs.declared.route.Route.{Route}
use Rattle.bs_host.specs.Cut.{row_at}
use Rattle.bs_host.specs.Routing.{registry_then, registry_behind, next_registry, route_at}
use Rattle.bs_host.specs.declared.route.Route.TheVariants as route

pub row_kept : (registry : List Stay) (r : Route) (stay : ℕ) → stay < length registry → (stay_at (registry_then registry r) stay).row ≡ (stay_at registry stay).row
row_kept registry (route.Act (act.Hand to command)) stay within = refl
row_kept registry (route.Act (act.Admit row)) stay within = ap (λ (e : Stay). e.row) (get_or_append_left registry (open_stay row ∷ []) no_stay stay within)
row_kept registry (route.Act (act.Leave to)) stay within = elim (cases_eq stay to) [
  | inl same ↦
      let there : to < length registry = omega (arith, same, within) in
      rw same (ap (λ (e : Stay). e.row) (get_or-set_same registry to (closed_stay (stay_at registry to)) no_stay there))
  | inr other ↦ ap (λ (e : Stay). e.row) (get_or-set_other registry to stay (closed_stay (stay_at registry to)) no_stay other)
]
row_kept registry (route.Stray kind) stay within = refl
row_kept registry route.Nowhere stay within = refl

pub length_kept : (registry : List Stay) (r : Route) → length registry ≤ length (registry_then registry r)
length_kept registry (route.Act (act.Hand to command)) = omega arith
length_kept registry (route.Act (act.Admit row)) = omega (arith, length-append registry (open_stay row ∷ []))
length_kept registry (route.Act (act.Leave to)) = omega (arith, length-set registry to (closed_stay (stay_at registry to)))
length_kept registry (route.Stray kind) = omega arith
length_kept registry route.Nowhere = omega arith

pub row_behind : (capacity : Capacity) (version : Version) (registry : List Stay) (lines : List (List ℕ)) (stay : ℕ) → stay < length registry
    → (stay_at (registry_behind capacity version registry lines) stay).row ≡ (stay_at registry stay).row
row_behind capacity version registry [] stay within = refl
row_behind capacity version registry (text ∷ lines) stay within =
    let longer = length_kept registry (route_at capacity version registry text) in
    row_behind capacity version (next_registry capacity version registry text) lines stay (omega (arith, within, longer))
    ∙ row_kept registry (route_at capacity version registry text) stay within

pub row_in_registry : (registry : List Stay) (stay : ℕ) → row_at (rows_in_registry registry) stay ≡ (stay_at registry stay).row
row_in_registry registry stay = get_or-map (λ (e : Stay). e.row) registry stay no_stay
