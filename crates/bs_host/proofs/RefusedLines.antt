-- Routing refuses what the core refuses.
use Rattle.std.proofs.Common.{◌≡◌, ℕ, zero, suc, ◌+◌, ◌<◌, Bool, true, false, ◌&&◌, List, [], ◌∷◌, Option, Some, None, get_or, length, option_map, inl, inr, refl, sym, ap, ◌∙◌, arith}
use Rattle.std.specs.List.{position}
use Rattle.std.proofs.Math.ListN.{get_or-map}
use Rattle.std.proofs.lemmas.Bool.{and_from, cases_Bool, lt-ltb}
use Rattle.std.proofs.lemmas.List.{length-map}
use Rattle.bs_board.specs.Texts.{is_same_text}
use Rattle.bs_json.specs.declared.line.Stray.{Stray}
use Rattle.bs_registry.specs.declared.refusal.Refusal.{Refusal}
use Rattle.bs_registry.specs.declared.refusal.Refusal.TheVariants as refused
use Rattle.bs_sched.specs.declared.stays.Admit.{Admit}
use Rattle.bs_sched.specs.declared.stays.Admit.TheVariants as admit
use Rattle.bs_sched.specs.Coming.{IsFirstRefusal}
use Rattle.bs_sched.specs.Lane.{is_quiet, no_lane}
use Rattle.bs_sched.specs.Machine.{lane_of}
use Rattle.bs_sched.specs.Registry.{capacity_of, registry_of, stay_of}
use Rattle.bs_registry.specs.Stays.{first_refusal, has_name, is_in, no_stay, stay_at}
use Rattle.bs_sched.proofs.Registry.{registry_law}
use Rattle.bs_host.specs.Laws.{CoreLaw}
use Rattle.bs_host.specs.Routing.{stray_for, stray_of}
use Rattle.bs_host.proofs.ActsLaw.{named_is_in}
use Rattle.bs_host.proofs.FitStays.{may_come}
use Rattle.bs_registry.proofs.OpenStays.{position_behind}

told_first : (found : Option Refusal) (kind : Stray) → stray_for found ≡ Some kind → (refusal : Admit) × ((stray_of refusal ≡ Some kind) × IsFirstRefusal found refusal)
told_first None kind is = absurd cc
told_first (Some refused.NameOpen) kind is = (admit.NameOpen, (is, refl))
told_first (Some refused.Full) kind is = (admit.Full, (is, refl))
told_first (Some (refused.Short free)) kind is = (admit.Short free, (is, refl))

first_told : (found : Option Refusal) (refusal : Admit) → IsFirstRefusal found refusal → stray_for found ≡ stray_of refusal
first_told found admit.NameOpen is = ap stray_for is
first_told found admit.Full is = ap stray_for is
first_told found (admit.Short free) is = ap stray_for is
first_told found admit.Memory is = ap stray_for is

-- if no open stay has the name, a stay of the name is closed

not_behind : (o : Option ℕ) → option_map (λ i. 1 + i) o ≡ None → o ≡ None
not_behind None none = refl
not_behind (Some i) none = absurd cc

misses_first : {X : Type 0} (p : X → Bool) (x : X) (xs : List X) → position p (x ∷ xs) ≡ None → p x ≡ false
misses_first p x xs none = elim (cases_Bool (p x)) [
  | inl hit ↦
      let at : position p (x ∷ xs) ≡ Some 0 = (let more = lt-ltb 0 (suc (length xs)) (omega arith) in rw (hit, more) refl) in
      let wrong : None ≡ Some 0 = sym none ∙ at in
      absurd cc
  | inr miss ↦ miss
]

misses_all : {X : Type 0} (p : X → Bool) (xs : List X) (d : X) → position p xs ≡ None → (k : ℕ) → k < length xs → p (get_or xs k d) ≡ false
misses_all p [] d none k within = absurd (omega (arith, within))
misses_all p (x ∷ xs) d none zero within = misses_first p x xs none
misses_all p (x ∷ xs) d none (suc k) within =
    let rest = not_behind (position p xs) (sym (position_behind p x xs (misses_first p x xs none)) ∙ none) in
    misses_all p xs d rest k (omega (arith, within))

closed_if : (a b : Bool) → (a && b) ≡ false → b ≡ true → a ≡ false
closed_if true b none same = sym same ∙ none
closed_if false b none same = refl

pub core_law : CoreLaw
core_law setting lanes =
    let capacity = capacity_of setting in
    let registry = registry_of lanes in
    let told = registry_law setting lanes [] in
    record {
      refused = λ row kind is. told_first (first_refusal capacity registry row) kind is;
      reason = λ row refusal is. first_told (first_refusal capacity registry row) refusal is;
      admitted = λ row none. told.admits row ∙ may_come capacity registry row none;
      hands = λ name stay command is. told.hands stay command ∙ named_is_in registry name stay is;
      leaves = λ name stay is quiet. told.leaves stay ∙ and_from (is_in registry stay) (is_quiet (lane_of lanes stay)) (named_is_in registry name stay is) quiet;
      closed = λ name stay none within same.
          let there : stay_at registry stay ≡ stay_of (lane_of lanes stay) = get_or-map stay_of lanes stay no_lane in
          let off = misses_all (has_name name) registry no_stay none stay (omega (arith, within, length-map lanes stay_of)) in
          closed_if (lane_of lanes stay).is_open (is_same_text name (lane_of lanes stay).row.game) (ap (has_name name) (sym there) ∙ off) same;
    }
