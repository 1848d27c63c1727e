-- What the acts of a file say of a stay.
use Rattle.std.proofs.Common.{◌≡◌, ℕ, ◌<◌, true, false, List, [], ◌∷◌, length, refl, sym, ap, ◌∙◌, arith}
use Rattle.std.proofs.lemmas.Bool.{eq-eqb, lt-ltb, ne_eqb}
use Rattle.std.proofs.lemmas.List.{get_or-set_other, get_or_append_left, length-set, length_push}
use Rattle.bs_board.proofs.Chains.{and_both}
use Rattle.bs_board.specs.declared.commands.command.Command.{Command}
use Rattle.bs_registry.specs.Stays.{Stay, closed_stay, is_in, no_stay, open_stay, stay_at, with_admitted, with_closed}
use Rattle.bs_sched.specs.declared.event.Event.{Event}
use Rattle.bs_sched.specs.declared.event.Event.TheVariants as event
use Rattle.bs_sched.specs.Machine.{Setting}
use Rattle.bs_sched.specs.Registry.{capacity_of, commands_to}
use Rattle.bs_sched.specs.StaysApart.{are_acts_in, leaves_in}

pub told_here : (game : ℕ) (command : Command) (acts : List Event) → commands_to game (event.Hand game command ∷ acts) ≡ command ∷ commands_to game acts
told_here game command acts = rw (eq-eqb game game refl) refl

pub told_other : (game other : ℕ) (command : Command) (acts : List Event) → (game ≡ other → ⊥)
    → commands_to other (event.Hand game command ∷ acts) ≡ commands_to other acts
told_other game other command acts differ = rw (ne_eqb game other differ) refl

pub leaves_here : (game : ℕ) (acts : List Event) → leaves_in game (event.Leave game ∷ acts) ≡ true
leaves_here game acts = rw (eq-eqb game game refl) refl

pub leaves_other : (game other : ℕ) (acts : List Event) → (game ≡ other → ⊥) → leaves_in other (event.Leave game ∷ acts) ≡ leaves_in other acts
leaves_other game other acts differ = rw (ne_eqb game other differ) refl

-- after a leave no act names the stay

in_same : (registry other : List Stay) (game : ℕ) → game < length registry → game < length other → stay_at other game ≡ stay_at registry game
    → is_in registry game ≡ false → is_in other game ≡ false
in_same registry other game within also same out =
    rw (lt-ltb game (length other) also) (ap (λ (e : Stay). e.is_open) same ∙ (rw (lt-ltb game (length registry) within) at out))

pub never_again : (setting : Setting) (registry : List Stay) (game : ℕ) (acts : List Event) → game < length registry → is_in registry game ≡ false
    → are_acts_in (capacity_of setting) registry acts ≡ true → (commands_to game acts ≡ []) × (leaves_in game acts ≡ false)
never_again setting registry game [] within out may = (refl, refl)
never_again setting registry game (event.Hand row command ∷ acts) within out may =
    let both = and_both _ _ may in
    let differ : row ≡ game → ⊥ = λ same. let wrong : true ≡ false = sym both.0 ∙ ap (is_in registry) same ∙ out in absurd cc in
    let later = never_again setting registry game acts within out both.1 in
    (told_other row game command acts differ ∙ later.0, later.1)
never_again setting registry game (event.Take worker job ∷ acts) within out may = absurd cc
never_again setting registry game (event.Put worker job ∷ acts) within out may = absurd cc
never_again setting registry game (event.Admit row ∷ acts) within out may =
    let both = and_both _ _ may in
    let long = length_push registry (open_stay row) in
    let there : stay_at (with_admitted row registry) game ≡ stay_at registry game = get_or_append_left registry (open_stay row ∷ []) no_stay game within in
    never_again setting (with_admitted row registry) game acts (omega (arith, long, within))
    (in_same registry (with_admitted row registry) game within (omega (arith, long, within)) there out) both.1
never_again setting registry game (event.Leave left ∷ acts) within out may =
    let both = and_both _ _ may in
    let differ : left ≡ game → ⊥ = λ same. let wrong : true ≡ false = sym both.0 ∙ ap (is_in registry) same ∙ out in absurd cc in
    let long = length-set registry left (closed_stay (stay_at registry left)) in
    let there : stay_at (with_closed left registry) game ≡ stay_at registry game
    = get_or-set_other registry left game (closed_stay (stay_at registry left)) no_stay (λ same. differ (sym same)) in
    let later = never_again setting (with_closed left registry) game acts (omega (arith, long, within))
    (in_same registry (with_closed left registry) game within (omega (arith, long, within)) there out) both.1 in
    (later.0, leaves_other left game acts differ ∙ later.1)
