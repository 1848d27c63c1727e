-- One more act or line of a file.
use Rattle.std.proofs.Common.{◌≡◌, ℕ, ◌+◌, List, [], ◌∷◌, ◌++◌, Option, Some, None, refl, ap, ◌∙◌}
use Rattle.std.specs.Prelude.{option_to_list}
use Rattle.std.specs.List.{cons_option}
use Rattle.std.proofs.lemmas.List.Elements.{filter_map-append}
use Rattle.bs_board.specs.declared.commands.command.Command.{Command}
use Rattle.bs_board.specs.declared.plans.version.Version.{Version}
use Rattle.bs_board.specs.plans.Plan.{GameRow}
use Rattle.bs_game.specs.Alone.{alone}
use Rattle.bs_game.specs.Answer.{answer_to}
use Rattle.bs_game.proofs.Courses.{course_snoc}
use Rattle.bs_registry.specs.Stays.{Capacity, Stay}
use Rattle.bs_workers.specs.declared.act.Act.{Act}
use Rattle.bs_workers.specs.declared.act.Act.TheVariants as act
use Rattle.bs_workers.specs.Acts.{command_in, rows_admitted}
use Rattle.bs_host.specs.Live.{commands_given}
use Rattle.bs_host.specs.Routing.{act_in, acts_in, next_registry, registry_behind, route_at, routes_from}

-- acts that follow others

pub rows_append : (acts more : List Act) → rows_admitted (acts ++ more) ≡ rows_admitted acts ++ rows_admitted more
rows_append [] more = refl
rows_append (act.Hand stay command ∷ acts) more = rows_append acts more
rows_append (act.Admit row ∷ acts) more = ap (λ rows. row ∷ rows) (rows_append acts more)
rows_append (act.Leave stay ∷ acts) more = rows_append acts more

pub given_append : (stay : ℕ) (acts more : List Act) → commands_given stay (acts ++ more) ≡ commands_given stay acts ++ commands_given stay more
given_append stay acts more = filter_map-append (command_in stay) acts more

cons_append : {X : Type 0} (first : Option X) (rest more : List X) → cons_option first (rest ++ more) ≡ cons_option first rest ++ more
cons_append None rest more = refl
cons_append (Some x) rest more = refl

one_act : {X : Type 0} (first : Option X) → cons_option first [] ≡ option_to_list first
one_act None = refl
one_act (Some x) = refl

-- the replies of a stay after one more command

pub replies_with : (row : GameRow) (commands : List Command) (command : Command)
    → (alone row (commands ++ command ∷ [])).replies ≡ (alone row commands).replies ++ (answer_to row.quota (alone row commands).game command).reply ∷ []
replies_with row commands command = ap (λ course. course.replies) (course_snoc row.quota commands command)

-- one more line

module _ (capacity : Capacity) (version : Version) where
  pub registry_more : (registry : List Stay) (lines : List (List ℕ)) (text : List ℕ)
      → registry_behind capacity version registry (lines ++ text ∷ []) ≡ next_registry capacity version (registry_behind capacity version registry lines) text
  registry_more registry [] text = refl
  registry_more registry (line ∷ lines) text = registry_more (next_registry capacity version registry line) lines text

  pub acts_more : (registry : List Stay) (number : ℕ) (lines : List (List ℕ)) (text : List ℕ)
      → acts_in (routes_from capacity version registry number (lines ++ text ∷ []))
      ≡ acts_in (routes_from capacity version registry number lines)
      ++ option_to_list (act_in (route_at capacity version (registry_behind capacity version registry lines) text))
  acts_more registry number [] text = one_act (act_in (route_at capacity version registry text))
  acts_more registry number (line ∷ lines) text =
      ap (λ rest. cons_option (act_in (route_at capacity version registry line)) rest) (acts_more (next_registry capacity version registry line) (number + 1) lines text)
      ∙ cons_append (act_in (route_at capacity version registry line)) (acts_in (routes_from capacity version (next_registry capacity version registry line) (number + 1) lines))
      (option_to_list (act_in (route_at capacity version (registry_behind capacity version (next_registry capacity version registry line) lines) text)))
