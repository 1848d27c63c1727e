-- Games without hazards: a game that begins without stays without.
use Rattle.std.proofs.Common.{◌≡◌, ℕ, zero, suc, ◌-◌, List, [], ◌∷◌, ◌++◌, length, Bool, Option, Some, None, refl, ap, ◌∙◌, inl, inr}
use Rattle.std.specs.Prelude.{All, IfSome, fold, option_map, slice_get}
use Rattle.std.specs.List.{find}
use Rattle.std.proofs.lemmas.Bool.{cases_Bool}
use Rattle.std.proofs.lemmas.List.Elements.{All-nil, All-cons, All-head, All-tail, All-append, All-drop}
use Rattle.bs_board.specs.declared.boards.board.Board.{Board}
use Rattle.bs_board.specs.declared.boards.board.Mode.{Mode}
use Rattle.bs_board.specs.declared.boards.board.Mode.TheVariants.{Standard, Solo, Constrictor, Wrapped}
use Rattle.bs_board.specs.declared.boards.hazards.Hazards.{Hazards}
use Rattle.bs_board.specs.declared.boards.point.Point.{Point}
use Rattle.bs_board.specs.declared.commands.command.Command.{Command}
use Rattle.bs_board.specs.declared.commands.command.Command.TheVariants as command
use Rattle.bs_board.specs.declared.commands.command.Word.TheVariants as word
use Rattle.bs_board.specs.declared.commands.reply.Reply.{Reply}
use Rattle.bs_board.specs.declared.commands.reply.Reply.TheVariants.{Shown, Plain, Refused}
use Rattle.bs_board.specs.declared.commands.reply.Refusal.{Refusal}
use Rattle.bs_board.specs.declared.commands.reply.Refusal.TheVariants as refusal
use Rattle.bs_board.specs.commands.Orders.{Orders}
use Rattle.bs_board.specs.commands.Setup.{Setup}
use Rattle.bs_food.proofs.GivenFood.{given_refed}
use Rattle.bs_food.proofs.NewFood.{spawned_refed}
use Rattle.bs_food.specs.Spawning.{spawned}
use Rattle.bs_modes.specs.FirstBoard.{first_board}
use Rattle.bs_rules.specs.Hurting.{hazards_after}
use Rattle.bs_rules.specs.Turn.{refilled, replenished, turn_of}
use Rattle.bs_game.specs.declared.view.View.{View}
use Rattle.bs_game.specs.Alone.{Course, course_of, course_with, no_course}
use Rattle.bs_game.specs.Answer.{after_reply, answer_to, asked_board, view_of_game}
use Rattle.bs_game.specs.Game.{Game, board_of_turn}
use Rattle.bs_game.specs.View.{accepted_reply, reply_or_refusal, reply_to, unless_refused}
use Rattle.bs_host.specs.Plain.{HasNoHazards, IsPlain, ShowsNoHazards}

-- a `new` has none
abbrev pub BeginsWithout : Command → Type 0
BeginsWithout (command.New setup) = setup.hazards ≡ None
BeginsWithout (command.Move orders) = Unit {0}
BeginsWithout command.Show = Unit {0}
BeginsWithout (command.Turn at) = Unit {0}
BeginsWithout command.Free = Unit {0}
BeginsWithout command.End = Unit {0}
BeginsWithout command.Bad = Unit {0}

-- a turn

none_after : (width height : ℕ) (given : Option (List Point)) (old : Option Hazards) → old ≡ None → hazards_after width height given old ≡ None
none_after width height None old is = is
none_after width height (Some cells) old is = rw is refl

refill_keeps : (orders : Orders) (b : Board) → (refilled orders b).hazards ≡ b.hazards
refill_keeps orders b =
    ap (λ (c : Board). c.hazards) (given_refed orders.food (spawned orders.words b)).only
    ∙ ap (λ (c : Board). c.hazards) (spawned_refed orders.words b).only

replenish_keeps : (mode : Mode) (orders : Orders) (b : Board) → (replenished mode orders b).hazards ≡ b.hazards
replenish_keeps Standard orders b = refill_keeps orders b
replenish_keeps Solo orders b = refill_keeps orders b
replenish_keeps Constrictor orders b = refl
replenish_keeps Wrapped orders b = refill_keeps orders b

turn_keeps : (b : Board) (orders : Orders) → HasNoHazards b → HasNoHazards (turn_of b orders)
unfolding turn_of
turn_keeps b orders none = none_after _ _ orders.hazards _ (replenish_keeps b.mode orders _ ∙ none)

first_none : (setup : Setup) → setup.hazards ≡ None → HasNoHazards (first_board setup)
unfolding first_board
first_none setup none = none

-- a reply

shown_by : (reason : Refusal) (board : Option Board) (reply : Board → Reply) → IfSome board HasNoHazards → ((b : Board) → HasNoHazards b → ShowsNoHazards (reply b))
    → ShowsNoHazards (reply_or_refusal reason board reply)
shown_by reason None reply none shows = tt
shown_by reason (Some b) reply none shows = shows b none

turned : (last : Option Board) (orders : Orders) → IfSome last HasNoHazards → IfSome (option_map (λ (b : Board). turn_of b orders) last) HasNoHazards
turned None orders none = tt
turned (Some b) orders none = turn_keeps b orders none

accepted : (view : View) (c : Command) → IfSome view.last HasNoHazards → IfSome view.asked HasNoHazards → BeginsWithout c → ShowsNoHazards (accepted_reply view c)
accepted view (command.New setup) last asked plain = first_none setup plain
accepted view (command.Move orders) last asked plain = shown_by refusal.NoGame _ _ (turned view.last orders last) (λ b none. none)
accepted view command.Show last asked plain = shown_by refusal.NoGame view.last _ last (λ b none. none)
accepted view (command.Turn at) last asked plain = shown_by refusal.NoRecord view.asked _ asked (λ b none. none)
accepted view command.Free last asked plain = shown_by refusal.NoGame view.last _ last (λ b none. tt)
accepted view command.End last asked plain = tt
accepted view command.Bad last asked plain = tt

unless : (reason : Option Refusal) (reply : Reply) → ShowsNoHazards reply → ShowsNoHazards (unless_refused reason reply)
unless None reply shows = shows
unless (Some reason) reply shows = tt

-- what a view shows

got : (game : Game) (at : ℕ) → All HasNoHazards game → IfSome (slice_get game at) HasNoHazards
got [] at all = tt
got (b ∷ game) zero all = All-head HasNoHazards b game all
got (b ∷ game) (suc at) all = got game at (All-tail HasNoHazards b game all)

found : (test : Board → Bool) (game : Game) → All HasNoHazards game → IfSome (find test game) HasNoHazards
found test [] all = tt
found test (b ∷ game) all =
    elim (cases_Bool (test b)) [
      | inl is ↦ rw is (All-head HasNoHazards b game all)
      | inr other ↦ rw other (found test game (All-tail HasNoHazards b game all))
    ]

asked_for : (c : Command) (game : Game) → All HasNoHazards game → IfSome (asked_board c game) HasNoHazards
unfolding board_of_turn
asked_for (command.New setup) game all = tt
asked_for (command.Move orders) game all = tt
asked_for command.Show game all = tt
asked_for (command.Turn at) game all = found _ game all
asked_for command.Free game all = tt
asked_for command.End game all = tt
asked_for command.Bad game all = tt

one_more : (board : Board) (game : Game) → All HasNoHazards game → HasNoHazards board → All HasNoHazards (game ++ board ∷ [])
one_more board game all none = All-append HasNoHazards game (board ∷ []) all (All-cons HasNoHazards board [] none (All-nil HasNoHazards))

after : (reply : Reply) (game : Game) → All HasNoHazards game → ShowsNoHazards reply → All HasNoHazards (after_reply reply game)
after (Shown word.New board charge) game all shows = one_more board game all shows
after (Shown word.Move board charge) game all shows = one_more board game all shows
after (Shown word.Show board charge) game all shows = all
after (Shown word.Turn board charge) game all shows = all
after (Shown word.Free board charge) game all shows = all
after (Shown word.End board charge) game all shows = all
after (Plain word.New charge) game all shows = all
after (Plain word.Move charge) game all shows = all
after (Plain word.Show charge) game all shows = all
after (Plain word.Turn charge) game all shows = all
after (Plain word.Free charge) game all shows = All-drop HasNoHazards (length game - 1) game all
after (Plain word.End charge) game all shows = All-nil HasNoHazards
after (Refused reason) game all shows = all

replied : (quota : ℕ) (game : Game) (c : Command) → All HasNoHazards game → BeginsWithout c → ShowsNoHazards (reply_to (view_of_game quota game c) c)
unfolding reply_to
replied quota game c all plain =
    unless _ _ (accepted (view_of_game quota game c) c (got game (length game - 1) all) (asked_for c game all) plain)

-- a course

one_stays : (quota : ℕ) (course : Course) (c : Command) → IsPlain course → BeginsWithout c → IsPlain (course_with quota course c)
unfolding answer_to
one_stays quota course c is plain =
    let shows = replied quota course.game c is.boards plain in
    record {
      boards = after _ course.game is.boards shows;
      replies = All-append ShowsNoHazards course.replies _ is.replies (All-cons ShowsNoHazards _ [] shows (All-nil ShowsNoHazards));
    }

stays_from : (quota : ℕ) (course : Course) (commands : List Command) → IsPlain course → All BeginsWithout commands
    → IsPlain (fold (course_with quota) course commands)
stays_from quota course [] is plain = is
stays_from quota course (c ∷ commands) is plain =
    stays_from quota (course_with quota course c) commands (one_stays quota course c is (All-head BeginsWithout c commands plain))
    (All-tail BeginsWithout c commands plain)

pub plain_course : (quota : ℕ) (commands : List Command) → All BeginsWithout commands → IsPlain (course_of quota commands)
plain_course quota commands plain =
    stays_from quota no_course commands (record { boards = All-nil HasNoHazards; replies = All-nil ShowsNoHazards }) plain
