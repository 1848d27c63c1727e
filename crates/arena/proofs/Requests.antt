-- The request of the words, by clap's definition of a simple command.
use Rattle.std.proofs.Common.{◌≡◌, ◌∙◌, ◌<◌, ◌≤◌, List, ap, refl, map, subst, inl, true, length, []}
use Rattle.std.specs.Borrow.{Bor}
use Rattle.std.proofs.lemmas.Bool.{le-leb, lt-leb}
use Rattle.std.proofs.lemmas.List.{length-map}
use Rattle.clap.specs.Words.{FailsBy, Kinds, kind_of, HasMatchesOf, app_of, fault_of, is_simple, is_simple_and_free, subcommand_of, subcommand_rows_of}
use Rattle.clap.specs.Walk.{Text}
use Rattle.clap.specs.declared.builder.command.Command.{Command}
use Rattle.clap.specs.declared.error.Error.{Error}
use Rattle.clap.specs.declared.parser.matches.ArgMatches.{ArgMatches}
use Rattle.clap.proofs.OnLiterals.{clap_on_literals}
use Rattle.clap.specs.declared.error.ErrorKind.TheVariants.{OutOfMemory}
use Rattle.std.specs.Prelude.{Result, Ok, Err, IsErrAnd, IfOk}
use Rattle.arena.specs.Words.{arena_app, asked_in, asked_of, command_in, mistakes_in, serve_asked}
use Rattle.arena.specs.inner.Words.{IsCommandOf}

is_arena_simple : is_simple arena_app ≡ true
unfolding arena_app clap_on_literals
is_arena_simple = refl

is_arena_free : is_simple_and_free arena_app ≡ true
unfolding arena_app clap_on_literals
is_arena_free = refl

pub few_words : (words : List (Bor Text)) → length words ≤ 1 → serve_asked [] ≡ asked_of (map (λ word. word.now) words)
unfolding asked_of
few_words words few = rw (length-map words (λ (word : Bor Text). word.now), le-leb (length words) 1 few) refl

pub more_words : (words : List (Bor Text)) → 1 < length words
    → asked_in (command_in (map (λ word. word.now) words)) ≡ asked_of (map (λ word. word.now) words)
unfolding asked_of
more_words words more = rw (length-map words (λ (word : Bor Text). word.now), lt-leb (length words) 1 more) refl

pub rows_matched : (words : List Text) (command : Command) (m : ArgMatches) → IsCommandOf arena_app command → HasMatchesOf (app_of command) words m
    → subcommand_rows_of m ≡ command_in words
unfolding command_in
rows_matched words command m is matches =
    (matches (ap is_simple is.made ∙ is_arena_simple)).1 ∙ ap (λ app. subcommand_of app words) is.made

pub fails_by : {T : Type 0} (words : List Text) (command : Command) (r : Result T Error) → IsCommandOf arena_app command
    → (is_simple_and_free (app_of command) ≡ true → FailsBy (fault_of (app_of command) words) r) → FailsBy (mistakes_in words) r
unfolding mistakes_in
fails_by words command r is fails =
    subst (λ app. FailsBy (fault_of app words) r) is.made (fails (ap is_simple_and_free is.made ∙ is_arena_free))

-- when memory runs out before the words are judged

pub kind_of_spent : {T : Type 0} (kinds : Kinds) (r : Result T Error) → IsErrAnd r (λ e. kind_of e ≡ OutOfMemory) → FailsBy kinds r
kind_of_spent kinds (Ok x) h = absurd h
kind_of_spent kinds (Err e) h = inl h

pub none_of_spent : {T : Type 0} (P : T → Type 0) (r : Result T Error) → IsErrAnd r (λ e. kind_of e ≡ OutOfMemory) → IfOk r P
none_of_spent P (Ok x) h = absurd h
none_of_spent P (Err e) h = tt
