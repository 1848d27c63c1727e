-- The answer of the program to its words, and what its output and its errors then have.
use Rattle.std.specs.Prelude.{◌≡◌, ◌≢◌, ◌⊎◌, ℕ, [], ◌≤◌, List, length, true, Option}
use Rattle.clap.specs.Words.{HasKind, kind_of}
use Rattle.clap.specs.declared.error.Error.{Error}
use Rattle.clap.specs.declared.error.ErrorKind.{ErrorKind}
use Rattle.clap.specs.declared.error.ErrorKind.TheVariants as clap
use Rattle.bs_program.specs.Outcome.{Answer, Concludes, Does, Named, Reports, Unread}
use Rattle.bs_program.specs.Streams.{has_bytes, has_failed, is_flushed}
use Rattle.bs_host.specs.declared.fault.Fault.TheVariants.{Memory, Flush}
use Rattle.bs_program.specs.declared.stream.Output.{Output}
use Rattle.arena.specs.Words.{asked_of, mistakes_in}

-- A command line that clap does not accept, by the kind of its error: memory ran out; or it asks
-- for clap's text, and some bytes were written to the output and flushed, and none to the errors,
-- or a call of the output's writer failed, or memory ran out; or it is refused. The texts are
-- clap's.
pub record Explains {W E : Type 0} (contents : E → Option (List ℕ)) (kind : ErrorKind) (status : ℕ) (output after : Output W) (old new : Output E) : Type 0 where
  pub memory : kind ≡ clap.OutOfMemory → Reports contents Memory status old new × (after ≡ output)
  pub shown : (kind ≡ clap.DisplayHelp) ⊎ (kind ≡ clap.DisplayVersion)
      → ((status ≡ 0) × (is_flushed after ≡ true) × (has_bytes after ≡ true) × (new ≡ old)) ⊎ ((Reports contents Flush status old new × (has_failed after ≡ true)) ⊎ Reports contents Memory status old new)
  pub refused : kind ≢ clap.OutOfMemory → kind ≢ clap.DisplayHelp → kind ≢ clap.DisplayVersion → (status ≡ 2) × (after ≡ output)

-- The words, the first of which is the program's own name, were accepted, and their request is
-- done; `failed` says that a call of the reader failed, and `unread` that one of a named file did.
pub record IsDone {W E : Type 0} (contents : W → Option (List ℕ)) (told : E → Option (List ℕ)) (failed : Type 0) (unread : Unread) (left : Option (List ℕ)) (named : Named) (words : List (List ℕ)) (status : ℕ) (output after : Output W) (old new : Output E) : Type 0 where
  pub answer : Answer
  pub taken : 2 ≤ length words → mistakes_in words ≡ []
  pub done : Does contents failed unread left named (asked_of words) output after answer
  pub concluded : Concludes told answer status old new

-- The words were not accepted.
pub record IsRefused {W E : Type 0} (told : E → Option (List ℕ)) (words : List (List ℕ)) (status : ℕ) (output after : Output W) (old new : Output E) : Type 0 where
  pub error : Error
  pub some : 2 ≤ length words
  pub mistaken : HasKind (mistakes_in words) error
  pub explained : Explains told (kind_of error) status output after old new
