-- The answer of the program to a request, and what its output then has.
use Rattle.std.specs.Prelude.{◌≡◌, ◌≢◌, ◌⊎◌, ℕ, ◌<◌, ◌≤◌, List, length, codes, true, false, Option, Some, None, Result, Ok, Err, IfSome}
use Rattle.std.specs.Io.KnownBytes.{Appends}
use Rattle.bs_host.specs.declared.cut_fault.Cut.{Cut}
use Rattle.bs_host.specs.declared.fault.Fault.{Fault}
use Rattle.bs_host.specs.declared.fault.Fault.TheVariants.{Device, TooLong, Memory, Flush}
use Rattle.bs_host.specs.declared.limits.TheConstants.{MOST_FILE_BYTES}
use Rattle.bs_host.specs.Cut.{cut_of, cut_refusal_of, nth_stay, IsCutRefusal}
use Rattle.bs_host.specs.Faults.{fault_of_cutting, refusal_of, HasCause, IsFault, Leaves}
use Rattle.bs_host.specs.Live.{live_of}
use Rattle.bs_host.specs.LiveFaults.{live_refusal_of, HasLiveCause, IsLiveFault, LeavesLive}
use Rattle.bs_host.specs.Statuses.{status_of}
use Rattle.bs_host.specs.Transcript.{transcript_of}
use Rattle.bs_program.specs.declared.stream.Output.{Output}
use Rattle.bs_program.specs.Lines.{line_of}
use Rattle.bs_program.specs.Asked.{Asked, serve, alone, live}
use Rattle.bs_program.specs.Streams.{held_by}

-- The answer to a request: success, or why it was not done.
abbrev pub Answer : Type 0
Answer = Result (Unit {0}) Fault

-- the bytes of the file of each name, where they are known
abbrev pub Named : Type 0
Named = List ℕ → Option (List ℕ)

-- The bytes of the file: of `-` those that the reader had left, of another name those of the file
-- of that name.
pub record IsInput (left : Option (List ℕ)) (named : Named) (name file : List ℕ) : Type 0 where
  pub bytes : name ≡ codes "-" → IfSome left (λ bytes. file ≡ bytes)
  pub other : name ≢ codes "-" → IfSome (named name) (λ bytes. file ≡ bytes)
  pub short : length file ≤ MOST_FILE_BYTES

-- that file has more bytes than a file may have
pub record IsTooLong (left : Option (List ℕ)) (named : Named) (name : List ℕ) : Type 0 where
  pub bytes : name ≡ codes "-" → IfSome left (λ bytes. MOST_FILE_BYTES < length bytes)
  pub other : name ≢ codes "-" → IfSome (named name) (λ bytes. MOST_FILE_BYTES < length bytes)

-- the names of the files of which a call that opens or reads them failed
abbrev pub Unread : Type 1
Unread = List ℕ → Type 0

-- a call failed: of `-` one that reads the reader, of another name one that opens or reads the file
-- of that name
pub record IsUnread (failed : Type 0) (unread : Unread) (name : List ℕ) : Type 0 where
  pub bytes : name ≡ codes "-" → failed
  pub other : name ≢ codes "-" → ∥ unread name ∥₁

-- Why a file was not read: it cannot be read only if a call failed, and is too long only if it has
-- more bytes than a file may have.
abbrev pub IsReadFault : Type 0 → Unread → Option (List ℕ) → Named → List ℕ → Fault → Type 0
IsReadFault failed unread left named name Device = IsUnread failed unread name
IsReadFault failed unread left named name TooLong = IsTooLong left named name
IsReadFault failed unread left named name Memory = Unit {0}
IsReadFault failed unread left named name _ = ⊥

-- the file was not read
abbrev pub IsNotRead : Type 0 → Unread → Option (List ℕ) → Named → List ℕ → Answer → Type 0
IsNotRead failed unread left named name (Ok done) = ⊥
IsNotRead failed unread left named name (Err fault) = IsReadFault failed unread left named name fault

-- These bytes were appended to the output.
abbrev pub Gains : {W : Type 0} → (W → Option (List ℕ)) → Output W → Output W → List ℕ → Type 0
Gains contents old new = Appends (held_by contents old) (held_by contents new)

-- A file is served with `blocks` blocks: the whole transcript, flushed; or the whole transcript, and
-- a flush that failed; or a fault of `serve`, which is never `Broken`, what it leaves, and its cause.
abbrev pub Serves : {W : Type 0} → (W → Option (List ℕ)) → ℕ → List ℕ → Output W → Output W → Answer → Type 0
Serves contents blocks file old new (Ok done) =
    (refusal_of blocks file ≡ None) × Gains contents old new (transcript_of blocks file) × (new.is_flushed ≡ true)
Serves contents blocks file old new (Err Flush) =
    (refusal_of blocks file ≡ None) × Gains contents old new (transcript_of blocks file) × (new.has_failed ≡ true)
Serves contents blocks file old new (Err fault) =
    IsFault ⊥ (refusal_of blocks file) fault × Leaves (held_by contents) (transcript_of blocks file) old new fault × HasCause (new.has_failed ≡ true) fault

-- `arena serve`: the file was not read, and nothing is written; or it is served.
abbrev pub ServesFile : {W : Type 0} → (W → Option (List ℕ)) → Type 0 → Unread → Option (List ℕ) → Named → List ℕ → ℕ → Output W → Output W → Answer → Type 0
ServesFile contents failed unread left named name blocks old new answer =
    (IsNotRead failed unread left named name answer × (new ≡ old))
    ⊎ ((file : List ℕ) × IsInput left named name file × Serves contents blocks file old new answer)

-- a game, and which of its stays
pub record Wanted : Type 0 where
  pub game : List ℕ
  pub nth : ℕ

-- the file was read and has that stay, and the stay's own lines are served
pub record PlaysStay {W : Type 0} (contents : W → Option (List ℕ)) (left : Option (List ℕ)) (named : Named) (name : List ℕ) (wanted : Wanted) (blocks : ℕ) (old new : Output W) (answer : Answer) : Type 0 where
  pub file : List ℕ
  pub stay : ℕ
  pub input : IsInput left named name file
  pub found : nth_stay blocks file wanted.game wanted.nth ≡ Some stay
  pub served : Serves contents blocks (cut_of blocks file stay) old new answer

-- the file was read, and cannot be cut to that stay
pub record IsNotCut (left : Option (List ℕ)) (named : Named) (name : List ℕ) (wanted : Wanted) (blocks : ℕ) (answer : Answer) : Type 0 where
  pub file : List ℕ
  pub fault : Cut
  pub input : IsInput left named name file
  pub refused : IsCutRefusal (cut_refusal_of blocks file wanted.game wanted.nth) fault
  pub is : answer ≡ Err (fault_of_cutting fault)

-- `arena alone`: the file was not read, or cannot be cut to that stay, and nothing is written; or
-- the stay's own lines are served.
abbrev pub PlaysAlone : {W : Type 0} → (W → Option (List ℕ)) → Type 0 → Unread → Option (List ℕ) → Named → List ℕ → Wanted → ℕ → Output W → Output W → Answer → Type 0
PlaysAlone contents failed unread left named name wanted blocks old new answer =
    ((IsNotRead failed unread left named name answer ⊎ IsNotCut left named name wanted blocks answer) × (new ≡ old))
    ⊎ PlaysStay contents left named name wanted blocks old new answer

-- `arena live`: the answers to all lines, flushed; or a fault of `serve_live` or of the last flush,
-- what it leaves, and its cause. If the reader's bytes are not known, nothing is claimed of what is
-- written.
abbrev pub ServesLive : {W : Type 0} → (W → Option (List ℕ)) → Type 0 → Option (List ℕ) → ℕ → Output W → Output W → Answer → Type 0
ServesLive contents failed left blocks old new (Ok done) =
    IfSome left (λ file. (live_refusal_of blocks file ≡ None) × Gains contents old new (live_of blocks file)) × (new.is_flushed ≡ true)
ServesLive contents failed left blocks old new (Err fault) =
    IfSome left (λ file. IsLiveFault (live_refusal_of blocks file) fault × LeavesLive blocks file (held_by contents old) (held_by contents new) fault)
    × HasLiveCause failed (new.has_failed ≡ true) fault

-- the request is done; `failed` says that a call of the reader failed, and `unread` that one of a
-- named file did
abbrev pub Does : {W : Type 0} → (W → Option (List ℕ)) → Type 0 → Unread → Option (List ℕ) → Named → Asked → Output W → Output W → Answer → Type 0
Does contents failed unread left named (serve name blocks workers) = ServesFile contents failed unread left named name blocks
Does contents failed unread left named (alone name game nth blocks) = PlaysAlone contents failed unread left named name (record { game = game; nth = nth }) blocks
Does contents failed unread left named (live blocks) = ServesLive contents failed left blocks

-- The status and the line.
-- The text was written, unless the writer failed at some call.
pub record Puts {W : Type 0} (contents : W → Option (List ℕ)) (text : List ℕ) (old new : Output W) : Type 0 where
  pub written : new.has_failed ≡ false → Gains contents old new text
  pub lasting : old.has_failed ≡ true → new.has_failed ≡ true

-- the fault's line was written to the errors, unless their writer failed
abbrev pub Reports : {E : Type 0} → (E → Option (List ℕ)) → Fault → ℕ → Output E → Output E → Type 0
Reports contents fault status old new = (status ≡ status_of fault) × Puts contents (line_of fault) old new

-- success has status 0 and no line; a fault has its status and its line
abbrev pub Concludes : {E : Type 0} → (E → Option (List ℕ)) → Answer → ℕ → Output E → Output E → Type 0
Concludes contents (Ok done) status old new = (status ≡ 0) × (new ≡ old)
Concludes contents (Err fault) status old new = Reports contents fault status old new
