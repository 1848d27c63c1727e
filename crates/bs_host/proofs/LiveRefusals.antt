-- When a live host refuses a file, and what each fault leaves of the output.
use Rattle.std.proofs.Common.{◌≡◌, ◌≢◌, ℕ, ◌<◌, ◌≤◌, List, [], ◌∷◌, ◌++◌, Option, Some, None, Ok, Err, length, refl, sym, ap, subst, ◌∙◌, arith, append-nil, append_assoc, length-append}
use Rattle.std.specs.Io.KnownBytes.{Appends, Consumes, IsAtEnd}
use Rattle.std.specs.List.{position}
use Rattle.std.specs.Prelude.{IfSome}
use Rattle.std.proofs.lemmas.Bool.{cond-true, lt-ltb}
use Rattle.std.proofs.lemmas.List.Splits.{length-slice_split}
use Rattle.std.specs.Prelude.{nat_lt}
use Rattle.bs_board.specs.declared.plans.plan.Plan.{Plan}
use Rattle.bs_board.specs.declared.plans.version.Version.{Version}
use Rattle.bs_board.specs.plans.Plan.{GameRow}
use Rattle.bs_json.specs.declared.limits.TheConstants.{MAX_LINE}
use Rattle.bs_json.specs.declared.plan.PlanFault.TheVariants as plan_fault
use Rattle.bs_json.specs.PlanLine.{plan_line_of}
use Rattle.bs_registry.specs.Blocks.{blocks_of_all}
use Rattle.bs_host.specs.declared.fault.Fault.{Fault}
use Rattle.bs_host.specs.declared.fault.Fault.TheVariants.{Device, Plan as OfPlan, Memory, Write, Flush}
use Rattle.bs_host.specs.declared.fault.PlanRefusal.TheVariants as refusal
use Rattle.bs_host.specs.declared.limits.TheConstants.{BLOCK_BYTES}
use Rattle.bs_host.specs.declared.live_host.LiveHost.{LiveHost}
use Rattle.bs_host.specs.Faults.{refusal_of_plan}
use Rattle.bs_host.specs.File.{first_piece, later_pieces, pieces_of, plan_of, rows_in, rows_of, version_in, version_of}
use Rattle.bs_host.specs.Live.{live_lines_of, live_of}
use Rattle.bs_host.specs.inner.Live.{HasOpened, IsBegun, lines_behind}
use Rattle.bs_host.specs.LiveFaults.{IsLiveFault, LeavesLive, live_refusal_of}
use Rattle.bs_host.specs.inner.LiveFaults.{IsLiveRefusal, LeavesLines}
use Rattle.bs_host.proofs.HostedCore.{no_refusal}
use Rattle.bs_host.proofs.CutPieces.{fails_everywhere, is_feed, piece_without_feed}
use Rattle.bs_host.proofs.LiveHeld.{by_length, in_front, in_front_some, pieces_in_front}

-- the opening

pub none_refused : (blocks : ℕ) (first : List ℕ) (plan : Plan) → plan_line_of first ≡ Ok plan → blocks_of_all BLOCK_BYTES plan.rows ≤ blocks
    → refusal_of_plan blocks (plan_line_of first) ≡ None
none_refused blocks first plan read room = ap (refusal_of_plan blocks) read ∙ no_refusal blocks plan room

-- faults of the whole

kind_of_refusal : (refusal : Option Fault) (fault : Fault) → IsLiveRefusal refusal fault → IsLiveFault refusal fault
kind_of_refusal refusal (OfPlan reason) is = is
kind_of_refusal refusal Memory is = tt
kind_of_refusal refusal _ is = absurd is

kind_of_left : (blocks : ℕ) (version : Version) (plan : List GameRow) (lines : List (List ℕ)) (old new : Option (List ℕ)) (refusal : Option Fault) (fault : Fault)
    → LeavesLines blocks version plan lines old new fault → refusal ≡ None → IsLiveFault refusal fault
kind_of_left blocks version plan lines old new refusal Device left none = tt
kind_of_left blocks version plan lines old new refusal Memory left none = tt
kind_of_left blocks version plan lines old new refusal (Write written) left none = none
kind_of_left blocks version plan lines old new refusal Flush left none = none
kind_of_left blocks version plan lines old new refusal _ left none = absurd left

left_of_lines : (blocks : ℕ) (file : List ℕ) (old new : Option (List ℕ)) (fault : Fault)
    → LeavesLines blocks (version_of file) (rows_of file) (later_pieces (pieces_of file)) old new fault → LeavesLive blocks file old new fault
unfolding live_of
left_of_lines blocks file old new (OfPlan reason) left = absurd left
left_of_lines blocks file old new _ left = left

-- from the first line to the file

live_of_lines : (blocks : ℕ) (file : List ℕ) (rest : List (List ℕ)) (plan : Plan) → plan_of file ≡ Ok plan → later_pieces (pieces_of file) ≡ rest
    → live_of blocks file ≡ live_lines_of blocks plan.version plan.rows rest
unfolding live_of
live_of_lines blocks file rest plan read pieces =
    ap (λ lines. live_lines_of blocks (version_of file) (rows_of file) lines) pieces
    ∙ ap (λ found. live_lines_of blocks (version_in found) (rows_in found) rest) read

left_of_plan : (blocks : ℕ) (file : List ℕ) (rest : List (List ℕ)) (plan : Plan) (old new : Option (List ℕ)) (fault : Fault)
    → plan_of file ≡ Ok plan → later_pieces (pieces_of file) ≡ rest → LeavesLines blocks plan.version plan.rows rest old new fault → LeavesLive blocks file old new fault
left_of_plan blocks file rest plan old new fault read pieces left =
    left_of_lines blocks file old new fault
    (subst (λ found. LeavesLines blocks (version_in found) (rows_in found) (later_pieces (pieces_of file)) old new fault) (sym read)
    (subst (λ lines. LeavesLines blocks plan.version plan.rows lines old new fault) (sym pieces) left))

-- from the bytes that a reader is known to have

of_reader : (P : List ℕ → Type 0) (a b : Option (List ℕ)) (bytes : List ℕ) → Consumes a b bytes → ((left : List ℕ) → b ≡ Some left → P (bytes ++ left)) → IfSome a P
of_reader P None b bytes read told = tt
of_reader P (Some xs) None bytes read told = absurd read
of_reader P (Some xs) (Some ys) bytes read told = subst P (sym read) (told ys refl)

known : (Q : List ℕ → Type 0) (b : Option (List ℕ)) (left : List ℕ) → b ≡ Some left → IfSome b Q → Q left
known Q b left is given = subst (λ (b : Option (List ℕ)). IfSome b Q) is given

any_known : (P : List ℕ → Type 0) (a : Option (List ℕ)) → ((file : List ℕ) → P file) → IfSome a P
any_known P None told = tt
any_known P (Some file) told = told file

-- of a file without lines after its plan
pub no_lines : (P : List (List ℕ) → Type 0) (a rest : Option (List ℕ)) → rest ≡ None → P [] → IfSome a (λ left. P (lines_behind rest left))
no_lines P a rest none told =
    subst (λ (rest : Option (List ℕ)). IfSome a (λ left. P (lines_behind rest left))) (sym none) (any_known (λ left. P []) a (λ left. told))

-- of a file with these lines after it, as far as they are read
pub more_lines : (P : List (List ℕ) → Type 0) (a rest : Option (List ℕ)) (text : List ℕ) → rest ≡ Some text → IfSome a (λ left. P (pieces_of (text ++ left)))
    → IfSome a (λ left. P (lines_behind rest left))
more_lines P a rest text some told = subst (λ (rest : Option (List ℕ)). IfSome a (λ left. P (lines_behind rest left))) (sym some) told

pub served_not : (A : Type 0) (blocks : ℕ) (a : Option (List ℕ)) → IfSome a (λ file. live_refusal_of blocks file ≡ None)
    → IfSome a (λ file. live_refusal_of blocks file ≢ None → A)
served_not A blocks None served = tt
served_not A blocks (Some file) served = λ refused. absurd (refused served)

-- no line is complete: the first one is too long, or the input is at its end

long_line : (text : List ℕ) → MAX_LINE < length text → plan_line_of text ≡ Err plan_fault.Malformed
unfolding plan_line_of
long_line text long = cond-true (nat_lt MAX_LINE (length text)) _ _ (lt-ltb MAX_LINE (length text) long)

long_piece : (bytes : List ℕ) (parts : List (List ℕ)) → 0 < length parts → MAX_LINE < length bytes → MAX_LINE < length (first_piece (in_front bytes parts))
long_piece bytes [] some long = absurd (omega (arith, some))
long_piece bytes (part ∷ parts) some long =
    subst (λ all. MAX_LINE < length (first_piece all)) (sym (in_front_some bytes part parts)) (omega (arith, long, length-append bytes part))

long_first : (bytes left : List ℕ) → position is_feed bytes ≡ None → MAX_LINE < length bytes → MAX_LINE < length (first_piece (pieces_of (bytes ++ left)))
long_first bytes left none long =
    subst (λ all. MAX_LINE < length (first_piece all)) (sym (pieces_in_front bytes left (fails_everywhere is_feed bytes none)))
    (long_piece bytes (pieces_of left) (omega (arith, length-slice_split is_feed left)) long)

at_end : (b : Option (List ℕ)) (left : List ℕ) → b ≡ Some left → IsAtEnd b → left ≡ []
at_end b left some end = subst (λ b. IsAtEnd b) some end

only_pieces : (bytes left : List ℕ) → position is_feed bytes ≡ None → left ≡ [] → pieces_of (bytes ++ left) ≡ bytes ∷ []
only_pieces bytes left none end = ap (λ more. pieces_of (bytes ++ more)) end ∙ ap pieces_of (append-nil bytes) ∙ piece_without_feed bytes none

only_plans : (b : Option (List ℕ)) (bytes : List ℕ) → position is_feed bytes ≡ None → (length bytes ≤ MAX_LINE → IsAtEnd b)
    → (left : List ℕ) → b ≡ Some left → plan_of (bytes ++ left) ≡ plan_line_of bytes
only_plans b bytes none end left some =
    by_length (length bytes) MAX_LINE
    (λ few. ap (λ all. plan_line_of (first_piece all)) (only_pieces bytes left none (at_end b left some (end few))))
    (λ many. long_line (first_piece (pieces_of (bytes ++ left))) (long_first bytes left none many) ∙ sym (long_line bytes many))

only_behind : (b : Option (List ℕ)) (bytes : List ℕ) (plan : Plan) → position is_feed bytes ≡ None → (length bytes ≤ MAX_LINE → IsAtEnd b) → plan_line_of bytes ≡ Ok plan
    → (left : List ℕ) → b ≡ Some left → later_pieces (pieces_of (bytes ++ left)) ≡ []
only_behind b bytes plan none end is left some =
    by_length (length bytes) MAX_LINE
    (λ few. ap later_pieces (only_pieces bytes left none (at_end b left some (end few))))
    (λ many. let wrong = sym (long_line bytes many) ∙ is in cc)

-- the first line of the bytes read is that of the whole file, and the lines after it are those of the
-- file

begun_plan : (b : Option (List ℕ)) (bytes first : List ℕ) (rest : Option (List ℕ)) → IsBegun bytes first rest
    → (position is_feed bytes ≡ None → length bytes ≤ MAX_LINE → IsAtEnd b)
    → (left : List ℕ) → b ≡ Some left → plan_of (bytes ++ left) ≡ plan_line_of first
begun_plan b bytes first (Some rest) cut end left some = ap (λ all. plan_line_of (first_piece all)) (cut left)
begun_plan b bytes first None (whole, none) end left some = only_plans b bytes none (end none) left some ∙ ap plan_line_of (sym whole)

begun_lines : (b : Option (List ℕ)) (bytes first : List ℕ) (rest : Option (List ℕ)) (plan : Plan) → IsBegun bytes first rest
    → (position is_feed bytes ≡ None → length bytes ≤ MAX_LINE → IsAtEnd b) → plan_line_of first ≡ Ok plan
    → (left : List ℕ) → b ≡ Some left → later_pieces (pieces_of (bytes ++ left)) ≡ lines_behind rest left
begun_lines b bytes first (Some rest) plan cut end is left some = ap later_pieces (cut left)
begun_lines b bytes first None plan (whole, none) end is left some = only_behind b bytes plan none (end none) (ap plan_line_of (sym whole) ∙ is) left some

-- The bytes read hold the plan's line: it is that of the whole file, whatever the reader has left.

module _ (blocks : ℕ) (a b : Option (List ℕ)) (bytes first : List ℕ) (rest : Option (List ℕ)) (read : Consumes a b bytes) (begun : IsBegun bytes first rest)
    (end : position is_feed bytes ≡ None → length bytes ≤ MAX_LINE → IsAtEnd b) where
  same_refusal : (left : List ℕ) → b ≡ Some left → live_refusal_of blocks (bytes ++ left) ≡ refusal_of_plan blocks (plan_line_of first)
  same_refusal left some = ap (refusal_of_plan blocks) (begun_plan b bytes first rest begun end left some)

  pub refused_kind : (fault : Fault) → IsLiveRefusal (refusal_of_plan blocks (plan_line_of first)) fault → IfSome a (λ file. IsLiveFault (live_refusal_of blocks file) fault)
  refused_kind fault is =
      of_reader (λ file. IsLiveFault (live_refusal_of blocks file) fault) a b bytes read
      (λ left some. subst (λ refusal. IsLiveFault refusal fault) (sym (same_refusal left some)) (kind_of_refusal (refusal_of_plan blocks (plan_line_of first)) fault is))

  module _ (host : LiveHost) (opened : HasOpened blocks first host) where
    none_of : (left : List ℕ) → b ≡ Some left → live_refusal_of blocks (bytes ++ left) ≡ None
    none_of left some = same_refusal left some ∙ none_refused blocks first opened.plan opened.is_plan opened.room

    pub opened_served : IfSome a (λ file. live_refusal_of blocks file ≡ None)
    opened_served = of_reader (λ file. live_refusal_of blocks file ≡ None) a b bytes read none_of

    module _ (old new : Option (List ℕ)) where
      pub opened_kind : (fault : Fault) → IfSome b (λ left. LeavesLines blocks opened.plan.version opened.plan.rows (lines_behind rest left) old new fault)
          → IfSome a (λ file. IsLiveFault (live_refusal_of blocks file) fault)
      opened_kind fault given =
          let plan = opened.plan in
          of_reader (λ file. IsLiveFault (live_refusal_of blocks file) fault) a b bytes read
          (λ left some. kind_of_left blocks plan.version plan.rows (lines_behind rest left) old new (live_refusal_of blocks (bytes ++ left)) fault
          (known (λ left. LeavesLines blocks plan.version plan.rows (lines_behind rest left) old new fault) b left some given) (none_of left some))

      pub opened_left : (fault : Fault) → IfSome b (λ left. LeavesLines blocks opened.plan.version opened.plan.rows (lines_behind rest left) old new fault)
          → IfSome a (λ file. LeavesLive blocks file old new fault)
      opened_left fault given =
          let plan = opened.plan in
          of_reader (λ file. LeavesLive blocks file old new fault) a b bytes read
          (λ left some. left_of_plan blocks (bytes ++ left) (lines_behind rest left) plan old new fault
          (begun_plan b bytes first rest begun end left some ∙ opened.is_plan) (begun_lines b bytes first rest plan begun end opened.is_plan left some)
          (known (λ left. LeavesLines blocks plan.version plan.rows (lines_behind rest left) old new fault) b left some given))

      pub opened_written : IfSome b (λ left. Appends old new (live_lines_of blocks opened.plan.version opened.plan.rows (lines_behind rest left)))
          → IfSome a (λ file. Appends old new (live_of blocks file))
      opened_written given =
          let plan = opened.plan in
          of_reader (λ file. Appends old new (live_of blocks file)) a b bytes read
          (λ left some. subst (λ text. Appends old new text)
          (sym (live_of_lines blocks (bytes ++ left) (lines_behind rest left) plan
          (begun_plan b bytes first rest begun end left some ∙ opened.is_plan) (begun_lines b bytes first rest plan begun end opened.is_plan left some)))
          (known (λ left. Appends old new (live_lines_of blocks plan.version plan.rows (lines_behind rest left))) b left some given))

-- of lines that are read later, whatever else the reader has left
pub of_lines : (blocks : ℕ) (version : Version) (plan : List GameRow) (a b : Option (List ℕ)) (pending bytes : List ℕ) (old new : Option (List ℕ)) (fault : Fault)
    → Consumes a b bytes → ((more : List ℕ) → LeavesLines blocks version plan (pieces_of ((pending ++ bytes) ++ more)) old new fault)
    → IfSome a (λ left. LeavesLines blocks version plan (pieces_of (pending ++ left)) old new fault)
of_lines blocks version plan a b pending bytes old new fault read told =
    of_reader (λ left. LeavesLines blocks version plan (pieces_of (pending ++ left)) old new fault) a b bytes read
    (λ more some. subst (λ text. LeavesLines blocks version plan (pieces_of text) old new fault) (append_assoc pending bytes more) (told more))
