-- The answers of requests.
use Rattle.std.proofs.Common.{◌≡◌, ℕ, true, List, Option, [], Some, None, Err, refl, sym, ap, subst}
use Rattle.std.specs.Prelude.{option_map}
use Rattle.bs_host.specs.declared.fault.Fault.{Fault}
use Rattle.bs_host.specs.declared.fault.Fault.TheVariants.{Flush}
use Rattle.bs_host.specs.Cut.{cut_of, nth_stay}
use Rattle.bs_host.specs.Faults.{refusal_of, HasCause, IsFault, Leaves}
use Rattle.bs_host.specs.Transcript.{transcript_of}
use Rattle.bs_program.specs.Outcome.{Answer, IsInput, Named, PlaysStay, Serves}
use Rattle.bs_program.specs.Streams.{held_by}
use Rattle.bs_program.specs.declared.stream.Output.{Output}

-- `serve` flushes nothing
pub serve_fails : {W : Type 0} (contents : W → Option (List ℕ)) (blocks : ℕ) (file : List ℕ) (old new : Output W) (fault : Fault)
    → IsFault ⊥ (refusal_of blocks file) fault → Leaves (held_by contents) (transcript_of blocks file) old new fault → HasCause (new.has_failed ≡ true) fault
    → Serves contents blocks file old new (Err fault)
serve_fails contents blocks file old new Flush is left cause = absurd is
serve_fails contents blocks file old new _ is left cause = (is, left, cause)

abbrev text_in : Option (List ℕ) → List ℕ
text_in None = []
text_in (Some text) = text

-- the file of a stay that was found is served
pub plays_stay : {W : Type 0} (contents : W → Option (List ℕ)) (left : Option (List ℕ)) (named : Named) (name game : List ℕ) (nth blocks : ℕ) (file text : List ℕ) (old new : Output W) (answer : Answer)
    → IsInput left named name file → option_map (cut_of blocks file) (nth_stay blocks file game nth) ≡ Some text → Serves contents blocks text old new answer
    → PlaysStay contents left named name (record { game = game; nth = nth }) blocks old new answer
plays_stay contents left named name game nth blocks file text old new answer input cut serves = of_stay (nth_stay blocks file game nth) refl cut
  where
    of_stay : (found : Option ℕ) → nth_stay blocks file game nth ≡ found → option_map (cut_of blocks file) found ≡ Some text
        → PlaysStay contents left named name (record { game = game; nth = nth }) blocks old new answer
    of_stay None is some = absurd cc
    of_stay (Some stay) is some =
        record {
          file = file;
          stay = stay;
          input = input;
          found = is;
          served = subst (λ text. Serves contents blocks text old new answer) (sym (ap text_in some)) serves;
        }
