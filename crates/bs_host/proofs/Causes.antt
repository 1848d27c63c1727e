-- The causes of faults.
use Rattle.std.proofs.Common.{Option}
use Rattle.bs_workers.specs.declared.fault.Run.{Run}
use Rattle.bs_workers.specs.declared.fault.Run.TheVariants as run
use Rattle.bs_transcript.specs.declared.fault.TranscriptFault.{TranscriptFault}
use Rattle.bs_transcript.specs.declared.fault.TranscriptFault.TheVariants as transcript
use Rattle.bs_transcript.specs.Written.{HasCause as HasTextCause}
use Rattle.bs_host.specs.declared.fault.Fault.{Fault}
use Rattle.bs_host.specs.declared.fault.Fault.TheVariants.{Device, Plan as OfPlan, Memory, Write, Flush}
use Rattle.bs_host.specs.Faults.{fault_of_run, fault_of_writing, HasCause}
use Rattle.bs_host.specs.LiveFaults.{HasLiveCause}
use Rattle.bs_host.specs.inner.Faults.{IsRefusal}
use Rattle.bs_host.specs.inner.LiveFaults.{IsLiveRefusal}

-- a refusal is no fault of the writer
pub refused_has_cause : (failed : Type 0) (refusal : Option Fault) (fault : Fault) → IsRefusal refusal fault → HasCause failed fault
refused_has_cause failed refusal (Write written) is = absurd is
refused_has_cause failed refusal _ is = tt

-- nor is a fault of the run
pub run_has_cause : (failed : Type 0) (fault : Run) → HasCause failed (fault_of_run fault)
run_has_cause failed run.Memory = tt
run_has_cause failed run.Broken = tt

pub writing_has_cause : (failed : Type 0) (fault : TranscriptFault) → HasTextCause failed fault → HasCause failed (fault_of_writing fault)
writing_has_cause failed transcript.Memory is = tt
writing_has_cause failed (transcript.Write fault) is = is

-- of a live host

pub live_refusal_has_cause : (read written : Type 0) (refusal : Option Fault) (fault : Fault) → IsLiveRefusal refusal fault → HasLiveCause read written fault
live_refusal_has_cause read written refusal (OfPlan reason) is = tt
live_refusal_has_cause read written refusal Memory is = tt
live_refusal_has_cause read written refusal _ is = absurd is

-- a fault of the writer alone
pub of_writer : (read written : Type 0) (fault : Fault) → HasLiveCause ⊥ written fault → HasLiveCause read written fault
of_writer read written (OfPlan reason) is = tt
of_writer read written Memory is = tt
of_writer read written (Write count) is = is
of_writer read written Flush is = is
of_writer read written _ is = absurd is

-- a fault of the reader alone
pub of_reader : (read written : Type 0) (fault : Fault) → HasLiveCause read ⊥ fault → HasLiveCause read written fault
of_reader read written Device is = is
of_reader read written (OfPlan reason) is = tt
of_reader read written Memory is = tt
of_reader read written _ is = absurd is
