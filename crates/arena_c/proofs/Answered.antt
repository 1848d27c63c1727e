-- What a status and a length say, by the answer that they are made from.
use Rattle.std.proofs.Common.{◌≡◌, ◌≢◌, ◌∙◌, ℕ, Bool, cond, ap, subst, sym, inl, inr, MatchResult, Result, Ok, Err}
use Rattle.std.specs.Prelude.{IfOk, OnErr}
use Rattle.bs_calls.specs.declared.fault.Fault.{Fault}
use Rattle.bs_calls.specs.declared.fault.Fault.TheVariants.{NotARecord, NotASetup, LastTurn, Room, Memory}
use Rattle.arena_c.specs.Status.{IsStatus, status_of}

-- a fault has no status 0
is_fault : (fault : Fault) → status_of fault ≡ 0 → ⊥
is_fault NotARecord e = cc
is_fault NotASetup e = cc
is_fault LastTurn e = cc
is_fault Room e = cc
is_fault Memory e = cc

-- of a call without an answer of its own
pub checked_status : {T : Type 0} (Answer : Type 0) (Fails : Fault → Type 0) (r : Result T Fault) (status : ℕ) → MatchResult r (λ _. Answer) Fails
    → MatchResult r (λ _. status ≡ 0) (λ fault. status ≡ status_of fault) → IsStatus status Answer Fails
checked_status Answer Fails (Ok x) status h s = inl (s, h)
checked_status Answer Fails (Err fault) status h s = inr (fault, s, h)

-- of an answer of yes or no about a board
pub told_status : {B : Type 0} (Is : B → Type 0) (is_so : B → Bool) (Fails : Fault → Type 0) (r : Result Bool Fault) (status old new : ℕ)
    → MatchResult r (λ is. (b : B) × Is b × (is ≡ is_so b)) Fails
    → MatchResult r (λ is. (status ≡ 0) × (new ≡ cond is 1 0)) (λ fault. (status ≡ status_of fault) × (new ≡ old))
    → IsStatus status ((b : B) × Is b × (new ≡ cond (is_so b) 1 0)) Fails
told_status Is is_so Fails (Ok is) status old new h s = inl (s.0, (h.0, h.1, s.1 ∙ ap (λ so. cond so 1 0) h.2))
told_status Is is_so Fails (Err fault) status old new h s = inr (fault, s.0, h)

pub told_fault : (r : Result Bool Fault) (status old new : ℕ) → MatchResult r (λ is. (status ≡ 0) × (new ≡ cond is 1 0)) (λ fault. (status ≡ status_of fault) × (new ≡ old))
    → status ≢ 0 → new ≡ old
told_fault (Ok is) status old new s other = absurd (other s.0)
told_fault (Err fault) status old new s other = s.1

-- of an answer with a length
pub answered_status : (Answer : ℕ → Type 0) (Fails : Fault → Type 0) (r : Result ℕ Fault) (status old new : ℕ) → MatchResult r Answer Fails
    → MatchResult r (λ n. (status ≡ 0) × (new ≡ n)) (λ fault. (status ≡ status_of fault) × (new ≡ old)) → IsStatus status (Answer new) Fails
answered_status Answer Fails (Ok n) status old new h s = inl (s.0, subst Answer (sym s.1) h)
answered_status Answer Fails (Err fault) status old new h s = inr (fault, s.0, h)

pub answered_behind : (Keeps : ℕ → Type 0) (r : Result ℕ Fault) (status old new : ℕ) → IfOk r Keeps
    → MatchResult r (λ n. (status ≡ 0) × (new ≡ n)) (λ fault. (status ≡ status_of fault) × (new ≡ old)) → status ≡ 0 → Keeps new
answered_behind Keeps (Ok n) status old new h s zero = subst Keeps (sym s.1) h
answered_behind Keeps (Err fault) status old new h s zero = absurd (is_fault fault (sym s.0 ∙ zero))

pub answered_fault : (Same : Type 0) (r : Result ℕ Fault) (status old new : ℕ) → OnErr r Same
    → MatchResult r (λ n. (status ≡ 0) × (new ≡ n)) (λ fault. (status ≡ status_of fault) × (new ≡ old)) → status ≢ 0 → Same × (new ≡ old)
answered_fault Same (Ok n) status old new h s other = absurd (other s.0)
answered_fault Same (Err fault) status old new h s other = (h, s.1)
