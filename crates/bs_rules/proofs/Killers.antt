-- The killer is the longest candidate, then the one of the first seat.
use Rattle.bs_rules.proofs.CollisionTest.{decides_collides}
use Rattle.std.proofs.Common.{◌≡◌, ℕ, zero, suc, ◌+◌, ◌<◌, ◌≤◌, Bool, true, false, cond, List, [], ◌∷◌, ◌++◌, Some, None, Option, refl, ap, sym, ◌∙◌, arith, MatchOption, add-one, Decides, ltb}
use Rattle.std.specs.List.{range_with_len, fold, filter}
use Rattle.std.proofs.lemmas.List.Elements.{filter-append}
use Rattle.std.proofs.lemmas.List.Sums.{fold-append}
use Rattle.std.proofs.lemmas.Bool.{ltb-true, ltb-false, false≢true}
use borrow.Author.Count.{below_more}
use Rattle.bs_board.specs.declared.boards.snake.Snake.{Snake}
use Rattle.bs_board.specs.declared.boards.snake.Cause.{Cause}
use Rattle.bs_rules.specs.Collision.{collides, killer_among, longer_of, CollidesWith, length_at}

range_more : (a n : ℕ) → range_with_len a (suc n) ≡ range_with_len a n ++ (a + n) ∷ []
range_more a zero = let z : a + 0 ≡ a = omega arith in rw z refl
range_more a (suc n) = let z : a + 1 + n ≡ a + suc n = omega arith in let rest = rw z at (range_more (a + 1) n) in ap (λ xs. a ∷ xs) rest

pub killer_among_none : (snakes : List Snake) (seat : ℕ) (cause : Cause) → killer_among 0 snakes seat cause ≡ None
unfolding killer_among
killer_among_none snakes seat cause = refl

-- one more entry is folded in if it passes
fold_passed : (p : ℕ → Bool) (f : Option ℕ → ℕ → Option ℕ) (a : Option ℕ) (xs : List ℕ) (x : ℕ)
    → fold f a (filter p (xs ++ x ∷ [])) ≡ cond (p x) (f (fold f a (filter p xs)) x) (fold f a (filter p xs))
fold_passed p f a xs x =
    rw (filter-append p xs (x ∷ []), fold-append f a (filter p xs) (filter p (x ∷ [])))
    (elim (p x) as (λ b. fold f (fold f a (filter p xs)) (cond b (x ∷ []) []) ≡ cond b (f (fold f a (filter p xs)) x) (fold f a (filter p xs))) [ true ↦ refl | false ↦ refl ])

-- one more seat is judged
pub killer_among_next : (n : ℕ) (snakes : List Snake) (seat : ℕ) (cause : Cause)
    → killer_among (n + 1) snakes seat cause ≡ cond (collides snakes seat cause n) (longer_of snakes (killer_among n snakes seat cause) n) (killer_among n snakes seat cause)
unfolding killer_among
killer_among_next n snakes seat cause =
    let z : 0 + n ≡ n = omega arith in
    let range = rw z at (range_more 0 n) in
    rw add-one
    (ap (λ seats. fold (longer_of snakes) None (filter (collides snakes seat cause) seats)) range
    ∙ fold_passed (collides snakes seat cause) (longer_of snakes) None (range_with_len 0 n) n)

-- the longest candidate among the first n seats, and of equally long ones the first
pub record IsKillerAmong (n : ℕ) (snakes : List Snake) (seat : ℕ) (cause : Cause) (killer : ℕ) : Type 0 where
  pub within : killer < n
  pub collides : CollidesWith snakes seat cause killer
  pub longest : (other : ℕ) → other < n → CollidesWith snakes seat cause other → length_at snakes other ≤ length_at snakes killer
  pub first : (other : ℕ) → other < killer → CollidesWith snakes seat cause other → length_at snakes other < length_at snakes killer

-- there is no candidate among the first n seats
abbrev pub NoneAmong : ℕ → List Snake → ℕ → Cause → Type 0
NoneAmong n snakes seat cause = (other : ℕ) → other < n → CollidesWith snakes seat cause other → ⊥

-- the meaning of a killer among the first n seats
abbrev pub MeansKiller : ℕ → List Snake → ℕ → Cause → Option ℕ → Type 0
MeansKiller n snakes seat cause killer = MatchOption killer (NoneAmong n snakes seat cause) (IsKillerAmong n snakes seat cause)

-- the next seat is no candidate
skips : (n : ℕ) (snakes : List Snake) (seat : ℕ) (cause : Cause) (killer : Option ℕ) → (CollidesWith snakes seat cause n → ⊥)
    → MeansKiller n snakes seat cause killer → MeansKiller (n + 1) snakes seat cause killer
skips n snakes seat cause None out m = below_more (λ j. CollidesWith snakes seat cause j → ⊥) n m out
skips n snakes seat cause (Some k) out m = record {
  within = let in' = m.within in omega arith;
  collides = m.collides;
  longest = below_more (λ j. CollidesWith snakes seat cause j → length_at snakes j ≤ length_at snakes k) n m.longest (λ h. absurd (out h));
  first = m.first;
}

-- it is a candidate, and the first one or longer than the one before
takes : (n : ℕ) (snakes : List Snake) (seat : ℕ) (cause : Cause) → CollidesWith snakes seat cause n
    → ((j : ℕ) → j < n → CollidesWith snakes seat cause j → length_at snakes j < length_at snakes n) → IsKillerAmong (n + 1) snakes seat cause n
takes n snakes seat cause hit shorter = record {
  within = omega arith;
  collides = hit;
  longest = below_more (λ j. CollidesWith snakes seat cause j → length_at snakes j ≤ length_at snakes n) n
      (λ j l h. let less = shorter j l h in omega arith) (λ h. omega arith);
  first = shorter;
}

-- it is a candidate, and no longer than the one before
keeps : (n : ℕ) (snakes : List Snake) (seat : ℕ) (cause : Cause) (k : ℕ) → length_at snakes n ≤ length_at snakes k
    → IsKillerAmong n snakes seat cause k → IsKillerAmong (n + 1) snakes seat cause k
keeps n snakes seat cause k short m = record {
  within = let in' = m.within in omega arith;
  collides = m.collides;
  longest = below_more (λ j. CollidesWith snakes seat cause j → length_at snakes j ≤ length_at snakes k) n m.longest (λ h. short);
  first = m.first;
}

next_longer : (n : ℕ) (snakes : List Snake) (seat : ℕ) (cause : Cause) (k : ℕ) (longer : Bool) → longer ≡ ltb (length_at snakes k) (length_at snakes n)
    → CollidesWith snakes seat cause n → IsKillerAmong n snakes seat cause k → MeansKiller (n + 1) snakes seat cause (cond longer (Some n) (Some k))
next_longer n snakes seat cause k true e hit m =
    let long = ltb-true (length_at snakes k) (length_at snakes n) (sym e) in
    takes n snakes seat cause hit (λ j l h. let less = m.longest j l h in omega arith)
next_longer n snakes seat cause k false e hit m =
    keeps n snakes seat cause k (ltb-false (length_at snakes k) (length_at snakes n) (sym e)) m

next_hit : (n : ℕ) (snakes : List Snake) (seat : ℕ) (cause : Cause) (killer : Option ℕ) → CollidesWith snakes seat cause n
    → MeansKiller n snakes seat cause killer → MeansKiller (n + 1) snakes seat cause (longer_of snakes killer n)
next_hit n snakes seat cause None hit m = takes n snakes seat cause hit (λ j l h. absurd (m j l h))
next_hit n snakes seat cause (Some k) hit m = next_longer n snakes seat cause k (ltb (length_at snakes k) (length_at snakes n)) refl hit m

next_seat : (n : ℕ) (snakes : List Snake) (seat : ℕ) (cause : Cause) (killer : Option ℕ) (qualifies : Bool) → Decides qualifies (CollidesWith snakes seat cause n)
    → MeansKiller n snakes seat cause killer → MeansKiller (n + 1) snakes seat cause (cond qualifies (longer_of snakes killer n) killer)
next_seat n snakes seat cause killer true d m = next_hit n snakes seat cause killer (d.0 refl) m
next_seat n snakes seat cause killer false d m = skips n snakes seat cause killer (λ h. false≢true (d.1 h)) m

pub killer_means : (n : ℕ) (snakes : List Snake) (seat : ℕ) (cause : Cause) → MeansKiller n snakes seat cause (killer_among n snakes seat cause)
killer_means zero snakes seat cause = rw (killer_among_none snakes seat cause) (λ other l. absurd (omega arith))
killer_means (suc n) snakes seat cause =
    let next = next_seat n snakes seat cause (killer_among n snakes seat cause) (collides snakes seat cause n) (decides_collides snakes seat cause n) (killer_means n snakes seat cause) in
    let e = killer_among_next n snakes seat cause in
    rw (← add-one, e) next
