use Rattle.std.proofs.Common.{◌≡◌, ℕ, zero, suc, ◌+◌, ◌<◌, List, [], ◌∷◌, ◌++◌, length, take, drop, set, get_or, refl, ap, arith, add-one}
use Rattle.bs_batch.proofs.motion.push_head.Goals as goal

-- one more part is shifted
next_part : (h : ℕ) (body : List ℕ) (i : ℕ) → i < length body
    → set (take i (h ∷ body) ++ drop i body) i (get_or (h ∷ body) i 0) ≡ take (suc i) (h ∷ body) ++ drop (suc i) body
next_part h [] i within = absurd (omega arith)
next_part h (x ∷ body) zero within = refl
next_part h (x ∷ body) (suc i) within = ap (λ xs. h ∷ xs) (next_part x body i (omega arith))

part_at : (h : ℕ) (body : List ℕ) (i : ℕ) → i < length body → get_or (take i (h ∷ body) ++ drop i body) i 0 ≡ get_or (h ∷ body) (suc i) 0
part_at h [] i within = absurd (omega arith)
part_at h (x ∷ body) zero within = refl
part_at h (x ∷ body) (suc i) within = part_at x body i (omega arith)

step : (h : ℕ) (body now : List ℕ) (i c dest old : ℕ) → now ≡ take i (h ∷ body) ++ drop i body → c ≡ get_or (h ∷ body) i 0 → dest ≡ c → old ≡ get_or now i 0
    → i < length body → (set now i dest ≡ take (i + 1) (h ∷ body) ++ drop (i + 1) body) × (old ≡ get_or (h ∷ body) (i + 1) 0)
step h body now i c dest old e carried d o within = (
  rw (e, d, carried, add-one) (next_part h body i within),
  rw (o, e, add-one) (part_at h body i within),
)

pub loop-part-preserved : goal.loop-part-preserved
loop-part-preserved c =
    step c.args.head c.args.body.now c.loop-part.body c.loop-part.part-index c.loop-part.carried _ _ c.loop-part.invariant.0 c.loop-part.invariant.1
    c.replace-carried.ensures.after c.replace-carried.ensures.value c.loop-part-test.true
