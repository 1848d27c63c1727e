-- One more key, and one more outcome.
use Rattle.std.proofs.Common.{◌≡◌, ℕ, zero, suc, ◌+◌, List, [], ◌∷◌, ◌++◌, Option, Some, None, length, slice_get, refl, sym, ◌∙◌, subst, arith, length-append}
use mathlib.Core.Logic.{dite}
use native.Mathlib.Decide.{ℕ_discrete}
use Rattle.atomic_table.specs.Seated.{TableId}
use Rattle.bs_counter.specs.Keys.{Key, AreFirstKeys}
use Rattle.bs_counter.specs.Outcomes.{AreOutcomes}

pub get_before : {A : Type 0} (xs ys : List A) (p : ℕ) (x : A) → slice_get xs p ≡ Some x → slice_get (xs ++ ys) p ≡ Some x
get_before [] ys p x e = let wrong : None ≡ Some x = e in absurd cc
get_before (y ∷ xs) ys zero x e = e
get_before (y ∷ xs) ys (suc p) x e = get_before xs ys p x e

pub get_end : {A : Type 0} (xs : List A) (p : ℕ) (x : A) → length xs ≡ p → slice_get (xs ++ x ∷ []) p ≡ Some x
get_end [] zero x e = refl
get_end [] (suc p) x e = absurd (omega arith)
get_end (y ∷ xs) zero x e = absurd (omega arith)
get_end (y ∷ xs) (suc p) x e = get_end xs p x (omega arith)

pub one_more_key : (k n : ℕ) (tally : TableId) (keys : List Key) (key : Key) → AreFirstKeys k n tally keys → key.part ≡ k → key.parts ≡ n → key.tally ≡ tally
    → AreFirstKeys (k + 1) n tally (keys ++ key ∷ [])
one_more_key k n tally keys key are part parts same =
    record {
      all = let all = are.all in let l = length-append keys (key ∷ []) in omega (arith, l);
      each = λ p within.
          dite (ℕ_discrete p k)
          (λ at. (key, subst (λ (q : ℕ). slice_get (keys ++ key ∷ []) q ≡ Some key) (sym at) (get_end keys k key are.all), part ∙ sym at, parts, same))
          (λ other. let e = are.each p (omega arith) in (e.0, get_before keys (key ∷ []) p e.0 e.1, e.2, e.3, e.4));
    }

pub one_more_outcome : {T : Type 0} (part : T → ℕ) (k : ℕ) (outs : List (Option T)) (x : T) → AreOutcomes part k outs → part x ≡ k
    → AreOutcomes part (k + 1) (outs ++ Some x ∷ [])
one_more_outcome part k outs x are is =
    record {
      many = let many = are.many in let l = length-append outs (Some x ∷ []) in omega (arith, l);
      each = λ p within.
          dite (ℕ_discrete p k)
          (λ at. (x, subst (λ (q : ℕ). slice_get (outs ++ Some x ∷ []) q ≡ Some (Some x)) (sym at) (get_end outs k (Some x) are.many), is ∙ sym at))
          (λ other. let e = are.each p (omega arith) in (e.0, get_before outs (Some x ∷ []) p (Some e.0) e.1, e.2));
    }
