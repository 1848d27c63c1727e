-- Each step at a tally keeps its rule.
use Rattle.std.proofs.Common.{◌≡◌, ◌≢◌, ◌⊎◌, ℕ, zero, suc, ◌+◌, ◌-◌, ◌%◌, ◌^◌, ◌<◌, ◌≤◌, List, [], ◌∷◌, ◌++◌, Option, Some, None, map, length, get_or, set, replicate, sym, refl, ap, ◌∙◌, subst, inl, inr, ⊎_elim, arith, eq-zero-or-pos, length-set, get_or-set_same}
use mathlib.Core.Logic.{dite}
use mathlib.Core.Option.{none, some, some-injective, some-ne-none}
use mathlib.Core.Option as maybe
use native.Mathlib.Decide.{ℕ_discrete}
use lib.ListN.{get_elem?}
use Rattle.std.proofs.lemmas.List.{length-map, length-replicate}
use Rattle.atomic_table.specs.Table.{State, Me, step, takes, gives, stepped, opening, Allows, Splits}
use Rattle.atomic_table.proofs.Lists.{at_set, set_here, set_else, at_longer, at_last}
use Rattle.bs_counter.specs.declared.views.SeatView.{SeatView}
use Rattle.bs_counter.specs.declared.views.SeatView.TheVariants.{Owes, Writes, Past, Last}
use Rattle.bs_counter.specs.Missing.{IsMissing, IsSet}
use Rattle.bs_counter.specs.Tally.{Covers, Waits, weight, owing, IsFilled, IsFinished, Tallied, started, ended, fetched, without_first, first_alone}

-- lists

at_new : {A : Type 0} (l : List A) (i : ℕ) (a b : A) → get_elem? l i ≡ some a → get_elem? (set l i b) i ≡ some b
at_new [] i a b e = absurd (some-ne-none a (sym e))
at_new (x ∷ xs) zero a b e = refl
at_new (x ∷ xs) (suc i) a b e = at_new xs i a b e

at_new_other : {A : Type 0} (l : List A) (i j : ℕ) (a b : A) → j ≢ i → get_elem? l j ≡ some a → get_elem? (set l i b) j ≡ some a
at_new_other l i j a b ne e = set_else l i j b ne ∙ e

at_end : {A : Type 0} (l : List A) (a b : A) (j : ℕ) → get_elem? (l ++ a ∷ []) j ≡ some b → (get_elem? l j ≡ some b) ⊎ ((j ≡ length l) × (a ≡ b))
at_end [] a b zero e = inr (refl, some-injective a b e)
at_end [] a b (suc j) e = absurd (some-ne-none b (sym e))
at_end (x ∷ xs) a b zero e = inl e
at_end (x ∷ xs) a b (suc j) e = ⊎_elim (λ t. inl t) (λ t. inr (let h = t.0 in omega arith, t.1)) (at_end xs a b j e)

at_copies : {A : Type 0} (n p : ℕ) (a : A) → p < n → get_elem? (map some (replicate n a)) p ≡ some (some a)
at_copies zero p a h = absurd (omega arith)
at_copies (suc n) zero a h = refl
at_copies (suc n) (suc p) a h = at_copies n p a (omega arith)

-- views

covers_weighs : (v : SeatView) (p : ℕ) → Covers v p → 0 < weight v
covers_weighs (Owes a b) p c = let l = c.0 in let r = c.1 in omega arith
covers_weighs (Writes q) p c = omega arith
covers_weighs Past p c = absurd c
covers_weighs (Last k) p c = absurd c

waits_covers : (v : SeatView) (p : ℕ) → Waits v p → Covers v p
waits_covers (Owes a b) p c = c
waits_covers (Writes q) p c = absurd c
waits_covers Past p c = absurd c
waits_covers (Last k) p c = absurd c

owing_set : (l : List SeatView) (i : ℕ) (v w : SeatView) → get_elem? l i ≡ some v → owing (set l i w) + weight v ≡ owing l + weight w
owing_set [] i v w e = absurd (some-ne-none v (sym e))
owing_set (x ∷ xs) zero v w e = let is : weight x ≡ weight v = ap weight (some-injective x v e) in omega arith
owing_set (x ∷ xs) (suc i) v w e = let r = owing_set xs i v w e in omega arith

owing_end : (l : List SeatView) (v : SeatView) → owing (l ++ v ∷ []) ≡ owing l + weight v
owing_end [] v = let none : owing (v ∷ []) ≡ weight v + 0 = refl in omega arith
owing_end (x ∷ xs) v = let r = owing_end xs v in omega arith

owing_at : (l : List SeatView) (i : ℕ) (v : SeatView) → get_elem? l i ≡ some v → weight v ≤ owing l
owing_at l i v e = let s : owing (set l i Past) + weight v ≡ owing l + 0 = owing_set l i v Past e in omega arith

covered : (v : SeatView) → 0 < weight v → (p : ℕ) × Covers v p
covered (Owes a b) some_left = (a, (omega arith, omega arith))
covered (Writes q) some_left = (q, refl)
covered Past some_left = absurd (omega arith)
covered (Last k) some_left = absurd (omega arith)

some_missing : (l : List SeatView) → 0 < owing l → (p : ℕ) × IsMissing l p
some_missing [] left = absurd (omega arith)
some_missing (x ∷ xs) left =
    elim (eq-zero-or-pos (weight x)) [
      | inl done ↦ let m = some_missing xs (omega (arith, done)) in (m.0, (suc m.1.0, m.1.1, m.1.2, m.1.3))
      | inr here ↦ let c = covered x here in (c.0, (0, x, refl, c.1))
    ]

injective : (k l : ℕ) → Last k ≡ Last l → k ≡ l
injective k l e = cc

module _ {T : Type 0} (part : T → ℕ) (n : ℕ) where
  abbrev St : Type 0
  St = State (Option T) SeatView

  abbrev M : Type 0
  M = Me (Option T) SeatView

  abbrev Homes : Type 0
  Homes = List (maybe.Option (Option T))

  abbrev nothing : Option T
  nothing = None

  -- a tally is made

  opened : (i : ℕ) (v : SeatView) → get_elem? (Owes 0 n ∷ []) i ≡ some v → (i ≡ 0) × (Owes 0 n ≡ v)
  opened zero v e = (refl, some-injective (Owes 0 n) v e)
  opened (suc i) v e = absurd (some-ne-none v (sym e))

  none_last_yet : (i k : ℕ) → get_elem? (Owes 0 n ∷ []) i ≡ some (Last k) → ⊥
  none_last_yet i k e = let is : Owes 0 n ≡ Last k = (opened i (Last k) e).1 in cc

  opened_inside : (i p : ℕ) (v : SeatView) → get_elem? (Owes 0 n ∷ []) i ≡ some v → Covers v p → p < n
  opened_inside i p v e c = let there : Covers (Owes 0 n) p = subst (λ (u : SeatView). Covers u p) (sym (opened i v e).1) c in there.1

  opened_empty : (i p : ℕ) (v : SeatView) → get_elem? (Owes 0 n ∷ []) i ≡ some v → Waits v p → get_elem? (map some (replicate n nothing)) p ≡ some (some nothing)
  opened_empty i p v e c = at_copies n p nothing (opened_inside i p v e (waits_covers v p c))

  pub opens : 0 < n → Tallied part n (opening (n ∷ []) (replicate n None) (Owes 0 n))
  opens has_part =
      record {
        wide = refl;
        deep = length-map (replicate n None) some ∙ length-replicate n None;
        word_is = let all : owing (Owes 0 n ∷ []) ≡ n - 0 + 0 = refl in omega arith;
        inside = opened_inside;
        disjoint = λ i j p v w e f c d. (opened i v e).0 ∙ sym (opened j w f).0;
        empty = opened_empty;
        filled = λ p left within done. absurd (done 0 (Owes 0 n) refl (omega arith, within));
        last = λ i k e. absurd (none_last_yet i k e);
        one_last = λ i j k l e f. absurd (none_last_yet i k e);
        some_last = λ e. let all : owing (Owes 0 n ∷ []) ≡ n - 0 + 0 = refl in absurd (omega arith);
      }

  -- A seat's view v becomes w, which covers no more.
  module _ (s : St) (r : Tallied part n s) (id : ℕ) (v w : SeatView) (at : get_elem? s.views id ≡ some v) (less : (p : ℕ) → Covers w p → Covers v p) where
    -- what a seat covers after the step it covered before
    before : (i p : ℕ) (u : SeatView) → get_elem? (set s.views id w) i ≡ some u → Covers u p → (u' : SeatView) × (get_elem? s.views i ≡ some u') × Covers u' p
    before i p u e c =
        ⊎_elim (λ t. (v, subst (λ (j : ℕ). get_elem? s.views j ≡ some v) (sym t.0) at, less p (subst (λ (x : SeatView). Covers x p) (sym t.1) c)))
        (λ t. (u, t.1, c)) (at_set s.views id i w u e)

    inside_after : (i p : ℕ) (u : SeatView) → get_elem? (set s.views id w) i ≡ some u → Covers u p → p < n
    inside_after i p u e c = let b = before i p u e c in r.inside i p b.0 b.1 b.2

    disjoint_after : (i j p : ℕ) (a b : SeatView) → get_elem? (set s.views id w) i ≡ some a → get_elem? (set s.views id w) j ≡ some b → Covers a p → Covers b p → i ≡ j
    disjoint_after i j p a b e f c d = let x = before i p a e c in let y = before j p b f d in r.disjoint i j p x.0 y.0 x.1 y.1 x.2 y.2

    -- a seat other than this one covers none of its parts
    apart : (i p q : ℕ) (u : SeatView) → i ≢ id → get_elem? s.views i ≡ some u → Covers u q → Covers v p → q ≢ p
    apart i p q u other e c d same = other (r.disjoint i id q u v e at c (subst (λ (x : ℕ). Covers v x) (sym same) d))

    -- no seat was last while a part was missing
    none_last : 0 < weight v → (i k : ℕ) → get_elem? s.views i ≡ some (Last k) → ⊥
    none_last some_left i k e = let no_more = (r.last i k e).0 in let left = owing_at s.views id v at in omega arith

    -- nor is another one after the step
    none_last_after : 0 < weight v → ((k : ℕ) → w ≡ Last k → ⊥) → (i k : ℕ) → get_elem? (set s.views id w) i ≡ some (Last k) → ⊥
    none_last_after some_left not i k e = ⊎_elim (λ t. not k t.1) (λ t. none_last some_left i k t.1) (at_set s.views id i w (Last k) e)

    -- a part that is finished after the step was finished before, or was one of this seat's
    finished_before : (q : ℕ) → ¬ Covers v q → IsFinished (set s.views id w) q → IsFinished s.views q
    finished_before q mine done i u e c =
        dite (ℕ_discrete i id)
        (λ same. mine (subst (λ (x : SeatView). Covers x q) (some-injective u v (sym e ∙ subst (λ (j : ℕ). get_elem? s.views j ≡ some v) (sym same) at)) c))
        (λ other. done i u (at_new_other s.views id i u w other e) c)

    -- an empty slot of another seat is still empty
    empty_after : (p : ℕ) (h : maybe.Option (Option T)) → Covers v p → ((q : ℕ) → ¬ Waits w q) → (i q : ℕ) (u : SeatView) → get_elem? (set s.views id w) i ≡ some u → Waits u q
        → get_elem? (set s.homes p h) q ≡ some (some None)
    empty_after p h mine waits i q u e c =
        ⊎_elim (λ t. absurd (waits q (subst (λ (x : SeatView). Waits x q) (sym t.1) c)))
        (λ t. set_else s.homes p q h (apart i p q u t.0 t.1 (waits_covers u q c) mine) ∙ r.empty i q u t.1 c) (at_set s.views id i w u e)

  filled_other : (homes : Homes) (p q : ℕ) (h : maybe.Option (Option T)) → q ≢ p → IsFilled part homes q → IsFilled part (set homes p h) q
  filled_other homes p q h other is = (is.0, set_else homes p q h other ∙ is.1, is.2)

  -- the word after a step
  word_after : (s : St) → Tallied part n s → (k : ℕ) → get_or (set s.words 0 k) 0 0 ≡ k
  word_after s r k = let wide = r.wide in get_or-set_same s.words 0 k 0 (omega arith)

  -- a slot is taken out by the seat that has to finish its part

  alone : (p q : ℕ) → Covers (Owes p (p + 1)) q → q ≡ p
  alone p q c = let l = c.0 in let h = c.1 in omega arith

  starts_at : (s : St) (id p : ℕ) → Tallied part n s → get_elem? s.views id ≡ some (Owes p (p + 1))
      → Tallied part n (stepped s 0 (get_or s.words 0 0) id [] (Writes p) (takes p None))
  starts_at s id p r at =
      let v : SeatView = Owes p (p + 1) in
      let w : SeatView = Writes p in
      let less : (q : ℕ) → Covers w q → Covers v q = λ q c. let e : q ≡ p = c in (omega arith, omega arith) in
      let mine : Covers v p = (omega arith, omega arith) in
      let one : weight v ≡ p + 1 - p = refl in
      let sum : owing (set s.views id w) + (p + 1 - p) ≡ owing s.views + 1 = owing_set s.views id v w at in
      let same : owing (set s.views id w) ≡ owing s.views = omega arith in
      let some_left : 0 < weight v = omega arith in
      let left : 0 < owing s.views = let l = owing_at s.views id v at in omega arith in
      let clash : (k : ℕ) → w ≡ Last k → ⊥ = λ k e. cc in
      record {
        wide = length-set s.words 0 (get_or s.words 0 0) ∙ r.wide;
        deep = length-set s.homes p none ∙ r.deep;
        word_is = word_after s r (get_or s.words 0 0) ∙ r.word_is ∙ sym same;
        inside = inside_after s r id v w at less;
        disjoint = disjoint_after s r id v w at less;
        empty = empty_after s r id v w at less p none mine (λ q c. c);
        filled = λ q some_more within done.
            let other : q ≢ p = λ e. done id w (at_new s.views id v w at) e in
            filled_other s.homes p q none other (r.filled q left within (finished_before s r id v w at less q (λ c. other (alone p q c)) done));
        last = λ i k e. absurd (none_last_after s r id v w at less some_left clash i k e);
        one_last = λ i j k l e f. absurd (none_last_after s r id v w at less some_left clash i k e);
        some_last = λ e. absurd (omega arith);
      }

  starts_from : (slots id p : ℕ) → Allows (Tallied part n) slots id (Owes p (p + 1), []) 0 (λ x. x) (started (step slots 0 0 0 none) (Owes p (p + 1), []))
  starts_from slots id p s r _ at _ =
      let mine : Covers (Owes p (p + 1)) p = (omega arith, omega arith) in
      (Writes p, takes p None, r.empty id p (Owes p (p + 1)) at mine, starts_at s id p r at, refl)

  pub starts : (slots id p : ℕ) (me : M) → me ≡ (Owes p (p + 1), []) → Allows (Tallied part n) slots id me 0 (λ x. x) (started (step slots 0 0 0 none) me)
  starts slots id p me is = subst (λ (m : M). Allows (Tallied part n) slots id m 0 (λ x. x) (started (step slots 0 0 0 none) m)) (sym is) (starts_from slots id p)

  -- a slot is put back with the outcome of its part

  -- the part whose slot is put back is filled, and so is each other that was finished before
  filled_after : (s : St) (id p q : ℕ) (x : T) (w : SeatView) → Tallied part n s → get_elem? s.views id ≡ some (Writes p) → part x ≡ p → q < n
      → ((p' : ℕ) → Covers w p' → Covers (Writes p) p') → IsFinished (set s.views id w) q → IsFilled part (set s.homes p (some (Some x))) q
  filled_after s id p q x w r at is within less done =
      dite (ℕ_discrete q p)
      (λ same.
      let deep = r.deep in
      let here : p < length s.homes = let m = r.inside id p (Writes p) at refl in omega arith in
      (x, subst (λ (k : ℕ). get_elem? (set s.homes p (some (Some x))) k ≡ some (some (Some x))) (sym same) (set_here s.homes p (some (Some x)) here), is ∙ sym same))
      (λ other.
      let left : 0 < owing s.views = let l : 1 ≤ owing s.views = owing_at s.views id (Writes p) at in omega arith in
      filled_other s.homes p q (some (Some x)) other (r.filled q left within (finished_before s r id (Writes p) w at less q other done)))

  goes_home : (s : St) (id p k : ℕ) (x : T) → Tallied part n s → get_elem? s.views id ≡ some (Writes p) → part x ≡ p → owing s.views ≡ k + 1 → 0 < k
      → Tallied part n (stepped s 0 k id ((p, Some x) ∷ []) Past gives)
  goes_home s id p k x r at is many some_more =
      let v : SeatView = Writes p in
      let w : SeatView = Past in
      let less : (q : ℕ) → Covers w q → Covers v q = λ q c. absurd c in
      let sum : owing (set s.views id w) + 1 ≡ owing s.views + 0 = owing_set s.views id v w at in
      let some_left : 0 < weight v = omega arith in
      let clash : (l : ℕ) → w ≡ Last l → ⊥ = λ l e. cc in
      record {
        wide = length-set s.words 0 k ∙ r.wide;
        deep = length-set s.homes p (some (Some x)) ∙ r.deep;
        word_is = word_after s r k ∙ omega arith;
        inside = inside_after s r id v w at less;
        disjoint = disjoint_after s r id v w at less;
        empty = empty_after s r id v w at less p (some (Some x)) refl (λ q c. c);
        filled = λ q left within done. filled_after s id p q x w r at is within less done;
        last = λ i l e. absurd (none_last_after s r id v w at less some_left clash i l e);
        one_last = λ i j l m e f. absurd (none_last_after s r id v w at less some_left clash i l e);
        some_last = λ e. absurd (omega arith);
      }

  -- if no part is missing, each is finished
  all_finished : (views : List SeatView) (q : ℕ) → owing views ≡ 0 → IsFinished views q
  all_finished views q none_left i u e c = let l = owing_at views i u e in let m = covers_weighs u q c in absurd (omega arith)

  goes_home_last : (s : St) (id p : ℕ) (x : T) → Tallied part n s → get_elem? s.views id ≡ some (Writes p) → part x ≡ p → owing s.views ≡ 1
      → Tallied part n (stepped s 0 0 id ((p, Some x) ∷ []) (Last 0) gives)
  goes_home_last s id p x r at is many =
      let v : SeatView = Writes p in
      let w : SeatView = Last 0 in
      let less : (q : ℕ) → Covers w q → Covers v q = λ q c. absurd c in
      let sum : owing (set s.views id w) + 1 ≡ owing s.views + 0 = owing_set s.views id v w at in
      let none_left : owing (set s.views id w) ≡ 0 = omega arith in
      let some_left : 0 < weight v = omega arith in
      let mine : (i k : ℕ) → get_elem? (set s.views id w) i ≡ some (Last k) → i ≡ id
      = λ i k e. ⊎_elim (λ t. t.0) (λ t. absurd (none_last s r id v w at less some_left i k t.1)) (at_set s.views id i w (Last k) e) in
      record {
        wide = length-set s.words 0 0 ∙ r.wide;
        deep = length-set s.homes p (some (Some x)) ∙ r.deep;
        word_is = word_after s r 0 ∙ sym none_left;
        inside = inside_after s r id v w at less;
        disjoint = disjoint_after s r id v w at less;
        empty = empty_after s r id v w at less p (some (Some x)) refl (λ q c. c);
        filled = λ q left within done. absurd (omega arith);
        last = λ i k e. (none_left, λ q from within. filled_after s id p q x w r at is within less (all_finished (set s.views id w) q none_left));
        one_last = λ i j k l e f. mine i k e ∙ sym (mine j l f);
        some_last = λ e. (id, 0, at_new s.views id v w at);
      }

  ends_from : (slots id p : ℕ) (x : T) → part x ≡ p
      → Allows (Tallied part n) slots id (Writes p, (p, Some x) ∷ []) 0 (λ y. (y + (2 ^ 64 - 1)) % 2 ^ 64) (ended (step slots 0 1 0 none) (Writes p, (p, Some x) ∷ []))
  ends_from slots id p x is s r _ at small =
      let y : ℕ = get_or s.words 0 0 in
      let me : M = (Writes p, (p, Some x) ∷ []) in
      let many : y ≡ owing s.views = r.word_is in
      let left : 1 ≤ owing s.views = owing_at s.views id (Writes p) at in
      let fits : y < 18446744073709551616 = small in
      let k : ℕ = y - 1 in
      let less : k ≡ (y + 18446744073709551615) % 18446744073709551616 = omega arith in
      dite (ℕ_discrete y 1)
      (λ one.
      let none_left : 0 ≡ (y + 18446744073709551615) % 18446744073709551616 = omega arith in (
        Last 0,
        gives,
        tt,
        subst (λ (z : ℕ). Tallied part n (stepped s 0 z id me.1 (Last 0) gives)) none_left (goes_home_last s id p x r at is (sym many ∙ one)),
        (omega arith, λ e. refl, λ not. absurd (not one)),
      ))
      (λ more. (
        Past,
        gives,
        tt,
        subst (λ (z : ℕ). Tallied part n (stepped s 0 z id me.1 Past gives)) less (goes_home s id p k x r at is (omega arith) (omega arith)),
        (omega arith, (λ e. absurd (more e)), λ _. refl),
      ))

  pub ends : (slots id p : ℕ) (x : T) (me : M) → part x ≡ p → me ≡ (Writes p, (p, Some x) ∷ [])
      → Allows (Tallied part n) slots id me 0 (λ y. (y + (2 ^ 64 - 1)) % 2 ^ 64) (ended (step slots 0 1 0 none) me)
  ends slots id p x me is e =
      subst (λ (m : M). Allows (Tallied part n) slots id m 0 (λ y. (y + (2 ^ 64 - 1)) % 2 ^ 64) (ended (step slots 0 1 0 none) m)) (sym e) (ends_from slots id p x is)

  -- the last finisher takes the slots, one by one

  fetches_at : (s : St) (id k : ℕ) (c : List (ℕ × Option T)) → Tallied part n s → get_elem? s.views id ≡ some (Last k) → (y : Option T)
      → Tallied part n (stepped s 0 (get_or s.words 0 0) id c (Last (k + 1)) (takes k y))
  fetches_at s id k c r at y =
      let v : SeatView = Last k in
      let w : SeatView = Last (k + 1) in
      let less : (q : ℕ) → Covers w q → Covers v q = λ q c. absurd c in
      let mine = r.last id k at in
      let sum : owing (set s.views id w) + 0 ≡ owing s.views + 0 = owing_set s.views id v w at in
      let none_left : owing (set s.views id w) ≡ 0 = let z = mine.0 in omega arith in
      let one : (i l : ℕ) → get_elem? (set s.views id w) i ≡ some (Last l) → i ≡ id
      = λ i l e. ⊎_elim (λ t. t.0) (λ t. r.one_last i id l k t.1 at) (at_set s.views id i w (Last l) e) in
      let next : (i l : ℕ) → get_elem? (set s.views id w) i ≡ some (Last l) → k + 1 ≡ l
      = λ i l e. ⊎_elim (λ t. injective (k + 1) l t.1) (λ t. absurd (t.0 (r.one_last i id l k t.1 at))) (at_set s.views id i w (Last l) e) in
      record {
        wide = length-set s.words 0 (get_or s.words 0 0) ∙ r.wide;
        deep = length-set s.homes k none ∙ r.deep;
        word_is = word_after s r (get_or s.words 0 0) ∙ r.word_is ∙ mine.0 ∙ sym none_left;
        inside = inside_after s r id v w at less;
        disjoint = disjoint_after s r id v w at less;
        empty = λ i q u e wait. absurd (all_finished (set s.views id w) q none_left i u e (waits_covers u q wait));
        filled = λ q left within done. absurd (omega arith);
        last = λ i l e. (none_left, λ q from within. let is = next i l e in filled_other s.homes k q none (λ same. absurd (omega arith)) (mine.1 q (omega arith) within));
        one_last = λ i j l m e f. one i l e ∙ sym (one j m f);
        some_last = λ e. (id, k + 1, at_new s.views id v w at);
      }

  fetches_from : (slots id k : ℕ) (c : List (ℕ × Option T)) → k < n
      → Allows (Tallied part n) slots id (Last k, c) 0 (λ x. x) (fetched part (step slots 0 0 0 none) (Last k, c))
  fetches_from slots id k c within s r _ at _ =
      let out = (r.last id k at).1 k (omega arith) within in
      (Last (k + 1), takes k (Some out.0), out.1, fetches_at s id k c r at (Some out.0), (refl, (out.0, refl, out.2)))

  pub fetches : (slots id k : ℕ) (me : M) → k < n → me.0 ≡ Last k → Allows (Tallied part n) slots id me 0 (λ x. x) (fetched part (step slots 0 0 0 none) me)
  fetches slots id k me within is =
      subst (λ (v : SeatView). Allows (Tallied part n) slots id (v, me.1) 0 (λ x. x) (fetched part (step slots 0 0 0 none) (v, me.1))) (sym is)
      (fetches_from slots id k me.1 within)

  -- a key is split off

  module _ (s : St) (r : Tallied part n s) (id a b : ℕ) (more : a < b) (at : get_elem? s.views id ≡ some (Owes a b)) where
    abbrev v : SeatView
    v = Owes a b

    abbrev w : SeatView
    w = Owes (a + 1) b

    abbrev u : SeatView
    u = Owes a (a + 1)

    abbrev views' : List SeatView
    views' = set s.views id w ++ u ∷ []

    less' : (p : ℕ) → Covers w p → Covers v p
    less' p c = let l = c.0 in let h = c.1 in (omega arith, omega arith)

    same_owing : owing views' ≡ owing s.views
    same_owing =
        let e = owing_end (set s.views id w) u in
        let sum : owing (set s.views id w) + (b - a) ≡ owing s.views + (b - (a + 1)) = owing_set s.views id v w at in
        let one : owing views' ≡ owing (set s.views id w) + (a + 1 - a) = e in
        omega arith

    -- a seat other than the new one is as after the step; the new one is the last
    old_or_new : (i : ℕ) (x : SeatView) → get_elem? views' i ≡ some x → (get_elem? (set s.views id w) i ≡ some x) ⊎ ((i ≡ length s.views) × (u ≡ x))
    old_or_new i x e = ⊎_elim (λ t. inl t) (λ t. inr (t.0 ∙ length-set s.views id w, t.1)) (at_end (set s.views id w) u x i e)

    -- only the new seat covers its part
    not_first : (i p : ℕ) (x : SeatView) → get_elem? (set s.views id w) i ≡ some x → Covers x p → Covers u p → ⊥
    not_first i p x e c d =
        ⊎_elim (λ t. let m : Covers w p = subst (λ (y : SeatView). Covers y p) (sym t.1) c in let l = m.0 in let h = d.1 in absurd (omega arith))
        (λ t. let l = d.0 in let h = d.1 in apart s r id v w at less' i p p x t.0 t.1 c (omega arith, omega arith) refl) (at_set s.views id i w x e)

    split_inside : (i p : ℕ) (x : SeatView) → get_elem? views' i ≡ some x → Covers x p → p < n
    split_inside i p x e c =
        ⊎_elim (λ t. inside_after s r id v w at less' i p x t c)
        (λ t. let d : Covers u p = subst (λ (y : SeatView). Covers y p) (sym t.1) c in let l = d.0 in let h = d.1 in r.inside id p v at (omega arith, omega arith))
        (old_or_new i x e)

    split_disjoint : (i j p : ℕ) (x y : SeatView) → get_elem? views' i ≡ some x → get_elem? views' j ≡ some y → Covers x p → Covers y p → i ≡ j
    split_disjoint i j p x y e f c d =
        ⊎_elim
        (λ t. ⊎_elim (λ t'. disjoint_after s r id v w at less' i j p x y t t' c d)
        (λ t'. absurd (not_first i p x t c (subst (λ (z : SeatView). Covers z p) (sym t'.1) d))) (old_or_new j y f))
        (λ t. ⊎_elim (λ t'. absurd (not_first j p y t' d (subst (λ (z : SeatView). Covers z p) (sym t.1) c)))
        (λ t'. t.0 ∙ sym t'.0) (old_or_new j y f))
        (old_or_new i x e)

    split_empty : (i p : ℕ) (x : SeatView) → get_elem? views' i ≡ some x → Waits x p → get_elem? s.homes p ≡ some (some None)
    split_empty i p x e c =
        ⊎_elim (λ t. ⊎_elim (λ q. let m : Covers w p = subst (λ (y : SeatView). Waits y p) (sym q.1) c in r.empty id p v at (less' p m)) (λ q. r.empty i p x q.1 c) (at_set s.views id i w x t))
        (λ t. let d : Covers u p = subst (λ (y : SeatView). Waits y p) (sym t.1) c in let l = d.0 in let h = d.1 in r.empty id p v at (omega arith, omega arith))
        (old_or_new i x e)

    split_finished : (p : ℕ) → IsFinished views' p → IsFinished s.views p
    split_finished p done i x e c =
        dite (ℕ_discrete i id)
        (λ same.
        let m : Covers v p = subst (λ (y : SeatView). Covers y p) (some-injective x v (sym e ∙ subst (λ (j : ℕ). get_elem? s.views j ≡ some v) (sym same) at)) c in
        let l = m.0 in
        let h = m.1 in
        dite (ℕ_discrete p a)
        (λ first. done (length s.views) u (at_last (set s.views id w) u (length s.views) (length-set s.views id w)) (omega arith, omega arith))
        (λ later. done id w (at_longer (set s.views id w) (u ∷ []) id w (at_new s.views id v w at)) (omega arith, omega arith)))
        (λ other. done i x (at_longer (set s.views id w) (u ∷ []) i x (at_new_other s.views id i x w other e)) c)

    some_weight : 0 < weight v
    some_weight = let one : weight v ≡ b - a = refl in omega arith

    split_none_last : (i k : ℕ) → get_elem? views' i ≡ some (Last k) → ⊥
    split_none_last i k e =
        ⊎_elim (λ t. none_last_after s r id v w at less' some_weight (λ l c. cc) i k t) (λ t. let is : u ≡ Last k = t.1 in cc) (old_or_new i (Last k) e)

    split_keeps : Tallied part n (record { words = s.words; homes = s.homes; views = views' })
    split_keeps =
        let same = same_owing in
        let left : 0 < owing s.views = let l = owing_at s.views id v at in let m = some_weight in omega arith in
        record {
          wide = r.wide;
          deep = r.deep;
          word_is = r.word_is ∙ sym same;
          inside = split_inside;
          disjoint = split_disjoint;
          empty = split_empty;
          filled = λ p some_left within done. r.filled p left within (split_finished p done);
          last = λ i k e. absurd (split_none_last i k e);
          one_last = λ i j k l e f. absurd (split_none_last i k e);
          some_last = λ e. absurd (omega arith);
        }

  pub splits : (id a b : ℕ) (x : SeatView) → a < b → x ≡ Owes a b → Splits (Tallied part n) id x (without_first x) (first_alone x)
  splits id a b x more is =
      subst (λ (y : SeatView). Splits (Tallied part n) id y (without_first y) (first_alone y)) (sym is) (λ s r at. split_keeps s r id a b more at)

  -- the tally as a set

  module _ (s : St) (r : Tallied part n s) where
    finish_takes : (id p : ℕ) (w : SeatView) → get_elem? s.views id ≡ some (Writes p) → ((q : ℕ) → ¬ Covers w q) → (q : ℕ) → IsMissing (set s.views id w) q
        → IsMissing s.views q × (q ≢ p)
    finish_takes id p w at spent q missing =
        let less : (k : ℕ) → Covers w k → Covers (Writes p) k = λ k c. absurd (spent k c) in
        let e = missing.2 in
        let c = missing.3 in
        ⊎_elim (λ t. absurd (spent q (subst (λ (x : SeatView). Covers x q) (sym t.1) c)))
        (λ t. ((missing.0, missing.1, t.1, c), apart s r id (Writes p) w at less missing.0 p q missing.1 t.0 t.1 c refl)) (at_set s.views id missing.0 w missing.1 e)

    finish_leaves : (id p : ℕ) (w : SeatView) → get_elem? s.views id ≡ some (Writes p) → (q : ℕ) → IsMissing s.views q × (q ≢ p) → IsMissing (set s.views id w) q
    finish_leaves id p w at q missing =
        let i = missing.0.0 in
        let v = missing.0.1 in
        let e = missing.0.2 in
        let c = missing.0.3 in
        let other : i ≢ id = λ same. missing.1 (subst (λ (x : SeatView). Covers x q) (some-injective v (Writes p) (sym e ∙ subst (λ (j : ℕ). get_elem? s.views j ≡ some (Writes p)) (sym same) at)) c) in
        (i, v, at_new_other s.views id i v w other e, c)

    -- if no seat has to finish a part, the word is 0
    none_counted : ((p : ℕ) → ¬ IsMissing s.views p) → owing s.views ≡ 0
    none_counted no_part =
        elim (eq-zero-or-pos (owing s.views)) [
          | inl zero_left ↦ zero_left
          | inr left ↦ let m = some_missing s.views left in absurd (no_part m.0 m.1)
        ]

    pub is_set : IsSet s
    is_set = record {
      empty = (
        (λ none_left p missing. all_finished s.views p (sym r.word_is ∙ none_left) missing.0 missing.1 missing.2 missing.3),
        (λ no_part. r.word_is ∙ none_counted no_part),
      );
      finish = λ id p w at spent q. (finish_takes id p w at spent q, finish_leaves id p w at q);
      one_last = λ no_part.
          let last = r.some_last (none_counted no_part) in
          (last.0, ((last.1, last.2), λ j other. r.one_last j last.0 other.0 last.1 other.1 last.2));
      none_last = λ p missing i last. all_finished s.views p (r.last i last.0 last.1).0 missing.0 missing.1 missing.2 missing.3;
    }
