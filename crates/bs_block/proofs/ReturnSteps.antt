-- Each step at the table of a group keeps its rule; and what the table tells in the end.
use Rattle.std.proofs.Common.{◌≡◌, ◌≢◌, ℕ, zero, suc, ◌+◌, ◌*◌, ◌<◌, ◌≤◌, ◌^◌, List, [], ◌∷◌, Option, Some, None, map, length, get_or, set, replicate, sym, refl, ap, ◌∙◌, subst, IfSome, arith, mul-le-mul_right, suc-mul, mul_comm, length-append, length-set, get_or-set_same, get_or-set_other}
use mathlib.Core.Logic.{dite}
use mathlib.Core.Option.{none, some, some-injective, some-ne-none}
use mathlib.Core.Option as maybe
use native.Mathlib.Decide.{ℕ_discrete}
use lib.ListN.{get_elem?}
use denote.RawPtr.{Ptr, block_ptr, null_ptr, ◌+ₚ◌}
use Rattle.std.proofs.lemmas.List.{length-map, length-replicate, get_or-replicate}
use Rattle.atomic_table.specs.Table.{State, Me, takes, gives, keeps, opening, Allows, Arrives, Final}
use Rattle.atomic_table.proofs.Lists.{set_here, set_else}
use Rattle.bs_block.specs.declared.group.Layout.{Layout}
use Rattle.bs_block.specs.declared.group.Spare.{Spare}
use Rattle.bs_block.specs.Returns.{Returned, LiesAt, place_of}
use Rattle.bs_block.specs.inner.Joins.{Adjoin, IsJoint, AreFirst}

-- pointers

pub moved_by : (p : Ptr) (m n : ℕ) → (p +ₚ m) +ₚ n ≡ p +ₚ (m + n)
moved_by (block_ptr b o) m n = ap (block_ptr b) (omega arith)
moved_by null_ptr m n = refl

pub not_moved : (p : Ptr) → p +ₚ 0 ≡ p
not_moved (block_ptr b o) = ap (block_ptr b) (omega arith)
not_moved null_ptr = refl

-- lists

at_copies : {A : Type 0} (n k : ℕ) (a : A) → k < n → get_elem? (map some (replicate n a)) k ≡ some (some a)
at_copies zero k a h = absurd (omega arith)
at_copies (suc n) zero a h = refl
at_copies (suc n) (suc k) a h = at_copies n k a (omega arith)

read_at : {A : Type 0} (l : List A) (k : ℕ) (a d : A) → get_elem? l k ≡ some a → get_or l k d ≡ a
read_at [] k a d e = absurd (some-ne-none a (sym e))
read_at (x ∷ xs) zero a d e = some-injective x a e
read_at (x ∷ xs) (suc k) a d e = read_at xs k a d e

some_is : (a b : Spare) → Some a ≡ Some b → a ≡ b
some_is a b e = cc

module _ (l : Layout) where
  abbrev Homes : Type 0
  Homes = List (maybe.Option (Option Spare))

  abbrev St : Type 0
  St = State (Option Spare) (Unit {0})

  -- the slot has the region of its piece
  abbrev Has : Homes → ℕ → Type 0
  Has homes k = (x : Spare) × (get_elem? homes k ≡ some (some (Some x))) × LiesAt (place_of l k) x.region

  abbrev nothing : Option Spare
  nothing = None

  pub opens : Returned l (opening (replicate l.count 0) (replicate l.count None) tt)
  opens =
      record {
        wide = length-replicate l.count 0;
        deep = length-map (replicate l.count nothing) some ∙ length-replicate l.count nothing;
        empty = λ k within e. at_copies l.count k nothing within;
        back = λ k within e. let wrong : 0 ≡ 1 = sym (get_or-replicate l.count k 0 0 within) ∙ e in absurd (omega arith);
      }

  module _ (s : St) (r : Returned l s) (k n : ℕ) (within : k < l.count) (homes : Homes) (views : List (Unit {0})) where
    word_here : get_or (set s.words k n) k 0 ≡ n
    word_here = let w = r.wide in get_or-set_same s.words k n 0 (omega arith)

    -- the word of one piece becomes n, which is not 0, and no other slot changes
    changed : n ≢ 0 → length homes ≡ l.count → ((j : ℕ) → j ≢ k → get_elem? homes j ≡ get_elem? s.homes j) → (n ≡ 1 → Has homes k)
        → Returned l (record { words = set s.words k n; homes = homes; views = views })
    changed not_zero long others here =
        record {
          wide = length-set s.words k n ∙ r.wide;
          deep = long;
          empty = λ j inside e.
              dite (ℕ_discrete j k)
              (λ same. absurd (not_zero (sym word_here ∙ ap (λ i. get_or (set s.words k n) i 0) (sym same) ∙ e)))
              (λ other. others j other ∙ r.empty j inside (sym (get_or-set_other s.words k j n 0 other) ∙ e));
          back = λ j inside e.
              dite (ℕ_discrete j k)
              (λ same. subst (Has homes) (sym same) (here (sym word_here ∙ ap (λ i. get_or (set s.words k n) i 0) (sym same) ∙ e)))
              (λ other. let b = r.back j inside (sym (get_or-set_other s.words k j n 0 other) ∙ e) in (b.0, others j other ∙ b.1, b.2));
        }

  -- the empty slot of a piece is taken out, if its word was 0
  pub takes_out : (slots k : ℕ) → k < l.count
      → Arrives (Returned l) slots k (λ _. 2) (λ found after. found ≡ 0 → after.1 ≡ (k, None) ∷ [])
  takes_out slots k within s r _ _ =
      let deep = r.deep in
      dite (ℕ_discrete (get_or s.words k 0) 0)
      (λ fresh. (
        tt,
        takes k None,
        r.empty k within fresh,
        changed s r k 2 within (set s.homes k none) _ (λ e. omega arith) (length-set s.homes k none ∙ r.deep) (λ j other. set_else s.homes k j none other) (λ e. absurd (omega arith)),
        λ _. refl,
      ))
      (λ spent. (
        tt,
        keeps,
        tt,
        changed s r k 2 within s.homes _ (λ e. omega arith) r.deep (λ j other. refl) (λ e. absurd (omega arith)),
        λ fresh. absurd (spent fresh),
      ))

  -- the slot is put back with the region of its piece
  gives_from : (slots id k : ℕ) (x : Spare) (cs : List (ℕ × Option Spare)) → k < l.count → LiesAt (place_of l k) x.region
      → Allows (Returned l) slots id (tt, (k, Some x) ∷ cs) k (λ _. 1) (λ _ _. Unit {0})
  gives_from slots id k x cs within lies s r _ _ _ =
      let deep = r.deep in (
        tt,
        gives,
        tt,
        changed s r k 1 within (set s.homes k (some (Some x))) _ (λ e. omega arith) (length-set s.homes k (some (Some x)) ∙ r.deep) (λ j other. set_else s.homes k j (some (Some x)) other)
            (λ e. (x, set_here s.homes k (some (Some x)) (omega arith), lies)),
        tt,
      )

  pub gives_back : (slots id k : ℕ) (x : Spare) (cs : List (ℕ × Option Spare)) (me : Me (Option Spare) (Unit {0})) → me ≡ (tt, (k, Some x) ∷ cs) → k < l.count → LiesAt (place_of l k) x.region
      → Allows (Returned l) slots id me k (λ _. 1) (λ _ _. Unit {0})
  gives_back slots id k x cs me is within lies =
      subst (λ m. Allows (Returned l) slots id m k (λ _. 1) (λ _ _. Unit {0})) (sym is) (gives_from slots id k x cs within lies)

  -- in the end: where the word is 1, what the slot has is the region of its piece
  pub came_back : (ws : List ℕ) (xs : List (Option Spare)) (k : ℕ) (slot : Option Spare) (x : Spare) → Final (Returned l) ws xs → k < l.count → get_elem? ws k ≡ some 1 → get_elem? xs k ≡ some slot → slot ≡ Some x
      → LiesAt (place_of l k) x.region
  came_back ws xs k slot x final within one there is =
      let s = final.0 in
      let word : get_or s.words k 0 ≡ 1 = ap (λ w. get_or w k 0) final.2 ∙ read_at ws k 1 0 one in
      let b = final.1.back k within word in
      let at : get_elem? xs k ≡ some (Some b.0) = final.4 k (Some b.0) b.1 in
      let same : Some b.0 ≡ Some x = some-injective (Some b.0) (Some x) (sym at ∙ there ∙ ap some is) in
      subst (λ (y : Spare). LiesAt (place_of l k) y.region) (some_is b.0 x same) b.2

  -- joining the pieces

  pub if_some : (o : Option Spare) (P : Spare → Type 0) (x : Spare) → IfSome o P → o ≡ Some x → P x
  if_some o P x h e = subst (λ (o : Option Spare). IfSome o P) e h

  pub next_adjoins : (k : ℕ) (whole next : Option Spare) → l.size * l.count < 2 ^ 63 → k < l.count → IfSome whole (AreFirst l k)
      → ((x : Spare) → next ≡ Some x → LiesAt (place_of l k) x.region) → (a b : Spare) → whole ≡ Some a → next ≡ Some b → Adjoin a.region b.region
  next_adjoins k whole next few within before lies a b is_a is_b =
      let first = if_some whole (AreFirst l k) a before is_a in
      let second = lies b is_b in
      let more : suc k * l.size ≤ l.count * l.size = mul-le-mul_right l.size (omega arith) in
      (second.0 ∙ (λ i. sym first.0 i +ₚ sym first.1 i), omega (arith, first.1, second.1, more, suc-mul k l.size, mul_comm l.size l.count))

  pub one_more : (k : ℕ) (whole next result : Option Spare) → IfSome whole (AreFirst l k) → ((x : Spare) → next ≡ Some x → LiesAt (place_of l k) x.region)
      → IfSome result (λ r. (a : Spare) × (b : Spare) × (whole ≡ Some a) × (next ≡ Some b) × IsJoint a.region b.region r.region) → IfSome result (AreFirst l (k + 1))
  one_more k whole next None before lies joint = tt
  one_more k whole next (Some r) before lies joint =
      let a = joint.0 in let b = joint.1 in let is = joint.4 in
      let first = if_some whole (AreFirst l k) a before joint.2 in
      let second = lies b joint.3 in
      (is.0 ∙ first.0, omega (arith, ap length is.1, length-append a.region.slots b.region.slots, first.1, second.1, suc-mul k l.size))
