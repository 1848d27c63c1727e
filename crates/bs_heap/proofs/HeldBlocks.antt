-- Which numbers a tag and the others hold once numbers are drawn and given.
use Rattle.std.proofs.Common.{◌≡◌, ◌≢◌, ℕ, suc, ◌+◌, ◌<◌, Bool, true, false, if◌then◌else◌, List, [], ◌∷◌, ◌++◌, length, slice_get, slice_index_or, Option, Some, None, refl, sym, ap, subst, ◌∙◌, arith}
use Rattle.std.specs.Prelude.{All, option_to_list}
use Rattle.std.proofs.lemmas.List.{map_push, length_push, length-append, get_or_append_left}
use Rattle.std.proofs.lemmas.List.Elements.{All-push}
use Rattle.std.proofs.lemmas.List.Quantifiers.{all_pairs_push, position-Some}
use Rattle.std.proofs.lemmas.Option.{get_or_from_slice_get}
use Rattle.bs_pool.specs.Ledger.{Ledger, Owns, is_unowned, held, least_free, drawn, given}
use Rattle.bs_pool.proofs.Owners.{held_drawn, held_drawn_other, held_given, held_given_other, owns_drawn, still_owns_drawn, still_owns_given, one_owner}
use Rattle.bs_heap.specs.Heap.{Heap, with_index_room}
use Rattle.bs_block.specs.Rounding.{rounded}
use Rattle.bs_heap.specs.Packing.{Use, Place, Packing, fits, with_block, with_place, packed, numbers_of}
use Rattle.bs_heap.specs.HeldBlocks.{AreOwned, Holds, IsKeptIn, LeavesOthers, all_given}

-- the number that is drawn next has no owner
pub not_free : (tag m n : ℕ) (pool : Ledger) → least_free pool ≡ Some n → Owns tag m pool → m ≢ n
not_free tag m n pool at owns same =
    let found = (position-Some is_unowned pool.owners n None at).1 in
    let here : slice_get pool.owners n ≡ Some (Some tag) = rw (← same) owns in
    let is : slice_index_or pool.owners n None ≡ Some tag = get_or_from_slice_get pool.owners n (Some tag) None here in
    let free : is_unowned (Some tag) ≡ true = rw is at found in cc

-- a number is drawn
module _ (tag n : ℕ) (pool : Ledger) (at : least_free pool ≡ Some n) where
  pub holds_drawn : (ns : List ℕ) → Holds tag ns pool → Holds tag (ns ++ n ∷ []) (drawn tag n pool)
  holds_drawn ns holds =
      let o = holds.owned in
      record {
        owned = record {
          each = All-push (λ m. Owns tag m (drawn tag n pool)) ns n (λ k d h. still_owns_drawn pool tag n tag (slice_index_or ns k d) at (o.each k d h)) (owns_drawn pool tag n at);
          once = all_pairs_push (λ l m. l ≢ m) ns n o.once (λ k d h. not_free tag (slice_index_or ns k d) n pool at (o.each k d h));
        };
        all = omega (arith, held_drawn pool tag n at, holds.all, length_push ns n);
      }

  pub others_drawn : LeavesOthers tag pool (drawn tag n pool)
  others_drawn =
      record {
        holds = λ other numbers apart old. record {
          owned = record {
            each = λ k d h. still_owns_drawn pool tag n other _ at (old.owned.each k d h);
            once = old.owned.once;
          };
          all = held_drawn_other pool tag n other at (λ e. apart (sym e)) ∙ old.all;
        };
        reservations = refl;
      }

-- a number is given
module _ (tag n : ℕ) (ns : List ℕ) (pool : Ledger) where
  owned_head : AreOwned tag (n ∷ ns) pool → Owns tag n pool
  owned_head o = o.each 0 n (omega arith)

  pub owned_tail : AreOwned tag (n ∷ ns) pool → AreOwned tag ns (given n pool)
  owned_tail o =
      record {
        each = λ k d h. still_owns_given pool n tag (slice_index_or ns k d) (o.each (suc k) d (omega arith)) (λ same. o.once 0 (suc k) d (omega arith) (omega arith) (sym same));
        once = λ i j d below h. o.once (suc i) (suc j) d (omega arith) (omega arith);
      }

  holds_tail : Holds tag (n ∷ ns) pool → Holds tag ns (given n pool)
  holds_tail holds = record { owned = owned_tail holds.owned; all = omega (arith, held_given pool tag n (owned_head holds.owned), holds.all) }

  others_given : AreOwned tag (n ∷ ns) pool → LeavesOthers tag pool (given n pool)
  others_given o =
      let owns = owned_head o in
      record {
        holds = λ other numbers apart old.
            let apart' : tag ≢ other = λ e. apart (sym e) in
            record {
              owned = record {
                each = λ k d h. still_owns_given pool n other _ (old.owned.each k d h) (one_owner pool tag other n _ owns (old.owned.each k d h) apart');
                once = old.owned.once;
              };
              all = held_given_other pool tag n other owns apart' ∙ old.all;
            };
        reservations = refl;
      }

pub leaves_none : (tag : ℕ) (pool : Ledger) → LeavesOthers tag pool pool
leaves_none tag pool = record { holds = λ other numbers apart holds. holds; reservations = refl }

pub leaves_then : (tag : ℕ) (old mid new : Ledger) → LeavesOthers tag old mid → LeavesOthers tag mid new → LeavesOthers tag old new
leaves_then tag old mid new a b = record { holds = λ other numbers apart holds. b.holds other numbers apart (a.holds other numbers apart holds); reservations = b.reservations ∙ a.reservations }

-- the first numbers of a list are given
module _ (tag : ℕ) (ys : List ℕ) where
  pub owned_rest : (xs : List ℕ) (pool : Ledger) → AreOwned tag (xs ++ ys) pool → AreOwned tag ys (all_given xs pool)
  owned_rest [] pool o = o
  owned_rest (x ∷ xs) pool o = owned_rest xs (given x pool) (owned_tail tag x (xs ++ ys) pool o)

  pub holds_rest : (xs : List ℕ) (pool : Ledger) → Holds tag (xs ++ ys) pool → Holds tag ys (all_given xs pool)
  holds_rest [] pool holds = holds
  holds_rest (x ∷ xs) pool holds = holds_rest xs (given x pool) (holds_tail tag x (xs ++ ys) pool holds)

  pub leaves_rest : (xs : List ℕ) (pool : Ledger) → AreOwned tag (xs ++ ys) pool → LeavesOthers tag pool (all_given xs pool)
  leaves_rest [] pool o = leaves_none tag pool
  leaves_rest (x ∷ xs) pool o =
      leaves_then tag pool (given x pool) (all_given xs (given x pool)) (others_given tag x (xs ++ ys) pool o)
      (leaves_rest xs (given x pool) (owned_tail tag x (xs ++ ys) pool o))

pub owned_front : (tag : ℕ) (xs ys : List ℕ) (pool : Ledger) → AreOwned tag (xs ++ ys) pool → AreOwned tag xs pool
owned_front tag xs ys pool o =
    let within : (k : ℕ) → k < length xs → k < length (xs ++ ys) = λ k h. omega (arith, length-append xs ys) in
    let same : (k : ℕ) (d : ℕ) → k < length xs → slice_index_or (xs ++ ys) k d ≡ slice_index_or xs k d = λ k d h. get_or_append_left xs ys d k h in
    record {
      each = λ k d h. let P : ℕ → Type 0 = λ m. Owns tag m pool in subst P (same k d h) (o.each k d (within k h));
      once = λ i j d below h. let i' = same i d (omega arith) in let j' = same j d h in λ e. o.once i j d below (within j h) (i' ∙ e ∙ sym j');
    }

-- a record is added: the packing has one more number if a block has to be drawn
numbers_by : (b : Bool) (number len : ℕ) (closed : List Use) (o : Option Use) (places : List Place)
    → let p : Packing = record { closed = closed; current = o; places = places } in
    numbers_of (with_place len (if b then p else with_block number p)) ≡ (if b then numbers_of p else numbers_of p ++ number ∷ [])
numbers_by true number len closed None places = refl
numbers_by true number len closed (Some u) places =
    let f = λ (v : Use). v.number in map_push f closed (record { number = u.number; used = u.used + rounded len }) ∙ sym (map_push f closed u)
numbers_by false number len closed o places = map_push (λ (v : Use). v.number) (closed ++ option_to_list o) (record { number = number; used = 0 + rounded len })

pub numbers_packed : (cap number len : ℕ) (p : Packing) → numbers_of (packed cap number len p) ≡ (if fits cap (rounded len) p.current then numbers_of p else numbers_of p ++ number ∷ [])
numbers_packed cap number len p = numbers_by (fits cap (rounded len) p.current) number len p.closed p.current p.places

holds_by : (b : Bool) (tag number : ℕ) (ns : List ℕ) (pool : Ledger) → (b ≡ false → least_free pool ≡ Some number) → Holds tag ns pool
    → Holds tag (if b then ns else ns ++ number ∷ []) (if b then pool else drawn tag number pool)
holds_by true tag number ns pool at holds = holds
holds_by false tag number ns pool at holds = holds_drawn tag number pool (at refl) ns holds

leaves_by : (b : Bool) (tag number : ℕ) (pool : Ledger) → (b ≡ false → least_free pool ≡ Some number) → LeavesOthers tag pool (if b then pool else drawn tag number pool)
leaves_by true tag number pool at = leaves_none tag pool
leaves_by false tag number pool at = others_drawn tag number pool (at refl)

module _ (cap tag number len : ℕ) (p : Packing) (pool : Ledger) (at : fits cap (rounded len) p.current ≡ false → least_free pool ≡ Some number) where
  pub holds_packed : Holds tag (numbers_of p) pool → Holds tag (numbers_of (packed cap number len p)) (if fits cap (rounded len) p.current then pool else drawn tag number pool)
  holds_packed holds =
      let pool' = if fits cap (rounded len) p.current then pool else drawn tag number pool in
      subst (λ (ns : List ℕ). Holds tag ns pool') (sym (numbers_packed cap number len p)) (holds_by (fits cap (rounded len) p.current) tag number (numbers_of p) pool at holds)

  pub leaves_packed : LeavesOthers tag pool (if fits cap (rounded len) p.current then pool else drawn tag number pool)
  leaves_packed = leaves_by (fits cap (rounded len) p.current) tag number pool at

  -- the number that is drawn is not in the packing
  pub fresh_number : Holds tag (numbers_of p) pool → fits cap (rounded len) p.current ≡ false → All (λ m. m ≢ number) (numbers_of p)
  fresh_number holds no_room = λ k d h. not_free tag (slice_index_or (numbers_of p) k d) number pool (at no_room) (holds.owned.each k d h)

-- a tag that holds nothing has a heap without blocks
pub kept_empty : (heap : Heap) (pool : Ledger) → numbers_of heap.packing ≡ [] → held heap.tag pool ≡ 0 → IsKeptIn heap pool
kept_empty heap pool none nothing =
    let long : length (numbers_of heap.packing) ≡ 0 = ap length none in
    record {
      owned = record {
        each = λ k d h. absurd (omega (arith, h, long));
        once = λ i j d below h. absurd (omega (arith, h, long));
      };
      all = nothing ∙ sym long;
    }

-- the room of the index does not matter
pub kept_with_room : (n : ℕ) (heap : Heap) (pool : Ledger) → IsKeptIn heap pool → IsKeptIn (with_index_room n heap) pool
kept_with_room n heap pool kept = kept
