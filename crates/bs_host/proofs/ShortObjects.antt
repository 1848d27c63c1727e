-- The cost of an object with certain members.
use Rattle.std.proofs.Common.{◌≡◌, ℕ, ◌+◌, ◌≤◌, true, false, List, length, Option, Some, None, Ordering, Less, Equal, Greater, ◌⊎◌, inl, inr, refl, sym, ap, ◌∙◌, arith}
use Rattle.std.proofs.lemmas.Map.Text.{is_eq-slice_cmp}
use Rattle.std.proofs.lemmas.Slice.Eq.{bytes_eq-Decides}
use Rattle.std.specs.Cmp.Lexicographic.{slice_cmp}
use Rattle.std.specs.Ordering.{match_ordering, nat_cmp, is_eq}
use Rattle.std.specs.Str.{bytes_eq}
use Rattle.json.specs.Print.{quoted}
use Rattle.serde_json.specs.Data.{Data, null, boolean, number, string, array, object, Members, no_members, member}
use Rattle.serde_json.specs.Find.{get, get_member}
use Rattle.bs_host.proofs.TextCost.{data_cost, object_cost}

key_same : (k l : List ℕ) → slice_cmp nat_cmp k l ≡ Equal → bytes_eq k l ≡ true
key_same k l is = sym (is_eq-slice_cmp k l) ∙ ap is_eq is

same_text : (k l : List ℕ) → bytes_eq k l ≡ true → k ≡ l
same_text k l is = (bytes_eq-Decides k l).0 is

-- with its comma and its colon
abbrev pub key_cost : List ℕ → ℕ
key_cost k = 1 + (length (quoted k) + 1)

abbrev or_this : Data → Option Data → Data
or_this d None = d
or_this d (Some e) = e

some_same : (d e : Data) → Some d ≡ Some e → d ≡ e
some_same d e is = ap (or_this d) is

-- the member is the first one, or among the others
abbrev Found : List ℕ → Data → List ℕ → Data → Members → Type 0
Found k e l x ms = ((k ≡ l) × (x ≡ e)) ⊎ (get_member k ms ≡ Some e)

found_by : (k : List ℕ) (e : Data) (l : List ℕ) (x : Data) (ms : Members) (o : Ordering) → slice_cmp nat_cmp k l ≡ o
    → match_ordering o (get_member k ms) (Some x) (get_member k ms) ≡ Some e → Found k e l x ms
found_by k e l x ms Less is found = inr found
found_by k e l x ms Equal is found = inl (same_text k l (key_same k l is), some_same x e found)
found_by k e l x ms Greater is found = inr found

found_in : (k : List ℕ) (e : Data) (l : List ℕ) (x : Data) (ms : Members) → get_member k (member l x ms) ≡ Some e → Found k e l x ms
found_in k e l x ms found = found_by k e l x ms (slice_cmp nat_cmp k l) refl found

member_cost : (k l : List ℕ) (e x : Data) → k ≡ l → x ≡ e → key_cost k + data_cost e ≡ key_cost l + data_cost x
member_cost k l e x same is = let keys = ap key_cost same in let costs = ap data_cost is in omega (arith, keys, costs)

one_costs : (k : List ℕ) (e : Data) (ms : Members) → get_member k ms ≡ Some e → key_cost k + data_cost e ≤ object_cost ms
one_costs k e no_members found = absurd cc
one_costs k e (member l x ms) found = elim (found_in k e l x ms found) [
  | inl here ↦ let same = member_cost k l e x here.0 here.1 in omega (arith, same)
  | inr later ↦ let rest = one_costs k e ms later in omega (arith, rest)
]

two_costs : (k l : List ℕ) (e f : Data) (ms : Members) → bytes_eq k l ≡ false → get_member k ms ≡ Some e → get_member l ms ≡ Some f
    → (key_cost k + data_cost e) + (key_cost l + data_cost f) ≤ object_cost ms
two_costs k l e f no_members apart first second = absurd cc
two_costs k l e f (member m x ms) apart first second = elim (found_in k e m x ms first) [
  | inl here ↦ elim (found_in l f m x ms second) [
    | inl there ↦ let same : bytes_eq k l ≡ true = (bytes_eq-Decides k l).1 (here.0 ∙ sym there.0) in absurd cc
    | inr later ↦ let same = member_cost k m e x here.0 here.1 in let rest = one_costs l f ms later in omega (arith, same, rest)
  ]
  | inr after ↦ elim (found_in l f m x ms second) [
    | inl there ↦ let same = member_cost l m f x there.0 there.1 in let rest = one_costs k e ms after in omega (arith, same, rest)
    | inr later ↦ let rest = two_costs k l e f ms apart after later in omega (arith, rest)
  ]
]

pub holds_one : (k : List ℕ) (e d : Data) → get k d ≡ Some e → 1 + (key_cost k + data_cost e) ≤ data_cost d
holds_one k e null found = absurd cc
holds_one k e (boolean b) found = absurd cc
holds_one k e (number n) found = absurd cc
holds_one k e (string s) found = absurd cc
holds_one k e (array ds) found = absurd cc
holds_one k e (object ms) found = let few = one_costs k e ms found in omega (arith, few)

pub holds_two : (k l : List ℕ) (e f d : Data) → bytes_eq k l ≡ false → get k d ≡ Some e → get l d ≡ Some f
    → 1 + (key_cost k + data_cost e) + (key_cost l + data_cost f) ≤ data_cost d
holds_two k l e f null apart first second = absurd cc
holds_two k l e f (boolean b) apart first second = absurd cc
holds_two k l e f (number n) apart first second = absurd cc
holds_two k l e f (string s) apart first second = absurd cc
holds_two k l e f (array ds) apart first second = absurd cc
holds_two k l e f (object ms) apart first second = let few = two_costs k l e f ms apart first second in omega (arith, few)
