use Rattle.std.proofs.Common.{◌≡◌, ℕ, Option, ◌+◌, ◌<◌, ◌≤◌, Bool, true, false, List, Some, slice_set, ap, sym, subst, arith, rules, ◌∙◌}
use Rattle.std.specs.Prelude.{nat_lt}
use Rattle.std.proofs.lemmas.Bool.{ltb-true, ltb-false}
use Rattle.bs_pool.specs.declared.reservation.Account.{Account}
use Rattle.bs_pool.specs.inner.Accounts.{AreDistinct, Recounts, counted, granted}
use Rattle.bs_pool.specs.Ledger.{held, reserved, least_free, drawn, ledger_of}
use Rattle.bs_pool.specs.inner.Marks.{IsFirstMark, FindsMark, SetsMark}
use Rattle.bs_pool.specs.inner.PoolParts.{ledger_in, AreParts}
use Rattle.bs_pool.proofs.Owners.{first_is_free}
use Rattle.bs_pool.proofs.Parts.{drawn_lent, finds_some, least_marked, lent_unchanged, room_left}
use Rattle.bs_pool.proofs.pool.Pool.draw.Goals as goal

-- what the count of the account answers
has_room : (owners : List (Option ℕ)) (accounts lent : List Account) (words : List ℕ) (tag : ℕ) (answer b : Bool)
    → AreParts owners accounts words → lent ≡ accounts → answer ≡ nat_lt (counted tag lent) (granted tag lent) → answer ≡ b
    → nat_lt (held tag (ledger_in owners accounts)) (reserved tag (ledger_in owners accounts)) ≡ b
has_room owners accounts lent words tag answer b ok is room so =
    sym (room_left owners accounts words ok tag) ∙ ap (λ xs. nat_lt (counted tag xs) (granted tag xs)) (sym is) ∙ sym room ∙ so

pub count_drawn-requires : goal.count_drawn-requires
count_drawn-requires g c = subst AreDistinct (sym c.deref_mut.ensures.value) c.self.invariant.sound.distinct

-- the tag owns all that it reserved
pub invariant_of-self : goal.invariant_of-self
invariant_of-self g c =
    let owners = c.self.inside.slots.items in let accounts = c.self.inside.reservations.items in let words = c.self.inside.words.items in
    let no : c.count_drawn.result ≡ false = search rules in
    let same = lent_unchanged c.count_drawn.new.accounts accounts c.self.inside.reservations.len c.self.inside.reservations.ok.0 (c.count_drawn.ensures.full no ∙ c.deref_mut.ensures.value) in
    subst (λ xs. AreParts owners xs words) (sym same) c.self.invariant

pub returns-then-not-count_drawn : goal.returns-then-not-count_drawn
returns-then-not-count_drawn g c =
    let owners = c.self.inside.slots.items in let accounts = c.self.inside.reservations.items in let words = c.self.inside.words.items in
    let tag = c.args.tag in
    let no : c.count_drawn.result ≡ false = search rules in
    let same = lent_unchanged c.count_drawn.new.accounts accounts c.self.inside.reservations.len c.self.inside.reservations.ok.0 (c.count_drawn.ensures.full no ∙ c.deref_mut.ensures.value) in
    let most = ltb-false _ _ (has_room owners accounts c.deref_mut.result.now words tag c.count_drawn.result false c.self.invariant c.deref_mut.ensures.value c.count_drawn.ensures.room no) in (
      subst (λ p. reserved tag p ≤ held tag p) c.self.view_is most,
      ap (ledger_in owners) same ∙ c.self.view_is,
    )

-- it may draw
pub unwrap-number-requires : goal.unwrap-number-requires
unwrap-number-requires g c =
    let owners = c.self.inside.slots.items in let accounts = c.self.inside.reservations.items in let words = c.self.inside.words.items in
    let tag = c.args.tag in
    let yes : c.count_drawn.result ≡ true = search rules in
    let less : held tag (ledger_in owners accounts) < reserved tag (ledger_in owners accounts) =
    ltb-true _ _ (has_room owners accounts c.deref_mut.result.now words tag c.count_drawn.result true c.self.invariant c.deref_mut.ensures.value c.count_drawn.ensures.room yes) in
    let found = subst (λ ws. FindsMark ws c.first_marked.result) c.as_slice.ensures.value c.first_marked.ensures in
    finds_some owners accounts words c.self.invariant tag c.first_marked.result less found

pub hand_out-block-requires : goal.hand_out-block-requires
hand_out-block-requires g c =
    let owners = c.self.inside.slots.items in let words = c.self.inside.words.items in let n = c.unwrap-number.result in
    let first : IsFirstMark words n = subst (λ r. FindsMark words r) c.unwrap-number.ensures (subst (λ ws. FindsMark ws c.first_marked.result) c.as_slice.ensures.value c.first_marked.ensures) in
    let at = least_marked owners c.self.inside.reservations.items words c.self.invariant n first in
    (omega arith, (omega arith, first_is_free owners n c.index_mut.result.now at c.index_mut.ensures.value))

pub invariant_of-self-2 : goal.invariant_of-self-2
invariant_of-self-2 g c =
    let owners = c.self.inside.slots.items in let accounts = c.self.inside.reservations.items in let words = c.self.inside.words.items in
    let tag = c.args.tag in let n = c.unwrap-number.result in
    let yes : c.count_drawn.result ≡ true = search rules in
    let less : held tag (ledger_in owners accounts) < reserved tag (ledger_in owners accounts) =
    ltb-true _ _ (has_room owners accounts c.deref_mut.result.now words tag c.count_drawn.result true c.self.invariant c.deref_mut.ensures.value c.count_drawn.ensures.room yes) in
    let first : IsFirstMark words n = subst (λ r. FindsMark words r) c.unwrap-number.ensures (subst (λ ws. FindsMark ws c.first_marked.result) c.as_slice.ensures.value c.first_marked.ensures) in
    let set = subst (λ ws. SetsMark ws n 0 c.unmark.new.words) c.deref_mut-2.ensures.value c.unmark.ensures in
    let recounts = subst (λ xs. Recounts (λ k. k + 1) tag xs c.count_drawn.new.accounts) c.deref_mut.ensures.value (c.count_drawn.ensures.drawn yes) in
    let is : slice_set owners n c.hand_out-block.new.self ≡ slice_set owners n (Some tag) = ap (slice_set owners n) c.hand_out-block.ensures.owner in
    let parts = drawn_lent owners accounts words c.self.invariant tag n c.unmark.new.words c.count_drawn.new.accounts (slice_set owners n c.hand_out-block.new.self) c.self.inside.reservations.len c.self.inside.words.len is c.self.inside.reservations.ok.0 c.self.inside.words.ok.0 less first set recounts in
    parts.0

pub returns : goal.returns
returns g c =
    let owners = c.self.inside.slots.items in let accounts = c.self.inside.reservations.items in let words = c.self.inside.words.items in
    let tag = c.args.tag in let n = c.unwrap-number.result in
    let yes : c.count_drawn.result ≡ true = search rules in
    let less : held tag (ledger_in owners accounts) < reserved tag (ledger_in owners accounts) =
    ltb-true _ _ (has_room owners accounts c.deref_mut.result.now words tag c.count_drawn.result true c.self.invariant c.deref_mut.ensures.value c.count_drawn.ensures.room yes) in
    let first : IsFirstMark words n = subst (λ r. FindsMark words r) c.unwrap-number.ensures (subst (λ ws. FindsMark ws c.first_marked.result) c.as_slice.ensures.value c.first_marked.ensures) in
    let set = subst (λ ws. SetsMark ws n 0 c.unmark.new.words) c.deref_mut-2.ensures.value c.unmark.ensures in
    let recounts = subst (λ xs. Recounts (λ k. k + 1) tag xs c.count_drawn.new.accounts) c.deref_mut.ensures.value (c.count_drawn.ensures.drawn yes) in
    let is : slice_set owners n c.hand_out-block.new.self ≡ slice_set owners n (Some tag) = ap (slice_set owners n) c.hand_out-block.ensures.owner in
    let parts = drawn_lent owners accounts words c.self.invariant tag n c.unmark.new.words c.count_drawn.new.accounts (slice_set owners n c.hand_out-block.new.self) c.self.inside.reservations.len c.self.inside.words.len is c.self.inside.reservations.ok.0 c.self.inside.words.ok.0 less first set recounts in
    let at = least_marked owners accounts words c.self.invariant n first in
    let number_is : c.new.result.number ≡ n = omega (arith, c.new.ensures.number) in (
      subst (λ p. held tag p < reserved tag p) c.self.view_is less,
      c.new.ensures.tag,
      ap least_free (sym c.self.view_is) ∙ at ∙ ap Some (sym number_is),
      c.new.ensures.block ∙ c.hand_out-block.ensures.block,
      (λ i. ledger_of (is i) (parts.1 i)) ∙ (λ i. drawn tag (sym number_is i) (c.self.view_is i)),
    )
