use Rattle.std.proofs.Common.{◌≡◌, [], ◌-◌, None, Some, slice_set, ap, sym, subst, arith, ◌∙◌}
use Rattle.std.proofs.lemmas.Option.{slice_get_within}
use Rattle.bs_pool.specs.inner.Accounts.{AreDistinct, Recounts, counted}
use Rattle.bs_pool.specs.Ledger.{Owns, given, ledger_of}
use Rattle.bs_pool.specs.inner.Marks.{SetsMark}
use Rattle.bs_pool.proofs.Parts.{given_lent, owner_counts}
use Rattle.bs_pool.proofs.pool.Pool.give.Goals as goal

pub count_given-requires-clause-distinct : goal.count_given-requires-clause-distinct
count_given-requires-clause-distinct g c = subst AreDistinct (sym c.deref_mut-2.ensures.value) c.self.invariant.sound.distinct

pub count_given-requires-clause-some : goal.count_given-requires-clause-some
count_given-requires-clause-some g c =
    let owners = c.self.inside.slots.items in let accounts = c.self.inside.reservations.items in
    let tag = c.args.owned.tag in let n = c.args.owned.number in
    let owns = subst (λ p. Owns tag n p) (sym c.self.view_is) c.requires in
    let some = owner_counts owners accounts c.self.inside.words.items c.self.invariant tag n [] [] owns in
    omega (arith, some, ap (counted tag) c.deref_mut-2.ensures.value, ap (λ t. counted t c.deref_mut-2.result.now) c.tag.ensures)

pub index_mut-requires : goal.index_mut-requires
index_mut-requires g c =
    let owns = subst (λ p. Owns c.args.owned.tag c.args.owned.number p) (sym c.self.view_is) c.requires in
    omega (arith, slice_get_within c.self.inside.slots.items c.args.owned.number (Some c.args.owned.tag) owns, c.number-number.ensures, c.self.inside.slots.ok.0)

pub invariant_of-self : goal.invariant_of-self
invariant_of-self g c =
    let owners = c.self.inside.slots.items in let accounts = c.self.inside.reservations.items in let words = c.self.inside.words.items in
    let tag = c.args.owned.tag in let n = c.args.owned.number in
    let owns = subst (λ p. Owns tag n p) (sym c.self.view_is) c.requires in
    let set = subst (λ ws. SetsMark ws n 1 c.mark.new.words) c.deref_mut.ensures.value (subst (λ k. SetsMark c.deref_mut.result.now k 1 c.mark.new.words) c.number-number.ensures c.mark.ensures) in
    let recounts = subst (λ xs. Recounts (λ k. k - 1) tag xs c.count_given.new.accounts) c.deref_mut-2.ensures.value (subst (λ t. Recounts (λ k. k - 1) t c.deref_mut-2.result.now c.count_given.new.accounts) c.tag.ensures c.count_given.ensures) in
    let is : slice_set owners c.number-number.result c.home.result ≡ slice_set owners n None = λ i. slice_set owners (c.number-number.ensures i) (c.home.ensures i) in
    let parts = given_lent owners accounts words c.self.invariant tag n c.mark.new.words c.count_given.new.accounts (slice_set owners c.number-number.result c.home.result) c.self.inside.reservations.len c.self.inside.words.len is c.self.inside.reservations.ok.0 c.self.inside.words.ok.0 owns set recounts in
    parts.0

pub returns : goal.returns
returns g c =
    let owners = c.self.inside.slots.items in let accounts = c.self.inside.reservations.items in let words = c.self.inside.words.items in
    let tag = c.args.owned.tag in let n = c.args.owned.number in
    let owns = subst (λ p. Owns tag n p) (sym c.self.view_is) c.requires in
    let set = subst (λ ws. SetsMark ws n 1 c.mark.new.words) c.deref_mut.ensures.value (subst (λ k. SetsMark c.deref_mut.result.now k 1 c.mark.new.words) c.number-number.ensures c.mark.ensures) in
    let recounts = subst (λ xs. Recounts (λ k. k - 1) tag xs c.count_given.new.accounts) c.deref_mut-2.ensures.value (subst (λ t. Recounts (λ k. k - 1) t c.deref_mut-2.result.now c.count_given.new.accounts) c.tag.ensures c.count_given.ensures) in
    let is : slice_set owners c.number-number.result c.home.result ≡ slice_set owners n None = λ i. slice_set owners (c.number-number.ensures i) (c.home.ensures i) in
    let parts = given_lent owners accounts words c.self.invariant tag n c.mark.new.words c.count_given.new.accounts (slice_set owners c.number-number.result c.home.result) c.self.inside.reservations.len c.self.inside.words.len is c.self.inside.reservations.ok.0 c.self.inside.words.ok.0 owns set recounts in
    (λ i. ledger_of (is i) (parts.1 i)) ∙ ap (given n) c.self.view_is
