use Rattle.std.proofs.Common.{ℕ, ◌+◌, ◌<◌, ◌≤◌, ◌++◌, ◌^◌, List, Option, length, map, sym, ap, subst, ◌∙◌, arith}
use Rattle.std.specs.Prelude.{All, count_by}
use Rattle.bs_pool.specs.declared.reservation.Account.{Account}
use Rattle.bs_pool.specs.Assembly.{Assembled, raised, laid}
use Rattle.bs_pool.specs.Ledger.{Ledger, IsSound, free, size, is_unowned}
use Rattle.bs_pool.specs.Woven.{woven, ArePlaces}
use Rattle.bs_pool.specs.inner.Accounts.{raised_account}
use Rattle.bs_pool.specs.inner.FreeNumbers.{still_free, HaveRoom}
use Rattle.bs_pool.proofs.Assembled.{next_small, are_places, known, laid_parts, accounts_fit, more_free, more_long}
use Rattle.bs_pool.proofs.WovenCounts.{have_room}
use Rattle.bs_pool.proofs.assembly.Assembly.lay.Goals as goal

pub append_numbers-requires : goal.append_numbers-requires
append_numbers-requires g c =
    let h = c.self.inside in let owners = h.owners.items in let parts = c.into_parts-slots in let group = parts.result.slots.items in
    let k = known c.args.offset owners group h.accounts.items parts.result.accounts.items (length h.blocks.items) c.args.pool c.args.self parts.ensures.ledger c.self.view_is c.requires.room c.requires.tags parts.ensures.sound in
    let small = next_small owners h.low.items h.next c.self.invariant.free (length group) (omega (arith, k.room)) c.self.invariant.few in
    omega (arith, small, h.owners.ok.0, h.owners.small, c.saturating_sub-lacking.ensures, c.len.ensures, c.len-2.ensures, parts.result.slots.ok.0, h.low.ok.0)

pub numbers_left-requires : goal.numbers_left-requires
numbers_left-requires g c =
    let h = c.self.inside in let parts = c.into_parts-slots in let more = c.saturating_sub-lacking.result in
    let long = more_long h.low.items c.append_numbers.new.low.items h.next more c.in_ok-append_numbers.ensures.ok in
    (omega arith, omega (arith, long, c.saturating_sub-lacking.ensures, c.len.ensures, c.len-2.ensures, parts.result.slots.ok.0, h.low.ok.0, ap length c.as_slice.ensures.value, ap length c.as_slice-2.ensures.value))

pub lay_owners-requires : goal.lay_owners-requires
lay_owners-requires g c =
    let h = c.self.inside in let owners = h.owners.items in let parts = c.into_parts-slots in let group = parts.result.slots.items in
    let low = c.append_numbers.new.low.items in let more = c.saturating_sub-lacking.result in
    let k = known c.args.offset owners group h.accounts.items parts.result.accounts.items (length h.blocks.items) c.args.pool c.args.self parts.ensures.ledger c.self.view_is c.requires.room c.requires.tags parts.ensures.sound in
    let free = more_free owners h.low.items low h.next more c.self.invariant.free c.in_ok-append_numbers.ensures.ok in
    let long = more_long h.low.items low h.next more c.in_ok-append_numbers.ensures.ok in
    let enough : length group ≤ length low = omega (arith, long, c.saturating_sub-lacking.ensures, c.len.ensures, c.len-2.ensures, parts.result.slots.ok.0, h.low.ok.0) in
    let places = subst (λ (ns : List ℕ). ArePlaces owners (length group) ns) (sym c.as_slice-3.ensures.value) (are_places owners low (h.next + more) free (length group) enough) in
    let P : List (Option ℕ) → Type 0 = λ os. ArePlaces owners (length os) c.as_slice-3.result.now × ((length os ≤ count_by is_unowned owners) × HaveRoom c.args.offset os) in
    (omega arith, subst P (sym c.as_slice-4.ensures.value) (places, (omega (arith, k.room), have_room c.args.offset group _ k.sound.kept k.fits)))

pub append_raised-requires : goal.append_raised-requires
append_raised-requires g c =
    let h = c.self.inside in let owners = h.owners.items in let parts = c.into_parts-slots in
    let k = known c.args.offset owners parts.result.slots.items h.accounts.items parts.result.accounts.items (length h.blocks.items) c.args.pool c.args.self parts.ensures.ledger c.self.view_is c.requires.room c.requires.tags parts.ensures.sound in
    subst (λ (xs : List Account). All (λ a. a.reservation.tag + c.args.offset < 2 ^ 32) xs) (sym c.as_slice-5.ensures.value) (accounts_fit c.args.offset parts.result.accounts.items k.fits)

pub overflow_add-result : goal.overflow_add-result
overflow_add-result g c =
    let h = c.self.inside in let owners = h.owners.items in let parts = c.into_parts-slots in let group = parts.result.slots.items in
    let k = known c.args.offset owners group h.accounts.items parts.result.accounts.items (length h.blocks.items) c.args.pool c.args.self parts.ensures.ledger c.self.view_is c.requires.room c.requires.tags parts.ensures.sound in
    let small = next_small owners h.low.items h.next c.self.invariant.free (length group) (omega (arith, k.room)) c.self.invariant.few in
    record { fits = omega (arith, small, h.owners.ok.0, h.owners.small, c.saturating_sub-lacking.ensures, c.len.ensures, c.len-2.ensures, parts.result.slots.ok.0, h.low.ok.0) }

pub invariant_of-result : goal.invariant_of-result
invariant_of-result g c =
    let h = c.self.inside in let owners = h.owners.items in let parts = c.into_parts-slots in let group = parts.result.slots.items in
    let mine = h.accounts.items in let theirs = parts.result.accounts.items in
    let low = c.append_numbers.new.low.items in let more = c.saturating_sub-lacking.result in
    let k = known c.args.offset owners group mine theirs (length h.blocks.items) c.args.pool c.args.self parts.ensures.ledger c.self.view_is c.requires.room c.requires.tags parts.ensures.sound in
    let free = more_free owners h.low.items low h.next more c.self.invariant.free c.in_ok-append_numbers.ensures.ok in
    let long = more_long h.low.items low h.next more c.in_ok-append_numbers.ensures.ok in
    let enough : length group ≤ length low = omega (arith, long, c.saturating_sub-lacking.ensures, c.len.ensures, c.len-2.ensures, parts.result.slots.ok.0, h.low.ok.0) in
    let small = next_small owners h.low.items h.next c.self.invariant.free (length group) (omega (arith, k.room)) c.self.invariant.few in
    let few : h.next + more ≤ length owners = omega (arith, small, c.saturating_sub-lacking.ensures, c.len.ensures, c.len-2.ensures, parts.result.slots.ok.0, h.low.ok.0) in
    (laid_parts c.args.offset owners group mine theirs (length h.blocks.items) h.low.items h.next c.self.invariant k.sound parts.ensures.counts k.room k.new
    c.lay_owners.new.owners.items c.append_raised.new.accounts.items (length c.gather.new.blocks.items) low c.in_ok-left.left.items (h.next + more)
    (c.lay_owners.ensures ∙ ap (woven (raised c.args.offset) owners) c.as_slice-4.ensures.value)
    (c.in_ok-append_raised.ensures ∙ ap (λ (xs : List Account). mine ++ map (raised_account c.args.offset) xs) c.as_slice-5.ensures.value)
    c.in_ok-gather.ensures
    (c.in_ok-left.ensures ∙ (λ i. still_free (c.as_slice.ensures.value i) (c.as_slice-2.ensures.value i)))
    free enough few).0

pub returns-clause-assembly : goal.returns-clause-assembly
returns-clause-assembly g c =
    let h = c.self.inside in let owners = h.owners.items in let parts = c.into_parts-slots in let group = parts.result.slots.items in
    let mine = h.accounts.items in let theirs = parts.result.accounts.items in
    let low = c.append_numbers.new.low.items in let more = c.saturating_sub-lacking.result in
    let k = known c.args.offset owners group mine theirs (length h.blocks.items) c.args.pool c.args.self parts.ensures.ledger c.self.view_is c.requires.room c.requires.tags parts.ensures.sound in
    let free = more_free owners h.low.items low h.next more c.self.invariant.free c.in_ok-append_numbers.ensures.ok in
    let long = more_long h.low.items low h.next more c.in_ok-append_numbers.ensures.ok in
    let enough : length group ≤ length low = omega (arith, long, c.saturating_sub-lacking.ensures, c.len.ensures, c.len-2.ensures, parts.result.slots.ok.0, h.low.ok.0) in
    let small = next_small owners h.low.items h.next c.self.invariant.free (length group) (omega (arith, k.room)) c.self.invariant.few in
    let few : h.next + more ≤ length owners = omega (arith, small, c.saturating_sub-lacking.ensures, c.len.ensures, c.len-2.ensures, parts.result.slots.ok.0, h.low.ok.0) in
    (laid_parts c.args.offset owners group mine theirs (length h.blocks.items) h.low.items h.next c.self.invariant k.sound parts.ensures.counts k.room k.new
    c.lay_owners.new.owners.items c.append_raised.new.accounts.items (length c.gather.new.blocks.items) low c.in_ok-left.left.items (h.next + more)
    (c.lay_owners.ensures ∙ ap (woven (raised c.args.offset) owners) c.as_slice-4.ensures.value)
    (c.in_ok-append_raised.ensures ∙ ap (λ (xs : List Account). mine ++ map (raised_account c.args.offset) xs) c.as_slice-5.ensures.value)
    c.in_ok-gather.ensures
    (c.in_ok-left.ensures ∙ (λ i. still_free (c.as_slice.ensures.value i) (c.as_slice-2.ensures.value i)))
    free enough few).1
    ∙ (λ i. laid c.args.offset (parts.ensures.ledger i) (c.self.view_is i))

pub returns-clause-numbers : goal.returns-clause-numbers
returns-clause-numbers g c =
    let h = c.self.inside in let owners = h.owners.items in let parts = c.into_parts-slots in let group = parts.result.slots.items in
    let low = c.append_numbers.new.low.items in let more = c.saturating_sub-lacking.result in
    let free = more_free owners h.low.items low h.next more c.self.invariant.free c.in_ok-append_numbers.ensures.ok in
    let long = more_long h.low.items low h.next more c.in_ok-append_numbers.ensures.ok in
    let enough : length group ≤ length low = omega (arith, long, c.saturating_sub-lacking.ensures, c.len.ensures, c.len-2.ensures, parts.result.slots.ok.0, h.low.ok.0) in
    subst (λ (p : Ledger). ArePlaces c.args.self.ledger.owners (size p) low) parts.ensures.ledger
    (subst (λ (a : Assembled). ArePlaces a.ledger.owners (length group) low) c.self.view_is (are_places owners low (h.next + more) free (length group) enough))

pub returns-clause-sound : goal.returns-clause-sound
returns-clause-sound g c = subst (λ (a : Assembled). IsSound a.ledger) c.self.view_is c.self.invariant.sound

pub returns-clause-enough : goal.returns-clause-enough
returns-clause-enough g c =
    let h = c.self.inside in
    omega (arith, c.requires.room, ap (λ (a : Assembled). a.missing) c.self.view_is, ap (λ (a : Assembled). free a.ledger) c.self.view_is)
