use Rattle.std.proofs.Common.{◌≡◌, ◌+◌, ◌<◌, ◌≤◌, ◌^◌, ℕ, List, [], None, sym, subst, arith}
use Rattle.std.specs.Prelude.{All}
use Rattle.std.proofs.lemmas.List.Elements.{All-nil, All-cons}
use Rattle.bs_pool.specs.declared.reservation.Reservation.{Reservation}
use Rattle.bs_pool.specs.Ledger.{size, reservation_of}
use Rattle.bs_refused.proofs.assembly.lay_group.Goals as goal

pub lay-requires : goal.lay-requires
lay-requires c =
    let P : Reservation → Type 0 = λ r. (r.tag + c.args.offset < 2 ^ 32) × (reservation_of (r.tag + c.args.offset) c.args.assembly.ledger ≡ None) in
    let same : c.args.offset ≡ 0 + c.args.offset = omega arith in
    let new = subst (λ tag. reservation_of tag c.args.assembly.ledger ≡ None) same c.requires.tag in
    let fits : 0 + c.args.offset < 2 ^ 32 = omega (arith, c.ranges.offset.fits) in (
      omega arith,
      (
        omega arith,
        (
          omega (arith, c.requires.room, c.in_ok-open_group.ensures.size),
          subst (λ (rs : List Reservation). All P rs) (sym c.in_ok-open_group.ensures.tag) (All-cons P (record { tag = 0; blocks = 2 }) [] (fits, new) (All-nil P)),
        ),
      ),
    )
