-- The judgement of collisions on numbers.
use Rattle.std.proofs.Common.{◌≡◌, ℕ, ◌+◌, ◌<◌, ◌≤◌, Bool, true, false, not, ◌&&◌, cond, List, [], ◌∷◌, length, take, drop, All, Decides, Option, Some, None, refl, sym, ap, ◌∙◌, arith, inl, inr, suc, eqb, leb, ltb, slice_index}
use Rattle.std.specs.List.{list_any}
use Rattle.std.proofs.lemmas.Bool.{cases_Bool, eqb-true, false≢true, le-ltb, lt-ltb}
use Rattle.std.proofs.lemmas.Bool.Decides.{Decides-eqb, Decides-like, same_from_decides}
use Rattle.std.proofs.lemmas.List.{drop-map}
use Rattle.std.proofs.lemmas.List.Elements.{All-get_or}
use Rattle.bs_board.specs.declared.boards.point.Point.{Point}
use Rattle.bs_board.specs.declared.boards.snake.Snake.{Snake}
use Rattle.bs_board.specs.declared.boards.snake.Cause.{Cause}
use Rattle.bs_board.specs.declared.boards.snake.Cause.TheVariants.{SelfCollision, BodyCollision, HeadCollision}
use Rattle.bs_board.specs.boards.Cell.{head_of, is_same_cell, origin}
use Rattle.bs_board.specs.boards.Legal.{is_near}
use Rattle.bs_board.specs.boards.Over.{is_living}
use Rattle.std.specs.Prelude.{is_some}
use Rattle.bs_rules.specs.declared.verdict.Verdict.{Verdict}
use Rattle.bs_rules.specs.Collision.{CollidesWith, IsOnLaterPart, collides, collision_verdict, is_on_later_part, killer_among, killer_of, length_at, longer_of, meets_head, nobody, runs_into, snake_at}
use Rattle.bs_rules.proofs.CollisionTest.{has_cell, same_cell}
use Rattle.bs_rules.proofs.Killers.{MeansKiller, killer_among_next, killer_means}
use Rattle.bs_batch.specs.declared.layout.Head.{Head}
use Rattle.bs_batch.specs.Numbers.{number_of, numbers_of}
use Rattle.bs_batch.specs.Shown.{HasBody, room_of, seat_at, seat_byte}
use Rattle.bs_batch.specs.inner.Collisions.{IsLonger, IsSeat, ShowsJudged, is_later_number}
use Rattle.bs_batch.specs.inner.Eliminations.{IsVerdictIf}
use Rattle.bs_batch.proofs.FirstOut.{dead_byte, living_byte}
use Rattle.bs_batch.proofs.Numbers.{one_number}
use Rattle.bs_batch.proofs.Shown.{body_shown, head_near, head_number}

-- numbers are compared as their cells are
same_number : (width height : ℕ) (p q : Point) → width ≤ 25 → is_near width height p ≡ true → is_near width height q ≡ true
    → eqb (number_of q) (number_of p) ≡ is_same_cell p q
same_number width height p q narrow near_p near_q =
    let by_number : Decides (eqb (number_of q) (number_of p)) (p ≡ q) =
    Decides-like (eqb (number_of q) (number_of p)) (λ e. one_number width height p q narrow near_p near_q (sym e)) (λ e. ap number_of (sym e)) (Decides-eqb (number_of q) (number_of p)) in
    same_from_decides (eqb (number_of q) (number_of p)) (is_same_cell p q) by_number (same_cell p q)

any_number : (width height : ℕ) (p : Point) (parts : List Point) → width ≤ 25 → is_near width height p ≡ true → All (λ q. is_near width height q ≡ true) parts
    → list_any (λ part. eqb part (number_of p)) (numbers_of parts) ≡ list_any (is_same_cell p) parts
any_number width height p [] narrow near_p near = refl
any_number width height p (q ∷ parts) narrow near_p near =
    let here = same_number width height p q narrow near_p (near 0 origin (omega arith)) in
    let rest = any_number width height p parts narrow near_p (λ i d within. near (suc i) d (omega arith)) in
    rw (here, rest) refl

near_later : (width height : ℕ) (parts : List Point) → All (λ q. is_near width height q ≡ true) parts → All (λ q. is_near width height q ≡ true) (drop 1 parts)
near_later width height [] near = near
near_later width height (q ∷ parts) near = λ i d within. near (suc i) d (omega arith)

pair_self : (a b same d : Bool) → same ≡ true → false ≡ (a && b && (not same && d))
pair_self true true same d e = rw e refl
pair_self true false same d e = refl
pair_self false b same d e = refl

pair_out : (a b x : Bool) → b ≡ false → false ≡ (a && b && x)
pair_out true b x e = rw e refl
pair_out false b x e = refl

pair_apart : (a b same d f : Bool) → same ≡ false → d ≡ false → false ≡ (a && b && (not same && (d && f)))
pair_apart true true same d f e g = rw (e, g) refl
pair_apart true false same d f e g = refl
pair_apart false b same d f e g = refl

pair_hit : (a b same d : Bool) → a ≡ true → b ≡ true → same ≡ false → d ≡ (a && b && (not same && d))
pair_hit a b same d e f g = rw (e, f, g) refl

differ : (a b : ℕ) → (b ≡ a → ⊥) → eqb a b ≡ false
differ a b apart = elim (cases_Bool (eqb a b)) [
  | inl same ↦ absurd (apart (sym (eqb-true a b same)))
  | inr other ↦ other
]

module _ (head : Head) (bodies : List ℕ) (width height : ℕ) (snakes : List Snake) (shows : ShowsJudged head bodies width height snakes) where
  abbrev at : ℕ → Snake
  at seat = snake_at snakes seat

  has : (seat : ℕ) → seat < length snakes → HasBody width height (at seat)
  has seat within = All-get_or (HasBody width height) snakes seat nobody within shows.bodies_near

  pub numbers : (seat : ℕ) → seat < length snakes → take (seat_at head.seats seat).parts (room_of bodies seat) ≡ numbers_of (at seat).body
  numbers seat within = body_shown head.seats bodies snakes seat shows.snakes_shown within

  pub lives : (seat : ℕ) → seat < length snakes → (seat_at head.seats seat).cause ≡ 0 → is_living (at seat) ≡ true
  lives seat within zero = living_byte (at seat).cause (sym (shows.snakes_shown seat within).cause ∙ zero)

  pub is_out : (seat : ℕ) → seat < length snakes → ((seat_at head.seats seat).cause ≡ 0 → ⊥) → is_living (at seat) ≡ false
  is_out seat within other = let byte = (shows.snakes_shown seat within).cause in dead_byte (at seat).cause (λ zero. other (byte ∙ zero))

  pub long : (seat : ℕ) → seat < length snakes → (seat_at head.seats seat).parts ≡ length_at snakes seat
  long seat within = (shows.snakes_shown seat within).parts

  pub head_number_at : (seat : ℕ) → seat < length snakes → slice_index (take (seat_at head.seats seat).parts (room_of bodies seat)) 0 ≡ number_of (head_of (at seat).body)
  head_number_at seat within =
      let three = (has seat within).long in
      ap (λ body. slice_index body 0) (numbers seat within) ∙ head_number (at seat).body (omega arith)

  -- the head of the one on a later part of the other
  pub later : (seat other cell : ℕ) (body : List ℕ) → seat < length snakes → other < length snakes → cell ≡ number_of (head_of (at seat).body)
      → body ≡ take (seat_at head.seats other).parts (room_of bodies other) → is_later_number body cell ≡ is_on_later_part (at seat) (at other)
  later seat other cell body within inside is of =
      let p = head_of (at seat).body in
      let near = (has other inside).near in
      let rest = any_number width height p (drop 1 (at other).body) shows.narrow (head_near width height (at seat) (has seat within)) (near_later width height (at other).body near) in
      rw (of ∙ numbers other inside, is, drop-map number_of 1 (at other).body) rest

  -- the other is the snake itself
  pub body_self : (seat other : ℕ) → other ≡ seat → false ≡ collides snakes seat BodyCollision other
  unfolding collides
  body_self seat other e =
      pair_self (is_living (at seat)) (is_living (at other)) (eqb seat other) (is_on_later_part (at seat) (at other)) ((Decides-eqb seat other).1 (sym e))

  pub head_self : (seat other : ℕ) → other ≡ seat → false ≡ collides snakes seat HeadCollision other
  unfolding collides
  head_self seat other e =
      pair_self (is_living (at seat)) (is_living (at other)) (eqb seat other) (meets_head (at seat) (at other)) ((Decides-eqb seat other).1 (sym e))

  -- the other is out
  pub hits_none : (seat other : ℕ) (cause : Cause) → other < length snakes → ((seat_at head.seats other).cause ≡ 0 → ⊥) → false ≡ collides snakes seat cause other
  unfolding collides
  hits_none seat other cause inside e =
      pair_out (is_living (at seat)) (is_living (at other)) (runs_into cause seat (at seat) other (at other)) (is_out other inside e)

  pub body_hit : (seat other cell : ℕ) (body : List ℕ) (result : Bool) → seat < length snakes → other < length snakes → is_living (at seat) ≡ true
      → cell ≡ number_of (head_of (at seat).body) → (other ≡ seat → ⊥) → (seat_at head.seats other).cause ≡ 0
      → body ≡ take (seat_at head.seats other).parts (room_of bodies other) → result ≡ is_later_number body cell → result ≡ collides snakes seat BodyCollision other
  unfolding collides
  body_hit seat other cell body result within inside alive is apart zero of e =
      e ∙ later seat other cell body within inside is of
      ∙ pair_hit (is_living (at seat)) (is_living (at other)) (eqb seat other) (is_on_later_part (at seat) (at other)) alive (lives other inside zero) (differ seat other apart)

  same_heads : (seat other : ℕ) → seat < length snakes → other < length snakes
      → eqb (number_of (head_of (at other).body)) (number_of (head_of (at seat).body)) ≡ is_same_cell (head_of (at seat).body) (head_of (at other).body)
  same_heads seat other within inside =
      same_number width height (head_of (at seat).body) (head_of (at other).body) shows.narrow (head_near width height (at seat) (has seat within))
      (head_near width height (at other) (has other inside))

  pub head_miss : (seat other cell first : ℕ) (body : List ℕ) → seat < length snakes → other < length snakes → cell ≡ number_of (head_of (at seat).body)
      → (other ≡ seat → ⊥) → body ≡ take (seat_at head.seats other).parts (room_of bodies other) → first ≡ slice_index body 0 → (first ≡ cell → ⊥)
      → false ≡ collides snakes seat HeadCollision other
  unfolding collides
  head_miss seat other cell first body within inside is apart of at_first e =
      let there : first ≡ number_of (head_of (at other).body) = at_first ∙ ap (λ b. slice_index b 0) of ∙ head_number_at other inside in
      let none : eqb (number_of (head_of (at other).body)) (number_of (head_of (at seat).body)) ≡ false =
      differ (number_of (head_of (at other).body)) (number_of (head_of (at seat).body)) (λ same. e (there ∙ sym same ∙ sym is)) in
      pair_apart (is_living (at seat)) (is_living (at other)) (eqb seat other) (is_same_cell (head_of (at seat).body) (head_of (at other).body))
      (leb (length (at seat).body) (length (at other).body)) (differ seat other apart) (sym (same_heads seat other within inside) ∙ none)

  pub head_hit : (seat other cell first : ℕ) (body : List ℕ) → seat < length snakes → other < length snakes → is_living (at seat) ≡ true
      → cell ≡ number_of (head_of (at seat).body) → (other ≡ seat → ⊥) → (seat_at head.seats other).cause ≡ 0
      → body ≡ take (seat_at head.seats other).parts (room_of bodies other) → first ≡ slice_index body 0 → first ≡ cell
      → leb (seat_at head.seats seat).parts (seat_at head.seats other).parts ≡ collides snakes seat HeadCollision other
  unfolding collides
  head_hit seat other cell first body within inside alive is apart zero of at_first e =
      let there : first ≡ number_of (head_of (at other).body) = at_first ∙ ap (λ b. slice_index b 0) of ∙ head_number_at other inside in
      let one : eqb (number_of (head_of (at other).body)) (number_of (head_of (at seat).body)) ≡ true =
      (Decides-eqb (number_of (head_of (at other).body)) (number_of (head_of (at seat).body))).1 (sym there ∙ e ∙ is) in
      let met = sym (same_heads seat other within inside) ∙ one in
      let longer = leb (length (at seat).body) (length (at other).body) in
      let both : longer ≡ meets_head (at seat) (at other) = rw met refl in
      rw (long seat within, long other inside)
      (both ∙ pair_hit (is_living (at seat)) (is_living (at other)) (eqb seat other) (meets_head (at seat) (at other)) alive (lives other inside zero) (differ seat other apart))

  -- no killer so far
  pub first_killer : (killer other : ℕ) (so_far : Option ℕ) → IsSeat snakes so_far → killer ≡ seat_byte so_far → 8 ≤ killer → other ≡ seat_byte (longer_of snakes so_far other)
  first_killer killer other None is e past = refl
  first_killer killer other (Some k) is e past = let few = shows.few in absurd (omega arith)

  pub keeps_killer : (killer other : ℕ) (so_far : Option ℕ) → IsSeat snakes so_far → other < length snakes → killer ≡ seat_byte so_far → killer < 8
      → (seat_at head.seats other).parts ≤ (seat_at head.seats killer).parts → killer ≡ seat_byte (longer_of snakes so_far other)
  keeps_killer killer other None is inside e within more = absurd (omega arith)
  keeps_killer killer other (Some k) is inside e within more =
      let a = long other inside in
      let b = long k is in
      let c : (seat_at head.seats other).parts ≤ (seat_at head.seats k).parts = rw e at more in
      let no : ltb (length_at snakes k) (length_at snakes other) ≡ false = le-ltb (length_at snakes k) (length_at snakes other) (omega arith) in
      rw no e

  pub takes_killer : (killer other : ℕ) (so_far : Option ℕ) → IsSeat snakes so_far → other < length snakes → killer ≡ seat_byte so_far → killer < 8
      → (seat_at head.seats killer).parts < (seat_at head.seats other).parts → other ≡ seat_byte (longer_of snakes so_far other)
  takes_killer killer other None is inside e within more = absurd (omega arith)
  takes_killer killer other (Some k) is inside e within more =
      let a = long other inside in
      let b = long k is in
      let c : (seat_at head.seats k).parts < (seat_at head.seats other).parts = rw e at more in
      let yes : ltb (length_at snakes k) (length_at snakes other) ≡ true = lt-ltb (length_at snakes k) (length_at snakes other) (omega arith) in
      rw yes refl

  is_seat : (n : ℕ) (seat : ℕ) (cause : Cause) (killer : Option ℕ) → n ≤ length snakes → MeansKiller n snakes seat cause killer → IsSeat snakes killer
  is_seat n seat cause None few m = tt
  is_seat n seat cause (Some k) few m = let within = m.within in omega arith

  pub killer_is_seat : (seat : ℕ) (cause : Cause) → IsSeat snakes (killer_of snakes seat cause)
  killer_is_seat seat cause = is_seat (length snakes) seat cause (killer_of snakes seat cause) (omega arith) (killer_means (length snakes) snakes seat cause)

  -- one more seat
  pub next_killer : (seat n killer result : ℕ) (cause : Cause) (hit : Bool) → n < length snakes → killer ≡ seat_byte (killer_among n snakes seat cause)
      → hit ≡ collides snakes seat cause n → IsLonger head killer n hit result → result ≡ seat_byte (killer_among (n + 1) snakes seat cause)
  next_killer seat n killer result cause hit within so_far is longer =
      let before = killer_among n snakes seat cause in
      let one = longer bodies width height snakes before shows (is_seat n seat cause before (omega arith) (killer_means n snakes seat cause)) within so_far in
      one ∙ ap seat_byte (ap (λ h. cond h (longer_of snakes before n) before) is ∙ sym (killer_among_next n snakes seat cause))

  -- a byte of a killer
  pub some_seat : (killer : Option ℕ) (byte : ℕ) → IsSeat snakes killer → byte ≡ seat_byte killer → byte ≡ 255 → killer ≡ None
  some_seat None byte is e none = refl
  some_seat (Some k) byte is e none = let few = shows.few in absurd (omega arith)

  -- the snake itself
  self_from : (seat : ℕ) (killer : Option ℕ) → seat < length snakes → CollidesWith snakes seat SelfCollision seat
      → MeansKiller (length snakes) snakes seat SelfCollision killer → killer ≡ Some seat
  self_from seat None within hit m = absurd (m seat within hit)
  self_from seat (Some k) within hit m = ap Some (sym m.collides.hit.0)

  pub self_killer : (seat : ℕ) → seat < length snakes → is_living (at seat) ≡ true → is_on_later_part (at seat) (at seat) ≡ true
      → killer_of snakes seat SelfCollision ≡ Some seat
  self_killer seat within alive on =
      let there = (has_cell (drop 1 (at seat).body) (head_of (at seat).body)).0 on in
      self_from seat (killer_of snakes seat SelfCollision) within (record { alive = alive; both = alive; hit = (refl, there) }) (killer_means (length snakes) snakes seat SelfCollision)

  none_from : (seat : ℕ) (killer : Option ℕ) → (is_on_later_part (at seat) (at seat) ≡ true → ⊥) → MeansKiller (length snakes) snakes seat SelfCollision killer → killer ≡ None
  none_from seat None not_on m = refl
  none_from seat (Some k) not_on m =
      let there : IsOnLaterPart (at seat) (at seat) = rw (← m.collides.hit.0) at m.collides.hit.1 in
      absurd (not_on ((has_cell (drop 1 (at seat).body) (head_of (at seat).body)).1 there))

  pub no_self_killer : (seat : ℕ) → (is_on_later_part (at seat) (at seat) ≡ true → ⊥) → killer_of snakes seat SelfCollision ≡ None
  no_self_killer seat not_on = none_from seat (killer_of snakes seat SelfCollision) not_on (killer_means (length snakes) snakes seat SelfCollision)

  pub verdict_itself : (seat : ℕ) → killer_of snakes seat SelfCollision ≡ Some seat → IsVerdictIf (record { cause = 3; killer = seat }) (collision_verdict snakes seat)
  unfolding collision_verdict
  verdict_itself seat e = rw e (record { cause = refl; killer = ap seat_byte (sym e) })

  pub verdict_body : (seat byte : ℕ) (body : Option ℕ) → killer_of snakes seat SelfCollision ≡ None → killer_of snakes seat BodyCollision ≡ body
      → byte ≡ seat_byte body → (byte ≡ 255 → ⊥) → IsVerdictIf (record { cause = 4; killer = byte }) (collision_verdict snakes seat)
  unfolding collision_verdict
  verdict_body seat byte None e f is some = absurd (some is)
  verdict_body seat byte (Some k) e f is some = rw (e, f) (record { cause = refl; killer = is ∙ ap seat_byte (sym f) })

  pub verdict_head : (seat byte : ℕ) (other : Option ℕ) → killer_of snakes seat SelfCollision ≡ None → killer_of snakes seat BodyCollision ≡ None
      → killer_of snakes seat HeadCollision ≡ other → byte ≡ seat_byte other → (byte ≡ 255 → ⊥)
      → IsVerdictIf (record { cause = 5; killer = byte }) (collision_verdict snakes seat)
  unfolding collision_verdict
  verdict_head seat byte None e f g is some = absurd (some is)
  verdict_head seat byte (Some k) e f g is some = rw (e, f, g) (record { cause = refl; killer = is ∙ ap seat_byte (sym g) })

  pub own_cell : (seat cell : ℕ) (body : List ℕ) → seat < length snakes → body ≡ take (seat_at head.seats seat).parts (room_of bodies seat)
      → cell ≡ slice_index body 0 → cell ≡ number_of (head_of (at seat).body)
  own_cell seat cell body within of first = first ∙ ap (λ b. slice_index b 0) of ∙ head_number_at seat within

  pub not_on_own : (seat cell : ℕ) (body : List ℕ) (result : Bool) → seat < length snakes → body ≡ take (seat_at head.seats seat).parts (room_of bodies seat)
      → cell ≡ slice_index body 0 → result ≡ is_later_number body cell → result ≡ false → killer_of snakes seat SelfCollision ≡ None
  not_on_own seat cell body result within of first e zero =
      no_self_killer seat (λ on. false≢true (sym zero ∙ e ∙ later seat seat cell body within within (own_cell seat cell body within of first) of ∙ on))

none_judged : (snakes : List Snake) (seat : ℕ) → ((cause : Cause) → killer_of snakes seat cause ≡ None) → collision_verdict snakes seat ≡ None
unfolding collision_verdict
none_judged snakes seat none = rw (none SelfCollision, none BodyCollision, none HeadCollision) refl

pub verdict_none : (snakes : List Snake) (seat : ℕ) → killer_of snakes seat SelfCollision ≡ None → killer_of snakes seat BodyCollision ≡ None
    → killer_of snakes seat HeadCollision ≡ None → collision_verdict snakes seat ≡ None
unfolding collision_verdict
verdict_none snakes seat e f g = rw (e, f, g) refl

dead_from : (snakes : List Snake) (seat : ℕ) (cause : Cause) (killer : Option ℕ) → is_living (snake_at snakes seat) ≡ false
    → MeansKiller (length snakes) snakes seat cause killer → killer ≡ None
dead_from snakes seat cause None dead m = refl
dead_from snakes seat cause (Some k) dead m = absurd (let alive = m.collides.alive in cc)

-- a snake that is out is not judged
pub dead_spared_at : (snakes : List Snake) (seat : ℕ) → is_living (snake_at snakes seat) ≡ false → collision_verdict snakes seat ≡ None
dead_spared_at snakes seat dead =
    none_judged snakes seat (λ cause. dead_from snakes seat cause (killer_of snakes seat cause) dead (killer_means (length snakes) snakes seat cause))

no_verdict : (verdict : Option Verdict) → verdict ≡ None → is_some verdict ≡ true → ⊥
no_verdict None e some = false≢true some
no_verdict (Some v) e some = absurd cc

-- a snake that has a verdict lives
pub judged_lives : (snakes : List Snake) (seat : ℕ) → is_some (collision_verdict snakes seat) ≡ true → is_living (snake_at snakes seat) ≡ true
judged_lives snakes seat some = elim (cases_Bool (is_living (snake_at snakes seat))) [
  | inl alive ↦ alive
  | inr dead ↦ absurd (no_verdict (collision_verdict snakes seat) (dead_spared_at snakes seat dead) some)
]
