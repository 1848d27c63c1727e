-- Hazards that hurt the snake of one seat.
use Rattle.std.proofs.Common.{◌≡◌, ℕ, ◌+◌, ◌-◌, ◌*◌, ◌<◌, Bool, true, false, not, ◌&&◌, List, [], ◌∷◌, length, set, map, take, None, refl, sym, subst, ap, ◌∙◌, arith, eqb, slice_index, length-set}
use Rattle.std.proofs.lemmas.Bool.{cond_both, eq-eqb, ne_eqb}
use Rattle.std.proofs.lemmas.List.{get_or-set_same, set-set}
use Rattle.std.proofs.lemmas.List.Elements.{All-set}
use Rattle.bs_board.specs.declared.boards.board.Board.{Board}
use Rattle.bs_board.specs.declared.boards.point.Point.{Point}
use Rattle.bs_board.specs.declared.boards.snake.Snake.{Snake}
use Rattle.bs_board.specs.declared.boards.snake.Cause.TheVariants.{Hazard}
use Rattle.bs_board.specs.boards.Cell.{cell_index, head_of, is_on_board}
use Rattle.bs_board.specs.boards.Over.{is_living}
use Rattle.bs_rules.specs.declared.verdict.Verdict.{Verdict}
use Rattle.bs_rules.specs.Collision.{nobody, snake_at}
use Rattle.bs_rules.specs.Hurting.{hazard_verdict}
use Rattle.bs_batch.specs.declared.layout.Head.{Head}
use Rattle.bs_batch.specs.Eliminations.{Eliminates, put_out, with_snake}
use Rattle.bs_batch.specs.Shown.{HasBody, HasRoom, ShowsSeats, ShowsSettings, byte_of, occupants, parts_on, room_of, seat_at}
use Rattle.bs_batch.specs.Hurting.{count_on, hurt_all, hurt_at, is_hurt_by, with_health}
use Rattle.bs_batch.specs.inner.Hurting.{CountsAt, SetsHealth}
use Rattle.bs_batch.proofs.Bytes.{same_bytes}
use Rattle.bs_batch.proofs.FirstOut.{same_snake, seat_is_out, seat_lives}
use Rattle.bs_batch.proofs.JudgedRoom.{hurt_keeps}
use Rattle.bs_batch.proofs.SeatWrites.{occupants_with, one_seat}
use Rattle.bs_batch.proofs.Shown.{has_body, head_near, head_shown}

no_verdict : (health : ℕ) → (health ≡ 0 → ⊥) → hazard_verdict health ≡ None
no_verdict health some = rw (ne_eqb health 0 some) refl

module _ (b : Board) (seat health : ℕ) (within : seat < length b.snakes) where
  abbrev s : Snake
  s = snake_at b.snakes seat

  -- the snake with that health
  abbrev pub wounded : Snake
  wounded = record s { health = health }

  same_parts : (p : Point) → occupants (set b.snakes seat wounded) p ≡ occupants b.snakes p
  same_parts p =
      let change = occupants_with b.snakes seat wounded p within in
      let own : parts_on p wounded ≡ parts_on p s = refl in
      omega arith

  pub wounded_has_room : (more : ℕ) → HasRoom more b → HasRoom more (with_snake b seat wounded)
  wounded_has_room more room =
      let body = has_body b seat more room within in
      record {
        narrow = room.narrow;
        early = room.early;
        bodies = All-set (HasBody b.width b.height) b.snakes seat wounded (record { long = body.long; near = body.near }) room.bodies;
        few = λ p. let same = same_parts p in let few = room.few p in omega arith;
      }

  abbrev pub written : Head → Head
  written head = record head { seats = set head.seats seat (record (seat_at head.seats seat) { health = health }) }

  pub shows_wounded : (head : Head) (plane bodies : List ℕ) → seat < 8 → ShowsSeats head plane bodies b
      → ShowsSeats (written head) plane bodies (with_snake b seat wounded)
  shows_wounded head plane bodies fits shows =
      let eight = shows.eight in
      let own = shows.snakes seat within in
      let settings : ShowsSettings head.settings (with_snake b seat wounded) = record {
        mode = shows.settings.mode;
        width = shows.settings.width;
        height = shows.settings.height;
        seats = shows.settings.seats ∙ sym (length-set b.snakes seat wounded);
        min_food = shows.settings.min_food;
        chance = shows.settings.chance;
      } in
      record {
        settings = settings;
        turn = shows.turn;
        eight = length-set head.seats seat (record (seat_at head.seats seat) { health = health }) ∙ eight;
        snakes = one_seat head.seats bodies b.snakes seat (record (seat_at head.seats seat) { health = health }) wounded (omega arith) within shows.snakes
            (record { parts = own.parts; body = own.body; health = refl; cause = own.cause; killer = own.killer; out = own.out });
        counts = same_bytes b.width b.height (byte_of b.food b.snakes) (byte_of b.food (set b.snakes seat wounded)) plane
            (λ p _. let same = same_parts p in omega arith) shows.counts;
      }

  -- a living snake with some health left
  pub keeps_health : (head : Head) (plane bodies : List ℕ) → seat < 8 → (health ≡ 0 → ⊥) → ShowsSeats head plane bodies b
      → ShowsSeats (written head) plane bodies (with_snake b seat (with_health (b.turn + 1) health s))
  keeps_health head plane bodies fits some shows = rw (no_verdict health some) (shows_wounded head plane bodies fits shows)

  abbrev pub starved : Verdict
  starved = record { cause = Hazard; killer = None }

  twice : health ≡ 0 → put_out (with_snake b seat wounded) seat starved ≡ with_snake b seat (with_health (b.turn + 1) health s)
  twice zero_left =
      let here = get_or-set_same b.snakes seat wounded nobody within in
      rw here (rw (set-set b.snakes seat wounded) (rw zero_left refl))

  -- one with none left
  pub loses_health : (head : Head) (plane bodies : List ℕ) (head' : Head) (plane' : List ℕ) → seat < 8 → health ≡ 0
      → Eliminates seat (record { cause = 6; killer = 255 }) bodies (written head) plane head' plane'
      → ShowsSeats head plane bodies b → HasRoom 0 b → is_living s ≡ true
      → ShowsSeats head' plane' bodies (with_snake b seat (with_health (b.turn + 1) health s))
  loses_health head plane bodies head' plane' fits zero_left out shows room alive =
      let here = get_or-set_same b.snakes seat wounded nobody within in
      let P : Board → Type 0 = λ c. ShowsSeats head' plane' bodies c in
      rw (twice zero_left) at
      (out (with_snake b seat wounded) starved (record { cause = refl; killer = refl }) (shows_wounded head plane bodies fits shows)
      (wounded_has_room 0 room) (omega (arith, length-set b.snakes seat wounded)) (rw here alive))

pub never : (a : Bool) → (a && false) ≡ false
never true = refl
never false = refl

pub dead_unhurt : (count : ℕ) (s : Snake) → is_living s ≡ false → is_hurt_by count s ≡ false
dead_unhurt count s dead = rw dead refl

-- a snake that has just eaten
pub full_unhurt : (count : ℕ) (s : Snake) → s.health ≡ 100 → is_hurt_by count s ≡ false
full_unhurt count s full = rw (eq-eqb s.health 100 full) (never (is_living s))

pub off_unhurt : (count : ℕ) (s : Snake) → count ≡ 0 → is_hurt_by count s ≡ false
off_unhurt count s none = rw (eq-eqb count 0 none) (rw (never (not (eqb s.health 100))) (never (is_living s)))

pub is_hurt : (count : ℕ) (s : Snake) → is_living s ≡ true → (s.health ≡ 100 → ⊥) → (count ≡ 0 → ⊥) → is_hurt_by count s ≡ true
is_hurt count s alive hungry some = rw (alive, ne_eqb s.health 100 hungry, ne_eqb count 0 some) refl

module _ (counts : List ℕ) (damage : ℕ) (b : Board) (seat : ℕ) where
  abbrev t : Snake
  t = snake_at b.snakes seat

  abbrev pub count : ℕ
  count = count_on b.width b.height counts (head_of t.body)

  unhurt : (P : Board → Type 0) → is_hurt_by count t ≡ false → P b → P (with_snake b seat (hurt_at counts damage b t))
  unhurt P calm h = rw calm (same_snake b seat P h)

  pub hurt_keeps_room : (more : ℕ) → seat < length b.snakes → HasRoom more b → HasRoom more (with_snake b seat (hurt_at counts damage b t))
  hurt_keeps_room more within room =
      let u = hurt_at counts damage b t in
      let keeps = hurt_keeps (b.turn + 1) damage count t in
      let body = has_body b seat more room within in
      let same = keeps.body in
      record {
        narrow = room.narrow;
        early = room.early;
        bodies = All-set (HasBody b.width b.height) b.snakes seat u (record { long = rw same body.long; near = rw same body.near }) room.bodies;
        few = λ p. let change = occupants_with b.snakes seat u p within in let less = keeps.parts p in let few = room.few p in omega arith;
      }

  module _ (head : Head) (plane bodies : List ℕ) (shows : ShowsSeats head plane bodies b) (within : seat < length b.snakes) where
    same_health : (seat_at head.seats seat).health ≡ t.health
    same_health = (shows.snakes seat within).health

    pub dead_stays : ((seat_at head.seats seat).cause ≡ 0 → ⊥) → ShowsSeats head plane bodies (with_snake b seat (hurt_at counts damage b t))
    dead_stays out = unhurt (ShowsSeats head plane bodies) (dead_unhurt count t (seat_is_out head plane bodies b seat shows within out)) shows

    pub full_stays : (seat_at head.seats seat).health ≡ 100 → ShowsSeats head plane bodies (with_snake b seat (hurt_at counts damage b t))
    full_stays full = unhurt (ShowsSeats head plane bodies) (full_unhurt count t (sym same_health ∙ full)) shows

    module _ (room : HasRoom 0 b) (cell found : ℕ) (body : List ℕ) (is : CountsAt head.settings counts cell found) (cell_is : cell ≡ slice_index body 0)
        (body_is : body ≡ take (seat_at head.seats seat).parts (room_of bodies seat)) where
      found_is : found ≡ count
      found_is =
          let w = shows.settings.width in
          let h = shows.settings.height in
          let narrow = room.narrow in
          let near = head_near b.width b.height t (has_body b seat 0 room within) in
          let number = cell_is ∙ ap (λ numbers. slice_index numbers 0) body_is ∙ head_shown head plane bodies b seat 0 shows room within in
          is (head_of t.body) (omega arith) (rw (w, h) near) number ∙ rw (w, h) refl

      pub off_stays : found ≡ 0 → ShowsSeats head plane bodies (with_snake b seat (hurt_at counts damage b t))
      off_stays none = unhurt (ShowsSeats head plane bodies) (off_unhurt count t (sym found_is ∙ none)) shows

      pub one_hurt : (health : ℕ) (head' : Head) (plane' : List ℕ) → (seat_at head.seats seat).cause ≡ 0 → ((seat_at head.seats seat).health ≡ 100 → ⊥) → (found ≡ 0 → ⊥)
          → health ≡ (seat_at head.seats seat).health - damage * found → SetsHealth seat health bodies head plane head' plane'
          → ShowsSeats head' plane' bodies (with_snake b seat (hurt_at counts damage b t))
      one_hurt health head' plane' zero_cause hungry some health_is sets =
          let alive = seat_lives head plane bodies b seat shows within zero_cause in
          let hit = is_hurt count t alive (λ full. hungry (same_health ∙ full)) (λ none. some (found_is ∙ none)) in
          let left : health ≡ t.health - damage * count = health_is ∙ rw (same_health, found_is) refl in
          let P : ℕ → Type 0 = λ n. ShowsSeats head' plane' bodies (with_snake b seat (with_health (b.turn + 1) n t)) in
          rw hit (subst P left (sets b shows room within alive))

none_counted : (width height : ℕ) (p : Point) → count_on width height [] p ≡ 0
none_counted width height p = cond_both (is_on_board width height p) (slice_index [] (cell_index width p)) 0 (λ n. n ≡ 0) (λ _. refl) (λ _. refl)

none_hurt : (damage : ℕ) (b : Board) (snakes : List Snake) → map (hurt_at [] damage b) snakes ≡ snakes
none_hurt damage b [] = refl
none_hurt damage b (s ∷ snakes) =
    let here : hurt_at [] damage b s ≡ s = rw (off_unhurt (count_on b.width b.height [] (head_of s.body)) s (none_counted b.width b.height (head_of s.body))) refl in
    rw (here, none_hurt damage b snakes) refl

-- where there are no hazards
pub hurts_none : (counts : List ℕ) (damage : ℕ) (b : Board) (P : Board → Type 0) → length counts ≡ 0 → P b → P (hurt_all counts damage b)
hurts_none [] damage b P none h = rw (none_hurt damage b b.snakes) h
hurts_none (n ∷ counts) damage b P none h = absurd (omega arith)
