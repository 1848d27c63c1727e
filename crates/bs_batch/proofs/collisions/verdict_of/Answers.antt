use Rattle.std.proofs.Common.{◌≡◌, ◌∙◌, None, refl, sym, true}
use Rattle.bs_board.specs.declared.boards.snake.Cause.TheVariants.{BodyCollision, HeadCollision, SelfCollision}
use Rattle.bs_board.specs.boards.Cell.{head_of}
use Rattle.bs_rules.specs.Collision.{is_on_later_part, killer_of, snake_at}
use Rattle.bs_batch.specs.Numbers.{number_of}
use Rattle.bs_batch.proofs.Judged.{killer_is_seat, later, not_on_own, own_cell, self_killer, some_seat, verdict_body, verdict_head, verdict_itself, verdict_none}
use Rattle.bs_batch.proofs.collisions.verdict_of.Goals as goal

pub returns-then-is_on_later_part : goal.returns-then-is_on_later_part
returns-then-is_on_later_part c width height snakes shows within alive =
    let h = c.args.head.now in
    let bodies = c.args.bodies.now in
    let seat = c.args.seat in
    let s = snake_at snakes seat in
    let is : c.head_of-cell.result ≡ number_of (head_of s.body) =
    own_cell h bodies width height snakes shows seat c.head_of-cell.result c.body_of-own.result.now within c.body_of-own.ensures c.head_of-cell.ensures in
    let on : is_on_later_part s s ≡ true =
    sym (later h bodies width height snakes shows seat seat c.head_of-cell.result c.body_of-own.result.now within within is c.body_of-own.ensures)
    ∙ sym c.is_on_later_part.ensures ∙ c.if-is_on_later_part.true in
    verdict_itself h bodies width height snakes shows seat (self_killer h bodies width height snakes shows seat within alive on)

pub returns-then-killer : goal.returns-then-killer
returns-then-killer c width height snakes shows within alive =
    let h = c.args.head.now in
    let bodies = c.args.bodies.now in
    let seat = c.args.seat in
    let s = snake_at snakes seat in
    let is : c.head_of-cell.result ≡ number_of (head_of s.body) =
    own_cell h bodies width height snakes shows seat c.head_of-cell.result c.body_of-own.result.now within c.body_of-own.ensures c.head_of-cell.ensures in
    let none : killer_of snakes seat SelfCollision ≡ None =
    not_on_own h bodies width height snakes shows seat c.head_of-cell.result c.body_of-own.result.now c.is_on_later_part.result within c.body_of-own.ensures c.head_of-cell.ensures
    c.is_on_later_part.ensures c.if-is_on_later_part.false in
    let body = c.body_killer-killer.ensures width height snakes shows within alive is in
    verdict_body h bodies width height snakes shows seat c.body_killer-killer.result (killer_of snakes seat BodyCollision) none refl body c.if-killer.true

pub returns-then-killer-2 : goal.returns-then-killer-2
returns-then-killer-2 c width height snakes shows within alive =
    let h = c.args.head.now in
    let bodies = c.args.bodies.now in
    let seat = c.args.seat in
    let s = snake_at snakes seat in
    let is : c.head_of-cell.result ≡ number_of (head_of s.body) =
    own_cell h bodies width height snakes shows seat c.head_of-cell.result c.body_of-own.result.now within c.body_of-own.ensures c.head_of-cell.ensures in
    let none : killer_of snakes seat SelfCollision ≡ None =
    not_on_own h bodies width height snakes shows seat c.head_of-cell.result c.body_of-own.result.now c.is_on_later_part.result within c.body_of-own.ensures c.head_of-cell.ensures
    c.is_on_later_part.ensures c.if-is_on_later_part.false in
    let body = c.body_killer-killer.ensures width height snakes shows within alive is in
    let no_body = some_seat h bodies width height snakes shows (killer_of snakes seat BodyCollision) c.body_killer-killer.result
    (killer_is_seat h bodies width height snakes shows seat BodyCollision) body c.if-killer.false in
    let other = c.head_killer-killer.ensures width height snakes shows within alive is in
    verdict_head h bodies width height snakes shows seat c.head_killer-killer.result (killer_of snakes seat HeadCollision) none no_body refl other c.if-killer-2.true

pub returns : goal.returns
returns c width height snakes shows within alive =
    let h = c.args.head.now in
    let bodies = c.args.bodies.now in
    let seat = c.args.seat in
    let s = snake_at snakes seat in
    let is : c.head_of-cell.result ≡ number_of (head_of s.body) =
    own_cell h bodies width height snakes shows seat c.head_of-cell.result c.body_of-own.result.now within c.body_of-own.ensures c.head_of-cell.ensures in
    let none : killer_of snakes seat SelfCollision ≡ None =
    not_on_own h bodies width height snakes shows seat c.head_of-cell.result c.body_of-own.result.now c.is_on_later_part.result within c.body_of-own.ensures c.head_of-cell.ensures
    c.is_on_later_part.ensures c.if-is_on_later_part.false in
    let body = c.body_killer-killer.ensures width height snakes shows within alive is in
    let no_body = some_seat h bodies width height snakes shows (killer_of snakes seat BodyCollision) c.body_killer-killer.result
    (killer_is_seat h bodies width height snakes shows seat BodyCollision) body c.if-killer.false in
    let other = c.head_killer-killer.ensures width height snakes shows within alive is in
    let no_head = some_seat h bodies width height snakes shows (killer_of snakes seat HeadCollision) c.head_killer-killer.result
    (killer_is_seat h bodies width height snakes shows seat HeadCollision) other c.if-killer-2.false in
    rw (verdict_none snakes seat none no_body no_head) refl
