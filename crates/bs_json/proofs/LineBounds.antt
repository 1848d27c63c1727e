-- Upper bounds of the lengths of lines.
use Rattle.std.proofs.Common.{◌≡◌, ℕ, suc, ◌+◌, ◌*◌, ◌<◌, ◌≤◌, ◌^◌, Bool, true, false, cond, List, [], ◌∷◌, ◌++◌, codes, length, get_or, All, IfSome, MatchOption, Option, Some, None, ℤ, pos, negsuc, ◌+ℤ◌, nat_lt, refl, ap, subst, arith, length-append}
use Rattle.std.specs.Prelude.{decimal, flat_map, map, slice_get}
use Rattle.std.specs.List.{AllByRecursion}
use Rattle.std.proofs.lemmas.Bool.{leb-true}
use Rattle.std.proofs.lemmas.Fmt.{length-decimal-le}
use Rattle.std.proofs.lemmas.Int.{ints}
use Rattle.std.proofs.lemmas.List.Concat.{length-flat_map}
use Rattle.std.proofs.lemmas.List.Elements.{recursion_from_All}
use Rattle.json.specs.Print.{escape, escape_byte, escape_letter}
use Rattle.serde_json.specs.Data.{Data, boolean, string}
use Rattle.serde_json.specs.View.{items_of}
use Rattle.serde_json.specs.Written.{comma_if, compact_text, items_text}
use Rattle.bs_board.specs.declared.boards.board.Board.{Board}
use Rattle.bs_board.specs.declared.boards.board.Mode.{Mode}
use Rattle.bs_board.specs.declared.boards.board.Mode.TheVariants.{Standard, Solo, Constrictor, Wrapped}
use Rattle.bs_board.specs.declared.boards.point.Point.{Point}
use Rattle.bs_board.specs.declared.boards.hazards.Hazards.{Hazards}
use Rattle.bs_board.specs.declared.boards.snake.Snake.{Snake}
use Rattle.bs_board.specs.declared.boards.snake.Cause.{Cause}
use Rattle.bs_board.specs.declared.boards.snake.Cause.TheVariants.{OutOfHealth, WallCollision, SelfCollision, BodyCollision, HeadCollision, Hazard}
use Rattle.bs_board.specs.boards.Legal.{IsLegal, IsLegalLiving, IsLegalOut, IsLegalSnake, IsTurnBy}
use Rattle.bs_board.specs.boards.Hazards.{are_fit_hazards}
use Rattle.bs_board.specs.boards.Over.{is_over}
use Rattle.bs_board.specs.records.Record.{hazard_bytes, record_of, snake_record}
use Rattle.bs_board.specs.records.Writing.{IsByte, IsByteCell, IsWritable}
use Rattle.bs_board.specs.inner.Writing.{AreWritableHazards}
use Rattle.bs_board.proofs.records.Lengths.{length_of_hazards, length_of_record, length_of_snake}
use Rattle.bs_board.proofs.Chains.{and_both}
use Rattle.bs_board.proofs.records.Longest.{side_fits}
use Rattle.bs_board.proofs.records.Writable.{legal_is_writable}
use Rattle.bs_board.specs.declared.commands.command.Word.{Word}
use Rattle.bs_board.specs.declared.commands.command.Word.TheVariants as word
use Rattle.bs_board.specs.declared.commands.reply.Refusal.{Refusal}
use Rattle.bs_board.specs.declared.commands.reply.Refusal.TheVariants.{Unknown, NoGame, Running, Over, Limit, NoRecord, Quota}
use Rattle.bs_board.specs.declared.commands.reply.Reply.{Reply}
use Rattle.bs_board.specs.declared.commands.reply.Reply.TheVariants.{Shown, Plain, Refused}
use Rattle.bs_json.specs.declared.line.Stray.{Stray}
use Rattle.bs_json.specs.declared.line.Stray.TheVariants as stray
use Rattle.bs_json.specs.Boards.{board_data, cause_data, cell_data, cells_data, id_data, killer_data, mode_text, out_data, snake_data, snakes_data}
use Rattle.bs_json.specs.inner.BoardText.{coordinate_text, hazard_pieces}
use Rattle.bs_json.specs.Replies.{final_line_of, last_data, refusal_code, refusal_text, reply_line_of, stray_code, stray_line_of, stray_text, text_line, word_text}
use Rattle.bs_json.specs.inner.Replies.{tail_pieces}
use Rattle.bs_json.proofs.ReplyText.{final_is, plain_is, refused_is, shown_is, stray_is}
use Rattle.bs_json.proofs.ShownSnakes.{board_is, found_at, nobody, snake_is}

-- ---- strings and numbers

-- a text of at most that length
pub record Within (text : List ℕ) (most : ℕ) : Type 0 where
  pub long : length text ≤ most

is_within : (text : List ℕ) (most : ℕ) → length text ≤ most → Within text most
is_within text most long = record { long = long }

two : {a b : List ℕ} {m n : ℕ} → Within a m → Within b n → Within (a ++ b) (m + n)
two {a} {b} one other = record { long = omega (arith, length-append a b, one.long, other.long) }

-- a text in pieces whose bounds add up
bounded : (text pieces : List ℕ) (most sum : ℕ) → pieces ≡ text → Within pieces sum → sum ≤ most → length text ≤ most
bounded text pieces most sum is short fits = subst (λ t. length t ≤ most) is (let long = short.long in omega arith)

short_cond : (b : Bool) (one other : List ℕ) (n : ℕ) → length one ≤ n → length other ≤ n → length (cond b one other) ≤ n
short_cond true one other n first second = first
short_cond false one other n first second = second

escape_byte_bound : (byte : ℕ) → length (escape_byte byte) ≤ 6
unfolding escape_byte
escape_byte_bound byte = short_cond (nat_lt 0 (escape_letter byte)) _ _ 6 (omega arith) (short_cond (nat_lt byte 32) _ _ 6 (omega arith) (omega arith))

escape_bound : (text : List ℕ) → length (escape text) ≤ 6 * length text
escape_bound [] = omega arith
escape_bound (byte ∷ text) = omega (arith, length-append (escape_byte byte) (escape text), escape_byte_bound byte, escape_bound text)

pub string_bound : (text : List ℕ) → Within (compact_text (string text)) (6 * length text + 2)
string_bound text = is_within _ _ (omega (arith, length-append (escape text) (34 ∷ []), escape_bound text))

boolean_bound : (b : Bool) → Within (compact_text (boolean b)) 5
boolean_bound true = is_within _ _ (omega arith)
boolean_bound false = is_within _ _ (omega arith)

comma_bound : (later : Bool) → length (comma_if later) ≤ 1
comma_bound true = omega arith
comma_bound false = omega arith

-- a number of up to five digits
small : (k n : ℕ) → 0 < k → k ≤ 5 → n < 10 ^ k → n < 2 ^ 17 → length (decimal n) ≤ k
small k n some few below fits = length-decimal-le k n some below (omega (arith, fits))

mode_bound : (mode : Mode) → Within (compact_text (string (mode_text mode))) 68
mode_bound Standard = is_within _ _ (let b = (string_bound (codes "standard")).long in omega arith)
mode_bound Solo = is_within _ _ (let b = (string_bound (codes "solo")).long in omega arith)
mode_bound Constrictor = is_within _ _ (let b = (string_bound (codes "constrictor")).long in omega arith)
mode_bound Wrapped = is_within _ _ (let b = (string_bound (codes "wrapped")).long in omega arith)

cause_bound : (cause : Option Cause) → Within (compact_text (cause_data cause)) 122
cause_bound None = is_within _ _ (omega arith)
cause_bound (Some OutOfHealth) = is_within _ _ (let b = (string_bound (codes "out-of-health")).long in omega arith)
cause_bound (Some WallCollision) = is_within _ _ (let b = (string_bound (codes "wall-collision")).long in omega arith)
cause_bound (Some SelfCollision) = is_within _ _ (let b = (string_bound (codes "snake-self-collision")).long in omega arith)
cause_bound (Some BodyCollision) = is_within _ _ (let b = (string_bound (codes "snake-collision")).long in omega arith)
cause_bound (Some HeadCollision) = is_within _ _ (let b = (string_bound (codes "head-collision")).long in omega arith)
cause_bound (Some Hazard) = is_within _ _ (let b = (string_bound (codes "hazard")).long in omega arith)

-- ---- cells

coordinate_bound : (raised : ℕ) (z : ℤ) → raised ≤ 1 → IsByte (z +ℤ pos raised) → length (coordinate_text z) ≤ 4
coordinate_bound raised (pos n) few fits =
    let low = fits.0 in
    let high = fits.1 in
    let below : n < 256 = grind (arith, ints) in
    let digits = small 3 n (omega arith) (omega arith) (omega arith) (omega arith) in
    omega arith
coordinate_bound raised (negsuc n) few fits =
    let low = fits.0 in
    let one : n ≡ 0 = grind (arith, ints) in
    let digits = small 1 (suc n) (omega arith) (omega arith) (omega arith) (omega arith) in
    omega arith

cell_text : (p : Point) → codes "{\"x\":" ++ (coordinate_text p.x ++ (codes ",\"y\":" ++ (coordinate_text p.y ++ codes "}"))) ≡ compact_text (cell_data p)
unfolding escape_byte
cell_text p = refl

cell_bound : (raised : ℕ) (p : Point) → raised ≤ 1 → IsByteCell raised p → length (compact_text (cell_data p)) ≤ 19
cell_bound raised p few fits =
    let x = coordinate_bound raised p.x few fits.x in
    let y = coordinate_bound raised p.y few fits.y in
    bounded _ _ 19 _ (cell_text p)
    (two (is_within (codes "{\"x\":") 5 (omega arith)) (two (is_within _ _ x) (two (is_within (codes ",\"y\":") 5 (omega arith)) (two (is_within _ _ y) (is_within (codes "}") 1 (omega arith))))))
    (omega arith)

cells_bound_from : (raised : ℕ) (later : Bool) (cells : List Point) → raised ≤ 1 → AllByRecursion (IsByteCell raised) cells
    → length (items_text later (items_of (map cell_data cells))) ≤ 20 * length cells + 1
cells_bound_from raised later [] few fits = omega arith
cells_bound_from raised later (p ∷ cells) few fits =
    let one = cell_bound raised p few fits.0 in
    let others = cells_bound_from raised true cells few fits.1 in
    let rest = items_text true (items_of (map cell_data cells)) in
    bounded (items_text later (items_of (map cell_data (p ∷ cells)))) (comma_if later ++ (compact_text (cell_data p) ++ rest)) _ _ refl
    (two (is_within (comma_if later) 1 (comma_bound later)) (two (is_within (compact_text (cell_data p)) _ one) (is_within rest _ others)))
    (omega arith)

cells_bound : (raised : ℕ) (cells : List Point) → raised ≤ 1 → All (IsByteCell raised) cells → Within (compact_text (cells_data cells)) (20 * length cells + 2)
cells_bound raised cells few fits =
    is_within _ _ (let items = cells_bound_from raised false cells few (recursion_from_All (IsByteCell raised) cells fits) in omega arith)

hazards_bound : (width height : ℕ) (hazards : Option Hazards) → are_fit_hazards width height hazards ≡ true → AreWritableHazards hazards
    → Within (hazard_pieces hazards) (10 * length (hazard_bytes hazards) + 10)
hazards_bound width height None fits cells = is_within _ _ (omega arith)
hazards_bound width height (Some h) fits cells =
    let low : h.damage ≤ 100 = leb-true _ _ (and_both _ _ (and_both _ _ fits).0).0 in
    let damage = small 3 h.damage (omega arith) (omega arith) (omega arith) (omega arith) in
    let size = length_of_hazards h in
    is_within _ _
    (bounded _ _ _ _ refl
    (two (is_within (codes ",\"hazard_damage\":") 17 (omega arith)) (two (is_within _ _ damage) (two (is_within (codes ",\"hazards\":") 11 (omega arith)) (cells_bound 0 h.cells (omega arith) cells.cells))))
    (omega arith))

-- ---- a snake

health_of : (b : Board) (seat : ℕ) (s : Snake) (cause : Option Cause) → MatchOption cause (IsLegalLiving b s) (IsLegalOut b seat s) → s.health ≤ 100
health_of b seat s None state = state.full
health_of b seat s (Some OutOfHealth) state = let none = state.health in omega arith
health_of b seat s (Some WallCollision) state = state.health.1
health_of b seat s (Some SelfCollision) state = state.health.1
health_of b seat s (Some BodyCollision) state = state.health.1
health_of b seat s (Some HeadCollision) state = state.health.1
health_of b seat s (Some Hazard) state = let none = state.health in omega arith

turn_bound : (turn : ℕ) (out : Option ℕ) → turn ≤ 10000 → IsTurnBy turn out → Within (compact_text (out_data out)) 5
turn_bound turn None few by = absurd by
turn_bound turn (Some at) few by = is_within _ _ (let last = by.1 in small 5 at (omega arith) (omega arith) (omega arith) (omega arith))

out_bound : (b : Board) (seat : ℕ) (s : Snake) (cause : Option Cause) → b.turn ≤ 10000 → MatchOption cause (IsLegalLiving b s) (IsLegalOut b seat s)
    → Within (compact_text (out_data s.out)) 5
out_bound b seat s None few state = rw state.out (is_within _ _ (omega arith))
out_bound b seat s (Some cause) few state = turn_bound b.turn s.out few state.out

id_bound : (snakes : List Snake) (found : Option Snake) → MatchOption found (Unit {0}) (λ s. length s.id < 256) → Within (compact_text (id_data found)) 1532
id_bound snakes None short = is_within _ _ (omega arith)
id_bound snakes (Some s) short = is_within _ _ (let text = (string_bound s.id).long in omega arith)

short_at : (snakes : List Snake) (seat : ℕ) (found : Option Snake) → All IsWritable snakes → slice_get snakes seat ≡ found → MatchOption found (Unit {0}) (λ s. length s.id < 256)
short_at snakes seat None fits is = tt
short_at snakes seat (Some s) fits is =
    let at = found_at snakes seat s is in
    let own = fits seat nobody at.0 in
    let short = own.id in
    let same = ap (λ (t : Snake). length t.id) at.1 in
    omega arith

killer_bound : (snakes : List Snake) (killer : Option ℕ) → All IsWritable snakes → Within (compact_text (killer_data snakes killer)) 1532
killer_bound snakes None fits = is_within _ _ (omega arith)
killer_bound snakes (Some seat) fits = id_bound snakes (slice_get snakes seat) (short_at snakes seat (slice_get snakes seat) fits refl)

snake_bound : (b : Board) (seat : ℕ) (s : Snake) → b.turn ≤ 10000 → All IsWritable b.snakes → IsWritable s → IsLegalSnake b seat s
    → length (compact_text (snake_data b.snakes s)) + 1 ≤ 10 * length (snake_record s) + 2000
snake_bound b seat s few fits own legal =
    let body = cells_bound 1 s.body (omega arith) own.cells in
    let killer = killer_bound b.snakes s.killer fits in
    let cause = cause_bound s.cause in
    let full = health_of b seat s s.cause legal.state in
    let health = small 3 s.health (omega arith) (omega arith) (omega arith) (omega arith) in
    let id = string_bound s.id in
    let out = out_bound b seat s s.cause few legal.state in
    let text : length (compact_text (snake_data b.snakes s)) ≤ 20 * length s.body + 6 * length s.id + 1800 =
    bounded _ _ _ _ (snake_is b.snakes s)
    (two (is_within (codes "{\"body\":") 8 (omega arith)) (two body (two (is_within (codes ",\"by\":") 6 (omega arith)) (two killer
    (two (is_within (codes ",\"cause\":") 9 (omega arith)) (two cause (two (is_within (codes ",\"health\":") 10 (omega arith)) (two (is_within _ _ health)
    (two (is_within (codes ",\"id\":") 6 (omega arith)) (two id (two (is_within (codes ",\"out\":") 7 (omega arith)) (two out (is_within (codes "}") 1 (omega arith))))))))))))))
    (omega arith) in
    omega (arith, length_of_snake s)

snakes_bound_from : (all : List Snake) (later : Bool) (snakes : List Snake)
    → AllByRecursion (λ s. length (compact_text (snake_data all s)) + 1 ≤ 10 * length (snake_record s) + 2000) snakes
    → length (items_text later (items_of (map (snake_data all) snakes))) ≤ 10 * length (flat_map snake_record snakes) + 2000 * length snakes + 1
snakes_bound_from all later [] each = omega arith
snakes_bound_from all later (s ∷ snakes) each =
    let one = each.0 in
    let others = snakes_bound_from all true snakes each.1 in
    let first : length (compact_text (snake_data all s)) ≤ 10 * length (snake_record s) + 1999 = omega arith in
    let rest = items_text true (items_of (map (snake_data all) snakes)) in
    let bytes = length-append (snake_record s) (flat_map snake_record snakes) in
    bounded (items_text later (items_of (map (snake_data all) (s ∷ snakes)))) (comma_if later ++ (compact_text (snake_data all s) ++ rest)) _ _ refl
    (two (is_within (comma_if later) 1 (comma_bound later)) (two (is_within (compact_text (snake_data all s)) _ first) (is_within rest _ others)))
    (omega arith)

-- ---- a board

pub board_bound : (b : Board) → IsLegal b → length (compact_text (board_data b)) ≤ 10 * length (record_of b) + 16384
board_bound b legal =
    let fits = legal_is_writable b legal in
    let turn = legal.limits.turn in
    let food = cells_bound 0 b.food (omega arith) fits.cells in
    let hazards = hazards_bound b.width b.height b.hazards legal.hazards fits.hazards in
    let most_chance = legal.limits.chance in
    let chance = small 3 b.chance (omega arith) (omega arith) (omega arith) (omega arith) in
    let high = side_fits b.height legal.limits.height in
    let height = small 2 b.height (omega arith) (omega arith) (omega arith) (omega arith) in
    let most_food = legal.food.minimum in
    let min_food = small 3 b.min_food (omega arith) (omega arith) (omega arith) (omega arith) in
    let mode = mode_bound b.mode in
    let over = boolean_bound (is_over b) in
    let each : All (λ s. length (compact_text (snake_data b.snakes s)) + 1 ≤ 10 * length (snake_record s) + 2000) b.snakes =
    λ seat d within. snake_bound b seat (get_or b.snakes seat d) turn fits.snakes (fits.snakes seat d within) (legal.snakes seat d within) in
    let snakes = snakes_bound_from b.snakes false b.snakes (recursion_from_All (λ s. length (compact_text (snake_data b.snakes s)) + 1 ≤ 10 * length (snake_record s) + 2000) b.snakes each) in
    let listed : Within (compact_text (snakes_data b.snakes)) (10 * length (flat_map snake_record b.snakes) + 2000 * length b.snakes + 2) = is_within _ _ (omega (arith, snakes)) in
    let digits = small 5 b.turn (omega arith) (omega arith) (omega arith) (omega arith) in
    let wide = side_fits b.width legal.limits.width in
    let width = small 2 b.width (omega arith) (omega arith) (omega arith) (omega arith) in
    let text : length (compact_text (board_data b)) ≤ 20 * length b.food + 10 * length (hazard_bytes b.hazards) + 10 * length (flat_map snake_record b.snakes) + 16310 =
    bounded _ _ _ _ (board_is b)
    (two
    (two (is_within (codes "{\"food\":") 8 (omega arith)) (two food (two (is_within (codes ",\"food_chance\":") 15 (omega arith)) (two (is_within _ _ chance)
    (two hazards (two (is_within (codes ",\"height\":") 10 (omega arith)) (two (is_within _ _ height) (two (is_within (codes ",\"min_food\":") 12 (omega arith)) (two (is_within _ _ min_food)
    (two (is_within (codes ",\"mode\":") 8 (omega arith)) (two mode (two (is_within (codes ",\"over\":") 8 (omega arith)) (two over (is_within (codes ",\"snakes\":") 10 (omega arith)))))))))))))))
    (two listed
    (two (is_within (codes ",\"turn\":") 8 (omega arith)) (two (is_within _ _ digits) (two (is_within (codes ",\"width\":") 9 (omega arith)) (two (is_within _ _ width) (is_within (codes "}") 1 (omega arith))))))))
    (let seats = legal.limits.few in omega arith) in
    omega (arith, length_of_record b, length-flat_map snake_record b.snakes)

-- ---- lines

pub charge_bound : (charge : ℕ) → charge < 2 ^ 32 → length (decimal charge) ≤ 10
charge_bound charge few = length-decimal-le 10 charge (omega arith) (omega (arith, few)) (omega (arith, few))

number_bound : (number : ℕ) → number < 2 ^ 64 → length (decimal number) ≤ 20
number_bound number few = length-decimal-le 20 number (omega arith) (omega (arith, few)) few

word_bound : (word : Word) → Within (compact_text (string (word_text word))) 26
word_bound word.New = is_within _ _ (let b = (string_bound (codes "new")).long in omega arith)
word_bound word.Move = is_within _ _ (let b = (string_bound (codes "move")).long in omega arith)
word_bound word.Show = is_within _ _ (let b = (string_bound (codes "show")).long in omega arith)
word_bound word.Turn = is_within _ _ (let b = (string_bound (codes "turn")).long in omega arith)
word_bound word.Free = is_within _ _ (let b = (string_bound (codes "free")).long in omega arith)
word_bound word.End = is_within _ _ (let b = (string_bound (codes "end")).long in omega arith)

code_bound : (refusal : Refusal) → Within (compact_text (string (refusal_code refusal))) 14
code_bound Unknown = is_within _ _ (let b = (string_bound (codes "G1")).long in omega arith)
code_bound NoGame = is_within _ _ (let b = (string_bound (codes "G2")).long in omega arith)
code_bound Running = is_within _ _ (let b = (string_bound (codes "G3")).long in omega arith)
code_bound Over = is_within _ _ (let b = (string_bound (codes "G4")).long in omega arith)
code_bound Limit = is_within _ _ (let b = (string_bound (codes "G5")).long in omega arith)
code_bound NoRecord = is_within _ _ (let b = (string_bound (codes "G6")).long in omega arith)
code_bound Quota = is_within _ _ (let b = (string_bound (codes "G7")).long in omega arith)

reason_bound : (refusal : Refusal) → Within (compact_text (string (refusal_text refusal))) 44
reason_bound Unknown = is_within _ _ (let b = (string_bound (codes "command")).long in omega arith)
reason_bound NoGame = is_within _ _ (let b = (string_bound (codes "none")).long in omega arith)
reason_bound Running = is_within _ _ (let b = (string_bound (codes "running")).long in omega arith)
reason_bound Over = is_within _ _ (let b = (string_bound (codes "over")).long in omega arith)
reason_bound Limit = is_within _ _ (let b = (string_bound (codes "limit")).long in omega arith)
reason_bound NoRecord = is_within _ _ (let b = (string_bound (codes "record")).long in omega arith)
reason_bound Quota = is_within _ _ (let b = (string_bound (codes "quota")).long in omega arith)

stray_code_bound : (stray : Stray) → Within (compact_text (string (stray_code stray))) 14
stray_code_bound stray.Json = is_within _ _ (let b = (string_bound (codes "L1")).long in omega arith)
stray_code_bound stray.Game = is_within _ _ (let b = (string_bound (codes "L2")).long in omega arith)
stray_code_bound stray.Long = is_within _ _ (let b = (string_bound (codes "L3")).long in omega arith)
stray_code_bound stray.BadRow = is_within _ _ (let b = (string_bound (codes "A1")).long in omega arith)
stray_code_bound stray.NameOpen = is_within _ _ (let b = (string_bound (codes "A2")).long in omega arith)
stray_code_bound stray.Full = is_within _ _ (let b = (string_bound (codes "A3")).long in omega arith)
stray_code_bound stray.Short = is_within _ _ (let b = (string_bound (codes "A4")).long in omega arith)
stray_code_bound stray.NoStay = is_within _ _ (let b = (string_bound (codes "A5")).long in omega arith)

stray_reason_bound : (stray : Stray) → Within (compact_text (string (stray_text stray))) 32
stray_reason_bound stray.Json = is_within _ _ (let b = (string_bound (codes "json")).long in omega arith)
stray_reason_bound stray.Game = is_within _ _ (let b = (string_bound (codes "game")).long in omega arith)
stray_reason_bound stray.Long = is_within _ _ (let b = (string_bound (codes "long")).long in omega arith)
stray_reason_bound stray.BadRow = is_within _ _ (let b = (string_bound (codes "admit")).long in omega arith)
stray_reason_bound stray.NameOpen = is_within _ _ (let b = (string_bound (codes "open")).long in omega arith)
stray_reason_bound stray.Full = is_within _ _ (let b = (string_bound (codes "games")).long in omega arith)
stray_reason_bound stray.Short = is_within _ _ (let b = (string_bound (codes "pool")).long in omega arith)
stray_reason_bound stray.NoStay = is_within _ _ (let b = (string_bound (codes "none")).long in omega arith)

-- with the line feed
line_of : (d : Data) (sum most : ℕ) → length (compact_text d) ≤ sum → sum + 1 ≤ most → length (text_line d) ≤ most
line_of d sum most short within = omega (arith, length-append (compact_text d) (10 ∷ []))

tail_bound : (game : List ℕ) (seq : ℕ) (word : Word) (charge : ℕ) → seq < 2 ^ 64 → length (decimal charge) ≤ 10 → length (tail_pieces game seq word charge) ≤ 6 * length game + 120
tail_bound game seq word charge few digits =
    bounded _ _ _ _ refl
    (two (is_within _ _ digits) (two (is_within (codes ",\"do\":") 6 (omega arith)) (two (word_bound word)
    (two (is_within (codes ",\"game\":") 8 (omega arith)) (two (string_bound game) (two (is_within (codes ",\"seq\":") 7 (omega arith))
    (two (is_within _ _ (number_bound seq few)) (is_within (codes "}") 1 (omega arith)))))))))
    (omega arith)

pub shown_bound : (game : List ℕ) (seq : ℕ) (word : Word) (board : Board) (charge most : ℕ) → seq < 2 ^ 64 → length (decimal charge) ≤ 10
    → length (compact_text (board_data board)) ≤ most → length (reply_line_of game seq (Shown word board charge)) ≤ 6 * length game + (most + 10) + 246
shown_bound game seq word board charge most few digits short =
    line_of _ _ _
    (bounded _ _ (6 * length game + most + 200) _ (shown_is game seq word board charge)
    (two (is_within (codes "{\"board\":") 9 (omega arith)) (two (is_within _ _ short) (two (is_within (codes ",\"charge\":") 10 (omega arith)) (is_within _ _ (tail_bound game seq word charge few digits)))))
    (omega arith))
    (omega arith)

pub plain_bound : (game : List ℕ) (seq : ℕ) (word : Word) (charge : ℕ) → seq < 2 ^ 64 → length (decimal charge) ≤ 10
    → length (reply_line_of game seq (Plain word charge)) ≤ 6 * length game + 10 + 246
plain_bound game seq word charge few digits =
    line_of _ _ _
    (bounded _ _ (6 * length game + 200) _ (plain_is game seq word charge)
    (two (is_within (codes "{\"charge\":") 10 (omega arith)) (is_within _ _ (tail_bound game seq word charge few digits))) (omega arith))
    (omega arith)

-- the line of the reply that is found
pub reply_within : (game : List ℕ) (seq : ℕ) (reply found : Reply) (bound : Option ℕ) (most parts : ℕ) → reply ≡ found → length (reply_line_of game seq found) ≤ most
    → most ≤ 6 * length game + parts + 246 → IfSome bound (λ b. b ≡ 6 * length game + parts + 246) → IfSome bound (λ b. length (reply_line_of game seq reply) ≤ b)
reply_within game seq reply found None most parts is short fits given = tt
reply_within game seq reply found (Some b) most parts is short fits given =
    let same = ap (λ r. length (reply_line_of game seq r)) is in
    omega arith

pub refused_bound : (game : List ℕ) (seq : ℕ) (refusal : Refusal) → seq < 2 ^ 64 → length (reply_line_of game seq (Refused refusal)) ≤ 6 * length game + 246
refused_bound game seq refusal few =
    line_of _ _ _
    (bounded _ _ (6 * length game + 200) _ (refused_is game seq refusal)
    (two (is_within (codes "{\"game\":") 8 (omega arith)) (two (string_bound game) (two (is_within (codes ",\"no\":") 6 (omega arith)) (two (code_bound refusal)
    (two (is_within (codes ",\"seq\":") 7 (omega arith)) (two (is_within _ _ (number_bound seq few)) (two (is_within (codes ",\"why\":") 7 (omega arith))
    (two (reason_bound refusal) (is_within (codes "}") 1 (omega arith))))))))))
    (omega arith))
    (omega arith)

pub final_bound : (game : List ℕ) (board : Option Board) (charge most : ℕ) → length (decimal charge) ≤ 10 → length (compact_text (last_data board)) ≤ most
    → length (final_line_of game board charge) ≤ 6 * length game + (most + 10) + 246
final_bound game board charge most digits short =
    line_of _ _ _
    (bounded _ _ (6 * length game + most + 200) _ (final_is game board charge)
    (two (is_within (codes "{\"board\":") 9 (omega arith)) (two (is_within _ _ short) (two (is_within (codes ",\"charge\":") 10 (omega arith))
    (two (is_within _ _ digits) (two (is_within (codes ",\"final\":true,\"game\":") 21 (omega arith)) (two (string_bound game) (is_within (codes "}") 1 (omega arith))))))))
    (omega arith))
    (omega arith)

-- where there is a bound of the line
pub final_within : (game : List ℕ) (board : Option Board) (charge : ℕ) (bound : Option ℕ) (most parts : ℕ) → length (final_line_of game board charge) ≤ most
    → most ≤ 6 * length game + parts + 246 → IfSome bound (λ b. b ≡ 6 * length game + parts + 246) → IfSome bound (λ b. length (final_line_of game board charge) ≤ b)
final_within game board charge None most parts short fits given = tt
final_within game board charge (Some b) most parts short fits given = omega arith

pub stray_bound : (line : ℕ) (stray : Stray) → line < 2 ^ 64 → length (stray_line_of line stray) ≤ 256
stray_bound line stray few =
    line_of _ _ _
    (bounded _ _ 200 _ (stray_is line stray)
    (two (is_within (codes "{\"line\":") 8 (omega arith)) (two (is_within _ _ (number_bound line few)) (two (is_within (codes ",\"no\":") 6 (omega arith)) (two (stray_code_bound stray)
    (two (is_within (codes ",\"why\":") 7 (omega arith)) (two (stray_reason_bound stray) (is_within (codes "}") 1 (omega arith))))))))
    (omega arith))
    (omega arith)
