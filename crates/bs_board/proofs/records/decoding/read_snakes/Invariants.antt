use Rattle.std.proofs.Common.{◌≡◌, ◌≤◌, ◌+◌, ◌-◌, length, vec_capacity}
use Rattle.std.specs.Str.{is_utf8}
use Rattle.bs_board.specs.inner.Decoder.{read_snake, read_many}
use Rattle.bs_board.proofs.records.Repeats.{with_front}
use Rattle.bs_board.proofs.records.decoding.read_snakes.Given as goal

-- the snakes read so far, those still to read, and room for these
abbrev pub invariant-loop : goal.invariant-loop
invariant-loop l = record {
  so_far : with_front l.snakes.items (read_many (read_snake is_utf8) (l.count - l.counter) l.rest) ≡ read_many (read_snake is_utf8) l.count l.bytes;
  room : length l.snakes.items + (l.count - l.counter) ≤ vec_capacity l.snakes;
}
