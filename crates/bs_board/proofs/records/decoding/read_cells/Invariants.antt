use Rattle.std.proofs.Common.{◌≡◌, ◌≤◌, ◌+◌, ◌-◌, length, vec_capacity}
use Rattle.bs_board.specs.inner.Decoder.{read_cell, read_many}
use Rattle.bs_board.proofs.records.Repeats.{with_front}
use Rattle.bs_board.proofs.records.decoding.read_cells.Given as goal

-- the cells read so far, those still to read, and room for these
abbrev pub invariant-loop : goal.invariant-loop
invariant-loop l = record {
  so_far : with_front l.cells.items (read_many (read_cell l.raised) (l.count - l.counter) l.rest) ≡ read_many (read_cell l.raised) l.count l.bytes;
  room : length l.cells.items + (l.count - l.counter) ≤ vec_capacity l.cells;
}
