-- `test_sealed::sealed_enter_each` meets its contract. The invariant: the transactions so far are entered, and the iterator has the bytes behind them. Assumes nothing.
use Rattle.std.proofs.Common.{◌≡◌, ◌≤◌, ◌*◌, length, drop}
use Rattle.std.specs.Slice.Iter.{chunks_exact_rest, chunks_exact_size}
use Rattle.transaction.specs.Transaction.{max_text}
use Rattle.test_sealed.specs.Boundary.{entered_to}
use Rattle.test_sealed.proofs.sealed_enter_each.Given as goal

abbrev pub invariant-loop-bytes : goal.invariant-loop-bytes
invariant-loop-bytes l = record {
  size : chunks_exact_size l.bytes-iterator ≡ max_text;
  fits : max_text * length l.yielded ≤ length l.s;
  rest : chunks_exact_rest l.bytes-iterator ≡ drop (max_text * length l.yielded) l.s;
  table : l.t ≡ entered_to l.initial.t l.s l.lane l.number (length l.yielded);
}
