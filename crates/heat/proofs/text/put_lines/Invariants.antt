-- `heat::text::put_lines` meets its contract. The invariant: the lines of the meters so far stand over the start of the buffer, and are not too long.
-- Assumes nothing.
use Rattle.heat.specs.Text.{line_max, lines_in}
use Rattle.octets.specs.Lists.{over}
use Rattle.std.proofs.Common.{◌≡◌, ◌≤◌, ◌*◌, length}
use Rattle.heat.proofs.text.put_lines.Given as goal

abbrev pub invariant-loop-m : goal.invariant-loop-m
invariant-loop-m l = record {
  len : l.at ≡ length (lines_in l.uses.each l.shares.each l.m);
  small : l.at ≤ line_max * l.m;
  bytes : l.out ≡ over (lines_in l.uses.each l.shares.each l.m) l.initial.out;
}
