-- What was read so far is the front of the first line.
use Rattle.std.proofs.Common.{◌≢◌, ◌≤◌, length, All}
use Rattle.std.specs.Io.KnownBytes.{Consumes}
use Rattle.console.proofs.read_line.Given as goal

abbrev pub invariant-loop : goal.invariant-loop
invariant-loop g l = record {
  read : Consumes (g.R.Read.remaining l.initial.input) (g.R.Read.remaining l.input) l.line.items;
  no_end : All (λ byte. byte ≢ 10) l.line.items;
  few : length l.line.items ≤ 65536;
}
