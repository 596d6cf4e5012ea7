use Rattle.std.proofs.Common.{◌≡◌, drop}
use Rattle.outside.specs.Entries.{file_at}
use Rattle.outside.proofs.entry.find.Given as goal

abbrev pub invariant-loop-entry : goal.invariant-loop-entry
invariant-loop-entry l = file_at (drop l.entry-index l.entries) l.name ≡ file_at l.entries l.name
