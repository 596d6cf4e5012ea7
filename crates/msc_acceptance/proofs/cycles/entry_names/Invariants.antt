use Rattle.std.proofs.Common.{◌≡◌, [], drop, map, fold}
use Rattle.msc_base.specs.NameTables.{with_name}
use Rattle.msc_meaning.specs.declared.body.ChartEntry.{ChartEntry}
use Rattle.msc_acceptance.proofs.cycles.entry_names.Given as goal

abbrev pub invariant-loop-entry : goal.invariant-loop-entry
invariant-loop-entry l = fold with_name l.names (map (λ (x : ChartEntry). x.name) (drop l.entry-index l.entries)) ≡ fold with_name [] (map (λ (x : ChartEntry). x.name) l.entries)
