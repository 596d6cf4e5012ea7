use Rattle.std.proofs.Common.{◌≡◌, List, [], drop, fold, map, sym, ap, ◌∙◌, arith}
use Rattle.list_facts.proofs.Reading.{drop_end}
use Rattle.msc_base.proofs.NameFacts.{different_kept}
use Rattle.msc_base.specs.NameTables.{with_name}
use Rattle.msc_meaning.specs.declared.body.ChartEntry.{ChartEntry}
use Rattle.msc_acceptance.proofs.cycles.entry_names.Goals as goal

pub returns : goal.returns
returns c =
    let list = c.args.entries.now in
    let none : drop c.loop-entry.entry-index list ≡ [] = drop_end list c.loop-entry.entry-index (λ lt. omega (arith, lt, c.loop-entry-test.false)) in
    sym (ap (λ (l : List ChartEntry). fold with_name c.loop-entry.names (map (λ (x : ChartEntry). x.name) l)) none) ∙ c.loop-entry.invariant ∙ different_kept (map (λ (x : ChartEntry). x.name) list) c.requires
