use Rattle.std.proofs.Common.{◌≡◌, take, map, true}
use Rattle.std.specs.List.{list_all}
use Rattle.serde_json.specs.View.{view}
use Rattle.msc_tree.specs.declared.chart.Decl.{Decl}
use Rattle.judge_report.specs.Lists.{instance_data}
use Rattle.judge_report.specs.Texts.{needs_no_escape}
use Rattle.judge_report.proofs.lists.instance_values.Given as goal

abbrev pub invariant-loop-decl : goal.invariant-loop-decl
invariant-loop-decl l = record {
  values : map view l.values.items ≡ map instance_data (take l.decl-index l.listed);
  plain : list_all (λ (x : Decl). needs_no_escape x.name) (take l.decl-index l.listed) ≡ true;
}
