use Rattle.std.proofs.Common.{rules, ℕ, ap, ◌≡◌, length, length-append, ◌+◌, ◌++◌, ◌∷◌, ◌∙◌, [], List, subst, sym}
use Rattle.std.specs.Vec.Iter.{into_iter_items}
use Rattle.msc_instances.specs.Instances.{instances}
use Rattle.msc_meaning.specs.Views.{table_view}
use Rattle.msc_meaning.specs.WovenTables.{AreEntriesOf, no_entries}
use Rattle.msc_meaning.specs.declared.body.ChartEntry as code
use Rattle.msc_acceptance.proofs.ChartLists.{own_of}
use Rattle.msc_acceptance.proofs.TableLaws.{AreWovenSoFar, faults_all, faults_start, made_all, woven_more}
use Rattle.msc_acceptance.proofs.Taking.{all_taken, left_less, next_is, next_low, taken, taken_more}
use Rattle.msc_acceptance.proofs.WalkLaws.{chart_formed}
use Rattle.msc_acceptance.proofs.tables.woven_charts.Goals as goal

pub loop-chart-init : goal.loop-chart-init
loop-chart-init c = record {
  split = c.into_iter-chart-iterator.ensures.into_iter_gives.0;
  left = search rules;
  number = search rules;
  woven = record {
    faults = faults_start c.args.charts.items c.barring.result (record {
      crossed = c.barring.ensures.crossed;
      alone = c.barring.ensures.alone;
      unknown = c.barring.ensures.unknown;
      twice = c.barring.ensures.twice;
    });
    made = λ w. subst (λ (xs : List code.ChartEntry). AreEntriesOf instances [] (table_view xs)) (sym c.new.ensures.items) no_entries;
  };
}

pub woven-requires-clause-names : goal.woven-requires-clause-names
woven-requires-clause-names c =
    let k = length c.loop-chart.yielded in
    let x = c.in-Some.chart in
    let split = taken c.loop-chart.yielded _ _ c.args.charts.items x c.in-Some.ensures.steps.0 c.loop-chart.invariant.split in
    own_of instances c.args.charts.items c.args.lists.now k c.loop-chart.number x c.index-lists-number.result c.index-lists-number.result c.requires.lists c.loop-chart.invariant.number
    (next_low c.loop-chart.yielded _ c.args.charts.items x split) (next_is c.loop-chart.yielded _ c.args.charts.items x split) c.index-lists-number.is

pub woven-requires-clause-formed : goal.woven-requires-clause-formed
woven-requires-clause-formed c =
    let k = length c.loop-chart.yielded in
    let x = c.in-Some.chart in
    let split = taken c.loop-chart.yielded _ _ c.args.charts.items x c.in-Some.ensures.steps.0 c.loop-chart.invariant.split in
    chart_formed c.args.charts.items k x c.requires.formed (next_low c.loop-chart.yielded _ c.args.charts.items x split) (next_is c.loop-chart.yielded _ c.args.charts.items x split)

pub loop-chart-preserved : goal.loop-chart-preserved
loop-chart-preserved c =
    let list = c.args.charts.items in
    let at = c.loop-chart in
    let x = c.in-Some.chart in
    let k = length at.yielded in
    let steps = c.in-Some.ensures.steps in
    let split = taken at.yielded _ _ list x steps.0 at.invariant.split in
    let more : length (at.yielded ++ x ∷ []) ≡ k + 1 = length-append at.yielded (x ∷ []) in
    record {
      split = taken_more at.yielded _ _ list x steps.0 at.invariant.split;
      left = left_less _ _ _ _ x steps.0 at.invariant.left steps.1;
      number = ap (λ (n : ℕ). n + 1) at.invariant.number ∙ sym more;
      woven = subst (λ (n : ℕ). AreWovenSoFar list n c.take_in.new.made) (sym more)
          (woven_more list k x c.in_ok-one.one at.made c.take_in.new.made (next_low at.yielded _ list x split) (next_is at.yielded _ list x split) c.in_ok-one.ensures (search rules) at.invariant.woven);
    }

pub returns : goal.returns
returns c =
    let at = c.loop-chart in
    let none : length (into_iter_items at.chart-iterator) ≡ 0 = sym at.invariant.left ∙ c.in-None.ensures.steps.0 in
    let ended = all_taken at.yielded _ c.args.charts.items at.invariant.split none in
    let made = made_all c.args.charts.items at.made.faults at.made.entries.items (length at.yielded) ended at.invariant.woven.made in
    record {
      faults = faults_all c.args.charts.items (length at.yielded) at.made.faults ended at.invariant.woven.faults;
      entries = made;
    }
