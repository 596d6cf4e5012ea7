use Rattle.std.proofs.Common.{◌+◌, List, drop, subst}
use Rattle.std.proofs.lemmas.List.{drop_all}
use Rattle.list_facts.proofs.Reading.{drop_read}
use Rattle.msc_base.specs.declared.label.Label.{Label}
use Rattle.chart_choices.proofs.Instances.{AreLeft, labels_end, labels_start, labels_step}
use Rattle.chart_choices.proofs.makers.add_instances.Goals as goal

pub loop-label-init : goal.loop-label-init
loop-label-init c = labels_start c.args.labels.now c.args.makers.now.keys c.requires

pub loop-label-preserved : goal.loop-label-preserved
loop-label-preserved c =
    let all = c.args.labels.now in
    let old = c.args.makers.now.keys in
    let i = c.loop-label.label-index in
    let one = drop_read all i c.label-item.result c.loop-label-test.true c.label-item.is in
    labels_step all old c.label-item.result (drop (i + 1) all) c.loop-label.makers.keys c.add_instance.new.makers.keys
    (subst (λ (ls : List Label). AreLeft all old ls c.loop-label.makers.keys) one c.loop-label.invariant) c.in_ok-add_instance.ensures

pub returns : goal.returns
returns c =
    let all = c.args.labels.now in
    let old = c.args.makers.now.keys in
    let none = drop_all c.loop-label.label-index all c.loop-label-test.false in
    labels_end all old c.loop-label.makers.keys (subst (λ (ls : List Label). AreLeft all old ls c.loop-label.makers.keys) none c.loop-label.invariant)
