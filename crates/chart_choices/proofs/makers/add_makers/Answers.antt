use Rattle.std.proofs.Common.{[], ◌∷◌, List, refl, subst, sym}
use Rattle.std.proofs.lemmas.Result.{on_ok_weaker}
use Rattle.msc_base.specs.declared.label.Label.{Label}
use Rattle.chart_term.specs.Terms.{Tree}
use Rattle.next_labels.specs.NextLabels.{AreNextLabels}
use Rattle.expansion_tree.specs.Views.{expansion_view}
use Rattle.chart_choices.specs.declared.tables.TermTables.{TermTables}
use Rattle.chart_choices.proofs.PartMakers.{makers_added}
use Rattle.chart_choices.proofs.makers.add_makers.Goals as goal

pub returns : goal.returns
returns c =
    let s = c.args.tables.now in
    let t : TermTables = record { names = s.names; nets = c.term_of.new.nets } in
    let x = c.in_ok-term.term in
    let labels = c.as_slice.result.now in
    let next : AreNextLabels t.nets (x ∷ []) labels =
    subst (λ (ls : List Label). AreNextLabels t.nets (x ∷ []) ls) (sym c.as_slice.ensures) (subst (λ (xs : List Tree). AreNextLabels t.nets xs c.in_ok-labels.labels) c.in_ok-set.ensures c.in_ok-labels.ensures) in
    on_ok_weaker c.add_instances.result
    (makers_added s t (expansion_view c.args.part.now) x labels c.args.makers.now.keys c.add_instances.new.makers.keys c.requires.ready c.requires.judged refl c.in_ok-term.ensures.tables c.in_ok-term.ensures.term c.in_ok-term.ensures.ready_tables next)
    c.add_instances.ensures
