use Rattle.std.proofs.Common.{◌≡◌, ◌∙◌, ℕ, List, Option, Some, sym, subst, ap}
use Rattle.std.specs.List.{position}
use Rattle.std.specs.Option.{option_copied}
use Rattle.std.specs.Str.{bytes_eq}
use Rattle.label_table.specs.Labels.{label_number}
use Rattle.msc_base.specs.NameTables.{with_name}
use Rattle.msc_base.specs.declared.label.Label.{Label}
use Rattle.msc_unfolding.specs.Unfoldings.{Happening}
use Rattle.msc_meaning.specs.FarEnds.{happening}
use Rattle.msc_meaning.specs.Views.{node_view}
use Rattle.expanded_charts.specs.Expanding.{NumberedEvent}
use Rattle.level_surroundings.specs.Givens.{around_view}
use Rattle.expanded_charts.specs.Making.{IsNumbered, IsSecond}
use Rattle.expanded_charts.specs.Numbering.{with_event, with_label, with_second}
use Rattle.expanded_charts.specs.declared.numbering.Numbering.{Numbering}
use Rattle.expanded_charts.proofs.Numbers.{is_numbered}
use Rattle.expanded_charts.proofs.events.numbered.Goals as goal

pub returns : goal.returns
returns c =
    let h : Happening = happening c.args.level.called.now.ends (around_view c.args.level.given) (node_view c.args.node.now) in
    let e : NumberedEvent = record { number = c.args.number; happening = h } in
    let old : Numbering = c.args.numbering.now in
    let said : c.in_ok-label.label ≡ h.label = c.in_ok-label.ensures in
    let first : c.number_name.new.names ≡ with_name old.names h.label.at = c.in_ok-at.ensures.names in
    let child : option_copied c.created.result ≡ h.also = c.created.ensures in
    let names : c.number_second.new.names ≡ with_second (with_name old.names h.label.at) h.also = c.in_ok-also.ensures.names ∙ (ap (with_second c.number_name.new.names) child ∙ ap (λ (l : List (List ℕ)). with_second l h.also) first) in
    let labels : c.number_label.new.labels ≡ with_label old.labels h.label = c.in_ok-label-2.ensures.labels ∙ ap (with_label old.labels) said in
    let one : position (bytes_eq h.label.at) (with_name old.names h.label.at) ≡ Some c.in_ok-at.at = ap (position (bytes_eq h.label.at)) (sym first) ∙ c.in_ok-at.ensures.number in
    let two : IsSecond (with_second (with_name old.names h.label.at) h.also) h.also c.in_ok-also.also =
    subst (λ (l : List (List ℕ)). IsSecond l h.also c.in_ok-also.also) names (subst (λ (o : Option (List ℕ)). IsSecond c.number_second.new.names o c.in_ok-also.also) child c.in_ok-also.ensures.number) in
    let labelled : label_number (with_label old.labels h.label) h.label ≡ Some c.in_ok-label-2.label =
    ap (λ (l : List Label). label_number l h.label) (sym labels) ∙ (ap (label_number c.number_label.new.labels) (sym said) ∙ c.in_ok-label-2.ensures.number) in
    let new : with_event old e ≡ record { names = c.number_second.new.names; labels = c.number_label.new.labels } =
    ap (λ (l : List (List ℕ)). let s : Numbering = record { names = l; labels = with_label old.labels h.label } in s) (sym names) ∙ ap (λ (l : List Label). let s : Numbering = record { names = c.number_second.new.names; labels = l } in s) (sym labels) in
    subst (λ (s : Numbering). IsNumbered old s e c.event_at.result) new (is_numbered old e c.in_ok-at.at c.in_ok-label-2.label c.in_ok-also.also c.event_at.result one two labelled c.event_at.ensures)
