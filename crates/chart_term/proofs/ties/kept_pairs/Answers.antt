use Rattle.std.proofs.Common.{Bool, List, ◌≡◌, ◌&&◌, ◌∙◌, ap, refl, get_or}
use Rattle.std.specs.BTreeSet.{contains}
use Rattle.std.proofs.lemmas.List.{get_or_default}
use Rattle.msc_base.specs.declared.label.Pair.{Pair}
use Rattle.chart_term.specs.NormalForms.{numbers}
use Rattle.chart_term.specs.Order.{pair_cmp}
use Rattle.chart_term.specs.Views.{pair_of, pairs_of}
use Rattle.chart_term.proofs.Binds.{pair_kept, pair_dropped, pair_seen}
use Rattle.chart_term.proofs.ties.kept_pairs.Goals as goal
use Rattle.chart_term.proofs.ties.kept_pairs.Goals.{then-occurs-new+in_ok-push, else-occurs-new}

pub loop-pair-preserved : goal.loop-pair-preserved
loop-pair-preserved c =
    let none : Pair = record { first = 0; second = 0 } in
    let xs : List Pair = c.as_slice-pair-items.result.now in
    let x : Pair = get_or xs c.loop-pair.pair-index none in
    let is : x ≡ get_or xs c.loop-pair.pair-index x = get_or_default xs c.loop-pair.pair-index none x c.loop-pair-test.true in
    let keep : Bool = (c.has_number.result && c.has_number-in-loop-pair.result) && c.in_ok-new.new in
    record {
      kept = elim c.if-occurs-new.branch [
        | then-occurs-new+in_ok-push w ↦
            pair_kept (numbers c.args.term.now) xs c.loop-pair.pair-index x c.loop-pair.kept c.if-occurs-new.kept c.has_number.result c.has_number-in-loop-pair.result c.in_ok-new.new (contains pair_cmp c.loop-pair.seen (pair_of x)) keep
            c.loop-pair-test.true is c.has_number.ensures c.has_number-in-loop-pair.ensures c.in_ok-new.ensures.added (c.loop-pair.invariant.seen (pair_of x)) refl c.loop-pair.invariant.kept w.if-occurs-new.true (w.kept-is ∙ w.in_ok-push.ensures.ok)
        | else-occurs-new w ↦
            ap pairs_of w.kept-is ∙ pair_dropped (numbers c.args.term.now) xs c.loop-pair.pair-index x c.loop-pair.kept c.has_number.result c.has_number-in-loop-pair.result c.in_ok-new.new (contains pair_cmp c.loop-pair.seen (pair_of x)) keep
            c.loop-pair-test.true is c.has_number.ensures c.has_number-in-loop-pair.ensures c.in_ok-new.ensures.added (c.loop-pair.invariant.seen (pair_of x)) refl c.loop-pair.invariant.kept w.if-occurs-new.false
      ];
      seen = λ r. pair_seen xs c.loop-pair.pair-index x r (contains pair_cmp c.loop-pair.seen r) (contains pair_cmp c.insert.new.self r) c.loop-pair-test.true is (c.in_ok-new.ensures.updates.0 r) (c.loop-pair.invariant.seen r);
    }
