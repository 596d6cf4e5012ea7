use Rattle.std.proofs.Common.{◌≡◌, ◌+◌, ◌↔◌, ℕ, List, [], true, false, get_or, sym, subst, ◌∙◌}
use Rattle.std.proofs.lemmas.List.{get_or_default}
use Rattle.bit_sets.specs.Blocks.{HasBitsOfBoth, has_bit}
use Rattle.chart_links.proofs.RowFacts.{IsGatheredBelow, gather_more, gather_not, gathered_end, gathered_start}
use Rattle.chart_links.proofs.rows.gathered.Goals as goal
use Rattle.chart_links.proofs.rows.gathered.Goals.{then-has+in_ok-unite, else-has}

pub loop-middle-init : goal.loop-middle-init
loop-middle-init c = gathered_start c.args.first.now c.args.sets.now c.new-row.result c.new-row.ensures

pub loop-middle-preserved : goal.loop-middle-preserved
loop-middle-preserved c =
    let first = c.args.first.now in
    let sets = c.args.sets.now in
    let k = c.loop-middle.middle in
    elim c.if-has.branch [
      | then-has+in_ok-unite w ↦
          let set : w.index-sets-middle.result ≡ get_or sets k [] = w.index-sets-middle.is ∙ get_or_default sets k w.index-sets-middle.result [] c.loop-middle-test.true in
          let united : HasBitsOfBoth c.loop-middle.row (get_or sets k []) w.unite.new.self = subst (λ (l : List ℕ). HasBitsOfBoth c.loop-middle.row l w.unite.new.self) set w.in_ok-unite.ensures in
          let leads : has_bit first k ≡ true = sym c.has.ensures ∙ w.if-has.true in
          subst (λ (l : List ℕ). (n : ℕ) → (has_bit l n ≡ true) ↔ IsGatheredBelow (k + 1) first sets n) (sym w.row-is) (gather_more first sets k c.loop-middle.row c.loop-middle.invariant w.unite.new.self united leads)
      | else-has w ↦
          let lacks : has_bit first k ≡ false = sym c.has.ensures ∙ w.if-has.false in
          subst (λ (l : List ℕ). (n : ℕ) → (has_bit l n ≡ true) ↔ IsGatheredBelow (k + 1) first sets n) (sym w.row-is) (gather_not first sets k c.loop-middle.row c.loop-middle.invariant lacks)
    ]

pub returns : goal.returns
returns c = gathered_end c.args.first.now c.args.sets.now c.loop-middle.middle c.loop-middle.row c.loop-middle-test.false c.loop-middle.invariant
