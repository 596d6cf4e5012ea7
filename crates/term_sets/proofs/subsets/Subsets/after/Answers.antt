use Rattle.std.proofs.Common.{◌≡◌, ◌-◌, ◌/◌, ℕ, List, length, refl, ap, sym, ◌∙◌, subst, arith}
use Rattle.std.proofs.lemmas.List.Sorted.{length_permutation}
use Rattle.chart_term.specs.NormalForms.{begun}
use Rattle.chart_term.specs.Terms.{Tree}
use Rattle.chart_term.proofs.Turns.{begun-length}
use Rattle.term_sets.specs.Subsets.{AreAllTaken, AreBits, AreSubsets, IsSideBySide, all_spelled, side_by_side, weight_of_size}
use Rattle.term_sets.specs.Words.{IsEachLeft}
use Rattle.term_sets.proofs.Sorting.{sorted_different, sorted_from, sorted_has}
use Rattle.term_sets.proofs.Stepping.{all_taken, too_many, words_left}
use Rattle.term_sets.proofs.subsets.Subsets.after.Goals as goal

pub bits_of-requires-clause-few : goal.bits_of-requires-clause-few
bits_of-requires-clause-few c =
    let e : length (begun c.parts_of.result.now) ≡ length (side_by_side c.self.inside.whole) = ap length c.parts_of.ensures.parts in
    let l = begun-length c.parts_of.result.now c.parts_of.ensures.turns in
    let f = c.self.invariant.1.few in
    omega (arith, e, l, f)

pub returns-then-not-branch : goal.returns-then-not-branch
returns-then-not-branch c =
    let events = side_by_side c.self.inside.whole in
    let words = c.self.inside.words.items in
    let bits = c.in_ok-bits.bits.items in
    let old = c.new-found.result in
    let new = c.take_all.new.self in
    let all = c.in_ok-take_all.field-0 in
    let b = subst (λ (l : List Tree). AreBits l c.args.label bits) c.parts_of.ensures.parts c.in_ok-bits.ensures in
    let r : IsEachLeft bits words old new all = subst (λ (l : List ℕ). IsEachLeft l words old new all) c.as_slice-2.ensures.value (subst (λ (l : List ℕ). IsEachLeft c.as_slice-2.result.now l old new all) c.as_slice.ensures.value c.in_ok-take_all.ensures) in
    let room : old.room ≡ c.args.most / weight_of_size (c.self.inside.size - 1) = c.new-found.ensures.room ∙ ap (λ (n : ℕ). c.args.most / n) (c.weight_of.ensures ∙ ap weight_of_size c.saturating_sub-size.ensures) in
    too_many events c.self.inside.size c.args.label words bits c.args.self.now c.self.invariant.1 c.self.view_is b old new all r new.list.items (λ v i. i) (λ v i. i) r.are.different c.args.most old.room room r.room c.if-not-branch.true refl

pub invariant_of-result : goal.invariant_of-result
invariant_of-result c =
    let events = side_by_side c.self.inside.whole in
    let words = c.self.inside.words.items in
    let bits = c.in_ok-bits.bits.items in
    let old = c.new-found.result in
    let new = c.take_all.new.self in
    let all = c.in_ok-take_all.field-0 in
    let b = subst (λ (l : List Tree). AreBits l c.args.label bits) c.parts_of.ensures.parts c.in_ok-bits.ensures in
    let r : IsEachLeft bits words old new all = subst (λ (l : List ℕ). IsEachLeft l words old new all) c.as_slice-2.ensures.value (subst (λ (l : List ℕ). IsEachLeft c.as_slice-2.result.now l old new all) c.as_slice.ensures.value c.in_ok-take_all.ensures) in
    let list = c.sort_unstable.new.self.items in
    let held = words_left events c.self.inside.size c.args.label words bits c.args.self.now c.self.invariant.1 c.self.view_is b old new all r list (sorted_from new.list.items list c.sort_unstable.ensures.permutation) (sorted_different new.list.items list c.sort_unstable.ensures.permutation r.are.different) in (
      subst IsSideBySide (sym c.in_ok-copy.ensures) c.self.invariant.0,
      subst (λ (n : ℕ). AreSubsets (side_by_side c.in_ok-copy.field-0) n list) (sym c.saturating_sub-size.ensures) (subst (λ (x : Tree). AreSubsets (side_by_side x) (c.self.inside.size - 1) list) (sym c.in_ok-copy.ensures) held),
    )

pub returns : goal.returns
returns c =
    let events = side_by_side c.self.inside.whole in
    let words = c.self.inside.words.items in
    let bits = c.in_ok-bits.bits.items in
    let old = c.new-found.result in
    let new = c.take_all.new.self in
    let all = c.in_ok-take_all.field-0 in
    let b = subst (λ (l : List Tree). AreBits l c.args.label bits) c.parts_of.ensures.parts c.in_ok-bits.ensures in
    let r : IsEachLeft bits words old new all = subst (λ (l : List ℕ). IsEachLeft l words old new all) c.as_slice-2.ensures.value (subst (λ (l : List ℕ). IsEachLeft c.as_slice-2.result.now l old new all) c.as_slice.ensures.value c.in_ok-take_all.ensures) in
    let room : old.room ≡ c.args.most / weight_of_size (c.self.inside.size - 1) = c.new-found.ensures.room ∙ ap (λ (n : ℕ). c.args.most / n) (c.weight_of.ensures ∙ ap weight_of_size c.saturating_sub-size.ensures) in
    let list = c.sort_unstable.new.self.items in
    let moved = c.sort_unstable.ensures.permutation in
    λ k. subst (λ (x : Tree). AreAllTaken k c.args.label c.args.self.now c.args.most (all_spelled (side_by_side x) list)) (sym c.in_ok-copy.ensures)
    (all_taken events c.self.inside.size c.args.label words bits c.args.self.now c.self.invariant.1 c.self.view_is b old new all r list (sorted_from new.list.items list moved) (sorted_has new.list.items list moved) (sorted_different new.list.items list moved r.are.different) c.args.most old.room room r.room c.if-not-branch.false (length_permutation new.list.items list moved) k)
