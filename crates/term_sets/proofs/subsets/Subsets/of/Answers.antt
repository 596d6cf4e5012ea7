use Rattle.std.proofs.Common.{ℕ, List, ◌∷◌, ◌++◌, ◌≡◌, ◌+◌, ◌^◌, ◌<◌, ◌≤◌, [], length, arith, ap, sym, ◌∙◌}
use Rattle.std.proofs.lemmas.Bool.Decides.{nat_tests}
use Rattle.chart_term.specs.NormalForms.{begun}
use Rattle.chart_term.proofs.Turns.{begun-length}
use Rattle.term_sets.proofs.Holding.{alone_holds, held_alone}
use Rattle.term_sets.proofs.subsets.Subsets.of.Goals as goal

pub invariant_of-result : goal.invariant_of-result
invariant_of-result c =
    let s = rw c.in-Par.is at c.look.ensures in
    let events = begun c.in-Par.parts.now in
    let x = c.in_ok-copy.field-0 in
    let w = c.all_bits.result in
    let long : c.len-count.result ≡ length events = c.len-count.ensures ∙ sym (begun-length c.in-Par.parts.now s.1) in
    let many : 1 < length events = grind (arith, nat_tests, long, c.if-count-lt2.false) in
    let few : length events ≤ 64 = grind (arith, nat_tests, long, c.if-count-gt-EVENTS.false) in
    let all : w + 1 ≡ 2 ^ length events = c.all_bits.ensures ∙ ap (λ (n : ℕ). 2 ^ n) long in
    let words : c.push.new.self.items ≡ w ∷ [] = c.in_ok-push.ensures.items ∙ ap (λ (l : List ℕ). l ++ w ∷ []) c.in_ok-words.ensures.items in
    let is = c.in_ok-copy.ensures ∙ s.0 in
    ((_, is), alone_holds x events w is many all c.len-count.result c.push.new.self.items words long few (c.are_events.ensures c.if-not-are_events.false) (c.are_apart.ensures c.if-not-are_apart.false))

pub returns : goal.returns
returns c =
    let s = rw c.in-Par.is at c.look.ensures in
    let events = begun c.in-Par.parts.now in
    let x = c.in_ok-copy.field-0 in
    let w = c.all_bits.result in
    let long : c.len-count.result ≡ length events = c.len-count.ensures ∙ sym (begun-length c.in-Par.parts.now s.1) in
    let many : 1 < length events = grind (arith, nat_tests, long, c.if-count-lt2.false) in
    let all : w + 1 ≡ 2 ^ length events = c.all_bits.ensures ∙ ap (λ (n : ℕ). 2 ^ n) long in
    let words : c.push.new.self.items ≡ w ∷ [] = c.in_ok-push.ensures.items ∙ ap (λ (l : List ℕ). l ++ w ∷ []) c.in_ok-words.ensures.items in
    held_alone x events w (c.in_ok-copy.ensures ∙ s.0) many all c.push.new.self.items words ∙ ap (λ y. y ∷ []) c.in_ok-copy.ensures
