use Rattle.std.proofs.Common.{◌≡◌, ◌∙◌, false, ap, sym}
use Rattle.term_sets.specs.Memories.{PoolValue, held_set}
use Rattle.term_sets.specs.Serving.{pool_serving}
use Rattle.term_sets.proofs.Gathering.{step_next, step_residuals}
use Rattle.term_sets.proofs.PoolStepping.{found_next, found_set, moved_residuals, gathered_of}
use Rattle.term_sets.proofs.pool.PoolStore.step.Goals as goal

pub returns-in-Some-clause-residuals : goal.returns-in-Some-clause-residuals
returns-in-Some-clause-residuals c = λ x labels r a q.
    moved_residuals c.args.nets.now a c.args.self.now c.enter.new.self c.args.number c.in-Some.next c.requires.serves q c.in-Some.ensures c.enter.ensures x labels r

pub returns-in_err-turn_to-in-Some-2-clause-serves : goal.returns-in_err-turn_to-in-Some-2-clause-serves
returns-in_err-turn_to-in-Some-2-clause-serves c =
    let v = c.args.nets.now in
    let s = held_set c.args.self.now in
    let j = gathered_of v c.requires.number.label s c.self.inside.budget c.set.result.now c.in-Some-2.found _ (ap (λ (p : PoolValue). p.budget) c.self.view_is) c.set.ensures c.in-Some-2.is (c.in_ok-found.ensures.found c.requires.number.label c.requires.number.is) in
    let rising = rw c.in-Some-2.is at c.in_ok-found.ensures.rising in
    c.turn_to.ensures.serves v c.requires.serves (found_set v c.requires.number.label s c.in-Some-2.found (pool_serving c.args.self.now v c.requires.serves) j rising) (found_next v c.requires.number.label s c.in-Some-2.found (pool_serving c.args.self.now v c.requires.serves) j rising c.args.number c.requires.number.is)

pub returns-in_ok-turn_to-in-Some-2-clause-serves : goal.returns-in_ok-turn_to-in-Some-2-clause-serves
returns-in_ok-turn_to-in-Some-2-clause-serves c =
    let v = c.args.nets.now in
    let s = held_set c.args.self.now in
    let j = gathered_of v c.requires.number.label s c.self.inside.budget c.set.result.now c.in-Some-2.found _ (ap (λ (p : PoolValue). p.budget) c.self.view_is) c.set.ensures c.in-Some-2.is (c.in_ok-found.ensures.found c.requires.number.label c.requires.number.is) in
    let rising = rw c.in-Some-2.is at c.in_ok-found.ensures.rising in
    c.turn_to.ensures.serves v c.requires.serves (found_set v c.requires.number.label s c.in-Some-2.found (pool_serving c.args.self.now v c.requires.serves) j rising) (found_next v c.requires.number.label s c.in-Some-2.found (pool_serving c.args.self.now v c.requires.serves) j rising c.args.number c.requires.number.is)

pub returns-in_ok-turn_to-in-Some-2-clause-set : goal.returns-in_ok-turn_to-in-Some-2-clause-set
returns-in_ok-turn_to-in-Some-2-clause-set c = λ a q.
    let v = c.args.nets.now in
    let s = held_set c.args.self.now in
    let j = gathered_of v a s c.self.inside.budget c.set.result.now c.in-Some-2.found _ (ap (λ (p : PoolValue). p.budget) c.self.view_is) c.set.ensures c.in-Some-2.is (c.in_ok-found.ensures.found a q) in
    let rising = rw c.in-Some-2.is at c.in_ok-found.ensures.rising in
    let small : c.args.self.now.too_large ≡ false = ap (λ (p : PoolValue). p.too_large) (sym c.self.view_is) ∙ c.if-self.false in
    step_next v a s (held_set c.turn_to.new.self) c.in-Some-2.found (pool_serving c.args.self.now v c.requires.serves) j c.in_ok-turn_to-in-Some-2.ensures.ok rising small

pub returns-in_ok-turn_to-in-Some-2-clause-residuals : goal.returns-in_ok-turn_to-in-Some-2-clause-residuals
returns-in_ok-turn_to-in-Some-2-clause-residuals c = λ x labels r a q.
    let v = c.args.nets.now in
    let s = held_set c.args.self.now in
    let j = gathered_of v a s c.self.inside.budget c.set.result.now c.in-Some-2.found _ (ap (λ (p : PoolValue). p.budget) c.self.view_is) c.set.ensures c.in-Some-2.is (c.in_ok-found.ensures.found a q) in
    let rising = rw c.in-Some-2.is at c.in_ok-found.ensures.rising in
    let small : c.args.self.now.too_large ≡ false = ap (λ (p : PoolValue). p.too_large) (sym c.self.view_is) ∙ c.if-self.false in
    step_residuals v a s (held_set c.turn_to.new.self) c.in-Some-2.found (pool_serving c.args.self.now v c.requires.serves) j c.in_ok-turn_to-in-Some-2.ensures.ok rising small x labels r
