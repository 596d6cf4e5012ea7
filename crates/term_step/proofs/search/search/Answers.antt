use Rattle.std.proofs.Common.{◌≡◌, ℕ, [], List, refl, sym, ◌∙◌, subst, arith}
use Rattle.std.proofs.lemmas.List.{nil_from_length}
use Rattle.term_step.specs.Searches.{AreReadyFrames}
use Rattle.term_step.specs.declared.ascent.Frame.{Frame}
use Rattle.term_step.proofs.ChildReady.{child-good}
use Rattle.term_step.proofs.KeptNumbers.{linked_searched}
use Rattle.term_step.proofs.Placed.{placed-down, placed-start, placed-up}
use Rattle.term_step.proofs.Rebuilding.{front-ready}
use Rattle.term_step.proofs.Searching.{state-start, state-down, state-cut, state-end, state-up, IsState}
use Rattle.term_step.proofs.Visits.{visits-down, visits-up, ranked-down, ranked-up, ranked-length}
use Rattle.term_laws.proofs.Measures.{rank_in}
use Rattle.term_step.proofs.search.search.Goals as goal

pub search-init : goal.search-init
search-init c =
    let w = c.args.nets.now.tables in
    let path : c.new-path.result.items ≡ [] = c.new-path.ensures.items in
    record {
      state = rw (path, c.in_ok-here.ensures) (state-start w c.requires.tables c.args.label c.args.term.now c.args.found.now c.requires.term c.requires.tally c.requires.within);
      met = tt;
      placed = rw (path, c.in_ok-here.ensures) (λ one. placed-start w c.args.label c.args.term.now (c.requires.placed one));
      ranked = rw (path, c.in_ok-here.ensures) (omega arith);
    }

pub search-smaller-in-Some : goal.search-smaller-in-Some
search-smaller-in-Some c =
    let w = c.args.nets.now.tables in
    let step = rw c.in-Some.is at c.in_ok-step.ensures in
    let good = child-good w c.requires.tables c.search.here c.in-Some.step.index c.in-Some.step.inner c.search.invariant.state.ready step.there in
    visits-down w (rank_in w c.args.term.now) c.search.path.items c.push.new.self.items c.search.here c.in-Some.step.inner c.in-Some.step.inner c.search.next c.in-Some.step.index
    (ranked-length w (rank_in w c.args.term.now) c.search.path.items c.search.here c.search.invariant.ranked (omega (arith, good.rank))) step.behind good.within step.there c.in_ok-push-in-Some.ensures.items refl

pub search-preserved-in-Some : goal.search-preserved-in-Some
search-preserved-in-Some c =
    let w = c.args.nets.now.tables in
    let step = rw c.in-Some.is at c.in_ok-step.ensures in
    let good = child-good w c.requires.tables c.search.here c.in-Some.step.index c.in-Some.step.inner c.search.invariant.state.ready step.there in
    record {
      state = state-down w c.requires.tables c.args.label c.args.term.now c.args.found.now c.search.found c.search.path.items c.push.new.self.items c.search.here c.in-Some.step.inner c.search.next c.in-Some.step.index c.search.invariant.state c.in-Some.step step c.in_ok-push-in-Some.ensures.items refl;
      met = c.search.invariant.met;
      placed = λ one. placed-down w c.args.label c.search.path.items c.push.new.self.items c.search.here c.in-Some.step.inner c.in-Some.step.index c.search.met (c.search.invariant.placed one) step.there c.in_ok-push-in-Some.ensures.items;
      ranked = ranked-down w (rank_in w c.args.term.now) c.search.path.items c.push.new.self.items c.search.here c.in-Some.step.inner c.in-Some.step.inner c.in-Some.step.index c.search.invariant.ranked good.rank c.in_ok-push-in-Some.ensures.items refl;
    }

pub returns-then-not-all : goal.returns-then-not-all
returns-then-not-all c =
    let w = c.args.nets.now.tables in
    let no = c.if-not-all.true in
    let cut = state-cut w c.requires.tables c.args.label c.args.term.now c.args.found.now c.search.found c.add_event.new.found c.search.path.items c.search.here c.search.next c.in_ok-all-in-None.all c.search.invariant.state c.in_ok-all-in-None.ensures.found no in
    rw no at cut

pub returns-in-None-pop : goal.returns-in-None-pop
returns-in-None-pop c =
    let w = c.args.nets.now.tables in
    let passed = rw c.in-None.is at c.in_ok-step.ensures in
    state-end w c.requires.tables c.args.label c.args.term.now c.args.found.now c.search.found c.add_event.new.found c.search.path.items c.search.here c.search.next c.in_ok-all-in-None.all c.search.invariant.state c.in_ok-all-in-None.ensures.found passed c.if-not-all.false (nil_from_length c.search.path.items (sym c.search.path.ok.0 ∙ c.in-None-pop.ensures.cases.0))

pub behind-next-requires-clause-term : goal.behind-next-requires-clause-term
behind-next-requires-clause-term c =
    (front-ready c.args.nets.now.tables c.pop.new.self.items c.in-Some-pop.frame (subst (λ (fs : List Frame). AreReadyFrames c.args.nets.now.tables fs) c.in-Some-pop.ensures.items c.search.invariant.state.frames)).1

pub behind-next-requires-clause-index : goal.behind-next-requires-clause-index
behind-next-requires-clause-index c =
    (front-ready c.args.nets.now.tables c.pop.new.self.items c.in-Some-pop.frame (subst (λ (fs : List Frame). AreReadyFrames c.args.nets.now.tables fs) c.in-Some-pop.ensures.items c.search.invariant.state.frames)).2

pub search-smaller : goal.search-smaller
search-smaller c =
    let w = c.args.nets.now.tables in
    visits-up w (rank_in w c.args.term.now) c.search.path.items c.pop.new.self.items c.in-Some-pop.frame c.search.here c.in-Some-pop.frame.parent c.search.next c.behind-next.result c.in-Some-pop.ensures.items refl c.behind-next.ensures

pub search-preserved : goal.search-preserved
search-preserved c =
    let w = c.args.nets.now.tables in
    let passed = rw c.in-None.is at c.in_ok-step.ensures in
    let up = state-up w c.requires.tables c.args.label c.args.term.now c.args.found.now c.search.found c.add_event.new.found c.search.path.items c.search.here c.search.next c.in_ok-all-in-None.all c.search.invariant.state c.in_ok-all-in-None.ensures.found passed c.if-not-all.false c.pop.new.self.items c.in-Some-pop.frame c.in-Some-pop.ensures.items in
    record {
      state = subst (λ (n : ℕ). IsState w c.args.label c.args.term.now c.args.found.now c.add_event.new.found c.pop.new.self.items c.in-Some-pop.frame.parent n) (sym c.behind-next.ensures) up;
      met = c.in_ok-all-in-None.ensures.met;
      placed = λ one. placed-up w c.args.label c.search.path.items c.pop.new.self.items c.in-Some-pop.frame c.search.here c.search.met c.add_event.new.met (c.search.invariant.placed one) c.in-Some-pop.ensures.items c.in_ok-all-in-None.ensures.placed;
      ranked = ranked-up w (rank_in w c.args.term.now) c.search.path.items c.pop.new.self.items c.in-Some-pop.frame c.search.here c.in-Some-pop.frame.parent c.search.invariant.ranked c.in-Some-pop.ensures.items refl;
    }

pub add_event-requires-clause-linked : goal.add_event-requires-clause-linked
add_event-requires-clause-linked c = linked_searched c.args.nets.now.tables c.args.label c.args.term.now c.search.found.terms.keys c.search.path.items c.search.here c.search.next c.search.invariant.state.searched

pub next_child-requires-clause-placed : goal.next_child-requires-clause-placed
next_child-requires-clause-placed c = λ one. (c.search.invariant.placed one).here
