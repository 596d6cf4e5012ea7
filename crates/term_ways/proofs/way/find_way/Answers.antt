use Rattle.std.proofs.Common.{◌≡◌, [], List, refl, sym, ◌∙◌, subst, arith}
use Rattle.std.proofs.lemmas.List.{nil_from_length}
use Rattle.term_laws.proofs.Measures.{rank_in}
use Rattle.term_step.proofs.ChildReady.{child-good}
use Rattle.term_step.proofs.Placed.{placed-down, placed-start, placed-up}
use Rattle.term_step.proofs.Rebuilding.{front-ready}
use Rattle.term_step.proofs.Visits.{visits-down, visits-up, ranked-down, ranked-up, ranked-length}
use Rattle.term_step.specs.Searches.{AreReadyFrames}
use Rattle.term_step.specs.declared.ascent.Frame.{Frame}
use Rattle.term_ways.proofs.Searched.{state-start, state-down, state-linked, state-found, state-end, state-up}
use Rattle.term_ways.proofs.way.find_way.Goals as goal

pub search-init : goal.search-init
search-init c =
    let w = c.args.nets.now.tables in
    let path : c.new-path.result.items ≡ [] = c.new-path.ensures.items in
    record {
      state = rw (path, c.in_ok-here.ensures) (state-start w c.args.number c.args.term.now c.args.goal.now c.requires.term);
      met = tt;
      placed = rw (path, c.in_ok-here.ensures) (placed-start w c.args.number c.args.term.now c.requires.placed);
      ranked = rw (path, c.in_ok-here.ensures) (omega arith);
    }

pub search-smaller-in-Some : goal.search-smaller-in-Some
search-smaller-in-Some c =
    let w = c.args.nets.now.tables in
    let step = rw c.in-Some.is at c.in_ok-step.ensures in
    let good = child-good w c.requires.tables c.search.here c.in-Some.step.index c.in-Some.step.inner c.search.invariant.state.ready step.there in
    visits-down w (rank_in w c.args.term.now) c.search.path.items c.push.new.self.items c.search.here c.in-Some.step.inner c.in-Some.step.inner c.search.next c.in-Some.step.index
    (ranked-length w (rank_in w c.args.term.now) c.search.path.items c.search.here c.search.invariant.ranked (omega (arith, good.rank))) step.behind good.within step.there c.in_ok-push-in-Some.ensures.items refl

pub search-preserved-in-Some : goal.search-preserved-in-Some
search-preserved-in-Some c =
    let w = c.args.nets.now.tables in
    let step = rw c.in-Some.is at c.in_ok-step.ensures in
    let good = child-good w c.requires.tables c.search.here c.in-Some.step.index c.in-Some.step.inner c.search.invariant.state.ready step.there in
    record {
      state = state-down w c.args.number c.args.term.now c.args.goal.now c.requires.tables c.search.path.items c.push.new.self.items c.search.here c.in-Some.step.inner c.search.next c.search.invariant.state c.in-Some.step step c.in_ok-push-in-Some.ensures.items refl;
      met = c.search.invariant.met;
      placed = placed-down w c.args.number c.search.path.items c.push.new.self.items c.search.here c.in-Some.step.inner c.in-Some.step.index c.search.met c.search.invariant.placed step.there c.in_ok-push-in-Some.ensures.items;
      ranked = ranked-down w (rank_in w c.args.term.now) c.search.path.items c.push.new.self.items c.search.here c.in-Some.step.inner c.in-Some.step.inner c.in-Some.step.index c.search.invariant.ranked good.rank c.in_ok-push-in-Some.ensures.items refl;
    }

pub fitting-requires-clause-linked : goal.fitting-requires-clause-linked
fitting-requires-clause-linked c = state-linked c.args.nets.now.tables c.args.number c.args.term.now c.args.goal.now c.search.path.items c.search.here c.search.next c.search.invariant.state

pub next_child-requires-clause-placed : goal.next_child-requires-clause-placed
next_child-requires-clause-placed c = λ one. c.search.invariant.placed.here

pub behind-next-requires-clause-term : goal.behind-next-requires-clause-term
behind-next-requires-clause-term c =
    (front-ready c.args.nets.now.tables c.pop.new.self.items c.in-Some-pop.frame (subst (λ (fs : List Frame). AreReadyFrames c.args.nets.now.tables fs) c.in-Some-pop.ensures.items c.search.invariant.state.frames)).1

pub behind-next-requires-clause-index : goal.behind-next-requires-clause-index
behind-next-requires-clause-index c =
    (front-ready c.args.nets.now.tables c.pop.new.self.items c.in-Some-pop.frame (subst (λ (fs : List Frame). AreReadyFrames c.args.nets.now.tables fs) c.in-Some-pop.ensures.items c.search.invariant.state.frames)).2

pub search-smaller : goal.search-smaller
search-smaller c =
    let w = c.args.nets.now.tables in
    visits-up w (rank_in w c.args.term.now) c.search.path.items c.pop.new.self.items c.in-Some-pop.frame c.search.here c.in-Some-pop.frame.parent c.search.next c.behind-next.result c.in-Some-pop.ensures.items refl c.behind-next.ensures

pub returns-in-Some-found : goal.returns-in-Some-found
returns-in-Some-found c =
    let fits = rw c.in-Some-found.is at c.in_ok-found-in-None.ensures.fits in
    state-found c.args.nets.now.tables c.args.number c.args.term.now c.args.goal.now c.search.path.items c.search.here c.search.next (record { taken = c.in-Some-found.taken; frames = c.search.path }) c.search.invariant.state fits refl

pub returns-in-None-pop : goal.returns-in-None-pop
returns-in-None-pop c =
    let passed = rw c.in-None.is at c.in_ok-step.ensures in
    let own = rw c.in_default.is at c.in_ok-found-in-None.ensures.none in
    state-end c.args.nets.now.tables c.args.number c.args.term.now c.args.goal.now c.search.path.items c.search.here c.search.next c.search.invariant.state own passed (nil_from_length c.search.path.items (sym c.search.path.ok.0 ∙ c.in-None-pop.ensures.cases.0))

pub search-preserved : goal.search-preserved
search-preserved c =
    let w = c.args.nets.now.tables in
    let passed = rw c.in-None.is at c.in_ok-step.ensures in
    let own = rw c.in_default.is at c.in_ok-found-in-None.ensures.none in
    record {
      state = state-up w c.args.number c.args.term.now c.args.goal.now c.search.path.items c.search.here c.search.next c.search.invariant.state own passed c.pop.new.self.items c.in-Some-pop.frame c.behind-next.result c.in-Some-pop.ensures.items c.behind-next.ensures;
      met = c.in_ok-found-in-None.ensures.met;
      placed = placed-up w c.args.number c.search.path.items c.pop.new.self.items c.in-Some-pop.frame c.search.here c.search.met c.fitting.new.met c.search.invariant.placed c.in-Some-pop.ensures.items c.in_ok-found-in-None.ensures.placed;
      ranked = ranked-up w (rank_in w c.args.term.now) c.search.path.items c.pop.new.self.items c.in-Some-pop.frame c.search.here c.in-Some-pop.frame.parent c.search.invariant.ranked c.in-Some-pop.ensures.items refl;
    }
