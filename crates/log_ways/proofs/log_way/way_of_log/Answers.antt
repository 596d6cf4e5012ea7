use Rattle.std.proofs.Common.{◌≡◌, ◌<◌, ℕ, List, Some, arith, length, refl, slice_get, subst, sym}
use Rattle.std.proofs.lemmas.Option.{slice_get_read}
use Rattle.chart_term.specs.Properties.{Each}
use Rattle.chart_term.specs.Terms.{Tree, weight}
use Rattle.log_ways.proofs.Conforming.{cut_off, does_conform, none_ends, too_heavy}
use Rattle.log_ways.proofs.Trailing.{same_item}
use Rattle.log_ways.proofs.log_way.way_of_log.Goals as goal
use Rattle.log_ways.specs.Stepping.{IsEnding}
use Rattle.term_permission.proofs.SoundReady.{ready_by_soundness}
use Rattle.term_permission.specs.Ready.{IsReady}
use Rattle.term_sets.proofs.Gathering.{all_ready}
use Rattle.term_sets.specs.Memories.{set_at}
use Rattle.trace_judge.specs.Sets.{HasEnding}

pub returns-then-weight-budget-clause-conforms : goal.returns-then-weight-budget-clause-conforms
returns-then-weight-budget-clause-conforms c events a =
    let above : c.args.budget < weight c.args.term.now = omega (arith, c.weight.ensures, c.if-weight-budget.true) in
    too_heavy c.args.nets.now c.args.budget c.args.term.now above events

pub returns-in_default-clause-conforms : goal.returns-in_default-clause-conforms
returns-in_default-clause-conforms c events a =
    let cut = rw c.in_default.is at c.in_ok-history.ensures in
    cut_off c.args.nets.now c.args.budget c.args.term.now c.args.numbers.now cut events a

pub set-last-requires : goal.set-last-requires
set-last-requires c =
    let v = c.args.nets.now in
    let ns = c.args.numbers.now in
    let h = c.in-Some.history in
    let history = rw c.in-Some.is at c.in_ok-history.ensures in
    let last = c.index.result.now in
    let at : slice_get h.sets.items (length ns) ≡ Some last = slice_get_read h.sets.items (length h.sets.items) (length ns) last refl (let l = history.trail.long in omega arith) c.index.ensures in
    history.trail.there (length ns) last at

pub first_ending-requires-clause-tables : goal.first_ending-requires-clause-tables
first_ending-requires-clause-tables c = ready_by_soundness.tables _ c.args.nets.now.tables c.args.term.now c.requires.sound.full

pub first_ending-requires-clause-terms : goal.first_ending-requires-clause-terms
first_ending-requires-clause-terms c =
    let h = c.in-Some.history in
    let history = rw c.in-Some.is at c.in_ok-history.ensures in
    let last = c.index.result.now in
    subst (Each (IsReady c.args.nets.now.tables)) (sym c.set-last.ensures) (all_ready c.args.nets.now (set_at h.memory.sets last) (history.memory.memory.sets last).sound)

pub returns-in_default-2-clause-conforms : goal.returns-in_default-2-clause-conforms
returns-in_default-2-clause-conforms c events a =
    let v = c.args.nets.now in
    let ns = c.args.numbers.now in
    let h = c.in-Some.history in
    let history = rw c.in-Some.is at c.in_ok-history.ensures in
    let last = c.index.result.now in
    let at : slice_get h.sets.items (length ns) ≡ Some last = slice_get_read h.sets.items (length h.sets.items) (length ns) last refl (let l = history.trail.long in omega arith) c.index.ensures in
    let none = rw c.in_default-2.is at c.in_ok-found.ensures in
    none_ends v c.args.budget c.args.term.now ns h history last at (λ e. none (subst (HasEnding v) (sym c.set-last.ensures) e)) events a

pub way_back-requires-clause-tables : goal.way_back-requires-clause-tables
way_back-requires-clause-tables c = ready_by_soundness.tables _ c.args.nets.now.tables c.args.term.now c.requires.sound.full

pub way_back-requires-clause-found : goal.way_back-requires-clause-found
way_back-requires-clause-found c other e =
    let v = c.args.nets.now in
    let ns = c.args.numbers.now in
    let h = c.in-Some.history in
    let history = rw c.in-Some.is at c.in_ok-history.ensures in
    let last = c.index.result.now in
    let at : slice_get h.sets.items (length ns) ≡ Some last = slice_get_read h.sets.items (length h.sets.items) (length ns) last refl (let l = history.trail.long in omega arith) c.index.ensures in
    let ends = rw c.in-Some-2.is at c.in_ok-found.ensures in
    subst (λ (s : ℕ). IsEnding v.tables (set_at h.memory.sets s) c.in-Some-2.found) (same_item h.sets.items (length ns) last other at e)
    (subst (λ (t : List Tree). IsEnding v.tables t c.in-Some-2.found) c.set-last.ensures ends)

pub returns-clause-conforms : goal.returns-clause-conforms
returns-clause-conforms c events a =
    let v = c.args.nets.now in
    let ns = c.args.numbers.now in
    let h = c.in-Some.history in
    let history = rw c.in-Some.is at c.in_ok-history.ensures in
    let last = c.index.result.now in
    let at : slice_get h.sets.items (length ns) ≡ Some last = slice_get_read h.sets.items (length h.sets.items) (length ns) last refl (let l = history.trail.long in omega arith) c.index.ensures in
    let ends = rw c.in-Some-2.is at c.in_ok-found.ensures in
    does_conform v c.args.budget c.args.term.now ns h history last c.in-Some-2.found at (subst (λ (t : List Tree). IsEnding v.tables t c.in-Some-2.found) c.set-last.ensures ends) events a
