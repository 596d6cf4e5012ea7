use Rattle.std.proofs.Common.{◌≡◌, ◌∙◌, List, Option, Some, false, ap, sym, subst}
use Rattle.chart_term.specs.Terms.{Tree}
use Rattle.term_sets.specs.Gathers.{IsGathered}
use Rattle.trace_judge.specs.Sets.{SetValue}
use Rattle.term_sets.proofs.Gathering.{step_next, step_serves, step_residuals}
use Rattle.term_sets.proofs.residuals.ResidualsStore.step.Goals as goal

pub returns-in-Some-clause-serves : goal.returns-in-Some-clause-serves
returns-in-Some-clause-serves c =
    let v = c.args.nets.now in
    let a = c.requires.number.label in
    let g = subst (λ (o : Option (List Tree)). IsGathered v a c.self.inside.set c.self.inside.budget o) c.in-Some.is (c.in_ok-found.ensures.found a c.requires.number.is) in
    let j = subst (λ (s : SetValue). IsGathered v a s.terms s.budget (Some c.in-Some.found)) c.self.view_is g in
    let rising = rw c.in-Some.is at c.in_ok-found.ensures.rising in
    step_serves v a c.args.self.now c.set_terms.new.self c.in-Some.found c.requires.serves j c.set_terms.ensures rising

pub returns-in-Some-clause-set : goal.returns-in-Some-clause-set
returns-in-Some-clause-set c = λ a q.
    let v = c.args.nets.now in
    let g = subst (λ (o : Option (List Tree)). IsGathered v a c.self.inside.set c.self.inside.budget o) c.in-Some.is (c.in_ok-found.ensures.found a q) in
    let j = subst (λ (s : SetValue). IsGathered v a s.terms s.budget (Some c.in-Some.found)) c.self.view_is g in
    let rising = rw c.in-Some.is at c.in_ok-found.ensures.rising in
    let small : c.args.self.now.too_large ≡ false = ap (λ (s : SetValue). s.too_large) (sym c.self.view_is) ∙ c.if-self.false in
    step_next v a c.args.self.now c.set_terms.new.self c.in-Some.found c.requires.serves j c.set_terms.ensures rising small

pub returns-in-Some-clause-residuals : goal.returns-in-Some-clause-residuals
returns-in-Some-clause-residuals c = λ x labels r a q.
    let v = c.args.nets.now in
    let g = subst (λ (o : Option (List Tree)). IsGathered v a c.self.inside.set c.self.inside.budget o) c.in-Some.is (c.in_ok-found.ensures.found a q) in
    let j = subst (λ (s : SetValue). IsGathered v a s.terms s.budget (Some c.in-Some.found)) c.self.view_is g in
    let rising = rw c.in-Some.is at c.in_ok-found.ensures.rising in
    let small : c.args.self.now.too_large ≡ false = ap (λ (s : SetValue). s.too_large) (sym c.self.view_is) ∙ c.if-self.false in
    step_residuals v a c.args.self.now c.set_terms.new.self c.in-Some.found c.requires.serves j c.set_terms.ensures rising small x labels r
