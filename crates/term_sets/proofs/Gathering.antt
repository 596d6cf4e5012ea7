-- Gathering what is left of terms.
use Rattle.std.specs.Prelude.{ℕ, ◌≡◌, ◌≤◌, ◌<◌, ◌↔◌, false, IsTrue, List, [], ◌∷◌, ◌++◌, Option, Some, None, MatchOption, refl}
use Rattle.std.proofs.Common.{ap, sym, ◌∙◌, subst, arith, inl, inr}
use Rattle.std.proofs.lemmas.Bool.{true≢false}
use Rattle.msc_base.specs.declared.label.Label.{Label}
use Rattle.term_tables.specs.NetValues.{NetsValue, label_number}
use Rattle.chart_term.specs.Properties.{Each}
use Rattle.chart_term.specs.Terms.{Tree}
use Rattle.term_laws.specs.Placing.{HaveOnePlace}
use Rattle.term_laws.specs.Listing.{set_weight}
use Rattle.msc_base.specs.Lists.{IsAmong}
use Rattle.term_permission.specs.Ready.{IsReady, AreReadyTables}
use Rattle.term_step.specs.AllAfter.{AreAllLeft, AreTooMany}
use Rattle.term_permission.proofs.SoundReady.{ready_by_soundness}
use Rattle.term_sets.specs.Gathers.{IsGathered, JoinsAll}
use Rattle.trace_judge.specs.Logs.{AreResiduals}
use Rattle.trace_judge.specs.Sets.{SetValue, IsSoundFor, IsServing, IsNextSet, PassBudget, HasEnding}
use Rattle.term_successors.specs.Successors.{IsLeftOf, AreRising}
use Rattle.trace_judge.proofs.SetLaws.{set_step, stays_sound, successors_exist}
use Rattle.term_successors.proofs.TermSets.{each_at, each_from, lighter, rising_different}

-- what is asked of the terms of a set

pub some_ready : (v : NetsValue) (xs : List Tree) → (xs ≡ [] → ⊥) → Each (IsSoundFor v) xs → AreReadyTables v.tables
some_ready v [] none h = absurd (none refl)
some_ready v (y ∷ ys) none h = ready_by_soundness.tables _ v.tables y h.0.full

pub all_ready : (v : NetsValue) (xs : List Tree) → Each (IsSoundFor v) xs → Each (IsReady v.tables) xs
all_ready v [] h = tt
all_ready v (y ∷ ys) h = (ready_by_soundness.term _ v.tables y h.0.full, all_ready v ys h.1)

pub all_placed : (v : NetsValue) (xs : List Tree) → Each (IsSoundFor v) xs → Each (HaveOnePlace v.tables) xs
all_placed v [] h = tt
all_placed v (y ∷ ys) h = (h.0.placed, all_placed v ys h.1)

-- no term of the empty set may end
pub none_ends : (v : NetsValue) (xs : List Tree) → xs ≡ [] → IsTrue false ↔ HasEnding v xs
none_ends v [] e = (λ b. absurd (true≢false (sym b)), λ h. absurd h.held)
none_ends v (y ∷ ys) e = cc

-- nothing is left after an event with a label that the tables lack
pub none_left : (v : NetsValue) (a : Label) (terms : List Tree) (budget : ℕ) (new : List Tree) → new ≡ [] → label_number v.labels a ≡ None → JoinsAll (IsLeftOf v a terms) budget [] new
none_left v a terms budget new e q = subst (JoinsAll (IsLeftOf v a terms) budget []) (sym e) (record { exact = λ y. record { to = λ h. absurd h; from = λ h. elim h [ inl b ↦ b | inr l ↦ absurd (some_none l.left.event.label (sym l.left.labelled ∙ q)) ] }; within = omega arith })
  where
    some_none : (n : ℕ) → Some n ≡ None → ⊥
    some_none n e = cc

-- a step

-- where some of it weighs more than the budget, all of it does
over_passes : (v : NetsValue) (a : Label) (x : Tree) (terms : List Tree) (budget : ℕ) → IsSoundFor v x → AreTooMany v a terms budget → PassBudget v a terms budget
over_passes v a x terms budget h o =
    let s = successors_exist v a x terms h in
    let l = lighter o.some s.next o.different (λ y i. (s.are.exact y).from (o.each y i)) in
    record { next = s.next; are = s.are; above = omega (arith, o.above, l) }

some_sound : (v : NetsValue) (a : Label) (terms : List Tree) (budget : ℕ) (some : List Tree) → Each (IsSoundFor v) terms → ((y : Tree) → IsAmong some y → IsLeftOf v a terms y) → budget < set_weight some → (x : Tree) × IsSoundFor v x
some_sound v a terms budget [] h f l = absurd (omega arith)
some_sound v a terms budget (y ∷ ys) h f l = let i = f y (inl refl) in (i.term, each_at (IsSoundFor v) terms i.term h i.held)

pub gathered : (v : NetsValue) (a : Label) (terms : List Tree) (budget : ℕ) → Each (IsSoundFor v) terms → (o : Option (List Tree)) → MatchOption o (AreTooMany v a terms budget) (AreAllLeft v a terms budget) → IsGathered v a terms budget o
gathered v a terms budget h None o = over_passes v a (some_sound v a terms budget o.some h o.each o.above).0 terms budget (some_sound v a terms budget o.some h o.each o.above).1 o
gathered v a terms budget h (Some all) o = record {
  exact = λ y. record { to = λ i. inr ((o.exact y).to i); from = λ s. elim s [ inl b ↦ absurd b | inr l ↦ (o.exact y).from l ] };
  within = o.within;
}

-- nothing is left of no terms
pub of_none : (v : NetsValue) (a : Label) (terms : List Tree) (budget : ℕ) (new : List Tree) → new ≡ [] → terms ≡ [] → JoinsAll (IsLeftOf v a terms) budget [] new
of_none v a terms budget new e q = subst (JoinsAll (IsLeftOf v a terms) budget []) (sym e) (record { exact = λ y. record { to = λ h. absurd h; from = λ h. elim h [ inl b ↦ b | inr l ↦ subst (λ (ts : List Tree). IsAmong ts l.term) q l.held ] }; within = omega arith })

module _ (v : NetsValue) (a : Label) (old new : SetValue) (found : List Tree) (serving : IsServing v old) (j : JoinsAll (IsLeftOf v a old.terms) old.budget [] found) (is : new ≡ record old { terms = found }) (rising : AreRising found) where
  new_terms : new.terms ≡ found
  new_terms = ap (λ (s : SetValue). s.terms) is

  new_rising : AreRising new.terms
  new_rising = subst AreRising (sym new_terms) rising

  left_of : (y : Tree) → IsAmong new.terms y → IsLeftOf v a old.terms y
  left_of y i = elim ((j.exact y).to (subst (λ (l : List Tree). IsAmong l y) new_terms i)) [ inl b ↦ absurd b | inr l ↦ l ]

  new_weight : set_weight new.terms ≤ old.budget
  new_weight = let q : set_weight new.terms ≡ set_weight found = ap set_weight new_terms in omega (arith, j.within)

  same_budget : new.budget ≡ old.budget
  same_budget = ap (λ (s : SetValue). s.budget) is

  pub step_next : old.too_large ≡ false → IsNextSet v a old new
  step_next small = record {
    small = small;
    terms = record {
      different = rising_different new.terms new_rising;
      exact = λ y. record { to = left_of y; from = λ l. subst (λ (ts : List Tree). IsAmong ts y) (sym new_terms) ((j.exact y).from (inr l)) };
    };
    within = new_weight;
    same_budget = same_budget;
    stays_small = ap (λ (s : SetValue). s.too_large) is ∙ small;
  }

  pub step_serves : IsServing v new
  step_serves = record {
    sound = each_from (IsSoundFor v) new.terms (λ y i. let l = left_of y i in stays_sound v a l.term y (each_at (IsSoundFor v) old.terms l.term serving.sound l.held) l.left);
    rising = new_rising;
    within = omega (arith, new_weight, same_budget);
    most = omega (arith, same_budget, serving.most);
  }

  pub step_residuals : old.too_large ≡ false → (x : Tree) (labels : List Label) → AreResiduals v x labels old.terms → AreResiduals v x (labels ++ a ∷ []) new.terms
  step_residuals small x labels r = set_step v x labels a old.terms new.terms r (step_next small).terms
