-- A step of a pool is a step of the definition.
use Rattle.std.specs.Prelude.{ℕ, ◌≡◌, ◌≤◌, false, List, [], ◌∷◌, ◌++◌, Option, Some}
use Rattle.std.proofs.Common.{ap, sym, ◌∙◌, subst, inl, inr}
use Rattle.msc_base.specs.declared.label.Label.{Label}
use Rattle.msc_base.specs.Lists.{IsAmong}
use Rattle.term_tables.specs.NetValues.{NetsValue, label_number}
use Rattle.chart_term.specs.Terms.{Tree}
use Rattle.term_laws.specs.Listing.{set_weight}
use Rattle.term_sets.specs.Gathers.{JoinsAll, IsGathered}
use Rattle.trace_judge.specs.Logs.{AreResiduals}
use Rattle.trace_judge.specs.Sets.{SetValue, IsSoundFor, IsServing, AreSuccessors, IsNextSet}
use Rattle.term_successors.specs.Successors.{IsLeftOf, AreRising}
use Rattle.term_successors.proofs.TermSets.{rising_different, each_at, each_from}
use Rattle.trace_judge.proofs.SetLaws.{set_step, stays_sound}
use Rattle.term_sets.specs.Memories.{PoolValue, set_at, IsMove, IsSetFor, IsPoolFor, held_set, held_terms, Remembers, AreNext}
use Rattle.term_sets.specs.declared.pool.Held.TheVariants.{Remembered}

-- what was found

-- labels of one number leave the same
left_same : (v : NetsValue) (a b : Label) (terms : List Tree) (y : Tree) → label_number v.labels b ≡ label_number v.labels a → IsLeftOf v a terms y → IsLeftOf v b terms y
left_same v a b terms y e l = record { term = l.term; held = l.held; left = record { event = l.left.event; labelled = e ∙ l.left.labelled; after = l.left.after } }

module _ (v : NetsValue) (a : Label) (old : SetValue) (set : List Tree) (serving : IsServing v old) (joins : JoinsAll (IsLeftOf v a old.terms) old.budget [] set) (rising : AreRising set) where
  found_left : (y : Tree) → IsAmong set y → IsLeftOf v a old.terms y
  found_left y i = elim ((joins.exact y).to i) [ inl b ↦ absurd b | inr l ↦ l ]

  pub found_set : IsSetFor v old.budget set
  found_set = record {
    sound = each_from (IsSoundFor v) set (λ y i. let l = found_left y i in stays_sound v a l.term y (each_at (IsSoundFor v) old.terms l.term serving.sound l.held) l.left);
    rising = rising;
    within = joins.within;
  }

  -- it is what each event with a label of that number leaves
  pub found_next : (label : Option ℕ) → label ≡ label_number v.labels a → AreNext v label old.terms set
  found_next label e = λ n q b r. let same : label_number v.labels b ≡ label_number v.labels a = r ∙ sym q ∙ e in record {
    different = rising_different set rising;
    exact = λ y. record {
      to = λ i. left_same v a b old.terms y same (found_left y i);
      from = λ l. (joins.exact y).from (inr (left_same v b a old.terms y (sym same) l));
    };
  }

-- what was gathered of the terms that are held
pub gathered_of : (v : NetsValue) (a : Label) (old : SetValue) (budget : ℕ) (set found : List Tree) (o : Option (List Tree)) → budget ≡ old.budget → set ≡ old.terms → o ≡ Some found
    → IsGathered v a set budget o → IsGathered v a old.terms old.budget (Some found)
gathered_of v a old budget set found o same terms is g =
    subst (λ (b : ℕ). IsGathered v a old.terms b (Some found)) same
    (subst (λ (ts : List Tree). IsGathered v a ts budget (Some found)) terms (subst (λ (q : Option (List Tree)). IsGathered v a set budget q) is g))

-- a move that is remembered

module _ (v : NetsValue) (a : Label) (old new : PoolValue) (label : Option ℕ) (to : ℕ) (serves : IsPoolFor v old) (number : label ≡ label_number v.labels a) (move : Remembers old label to) (is : new ≡ record old { held = Remembered to }) where
  the_move : IsMove v old.memory.sets move.move.move
  the_move = serves.memory.moves move.move.move move.move.among

  old_terms : set_at old.memory.sets move.from ≡ held_terms old.memory old.held
  old_terms = ap (held_terms old.memory) (sym move.held)

  moved_terms : (held_set new).terms ≡ set_at old.memory.sets to
  moved_terms = ap (λ (p : PoolValue). (held_set p).terms) is

  is_number : label_number v.labels a ≡ Some move.move.move.label
  is_number = sym number ∙ move.is ∙ ap Some (sym move.move.label_is)

  moved_successors : AreSuccessors v a (held_set old).terms (held_set new).terms
  moved_successors = subst (AreSuccessors v a (held_set old).terms) (sym moved_terms)
      (subst (λ (x : List Tree). AreSuccessors v a x (set_at old.memory.sets to)) (ap (set_at old.memory.sets) move.move.from_is ∙ old_terms)
      (subst (λ (n : ℕ). AreSuccessors v a (set_at old.memory.sets move.move.move.from) (set_at old.memory.sets n)) move.move.to_is (the_move.next a is_number)))

  pub moved_serves : IsPoolFor v new
  moved_serves = subst (IsPoolFor v) (sym is) (record { memory = serves.memory; held = serves.memory.sets to; most = serves.most })

  pub moved_next : old.too_large ≡ false → IsNextSet v a (held_set old) (held_set new)
  moved_next small = record {
    small = small;
    terms = moved_successors;
    within = subst (λ (l : List Tree). set_weight l ≤ old.budget) (sym moved_terms) (serves.memory.sets to).within;
    same_budget = ap (λ (p : PoolValue). p.budget) is;
    stays_small = ap (λ (p : PoolValue). p.too_large) is ∙ small;
  }

  pub moved_residuals : (x : Tree) (labels : List Label) → AreResiduals v x labels (held_set old).terms → AreResiduals v x (labels ++ a ∷ []) (held_set new).terms
  moved_residuals x labels r = set_step v x labels a (held_set old).terms (held_set new).terms r moved_successors
