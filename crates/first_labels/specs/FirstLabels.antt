-- The labels with which unfoldings begin, and what is left of a term that means them.
use Rattle.std.specs.Prelude.{◌≡◌, ℕ, List, [], ◌∷◌, true}
use Rattle.msc_base.specs.declared.label.Label.{Label}
use Rattle.msc_base.specs.Orders.{Once}
use Rattle.msc_base.specs.Patterns.{Position, event_at}
use Rattle.msc_unfolding.specs.Unfoldings.{Unfolding, plain}
use Rattle.chart_term.specs.TermPatterns.{Both}
use Rattle.chart_term.specs.Terms.{Tree}
use Rattle.term_tables.specs.NetValues.{NetsValue}
use Rattle.term_meaning.specs.Meanings.{MeansUnfoldings}
use Rattle.trace_judge.specs.Sets.{GoesOnWith, IsSoundFor}
use Rattle.choice_meaning.specs.FirstInstances.{IsFirst}

-- one of these unfoldings may begin with an event with that label
pub record BeginsWith (unfolds : Unfolding → Type 0) (l : Label) : Type 0 where
  pub of : Unfolding
  pub is : unfolds of
  pub position : Position of
  pub first : IsFirst of position
  pub label : (event_at plain of position).label ≡ l

-- something is left of a term after an event with a label exactly where one of the unfoldings that it means may begin with it
abbrev pub FirstLabelsAreTold : (Unfolding → Type 0) → Type 0
FirstLabelsAreTold unfolds = (v : NetsValue) (names : List (List ℕ)) (x : Tree) → Once v.labels → MeansUnfoldings v names true x unfolds → IsSoundFor v x
    → (l : Label) → Both (GoesOnWith v l (x ∷ [])) (BeginsWith unfolds l)
