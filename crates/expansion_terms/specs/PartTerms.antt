-- Serves private contracts alone.
-- What is asked of parts and of their terms, and the tables with one net more.
use Rattle.std.specs.Prelude.{List, ◌∷◌}
use Rattle.hmsc_graph.specs.declared.shape.Shape.{Shape}
use Rattle.chart_term.specs.NormalForms.{NetPermits}
use Rattle.chart_term.specs.Properties.{Each}
use Rattle.chart_term.specs.Tables.{Tables}
use Rattle.chart_term.specs.Terms.{Tree}
use Rattle.term_laws.specs.Normality.{IsNormal}
use Rattle.expansion_tree.specs.Numbered.{Expansions}
use Rattle.expansion_tree.specs.Walks.{EachWalkIn}
use Rattle.expansion_terms.specs.MadeTerms.{IsWholeGraph, net_of_shape}

-- the graph of each walk of the parts is whole
abbrev pub HaveWholeGraphs : Expansions → Type 0
HaveWholeGraphs xs = EachWalkIn (λ n g ys. IsWholeGraph g ys) xs

-- for some nets, each of the terms is in normal form
pub record AreNormal (xs : List Tree) : Type 0 where
  pub permits : NetPermits
  pub each : Each (IsNormal permits) xs

-- behind these tables the net of the graph, whose nodes have these terms
abbrev pub one_net_more : Shape → List Tree → Tables → Tables
one_net_more g nodes w = record { net = net_of_shape g; nodes = nodes } ∷ w
