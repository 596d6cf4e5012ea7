-- A walk through a graph whose nodes have the terms that were made of them.
use Rattle.std.specs.Prelude.{ℕ, List, length}
use Rattle.std.proofs.Common.{◌≡◌, ◌∙◌, sym, ap, subst}
use Rattle.hmsc_graph.specs.declared.shape.Shape.{Shape}
use Rattle.hmsc_graph.specs.Graphs.{Goal}
use Rattle.chart_term.specs.Properties.{Each}
use Rattle.chart_term.specs.Tables.{Tables}
use Rattle.chart_term.specs.Terms.{Tree}
use Rattle.term_tables.specs.NetValues.{NetsValue}
use Rattle.term_permission.specs.Ready.{AreReadyTables, IsReady}
use Rattle.expansion_tree.specs.Numbered.{Expansions}
use Rattle.expansion_terms.specs.MadeTerms.{made_all, newest_walk, walked}
use Rattle.expansion_terms.specs.PartTerms.{one_net_more}
use Rattle.expansion_terms.proofs.Asked.{IsWalkAsked}
use Rattle.expansion_terms.proofs.MadeReady.{AreReadyBehind, all_ready, counted}

module _ (v w : NetsValue) (g : Shape) (xs : Expansions) (terms : List Tree) (are : terms ≡ (made_all v.tables xs).terms) (nets : w ≡ record v { tables = (made_all v.tables xs).tables }) where
  module _ (h : IsWalkAsked g xs) (ready : AreReadyTables v.tables) where
    made : AreReadyBehind v.tables (made_all v.tables xs).tables (made_all v.tables xs).terms
    made = all_ready v.tables xs h.nodes.whole ready

    pub nodes_each : length terms ≡ length g.lines
    nodes_each = ap length are ∙ (counted v.tables xs ∙ h.graph.each)

    pub nodes_tables : AreReadyTables w.tables
    nodes_tables = subst (λ (u : NetsValue). AreReadyTables u.tables) (sym nets) made.tables

    pub nodes_ready : Each (IsReady w.tables) terms
    nodes_ready = subst (λ (u : NetsValue). Each (IsReady u.tables) terms) (sym nets) (subst (λ (ys : List Tree). Each (IsReady (made_all v.tables xs).tables) ys) (sym are) made.terms)

  more_is : one_net_more g terms w.tables ≡ one_net_more g (made_all v.tables xs).terms (made_all v.tables xs).tables
  more_is = ap (λ (u : NetsValue). one_net_more g terms u.tables) nets ∙ ap (λ (ys : List Tree). one_net_more g ys (made_all v.tables xs).tables) are

  pub walked_term : (goal : Goal) (n : ℕ) (term : Tree) → term ≡ newest_walk goal (one_net_more g terms w.tables) → term ≡ (walked goal n g (made_all v.tables xs)).term
  walked_term goal n term is = is ∙ ap (newest_walk goal) more_is

  pub walked_tables : (goal : Goal) (n : ℕ) (u : NetsValue) → u ≡ record w { tables = one_net_more g terms w.tables } → u ≡ record v { tables = (walked goal n g (made_all v.tables xs)).tables }
  walked_tables goal n u is = is ∙ (ap (λ (x : NetsValue). record x { tables = one_net_more g terms w.tables }) nets ∙ ap (λ (t : Tables). record v { tables = t }) more_is)
