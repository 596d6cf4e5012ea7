-- The terms of the nodes of the net that was added last.
use Rattle.std.specs.Prelude.{ℕ, zero, suc, ◌==◌, ◌≤◌, Bool, true, false, List, [], ◌∷◌, ◌≡◌, map, length}
use Rattle.std.proofs.Common.{ap, sym, ◌∙◌, refl, arith, get_or}
use Rattle.std.proofs.lemmas.Bool.Decides.{Decides-eqb}
use Rattle.msc_base.specs.declared.label.LabelRef.{LabelRef}
use Rattle.hmsc_graph.specs.declared.shape.ShapeLine.{ShapeLine}
use Rattle.hmsc_graph.specs.Nets.{size_of}
use Rattle.chart_term.specs.Properties.{Each}
use Rattle.chart_term.specs.Tables.{NetEntry, Tables, choose, net_count, net_of, node_of, nodes_of, nth_tree, count_from, terms_over}
use Rattle.chart_term.specs.TermMeanings.{HasPattern}
use Rattle.chart_term.specs.Terms.{Tree, Nil}
use Rattle.term_tables.specs.NetValues.{NetsValue}
use Rattle.term_laws.specs.FullSoundness.{AreEndsNil, AreSoundNets, IsSoundNode}
use Rattle.term_laws.specs.Placing.{AreNetsPlaced, AreEventsPlaced}
use Rattle.term_laws.specs.Soundness.{AreTidyTables}
use Rattle.sound_terms.specs.TableLaws.{TablesStaySound}
use Rattle.term_meaning.specs.Extending.{as_it_is, one_more}
use Rattle.term_meaning.specs.Portions.{IsPortion}
use Rattle.term_meaning.specs.UnfoldingSets.{OnlyEmpty}
use Rattle.term_meaning.proofs.Extended.{keeps_same}
use Rattle.term_meaning.proofs.PortionRules.{portion_nil, portion_wide}
use Rattle.msc_tree.specs.Graphs.{graph, Lines, no_lines, line_and, line, line_list}
use Rattle.msc_meaning.specs.Tables.{Table}
use Rattle.graph_shapes.specs.GraphShapes.{shape_lines}
use Rattle.graph_shapes.proofs.NetFacts.{sized as net_sized}
use Rattle.graph_walks.specs.LineUnfoldings.{OfLine}
use Rattle.graph_walks.specs.GraphLaws.{IsLastNet}
use Rattle.graph_walks.specs.NodeTerms.{AreNodeTerms, with_net}

same_number : (n : ℕ) → (n == n) ≡ true
same_number n = (Decides-eqb n n).1 refl

-- ---- the newest net

module _ (e : NetEntry) (w : Tables) where
  here : {A : Type 0} (x y : A) → choose (net_count w == net_count w) x y ≡ x
  here x y = ap (λ (b : Bool). choose b x y) (same_number (net_count w))

  pub net_here : net_of (e ∷ w) (net_count w) ≡ e.net
  net_here = here e.net (net_of w (net_count w))

  pub nodes_here : nodes_of (e ∷ w) (net_count w) ≡ count_from 0 e.nodes
  nodes_here = here (count_from 0 e.nodes) (nodes_of w (net_count w))

  pub node_here : (m : ℕ) → node_of (e ∷ w) (net_count w) m ≡ nth_tree e.nodes m
  node_here m = here (nth_tree e.nodes m) (node_of w (net_count w) m)

-- ---- its nodes

module _ (table : Table) (places : ℕ → List ℕ) (v : NetsValue) (names : List (List ℕ)) (lo hi : ℕ) where
  abbrev Are : List Tree → Lines → Type 0
  Are = AreNodeTerms table places v names lo hi

  pub sound_nodes : (xs : List Tree) (lines : Lines) → Are xs lines → Each (IsSoundNode (length v.labels) v.tables) xs
  sound_nodes [] lines h = tt
  sound_nodes (y ∷ ys) no_lines h = absurd h
  sound_nodes (y ∷ ys) (line_and (line l p n a) xs) h = (h.0.sound, sound_nodes ys xs h.2)

  pub nodes_placed : (xs : List Tree) (lines : Lines) → Are xs lines → Each (AreEventsPlaced places) xs
  nodes_placed [] lines h = tt
  nodes_placed (y ∷ ys) no_lines h = absurd h
  nodes_placed (y ∷ ys) (line_and (line l p n a) xs) h = (h.0.placed, nodes_placed ys xs h.2)

  pub as_many : (xs : List Tree) (lines : Lines) → Are xs lines → length (line_list lines) ≡ length xs
  as_many [] no_lines h = refl
  as_many [] (line_and x xs) h = absurd h
  as_many (y ∷ ys) no_lines h = absurd h
  as_many (y ∷ ys) (line_and (line l p n a) xs) h = ap suc (as_many ys xs h.2)

  -- an end line has the term Nil
  pub end_nil : (xs : List Tree) (lines : Lines) → Are xs lines → (m : ℕ) → get_or (map (λ (l : ShapeLine). l.ends) (shape_lines lines)) m false ≡ true → nth_tree xs m ≡ Nil
  end_nil [] lines h m e = refl
  end_nil (y ∷ ys) no_lines h m e = absurd h
  end_nil (y ∷ ys) (line_and (line l p n a) xs) h zero e = h.1 e
  end_nil (y ∷ ys) (line_and (line l p n a) xs) h (suc m) e = end_nil ys xs h.2 m e

  -- over the tables with the net each node's term means what the node does
  pub node_portion : (e : NetEntry) → AreTidyTables (e ∷ v.tables) → lo ≤ hi → (o : Bool) (xs : List Tree) (lines : Lines) → Are xs lines → (m : ℕ)
      → IsPortion v.labels names lo hi [] (HasPattern (terms_over (e ∷ v.tables)) o (nth_tree xs m)) (OfLine table lines m)
  node_portion e tidy l o [] no_lines h m = portion_wide v.labels names lo lo lo hi [] (HasPattern (terms_over (e ∷ v.tables)) o Nil) OnlyEmpty (omega arith) l (portion_nil v.labels names (terms_over (e ∷ v.tables)) o lo)
  node_portion e tidy l o [] (line_and x xs) h m = absurd h
  node_portion e tidy l o (y ∷ ys) no_lines h m = absurd h
  node_portion e tidy l o (y ∷ ys) (line_and (line q p n a) xs) h zero = h.0.means.portion (with_net v e) names o (record { labels = keeps_same v.labels; tables = one_more e as_it_is }) (keeps_same names) tidy
  node_portion e tidy l o (y ∷ ys) (line_and (line q p n a) xs) h (suc m) = node_portion e tidy l o ys xs h.2 m

-- ---- the tables with the net

module _ (stay : TablesStaySound) (table : Table) (places : ℕ → List ℕ) (v : NetsValue) (names : List (List ℕ)) (lo hi : ℕ) (starts : List LabelRef) (lines : Lines) (e : NetEntry) (h : IsLastNet table places v names lo hi starts lines e) where
  ends_nil : AreEndsNil e
  ends_nil m i = end_nil table places v names lo hi e.nodes lines h.fit.are m (sym (ap (λ (bs : List Bool). get_or bs m false) h.net.drawn.ends) ∙ i)

  pub sized : size_of e.net ≡ length e.nodes
  sized = net_sized (graph starts lines) e.net h.net ∙ as_many table places v names lo hi e.nodes lines h.fit.are

  pub sound_nets : AreSoundNets (length v.labels) (e ∷ v.tables)
  sound_nets = stay.one_net_more (length v.labels) v.tables e h.fit.tables.nets (sound_nodes table places v names lo hi e.nodes lines h.fit.are) h.net.net sized ends_nil

  pub placed_nets : AreNetsPlaced places (e ∷ v.tables)
  placed_nets = (h.fit.tables.placed, nodes_placed table places v names lo hi e.nodes lines h.fit.are)
