-- Lists of the terms of nodes: wider intervals, later tables, one line more.
use Rattle.std.specs.Prelude.{ℕ, ◌≤◌, true, List, [], ◌∷◌, ◌++◌, ◌≡◌}
use Rattle.std.proofs.Common.{arith}
use Rattle.chart_term.specs.Terms.{Tree, Nil}
use Rattle.term_tables.specs.NetValues.{NetsValue}
use Rattle.term_laws.specs.LaterTables.{LaterTablesAgree}
use Rattle.sound_terms.specs.TableLaws.{TablesStaySound}
use Rattle.msc_tree.specs.Graphs.{Lines, no_lines, line_and, Line, line, lines}
use Rattle.msc_meaning.specs.ChartUnfoldings.{OfNode}
use Rattle.msc_meaning.specs.Tables.{Table}
use Rattle.graph_shapes.specs.GraphShapes.{is_end}
use Rattle.graph_walks.specs.NodeParts.{HaveGrown}
use Rattle.graph_walks.specs.NodeTerms.{IsNodeTerm, AreNodeTerms}
use Rattle.graph_walks.proofs.NodeRules.{node_later, node_wide}

module _ (table : Table) (places : ℕ → List ℕ) where
  pub nodes_wide : (v : NetsValue) (names : List (List ℕ)) (lo hi to : ℕ) (xs : List Tree) (held : Lines) → hi ≤ to → AreNodeTerms table places v names lo hi xs held → AreNodeTerms table places v names lo to xs held
  nodes_wide v names lo hi to [] no_lines l h = tt
  nodes_wide v names lo hi to [] (line_and x xs) l h = absurd h
  nodes_wide v names lo hi to (y ∷ ys) no_lines l h = absurd h
  nodes_wide v names lo hi to (y ∷ ys) (line_and (line label p n a) xs) l h = (node_wide places v names lo hi lo to y (OfNode table n) (omega arith) l h.0, h.1, nodes_wide v names lo hi to ys xs l h.2)

  pub nodes_later : LaterTablesAgree → TablesStaySound → (v w : NetsValue) (names : List (List ℕ)) (lo hi : ℕ) (xs : List Tree) (held : Lines) → HaveGrown places v w names → AreNodeTerms table places v names lo hi xs held → AreNodeTerms table places w names lo hi xs held
  nodes_later agree stay v w names lo hi [] no_lines g h = tt
  nodes_later agree stay v w names lo hi [] (line_and x xs) g h = absurd h
  nodes_later agree stay v w names lo hi (y ∷ ys) no_lines g h = absurd h
  nodes_later agree stay v w names lo hi (y ∷ ys) (line_and (line label p n a) xs) g h = (node_later agree stay places names v w lo hi y (OfNode table n) g h.0, h.1, nodes_later agree stay v w names lo hi ys xs g h.2)

  abbrev IsLineTerm : NetsValue → List (List ℕ) → ℕ → ℕ → Tree → Line → Type 0
  IsLineTerm v names lo hi x (line label place node next) = IsNodeTerm places v names lo hi x (OfNode table node) × (is_end node ≡ true → x ≡ Nil)

  pub nodes_last : (v : NetsValue) (names : List (List ℕ)) (lo hi : ℕ) (xs : List Tree) (x : Tree) (ls : List Line) (l : Line) → AreNodeTerms table places v names lo hi xs (lines ls) → IsLineTerm v names lo hi x l → AreNodeTerms table places v names lo hi (xs ++ x ∷ []) (lines (ls ++ l ∷ []))
  nodes_last v names lo hi [] x [] (line label p n a) h k = (k.0, k.1, tt)
  nodes_last v names lo hi [] x (m ∷ ls) l h k = absurd h
  nodes_last v names lo hi (y ∷ ys) x [] l h k = absurd h
  nodes_last v names lo hi (y ∷ ys) x (line label p n a ∷ ls) l h k = (h.0, h.1, nodes_last v names lo hi ys x ls l h.2 k)
