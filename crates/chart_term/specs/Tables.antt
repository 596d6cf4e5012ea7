-- The tables of nets, the newest first.
use Rattle.std.specs.Prelude.{ℕ, zero, suc, ◌+◌, Bool, true, false, List, [], ◌∷◌, ◌==◌}
use Rattle.hmsc_graph.specs.Graphs.{Net}
use Rattle.chart_term.specs.Terms.{Tree, Nil}
use Rattle.chart_term.specs.TermMeanings.{NetTerms}

-- a net: its graph, and the terms of its nodes, which name only older nets
pub record NetEntry : Type 0 where
  pub net : Net
  pub nodes : List Tree

-- all nets, the newest first; the oldest has the number 0
abbrev pub Tables : Type 0
Tables = List NetEntry

-- the first where the test says yes, else the second
abbrev pub choose : {A : Type 0} → Bool → A → A → A
choose true x y = x
choose false x y = y

-- how many nets there are
abbrev pub net_count : Tables → ℕ
net_count [] = 0
net_count (e ∷ es) = suc (net_count es)

-- as many numbers as there are terms, from this one on
abbrev pub count_from : ℕ → List Tree → List ℕ
count_from i [] = []
count_from i (x ∷ xs) = i ∷ count_from (i + 1) xs

-- the term of this place, Nil where there is none
abbrev pub nth_tree : List Tree → ℕ → Tree
nth_tree [] m = Nil
nth_tree (x ∷ xs) zero = x
nth_tree (x ∷ xs) (suc m) = nth_tree xs m

-- the graph of a net
abbrev pub net_of : Tables → ℕ → Net
net_of [] n = record { starts = []; next = []; ends = [] }
net_of (e ∷ es) n = choose (n == net_count es) e.net (net_of es n)

-- the nodes of a net
abbrev pub nodes_of : Tables → ℕ → List ℕ
nodes_of [] n = []
nodes_of (e ∷ es) n = choose (n == net_count es) (count_from 0 e.nodes) (nodes_of es n)

-- the term of a node of a net
abbrev pub node_of : Tables → ℕ → ℕ → Tree
node_of [] n m = Nil
node_of (e ∷ es) n m = choose (n == net_count es) (nth_tree e.nodes m) (node_of es n m)

-- what the tables say to the patterns of terms
abbrev pub terms_over : Tables → NetTerms
terms_over es = record { net = net_of es; node = node_of es }
