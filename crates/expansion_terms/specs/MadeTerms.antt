-- The terms of an expansion as they are made, from the first part to the last: each walk appends the net of its graph, with the terms of
-- its nodes, to the tables, behind the nets that its nodes name.
use Rattle.std.specs.List.{filter_map}
use Rattle.std.specs.Option.{unwrap_or}
use Rattle.std.specs.Prelude.{ℕ, ◌≡◌, ◌==◌, ◌+◌, ◌++◌, ◌≤◌, Bool, true, false, List, [], ◌∷◌, length, map}
use Rattle.msc_base.specs.declared.label.LabelRef.{LabelRef}
use Rattle.msc_base.specs.declared.limits.TheConstants.Limits.{NODE_LINES}
use Rattle.msc_base.specs.declared.place.Place.{Place}
use Rattle.msc_base.specs.Orders.{Among, Once}
use Rattle.msc_base.specs.Patterns.{par}
use Rattle.hmsc_graph.specs.declared.shape.Shape.{Shape}
use Rattle.hmsc_graph.specs.declared.shape.ShapeLine.{ShapeLine}
use Rattle.hmsc_graph.specs.Graphs.{Net, Goal, End, Any}
use Rattle.hmsc_graph.specs.Shapes.{IsFaulty, line_number}
use Rattle.chart_term.specs.NormalForms.{join_all, tie_of}
use Rattle.chart_term.specs.Tables.{Tables, net_count}
use Rattle.chart_term.specs.Terms.{Tree, Nil}
use Rattle.chart_term.specs.Views.{pairs_of}
use Rattle.term_laws.specs.FullSoundness.{fresh_walk}
use Rattle.expansion_tree.specs.Expansions.{Event, InRow, Aside, OneOf, Exception, Turns, Tied, Walk, no_parts, part_and, is_exception}
use Rattle.expansion_tree.specs.Numbered.{Expansion, Expansions}
use Rattle.expansion_tree.specs.Walks.{EachWalk}
use Rattle.expansion_terms.specs.Constructors.{one_of, placed, turns_of}
use Rattle.expansion_terms.specs.ExpansionTerms.{event_term, numbered_term, part_terms}

-- ---- the net of a graph that has each label once

-- the numbers of the lines that the labels name
abbrev pub numbers_of : List ShapeLine → List LabelRef → List ℕ
numbers_of lines labels = filter_map (λ (label : LabelRef). line_number lines label.name) labels

abbrev pub net_of_shape : Shape → Net
net_of_shape s = record {
  starts = numbers_of s.lines s.starts;
  next = map (λ (line : ShapeLine). numbers_of s.lines line.next) s.lines;
  ends = map (λ (line : ShapeLine). line.ends) s.lines;
}

-- ---- of the terms of parts

-- one after another, an exception instead of what stands behind it
abbrev pub in_row : Expansions → List Tree → Tree
in_row no_parts ys = Nil
in_row (part_and x xs) [] = Nil
in_row (part_and x xs) (y ∷ ys) = placed (is_exception x) y (in_row xs ys)

abbrev pub side_by_side : List Tree → Tree
side_by_side [] = Nil
side_by_side (y ∷ ys) = join_all par (y ∷ side_by_side ys ∷ [])

-- the walk to the goal through the newest net; nothing where none leads there
abbrev pub newest_walk : Goal → Tables → Tree
newest_walk goal [] = Nil
newest_walk goal (e ∷ es) = unwrap_or (fresh_walk (e ∷ es) (net_count es) goal) Nil

-- ---- terms as they are made

-- a term, the tables with its nets, and its walks by their own numbers
pub record Made : Type 0 where
  pub term : Tree
  pub tables : Tables
  pub walks : List (ℕ × Tree)

pub record MadeParts : Type 0 where
  pub terms : List Tree
  pub tables : Tables
  pub walks : List (ℕ × Tree)

abbrev pub put : Made → MadeParts → MadeParts
put m l = record { terms = m.term ∷ l.terms; tables = l.tables; walks = m.walks ++ l.walks }

abbrev pub as_one : (List Tree → Tree) → MadeParts → Made
as_one f l = record { term = f l.terms; tables = l.tables; walks = l.walks }

abbrev pub net_behind : Shape → MadeParts → Tables
net_behind g l = record { net = net_of_shape g; nodes = l.terms } ∷ l.tables

-- a walk of that number through the graph whose nodes have these terms
abbrev pub walked : Goal → ℕ → Shape → MadeParts → Made
walked goal n g l = record { term = newest_walk goal (net_behind g l); tables = net_behind g l; walks = (n, newest_walk goal (net_behind g l)) ∷ l.walks }

abbrev mutual
  pub made : Tables → Expansion → Made
  made t (Event e) = record { term = event_term e; tables = t; walks = [] }
  made t (InRow xs) = as_one (in_row xs) (made_all t xs)
  made t (Aside xs) = as_one side_by_side (made_all t xs)
  made t (OneOf xs) = as_one one_of (made_all t xs)
  made t (Exception x) = made t x
  made t (Turns n lower upper x) = let m = made t x in record m { term = turns_of lower upper m.term }
  made t (Tied x ps) = let m = made t x in record m { term = tie_of m.term (pairs_of ps) }
  made t (Walk n g xs) = walked End n g (made_all t xs)

  pub made_all : Tables → Expansions → MadeParts
  made_all t no_parts = record { terms = []; tables = t; walks = [] }
  made_all t (part_and x xs) = let m = made t x in put m (made_all m.tables xs)

-- of the judged chart: walks through its own graph that lead anywhere, as they may be under way
abbrev pub judged : Tables → Expansion → Made
judged t (Walk n g xs) = walked Any n g (made_all t xs)
judged t (Event e) = made t (Event e)
judged t (InRow xs) = made t (InRow xs)
judged t (Aside xs) = made t (Aside xs)
judged t (OneOf xs) = made t (OneOf xs)
judged t (Exception x) = made t (Exception x)
judged t (Turns n lower upper x) = made t (Turns n lower upper x)
judged t (Tied x ps) = made t (Tied x ps)

-- ---- what is asked

abbrev pub parts_count : Expansions → ℕ
parts_count no_parts = 0
parts_count (part_and x xs) = 1 + parts_count xs

-- each label that the graph names is that of one line; there are few lines, and a part for each
pub record IsWholeGraph (g : Shape) (xs : Expansions) : Type 0 where
  pub faultless : (p : Place) → IsFaulty g p → ⊥
  pub few : length g.lines ≤ NODE_LINES
  pub each : parts_count xs ≡ length g.lines

abbrev pub HasWholeGraphs : Expansion → Type 0
HasWholeGraphs x = EachWalk (λ n g xs. IsWholeGraph g xs) x

-- ---- the term is that of the expansion, by the terms of its walks

-- the term is that of the walks to an end of the graph of these node terms: its net is among the nets of the tables
pub record IsWalkOf (w : Tables) (g : Shape) (nodes : List Tree) (x : Tree) : Type 0 where
  pub newer : Tables
  pub older : Tables
  pub there : w ≡ newer ++ record { net = net_of_shape g; nodes = nodes } ∷ older
  pub is : x ≡ newest_walk End (record { net = net_of_shape g; nodes = nodes } ∷ older)

-- the walks have the terms that were made of them
abbrev pub AreWalksMade : (ℕ → Tree) → List (ℕ × Tree) → Type 0
AreWalksMade walk ws = (p : ℕ × Tree) → Among p ws → walk p.0 ≡ p.1

-- the first of these terms with that number, else nothing
abbrev pub walk_if : Bool → Tree → Tree → Tree
walk_if true x y = x
walk_if false x y = y

abbrev pub walk_at : List (ℕ × Tree) → ℕ → Tree
walk_at [] k = Nil
walk_at (p ∷ ws) k = walk_if (p.0 == k) p.1 (walk_at ws k)

-- where each walk is given the term that was made of it, the term that was made is the expansion's, and each walk is one to an end through
-- a net of the tables whose nodes have the terms of the parts
pub record MadeTermsAgree : Type 0 where
  pub term : (t : Tables) (x : Expansion) (walk : ℕ → Tree) → AreWalksMade walk (made t x).walks → (made t x).term ≡ numbered_term walk x
  pub terms : (t : Tables) (xs : Expansions) (walk : ℕ → Tree) → AreWalksMade walk (made_all t xs).walks → (made_all t xs).terms ≡ part_terms event_term walk xs
  pub walks : (t : Tables) (x : Expansion) (walk : ℕ → Tree) → AreWalksMade walk (made t x).walks
      → EachWalk (λ n g xs. IsWalkOf (made t x).tables g (part_terms event_term walk xs) (walk n)) x
  -- no number twice, so each walk is found by its own
  pub found : (ws : List (ℕ × Tree)) → Once (map (λ (p : ℕ × Tree). p.0) ws) → AreWalksMade (walk_at ws) ws
