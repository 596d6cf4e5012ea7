-- What is said of each chart that a chart names: in its references, in the nodes of its graphs, and in the levels that refine it. Which of
-- its levels are looked at follows the expansion: beside refining charts only what is left of the body.
use Rattle.std.specs.Prelude.{◌≡◌, ℕ, zero, suc, List, [], ◌∷◌, Some}
use Rattle.msc_tree.specs.Expressions.{Expression, Empty, Chart, Alt, Par, Seq, Opt, Expressions, none, more}
use Rattle.msc_tree.specs.Expressions as expression
use Rattle.msc_tree.specs.Graphs as tree
use Rattle.msc_tree.specs.Graphs.{Graph, graph, Lines, no_lines, line_and, line, Node, Ends, Connect, Condition, Frames, Graphs, no_graphs, graph_and}
use Rattle.msc_meaning.specs.Bodies.{Body, level, WovenItems, no_items, item_and, WovenItem, Single, Coregion, Inline, Refer, Bodies, no_bodies, body_and}
use Rattle.msc_meaning.specs.Refinements.{Refining, refining, refinings, without_decomposed}
use Rattle.msc_meaning.specs.Tables.{Table, ChartEntry, chart_at, Woven, Basic, HighLevel, Refinement, refinements}

-- P: so is each chart of that name
module _ (P : List ℕ → Type 0) where
  abbrev mutual
    pub NamesOnly : Expression → Type 0
    NamesOnly Empty = Unit {0}
    NamesOnly (Chart name) = P name
    NamesOnly (Alt parts) = NameOnly parts
    NamesOnly (Par parts) = NameOnly parts
    NamesOnly (Seq parts) = NameOnly parts
    NamesOnly (Opt part) = NamesOnly part
    NamesOnly (expression.Loop lower upper part) = NamesOnly part

    pub NameOnly : Expressions → Type 0
    NameOnly none = Unit {0}
    NameOnly (more x xs) = NamesOnly x × NameOnly xs

  abbrev mutual
    pub LevelNamesOnly : Body → Type 0
    LevelNamesOnly (level cover held pairs) = ItemsNameOnly held

    pub ItemsNameOnly : WovenItems → Type 0
    ItemsNameOnly no_items = Unit {0}
    ItemsNameOnly (item_and x xs) = ItemNamesOnly x × ItemsNameOnly xs

    pub ItemNamesOnly : WovenItem → Type 0
    ItemNamesOnly (Single k) = Unit {0}
    ItemNamesOnly (Coregion ks) = Unit {0}
    ItemNamesOnly (Inline form part operands) = OperandsNameOnly operands
    ItemNamesOnly (Refer part) = NamesOnly part.expression

    pub OperandsNameOnly : Bodies → Type 0
    OperandsNameOnly no_bodies = Unit {0}
    OperandsNameOnly (body_and b bs) = LevelNamesOnly b × OperandsNameOnly bs

  abbrev pub RefiningsNameOnly : List Refining → Type 0
  RefiningsNameOnly [] = Unit {0}
  RefiningsNameOnly (refining b ms ∷ rs) = LevelNamesOnly b × RefiningsNameOnly rs

  abbrev mutual
    pub LinesNameOnly : Lines → Type 0
    LinesNameOnly no_lines = Unit {0}
    LinesNameOnly (line_and (line label place node next) rest) = NodeNamesOnly node × LinesNameOnly rest

    pub NodeNamesOnly : Node → Type 0
    NodeNamesOnly Ends = Unit {0}
    NodeNamesOnly Connect = Unit {0}
    NodeNamesOnly (Condition names) = Unit {0}
    NodeNamesOnly (tree.Refer expression) = NamesOnly expression
    NodeNamesOnly (Frames held) = FramesNameOnly held

    pub FramesNameOnly : Graphs → Type 0
    FramesNameOnly no_graphs = Unit {0}
    FramesNameOnly (graph_and (graph starts lines) rest) = LinesNameOnly lines × FramesNameOnly rest

  abbrev pub WovenNamesOnly : Table → List Refinement → Woven → Type 0
  WovenNamesOnly table [] (Basic held) = LevelNamesOnly held
  WovenNamesOnly table (r ∷ rs) (Basic (level cover held pairs)) = ItemsNameOnly (without_decomposed (r ∷ rs) held) × RefiningsNameOnly (refinings table held (r ∷ rs))
  WovenNamesOnly table rs (HighLevel (graph starts lines)) = LinesNameOnly lines

-- the chart of that name is there, and it names only such charts
pub record HasEntry (table : Table) (P : List ℕ → Type 0) (name : List ℕ) : Type 0 where
  pub entry : ChartEntry
  pub is : chart_at table name ≡ Some entry
  pub names : WovenNamesOnly P table (refinements entry.decls) entry.content

-- the chart is there, and so are those that it names; they stand in each other less than so deep
abbrev pub IsNestedTo : Table → ℕ → List ℕ → Type 0
IsNestedTo table zero name = ⊥
IsNestedTo table (suc depth) name = HasEntry table (IsNestedTo table depth) name
