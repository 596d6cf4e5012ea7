-- A document and its charts, as plain trees (Z.120, clauses 3, 4 and 7.5).
use Rattle.std.specs.Prelude.{ℕ, List, Option}
use Rattle.msc_base.specs.declared.place.Place.{Place}
use Rattle.msc_tree.specs.declared.chart.Decl.{Decl}
use Rattle.msc_tree.specs.declared.chart.Heading.{Heading}
use Rattle.msc_tree.specs.Graphs.{Graph}
use Rattle.msc_tree.specs.Statements.{Statement}

-- what a chart holds: it is a basic chart, or a high-level chart
pub data Content : Type 0 where
  Basic : List Statement → Content
  HighLevel : Graph → Content

pub record Chart : Type 0 where
  pub name : List ℕ
  pub place : Place
  -- the declarations of its heads
  pub decls : List Decl
  pub messages : List (List ℕ)
  pub timers : List (List ℕ)
  pub content : Content

pub record Document : Type 0 where
  pub heading : Option Heading
  pub charts : List Chart
