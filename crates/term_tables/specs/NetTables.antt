-- The tables of labels and nets that are stored.
use Rattle.std.specs.Prelude.{ℕ, zero, suc, ◌≡◌, ◌≤◌, List, [], ◌∷◌, length}
use Rattle.msc_base.specs.Stored.{most_numbered}
use Rattle.hmsc_graph.specs.Nets.{size_of}
use Rattle.term_tables.specs.declared.nets.StoredNet.{StoredNet}
use Rattle.chart_term.specs.Spreads.{spread_of}
use Rattle.chart_term.specs.Tables.{NetEntry, Tables}
use Rattle.chart_term.specs.Terms.{has}

-- the net and the terms of its nodes
abbrev pub entry_of : StoredNet → NetEntry
entry_of e = record { net = e.net; nodes = e.nodes }

-- the entries of these nets, of which the oldest comes first, in front of those of older nets
abbrev pub entries_onto : List StoredNet → Tables → Tables
entries_onto [] t = t
entries_onto (e ∷ es) t = entries_onto es (entry_of e ∷ t)

-- the tables of these nets
abbrev pub tables_of : List StoredNet → Tables
tables_of es = entries_onto es []

-- each net has as many nodes as there are terms
abbrev pub AreSized : List StoredNet → Type 0
AreSized [] = Unit {0}
AreSized (e ∷ es) = (size_of e.net ≡ length e.nodes) × AreSized es

-- the instances that are stored with the net of this number, none where there is no such net
abbrev pub spread_at : List StoredNet → ℕ → List ℕ
spread_at [] n = []
spread_at (e ∷ es) zero = e.spread.instances
spread_at (e ∷ es) (suc n) = spread_at es n

-- what holds of the stored nets: there are no more than have numbers, and its instances are stored
pub record AreStored (es : List StoredNet) : Type 0 where
  pub few : length es ≤ most_numbered
  pub sized : AreSized es
  pub spread : (i n : ℕ) → has (spread_at es i) n ≡ has (spread_of (tables_of es) i) n
