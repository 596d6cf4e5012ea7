-- Permission: what is left of a term where the events of a block may not happen (weak sequencing, Annex B of Z.120 in outline).
use Rattle.std.specs.Option.{option_map}
use Rattle.std.specs.Prelude.{ℕ, zero, suc, List, [], ◌∷◌, Option, Some, None, ◌==◌}
use Rattle.chart_term.specs.NormalForms.{NetPermits, only, join_all, and_then, or_skip, unless, choice_of, tie_of, turns_in, walk_of}
use Rattle.chart_term.specs.Spreads.{touch, spread_of}
use Rattle.chart_term.specs.Tables.{choose, net_count, Tables, net_of, nodes_of}
use Rattle.chart_term.specs.Terms.{Block, hits, Tree, Nil, Event, Join, Choice, Tied, Loop, Walk, Trees, none, more, Row, ends, gap, turn, Part, Gap, Turn, ◌∪◌}

-- a gap whose block grows
abbrev pub wider : List ℕ → Option (List Part) → List ℕ → Option (List Part)
wider c None b = None
wider c (Some ps) b = Some (Gap (c ∪ b) ∷ ps)

-- a begun turn, where permission doesn't fail
abbrev pub with_turn : Option Tree → Option (List Part) → Option (List Part)
with_turn None o = None
with_turn (Some x) None = None
with_turn (Some x) (Some ps) = Some (Turn x ∷ ps)

-- permission: what is left of a term where no event of the block may happen
abbrev mutual
  pub permit : NetPermits → Block → Tree → Option Tree
  permit k b Nil = Some Nil
  permit k b (Event e) = unless (hits b e) (Event e)
  permit k b (Join m xs) = option_map (join_all m) (permit_all k b xs)
  permit k b (Choice xs) = choice_of (permit_some k b xs)
  permit k b (Tied x q) = option_map (λ y. tie_of y q) (permit k b x)
  permit k b (Loop x lo hi r) = turns_in (λ c. permit k (only c) x) (touch k.spread x) x lo hi (permit_row k b r)
  permit k b (Walk n s t c) = walk_of k n s t (c ∪ b.instances)

  pub permit_all : NetPermits → Block → Trees → Option (List Tree)
  permit_all k b none = Some []
  permit_all k b (more x xs) = and_then (permit k b x) (permit_all k b xs)

  pub permit_some : NetPermits → Block → Trees → List Tree
  permit_some k b none = []
  permit_some k b (more x xs) = or_skip (permit k b x) (permit_some k b xs)

  pub permit_row : NetPermits → Block → Row → Option (List Part)
  permit_row k b ends = Some []
  permit_row k b (gap c r) = wider c (permit_row k b r) b.instances
  permit_row k b (turn x r) = with_turn (permit k b x) (permit_row k b r)

-- what permission leaves of the term of this place
abbrev pub permit_nth : NetPermits → Block → List Tree → ℕ → Option Tree
permit_nth k b [] m = None
permit_nth k b (x ∷ xs) zero = permit k b x
permit_nth k b (x ∷ xs) (suc m) = permit_nth k b xs m

-- what permission leaves of the node terms: a node term names only older nets
abbrev pub kept_of : Tables → ℕ → ℕ → List ℕ → Option Tree
kept_of [] n m c = None
kept_of (e ∷ es) n m c = choose (n == net_count es) (permit_nth (record { net = net_of es; nodes = nodes_of es; kept = kept_of es; spread = spread_of es }) (only c) e.nodes m) (kept_of es n m c)

-- what the tables say to the normal forms
abbrev pub permits_of : Tables → NetPermits
permits_of es = record { net = net_of es; nodes = nodes_of es; kept = kept_of es; spread = spread_of es }
