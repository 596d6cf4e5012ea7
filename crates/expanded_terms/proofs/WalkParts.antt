-- A walk through the net of a graph, whose nodes have terms that mean what its nodes do, means the finished walks of the graph.
use Rattle.std.specs.Option.{unwrap_or}
use Rattle.std.specs.Prelude.{ℕ, zero, suc, ◌<◌, ◌≤◌, ◌++◌, Bool, false, List, [], ◌∷◌, ◌≡◌, Option, None, Some, length, map}
use Rattle.std.proofs.Common.{ap, sym, ◌∙◌, refl, subst, inl, arith}
use Rattle.msc_base.specs.declared.label.LabelRef.{LabelRef}
use Rattle.msc_base.specs.Lists.{IsIn}
use Rattle.msc_base.specs.Orders.{Once}
use Rattle.msc_unfolding.specs.Unfoldings.{Unfolding}
use Rattle.hmsc_graph.specs.declared.shape.Shape.{Shape}
use Rattle.hmsc_graph.specs.declared.shape.ShapeLine.{ShapeLine}
use Rattle.hmsc_graph.specs.Graphs.{Net, Start, End, Any, WalkThrough}
use Rattle.hmsc_graph.specs.Nets.{size_of}
use Rattle.hmsc_graph.specs.Shapes.{AreNumbers}
use Rattle.chart_term.specs.Properties.{Each, MayHave}
use Rattle.chart_term.specs.Tables.{NetEntry, Tables, net_count, net_of, node_of, nodes_of, nth_tree, terms_over}
use Rattle.chart_term.specs.TermMeanings.{HasPattern, PatternsOf}
use Rattle.chart_term.specs.TermPatterns.{Shape as Pattern, Both, same, on}
use Rattle.chart_term.specs.Terms.{Tree, Nil, Walk}
use Rattle.term_tables.specs.NetValues.{NetsValue}
use Rattle.term_laws.specs.ConstructorLaws.{HaveSame, NormalFormsKeepPatterns}
use Rattle.term_laws.specs.FullSoundness.{AreSoundNets, ConstructorsKeepSoundness, FreshTermsAreSound, IsSoundNode, fresh_walk}
use Rattle.term_laws.specs.LaterTables.{LaterTablesAgree}
use Rattle.term_laws.specs.Soundness.{AreTidyTables, IsTidyOver, Lacks, NetLacks}
use Rattle.term_laws.proofs.FullSound.{tidy_of, tidy_tables}
use Rattle.sound_terms.specs.FormLaws.{WalksStayWithin}
use Rattle.sound_terms.specs.Intervals.{IsBeyond}
use Rattle.term_meaning.specs.Portions.{IsPortion}
use Rattle.term_meaning.specs.UnfoldingSets.{AreOnWalk, OnlyEmpty}
use Rattle.term_meaning.proofs.PortionRules.{portion_nil, portion_same, portion_sets, portion_trail, portion_wide}
use Rattle.msc_tree.specs.Graphs.{graph, Lines, no_lines, line_and, line}
use Rattle.msc_meaning.specs.ChartUnfoldings.{OfNode, OfWalk}
use Rattle.msc_meaning.specs.Tables.{Table}
use Rattle.graph_shapes.specs.GraphShapes.{shape_lines, shape_of}
use Rattle.graph_walks.specs.LineUnfoldings.{OfLine}
use Rattle.graph_walks.specs.GraphLaws.{TextWalksNet}
use Rattle.expansion_terms.specs.MadeTerms.{net_of_shape, newest_walk}
use Rattle.expanded_terms.specs.GraphWalks.{IsGraphWalk, IsWholeNet}
use Rattle.expanded_terms.specs.Parts.{IsPartFor}
use Rattle.graph_walks.proofs.NetNodes.{net_here, nodes_here}
use Rattle.sound_terms.proofs.SoundTables.{is_counted}
use Rattle.expanded_terms.specs.BareTerms.{IsBare}
use Rattle.expanded_terms.proofs.NetParts.{net_lacks, net_there, node_there, sound_below, tidy_below, walk_forms}

-- the term means what a node does; nothing is shown of it
pub record IsNodePart (v : NetsValue) (names : List (List ℕ)) (lo hi : ℕ) (x : Tree) (U : Unfolding → Type 0) : Type 0 where
  pub beyond : (j : ℕ) → IsBeyond lo hi j → Lacks (NetLacks v.tables) j x
  pub portion : (o : Bool) → IsPortion v.labels names lo hi [] (HasPattern (terms_over v.tables) o x) U

-- one term for each line
abbrev pub AreNodeParts : Table → NetsValue → List (List ℕ) → ℕ → ℕ → List Tree → Lines → Type 0
AreNodeParts table v names lo hi [] no_lines = Unit {0}
AreNodeParts table v names lo hi [] (line_and x xs) = ⊥
AreNodeParts table v names lo hi (y ∷ ys) no_lines = ⊥
AreNodeParts table v names lo hi (y ∷ ys) (line_and (line label place node next) xs) = IsNodePart v names lo hi y (OfNode table node) × AreNodeParts table v names lo hi ys xs

module _ (table : Table) (v : NetsValue) (names : List (List ℕ)) (lo hi : ℕ) where
  nodes_lack : (j : ℕ) → IsBeyond lo hi j → (ys : List Tree) (lines : Lines) → AreNodeParts table v names lo hi ys lines → Each (Lacks (NetLacks v.tables) j) ys
  nodes_lack j b [] lines h = tt
  nodes_lack j b (y ∷ ys) no_lines h = absurd h
  nodes_lack j b (y ∷ ys) (line_and (line label place node next) xs) h = (h.0.beyond j b, nodes_lack j b ys xs h.1)

  -- the node of each number does what its line says
  node_means : lo ≤ hi → (o : Bool) (ys : List Tree) (lines : Lines) → AreNodeParts table v names lo hi ys lines → (m : ℕ) → IsPortion v.labels names lo hi [] (HasPattern (terms_over v.tables) o (nth_tree ys m)) (OfLine table lines m)
  node_means l o [] no_lines h m = portion_wide v.labels names lo lo lo hi [] (HasPattern (terms_over v.tables) o Nil) OnlyEmpty (omega arith) l (portion_nil v.labels names (terms_over v.tables) o lo)
  node_means l o [] (line_and x xs) h m = absurd h
  node_means l o (y ∷ ys) no_lines h m = absurd h
  node_means l o (y ∷ ys) (line_and (line label place node next) xs) h zero = h.0.portion o
  node_means l o (y ∷ ys) (line_and (line label place node next) xs) h (suc m) = node_means l o ys xs h.1 m

-- ---- the same patterns over fewer nets

module _ (agree : LaterTablesAgree) (o : Bool) (e : NetEntry) (older : Tables) (x : Tree) (tidy : IsTidyOver (e ∷ older) x) where
  tidy_above : (newer : Tables) → AreTidyTables (newer ++ e ∷ older) → IsTidyOver (newer ++ e ∷ older) x
  tidy_above [] h = tidy
  tidy_above (d ∷ newer) h = agree.tidy (newer ++ e ∷ older) d x h.0 (tidy_above newer h.0)

  later_patterns : (newer : Tables) → AreTidyTables (newer ++ e ∷ older) → (s : Pattern) → Both (HasPattern (terms_over (e ∷ older)) o x s) (HasPattern (terms_over (newer ++ e ∷ older)) o x s)
  later_patterns [] h s = record { to = λ i. i; from = λ i. i }
  later_patterns (d ∷ newer) h s =
      let b = later_patterns newer h.0 s in
      let c = agree.patterns o (newer ++ e ∷ older) d x s h.0 (tidy_above newer h.0) in
      record { to = λ i. c.to (b.to i); from = λ i. b.from (c.from i) }

  pub same_above : (newer : Tables) → AreTidyTables (newer ++ e ∷ older) → HaveSame (HasPattern (terms_over (newer ++ e ∷ older)) o x) (HasPattern (terms_over (e ∷ older)) o x)
  same_above newer h = record { to = λ s i. (s, (later_patterns newer h s).from i, same); from = λ s i. (s, (later_patterns newer h s).to i, same) }

-- ---- sets of patterns

same_then : {A B C : Pattern → Type 0} → HaveSame A B → HaveSame B C → HaveSame A C
same_then f g = record {
  to = λ s h. let i = f.to s h in let j = g.to i.0 i.1 in (j.0, j.1, on i.2 j.2);
  from = λ s h. let i = g.from s h in let j = f.from i.0 i.1 in (j.0, j.1, on i.2 j.2);
}

same_back : {A B : Pattern → Type 0} → HaveSame A B → HaveSame B A
same_back f = record { to = f.from; from = f.to }

-- ---- the walk

abbrev ends_line : ShapeLine → Bool
ends_line l = l.ends

as_many : (table : Table) (v : NetsValue) (names : List (List ℕ)) (lo hi : ℕ) (ys : List Tree) (lines : Lines) → AreNodeParts table v names lo hi ys lines → length (map ends_line (shape_lines lines)) ≡ length ys
as_many table v names lo hi [] no_lines h = refl
as_many table v names lo hi [] (line_and x xs) h = absurd h
as_many table v names lo hi (y ∷ ys) no_lines h = absurd h
as_many table v names lo hi (y ∷ ys) (line_and (line label place node next) xs) h = ap suc (as_many table v names lo hi ys xs h.1)

module _ (keep : NormalFormsKeepPatterns) (agree : LaterTablesAgree) (fresh : FreshTermsAreSound) (constructors : ConstructorsKeepSoundness) (stays : WalksStayWithin) (walks : TextWalksNet)
    (table : Table) (v : NetsValue) (names : List (List ℕ)) (once : Once names) (nets : AreSoundNets (length v.labels) v.tables) (lo hi : ℕ) (order : lo ≤ hi)
    (starts : List LabelRef) (lines : Lines) (ys : List Tree) (x : Tree) (parts : AreNodeParts table v names lo hi ys lines) (h : IsGraphWalk v.tables (shape_of (graph starts lines)) ys x) where
  abbrev g : Shape
  g = shape_of (graph starts lines)

  abbrev e : NetEntry
  e = record { net = net_of_shape g; nodes = ys }

  abbrev k : ℕ
  k = net_count h.walk.older

  abbrev below : Tables
  below = e ∷ h.walk.older

  all_nets : AreSoundNets (length v.labels) (h.walk.newer ++ below)
  all_nets = subst (λ (w : Tables). AreSoundNets (length v.labels) w) h.walk.there nets

  tidy : AreTidyTables (h.walk.newer ++ below)
  tidy = tidy_tables (length v.labels) (h.walk.newer ++ below) all_nets

  nets_below : AreSoundNets (length v.labels) below
  nets_below = sound_below e h.walk.older (length v.labels) h.walk.newer all_nets

  -- it is there
  first_node : (ms : List ℕ) → AreNumbers (shape_lines lines) starts ms → (m : ℕ) × IsIn m ms
  first_node ms i = some ms (subst (λ (ls : List LabelRef). AreNumbers (shape_lines lines) ls ms) h.leads.starts i)
    where
      some : (ms : List ℕ) → AreNumbers (shape_lines lines) (h.leads.first ∷ h.leads.others) ms → (m : ℕ) × IsIn m ms
      some [] i = absurd cc
      some (m ∷ ms) i = (m, inl refl)

  all_counted : (m : ℕ) → m < size_of e.net → IsIn m (nodes_of below k)
  all_counted m l = subst (λ (ms : List ℕ). IsIn m ms) (sym (nodes_here e h.walk.older)) (is_counted 0 m ys (omega arith) (let s = as_many table v names lo hi ys lines parts in omega (arith, l, s)))

  leads : WalkThrough (net_of below k) (nodes_of below k) Start End
  leads =
      let (m, i) = first_node e.net.starts h.whole.drawn.starts in
      subst (λ (n : Net). WalkThrough n (nodes_of below k) Start End) (sym (net_here e h.walk.older)) (stays.ends e.net (nodes_of below k) m h.whole.net all_counted h.leads.ends i)

  there : (y : Tree) × (fresh_walk below k End ≡ Some y)
  there = by (fresh_walk below k End) (λ i. (fresh.walk_fails (length v.labels) below k End nets_below (omega arith) tt).to i leads)
    where
      by : (r : Option Tree) → (r ≡ None → ⊥) → (y : Tree) × (r ≡ Some y)
      by None i = absurd (i refl)
      by (Some y) i = (y, refl)

  same_term : x ≡ there.0
  same_term = h.walk.is ∙ ap (λ (r : Option Tree). unwrap_or r Nil) there.1

  sound : IsSoundNode (length v.labels) below there.0
  sound = subst (λ (r : Option Tree). MayHave (IsSoundNode (length v.labels) below) r) there.1 (constructors.walk (length v.labels) below k End nets_below (omega arith) tt tt)

  walk_same : (o : Bool) → HaveSame (HasPattern (terms_over (h.walk.newer ++ below)) o there.0) (HasPattern (terms_over (h.walk.newer ++ below)) o (Walk k Start End []))
  walk_same o =
      same_then (same_above agree o e h.walk.older there.0 (tidy_of (length v.labels) below there.0 nets_below sound.sound) h.walk.newer tidy)
      (same_then made (same_back (same_above agree o e h.walk.older (Walk k Start End []) (omega arith) h.walk.newer tidy)))
    where
      made : HaveSame (HasPattern (terms_over below) o there.0) (HasPattern (terms_over below) o (Walk k Start End []))
      made = subst (λ (r : Option Tree). HaveSame (PatternsOf (terms_over below) o r) (HasPattern (terms_over below) o (Walk k Start End []))) there.1
          (keep.trail o below k Start End [] (tidy_below e h.walk.older h.walk.newer tidy) (omega arith))

  walk_means : (o : Bool) → IsPortion v.labels names lo hi [] (HasPattern (terms_over v.tables) o (Walk k Start End [])) (OfWalk table false lines starts)
  walk_means o =
      portion_sets v.labels names lo hi [] (HasPattern (terms_over v.tables) o (Walk k Start End [])) (AreOnWalk e.net o (OfLine table lines) Start End) (OfWalk table false lines starts)
      (λ u. let b = walks.to_end table starts lines e.net (record { drawn = h.whole.drawn; faultless = h.whole.faultless; net = h.whole.net }) o u in record { to = b.from; from = b.to })
      (subst (λ (n : Net). IsPortion v.labels names lo hi [] (HasPattern (terms_over v.tables) o (Walk k Start End [])) (AreOnWalk n o (OfLine table lines) Start End)) net
      (portion_trail v.labels names (terms_over v.tables) o once lo hi k order (OfLine table lines) node Start End))
    where
      net : net_of v.tables k ≡ e.net
      net = ap (λ (w : Tables). net_of w k) h.walk.there ∙ net_there e h.walk.older h.walk.newer

      node : (m : ℕ) → IsPortion v.labels names lo hi [] (HasPattern (terms_over v.tables) o (node_of v.tables k m)) (OfLine table lines m)
      node m = subst (λ (y : Tree). IsPortion v.labels names lo hi [] (HasPattern (terms_over v.tables) o y) (OfLine table lines m)) (sym (ap (λ (w : Tables). node_of w k m) h.walk.there ∙ node_there e h.walk.older h.walk.newer m))
          (node_means table v names lo hi order o ys lines parts m)

  lacks : (j : ℕ) → IsBeyond lo hi j → NetLacks v.tables j k
  lacks j b = subst (λ (w : Tables). NetLacks w j k) (sym h.walk.there)
      (net_lacks e h.walk.older j h.walk.newer tidy (subst (λ (w : Tables). Each (Lacks (NetLacks w) j) ys) h.walk.there (nodes_lack table v names lo hi j b ys lines parts)))

  pub walk_part : IsPartFor v names lo hi [] x (OfWalk table false lines starts)
  walk_part = record {
    bare = subst (λ (y : Tree). IsBare y) (sym h.walk.is) (walk_forms IsBare below k End tt (λ c. tt));
    beyond = λ j b. subst (λ (y : Tree). Lacks (NetLacks v.tables) j y) (sym h.walk.is) (walk_forms (Lacks (NetLacks v.tables) j) below k End tt (λ c. lacks j b));
    hidden = λ j i. elim i.1 [ ];
    portion = λ o. subst (λ (y : Tree). IsPortion v.labels names lo hi [] (HasPattern (terms_over v.tables) o y) (OfWalk table false lines starts)) (sym same_term)
        (portion_same v.labels names lo hi [] (HasPattern (terms_over v.tables) o there.0) (HasPattern (terms_over v.tables) o (Walk k Start End [])) (OfWalk table false lines starts)
        (subst (λ (w : Tables). HaveSame (HasPattern (terms_over w) o there.0) (HasPattern (terms_over w) o (Walk k Start End []))) (sym h.walk.there) (walk_same o)) (walk_means o));
  }

-- ---- the judged graph, whose net is the newest one: walks to anywhere

module _ (keep : NormalFormsKeepPatterns) (walks : TextWalksNet) (table : Table) (v : NetsValue) (names : List (List ℕ)) (once : Once names) (tidy : AreTidyTables v.tables) (lo hi : ℕ) (order : lo ≤ hi)
    (starts : List LabelRef) (lines : Lines) (ys : List Tree) (parts : AreNodeParts table v names lo hi ys lines) (whole : IsWholeNet (shape_of (graph starts lines))) (older : Tables)
    (there : v.tables ≡ record { net = net_of_shape (shape_of (graph starts lines)); nodes = ys } ∷ older) where
  abbrev d : NetEntry
  d = record { net = net_of_shape (shape_of (graph starts lines)); nodes = ys }

  judged_walk : (o : Bool) → IsPortion v.labels names lo hi [] (HasPattern (terms_over v.tables) o (Walk (net_count older) Start Any [])) (OfWalk table o lines starts)
  judged_walk o =
      portion_sets v.labels names lo hi [] (HasPattern (terms_over v.tables) o (Walk (net_count older) Start Any [])) (AreOnWalk d.net o (OfLine table lines) Start Any) (OfWalk table o lines starts)
      (λ u. let b = walks.any table starts lines d.net (record { drawn = whole.drawn; faultless = whole.faultless; net = whole.net }) o u in record { to = b.from; from = b.to })
      (subst (λ (n : Net). IsPortion v.labels names lo hi [] (HasPattern (terms_over v.tables) o (Walk (net_count older) Start Any [])) (AreOnWalk n o (OfLine table lines) Start Any)) (ap (λ (w : Tables). net_of w (net_count older)) there ∙ net_there d older [])
      (portion_trail v.labels names (terms_over v.tables) o once lo hi (net_count older) order (OfLine table lines) node Start Any))
    where
      node : (m : ℕ) → IsPortion v.labels names lo hi [] (HasPattern (terms_over v.tables) o (node_of v.tables (net_count older) m)) (OfLine table lines m)
      node m = subst (λ (y : Tree). IsPortion v.labels names lo hi [] (HasPattern (terms_over v.tables) o y) (OfLine table lines m)) (sym (ap (λ (w : Tables). node_of w (net_count older) m) there ∙ node_there d older [] m))
          (node_means table v names lo hi order o ys lines parts m)

  pub judged_portion : (o : Bool) → IsPortion v.labels names lo hi [] (HasPattern (terms_over v.tables) o (newest_walk Any (d ∷ older))) (OfWalk table o lines starts)
  judged_portion o = portion_same v.labels names lo hi [] (HasPattern (terms_over v.tables) o (newest_walk Any (d ∷ older))) (HasPattern (terms_over v.tables) o (Walk (net_count older) Start Any [])) (OfWalk table o lines starts)
      (subst (λ (w : Tables). HaveSame (HasPattern (terms_over w) o (newest_walk Any (d ∷ older))) (HasPattern (terms_over w) o (Walk (net_count older) Start Any []))) (sym there)
      (keep.trail o (d ∷ older) (net_count older) Start Any [] (subst AreTidyTables there tidy) (omega arith))) (judged_walk o)
