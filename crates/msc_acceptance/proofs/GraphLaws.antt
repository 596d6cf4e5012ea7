-- The rules on the graphs of charts: from all graphs in one list, and from the names by which charts name charts.
use Rattle.std.specs.List.{flat_map, list_any}
use Rattle.std.specs.Str.{bytes_eq}
use Rattle.std.proofs.Common.{◌≡◌, ◌<◌, ◌≤◌, ◌++◌, ◌⊎◌, inl, inr, ℕ, Bool, true, false, List, [], ◌∷◌, Option, None, fold, length, map, arith, refl, sym, subst, ap, ap₂, ◌∙◌}
use Rattle.std.proofs.lemmas.Bool.{cases_lt}
use Rattle.chart_links.specs.Links.{Link, chart_links, linked}
use Rattle.chart_links.specs.Summaries.{Summary, summary_of}
use Rattle.formed_graphs.specs.FormedGraphs.{HasFormedGraph, HaveFormedGraphs}
use Rattle.graph_rules.specs.GraphRules.{AreLabelled, BreakLabels, HasEndlessLine, HasFurtherLine, HaveFewLines, InGraphs, content_graphs, ending_graphs, graphs_to_end, labels}
use Rattle.graph_shapes.specs.GraphShapes.{shape_of}
use Rattle.hmsc_graph.specs.Shapes.{IsFaulty}
use Rattle.hmsc_graph.specs.declared.shape.Shape.{Shape}
use Rattle.list_facts.proofs.Members.{among_either, among_left, among_right}
use Rattle.list_facts.proofs.Reading.{some_at}
use Rattle.msc_base.proofs.NameFacts.{any_folded}
use Rattle.msc_base.specs.Lists.{IsAmong}
use Rattle.msc_base.specs.NameTables.{with_name}
use Rattle.msc_base.specs.Places.{IsLeast}
use Rattle.msc_base.specs.declared.limits.TheConstants.Limits.{NODE_LINES}
use Rattle.msc_base.specs.declared.place.Place.{Place}
use Rattle.msc_rules.proofs.Joining.{best_same}
use Rattle.msc_rules.specs.FirstFaults.{IsBest, Keeps, fault_of}
use Rattle.msc_rules.specs.Rules.{number_of}
use Rattle.msc_rules.specs.declared.first_fault.Broken.{Broken}
use Rattle.msc_rules.specs.declared.rule.Rule.{Rule}
use Rattle.msc_rules.specs.declared.rule.Rule.TheVariants.{Endless, LabelNamedTwice, Nodes, UnknownLabel}
use Rattle.msc_tree.specs.Charts.{Chart, Content, Basic, HighLevel}
use Rattle.msc_tree.specs.Graphs.{Graph, graph}
use Rattle.woven_laws.specs.BuiltCharts.{IsLinked}
use Rattle.msc_acceptance.specs.Acceptance.{BreaksOf}
use Rattle.msc_acceptance.specs.Deciding.{AllKept, IsFirstOf, endings, graph_groups, text_groups}
use Rattle.msc_acceptance.specs.GraphFaults.{charts_graphs, graphs_ending, is_referred, linked_names}
use Rattle.msc_acceptance.proofs.GroupLaws.{one_best}

-- ---- graphs that keep the rules

-- no line above the limit
pub few_of : (gs : List Graph) → ((q : Place) → InGraphs HasFurtherLine gs q → ⊥) → HaveFewLines gs
few_of [] none = tt
few_of (g ∷ gs) none = (by (cases_lt NODE_LINES (length (shape_of g).lines)), few_of gs (λ q h. none q (inr h)))
  where
    by : (NODE_LINES < length (shape_of g).lines) ⊎ (length (shape_of g).lines ≤ NODE_LINES) → length (shape_of g).lines ≤ NODE_LINES
    by (inl lt) = let s = some_at (shape_of g).lines NODE_LINES lt in absurd (none s.0.place (inl (record { line = s.0; at = s.1; here = refl })))
    by (inr ge) = ge

-- no faulty label
pub labelled_of : (gs : List Graph) → Keeps (BreakLabels gs) labels → AreLabelled gs
labelled_of [] none = tt
labelled_of (g ∷ gs) none = (
  λ p f. elim f [ inl x ↦ none UnknownLabel p (inl refl) (inl (inl (refl, x))) | inr y ↦ none LabelNamedTwice p (inr (inl refl)) (inl (inr (refl, y))) ],
  labelled_of gs (λ r p m b. none r p m (inr b)),
)

-- so it is of some of them
few_among : (some all : List Graph) → ((g : Graph) → IsAmong some g → IsAmong all g) → HaveFewLines all → HaveFewLines some
few_among [] all within h = tt
few_among (g ∷ gs) all within h = (own all h (within g (inl refl)), few_among gs all (λ d m. within d (inr m)) h)
  where
    own : (all : List Graph) → HaveFewLines all → IsAmong all g → length (shape_of g).lines ≤ NODE_LINES
    own [] h m = absurd m
    own (d ∷ ds) h (inl is) = subst (λ (x : Graph). length (shape_of x).lines ≤ NODE_LINES) (sym is) h.0
    own (d ∷ ds) h (inr m) = own ds h.1 m

labelled_among : (some all : List Graph) → ((g : Graph) → IsAmong some g → IsAmong all g) → AreLabelled all → AreLabelled some
labelled_among [] all within h = tt
labelled_among (g ∷ gs) all within h = (own all h (within g (inl refl)), labelled_among gs all (λ d m. within d (inr m)) h)
  where
    own : (all : List Graph) → AreLabelled all → IsAmong all g → (p : Place) → IsFaulty (shape_of g) p → ⊥
    own [] h m = absurd m
    own (d ∷ ds) h (inl is) = subst (λ (x : Graph). (p : Place) → IsFaulty (shape_of x) p → ⊥) (sym is) h.0
    own (d ∷ ds) h (inr m) = own ds h.1 m

-- ---- those in which walks are to come to an end are some of all

content_ending : (b : Bool) (x : Content) (g : Graph) → IsAmong (ending_graphs b x) g → IsAmong (content_graphs x) g
content_ending b (Basic held) g m = absurd m
content_ending true (HighLevel drawn) g m = m
content_ending false (HighLevel (graph starts lines)) g m = inr m

ending_within : (referred : List ℕ → Bool) (charts : List Chart) (g : Graph) → IsAmong (graphs_ending referred charts) g → IsAmong (charts_graphs charts) g
ending_within referred [] g m = absurd m
ending_within referred (c ∷ charts) g m = elim (among_either (ending_graphs (referred c.name) c.content) (graphs_ending referred charts) g m) [
  | inl own ↦ among_left (content_graphs c.content) (charts_graphs charts) g (content_ending (referred c.name) c.content g own)
  | inr more ↦ among_right (content_graphs c.content) (charts_graphs charts) g (ending_within referred charts g more)
]

pub ending_few : (referred : List ℕ → Bool) (charts : List Chart) → HaveFewLines (charts_graphs charts) → HaveFewLines (graphs_ending referred charts)
ending_few referred charts h = few_among (graphs_ending referred charts) (charts_graphs charts) (ending_within referred charts) h

pub ending_labelled : (referred : List ℕ → Bool) (charts : List Chart) → AreLabelled (charts_graphs charts) → AreLabelled (graphs_ending referred charts)
ending_labelled referred charts h = labelled_among (graphs_ending referred charts) (charts_graphs charts) (ending_within referred charts) h

-- ---- the graphs of one chart are some of all

own_within : (charts : List Chart) (c : Chart) → IsAmong charts c → (g : Graph) → IsAmong (content_graphs c.content) g → IsAmong (charts_graphs charts) g
own_within [] c m g h = absurd m
own_within (d ∷ charts) c (inl is) g h = among_left (content_graphs d.content) (charts_graphs charts) g (subst (λ (x : Chart). IsAmong (content_graphs x.content) g) is h)
own_within (d ∷ charts) c (inr m) g h = among_right (content_graphs d.content) (charts_graphs charts) g (own_within charts c m g h)

pub own_few : (charts : List Chart) (c : Chart) → IsAmong charts c → HaveFewLines (charts_graphs charts) → HaveFewLines (content_graphs c.content)
own_few charts c m h = few_among (content_graphs c.content) (charts_graphs charts) (own_within charts c m) h

pub own_labelled : (charts : List Chart) (c : Chart) → IsAmong charts c → AreLabelled (charts_graphs charts) → AreLabelled (content_graphs c.content)
own_labelled charts c m h = labelled_among (content_graphs c.content) (charts_graphs charts) (own_within charts c m) h

pub own_shape : (charts : List Chart) (c : Chart) → IsAmong charts c → HaveFormedGraphs charts → HasFormedGraph c.content
own_shape [] c m h = absurd m
own_shape (d ∷ charts) c (inl is) h = subst (λ (x : Chart). HasFormedGraph x.content) (sym is) h.0
own_shape (d ∷ charts) c (inr m) h = own_shape charts c m h.1

module _ (Has : Shape → Place → Type 0) where
  graphs_left : (xs ys : List Graph) (q : Place) → InGraphs Has xs q → InGraphs Has (xs ++ ys) q
  graphs_left [] ys q h = absurd h
  graphs_left (x ∷ xs) ys q (inl h) = inl h
  graphs_left (x ∷ xs) ys q (inr h) = inr (graphs_left xs ys q h)

  graphs_right : (xs ys : List Graph) (q : Place) → InGraphs Has ys q → InGraphs Has (xs ++ ys) q
  graphs_right [] ys q h = h
  graphs_right (x ∷ xs) ys q h = inr (graphs_right xs ys q h)

pub own_ending : (charts : List Chart) (c : Chart) → IsAmong charts c → (referred : List ℕ → Bool) (q : Place) → InGraphs HasEndlessLine (ending_graphs (referred c.name) c.content) q → InGraphs HasEndlessLine (graphs_ending referred charts) q
own_ending [] c m referred q h = absurd m
own_ending (d ∷ charts) c (inl is) referred q h =
    graphs_left HasEndlessLine (ending_graphs (referred d.name) d.content) (graphs_ending referred charts) q (subst (λ (x : Chart). InGraphs HasEndlessLine (ending_graphs (referred x.name) x.content) q) is h)
own_ending (d ∷ charts) c (inr m) referred q h = graphs_right HasEndlessLine (ending_graphs (referred d.name) d.content) (graphs_ending referred charts) q (own_ending charts c m referred q h)

-- where a chart is referred to, more of its walks are to come to an end
pub more_ending : (drawn : Graph) (a b : Bool) → (a ≡ true → b ≡ true) → (q : Place) → InGraphs HasEndlessLine (graphs_to_end a drawn) q → InGraphs HasEndlessLine (graphs_to_end b drawn) q
more_ending drawn true true f q h = h
more_ending drawn true false f q h = let e : false ≡ true = f refl in absurd cc
more_ending (graph starts lines) false true f q h = inr h
more_ending drawn false false f q h = h

-- ---- names

pub linked_among : (links : List Link) (name : List ℕ) → IsLinked links name → IsAmong (map linked links) name
linked_among links name h = subst (IsAmong (map linked links)) h.is (by links h.says)
  where
    by : (some : List Link) → IsAmong some h.link → IsAmong (map linked some) (linked h.link)
    by [] m = absurd m
    by (l ∷ some) (inl is) = inl (ap linked is)
    by (l ∷ some) (inr m) = inr (by some m)

pub same_ending : (p q : List ℕ → Bool) → ((name : List ℕ) → p name ≡ q name) → (charts : List Chart) → graphs_ending p charts ≡ graphs_ending q charts
same_ending p q same [] = refl
same_ending p q same (c ∷ charts) = ap₂ (λ (xs ys : List Graph). xs ++ ys) (ap (λ (b : Bool). ending_graphs b c.content) (same c.name)) (same_ending p q same charts)

names_linked : (charts : List Chart) → flat_map (λ (s : Summary). map linked s.links) (map summary_of charts) ≡ linked_names charts
names_linked [] = refl
names_linked (c ∷ charts) = ap (λ (ns : List (List ℕ)). map linked (chart_links c) ++ ns) (names_linked charts)

-- a name is in the table of all that are named, where a chart refers to it
pub referred_of : (charts : List Chart) (summaries : List Summary) (table : List (List ℕ)) → summaries ≡ map summary_of charts → table ≡ fold with_name [] (flat_map (λ (s : Summary). map linked s.links) summaries)
    → (name : List ℕ) → list_any (bytes_eq name) table ≡ is_referred charts name
referred_of charts summaries table are made name =
    ap (list_any (bytes_eq name)) made ∙ any_folded [] (flat_map (λ (s : Summary). map linked s.links) summaries) name
    ∙ ap (λ (l : List Summary). list_any (bytes_eq name) (flat_map (λ (s : Summary). map linked s.links) l)) are ∙ ap (list_any (bytes_eq name)) (names_linked charts)

-- ---- groups of rules

pub few_kept : (charts : List Chart) → AllKept (BreaksOf charts) text_groups → HaveFewLines (charts_graphs charts)
few_kept charts kept = few_of (charts_graphs charts) (λ q h. kept.0 Nodes q (inr (inr (inl refl))) h)

-- the rules of labels of graphs are those of charts
labels_to : (charts : List Chart) (r : Rule) (p : Place) → IsAmong labels r → BreakLabels (charts_graphs charts) r p → BreaksOf charts r p
labels_to charts r p (inl is) b = subst (λ (x : Rule). BreaksOf charts x p) (sym is) (subst (λ (x : Rule). BreakLabels (charts_graphs charts) x p) is b)
labels_to charts r p (inr (inl is)) b = subst (λ (x : Rule). BreaksOf charts x p) (sym is) (subst (λ (x : Rule). BreakLabels (charts_graphs charts) x p) is b)
labels_to charts r p (inr (inr n)) b = absurd n

labels_from : (charts : List Chart) (r : Rule) (p : Place) → IsAmong labels r → BreaksOf charts r p → BreakLabels (charts_graphs charts) r p
labels_from charts r p (inl is) b = subst (λ (x : Rule). BreakLabels (charts_graphs charts) x p) (sym is) (subst (λ (x : Rule). BreaksOf charts x p) is b)
labels_from charts r p (inr (inl is)) b = subst (λ (x : Rule). BreakLabels (charts_graphs charts) x p) (sym is) (subst (λ (x : Rule). BreaksOf charts x p) is b)
labels_from charts r p (inr (inr n)) b = absurd n

pub labels_kept : (charts : List Chart) → AllKept (BreaksOf charts) graph_groups → AreLabelled (charts_graphs charts)
labels_kept charts kept = labelled_of (charts_graphs charts) (λ r p m b. kept.0 r p m (labels_to charts r p m b))

pub labels_best : (charts : List Chart) (o : Option (Broken Rule)) → IsBest number_of (BreakLabels (charts_graphs charts)) labels o → IsBest number_of (BreaksOf charts) labels o
labels_best charts o h = best_same number_of (BreakLabels (charts_graphs charts)) (BreaksOf charts) labels o (labels_to charts) (labels_from charts) h

-- the earliest endless line, by the names that are known to be referred to
pub endings_best : (charts : List Chart) (referred : List ℕ → Bool) (gs : List Graph) (o : Option Place) → ((name : List ℕ) → referred name ≡ is_referred charts name) → gs ≡ graphs_ending referred charts → IsLeast (InGraphs HasEndlessLine gs) o
    → IsBest number_of (BreaksOf charts) endings (fault_of Endless o)
endings_best charts referred gs o same are h = one_best charts Endless o (subst (λ (l : List Graph). IsLeast (InGraphs HasEndlessLine l) o) (are ∙ same_ending referred (is_referred charts) same charts) h)

-- without graphs no rule on them is broken
no_graphs : (gs : List Graph) → ((g : Graph) → IsAmong gs g → ⊥) → gs ≡ []
no_graphs [] none = refl
no_graphs (g ∷ gs) none = absurd (none g (inl refl))

pub graphless_kept : (charts : List Chart) → charts_graphs charts ≡ [] → IsFirstOf charts graph_groups None
graphless_kept charts none = (
  labels_best charts None (λ r p m b. subst (λ (l : List Graph). BreakLabels l r p) none b),
  (one_best charts Endless None (λ q h. subst (λ (l : List Graph). InGraphs HasEndlessLine l q) empty h), tt),
)
  where
    empty : graphs_ending (is_referred charts) charts ≡ []
    empty = no_graphs (graphs_ending (is_referred charts) charts) (λ g m. subst (λ (l : List Graph). IsAmong l g) none (ending_within (is_referred charts) charts g m))
