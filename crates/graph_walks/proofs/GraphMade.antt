-- The walks of the net that was added last mean the walks of the graph.
use Rattle.std.specs.Prelude.{ℕ, ◌<◌, Bool, true, false, List, [], ◌∷◌, Option, Some, None, ◌≡◌, length}
use Rattle.std.proofs.Common.{ap, sym, ◌∙◌, refl, inl, inr, arith, subst}
use Rattle.std.proofs.lemmas.Option.{same_Some}
use Rattle.msc_base.specs.declared.label.LabelRef.{LabelRef}
use Rattle.msc_base.specs.Lists.{IsIn}
use Rattle.msc_base.specs.Orders.{Once}
use Rattle.msc_unfolding.specs.Unfoldings.{Unfolding}
use Rattle.hmsc_graph.specs.Graphs.{Net, Start, Goal, End, Any, WalkThrough, behind}
use Rattle.hmsc_graph.specs.Nets.{size_of}
use Rattle.hmsc_graph.specs.Shapes.{AreNumbers}
use Rattle.hmsc_graph.specs.Walks.{IsFirstEndless}
use Rattle.chart_term.specs.NormalForms.{walk_form, cut, allowed, are_nil}
use Rattle.hmsc_graph.specs.Graphs as graphs
use Rattle.chart_term.specs.Properties.{MayHave}
use Rattle.chart_term.specs.Tables.{NetEntry, Tables, net_count, net_of, node_of, nodes_of, terms_over}
use Rattle.chart_term.specs.TermMeanings.{HasPattern, PatternsOf}
use Rattle.chart_term.specs.TermPatterns.{Both}
use Rattle.chart_term.specs.Terms.{Tree, Nil, Walk}
use Rattle.term_tables.specs.NetValues.{NetsValue}
use Rattle.term_laws.specs.ConstructorLaws.{NormalFormsKeepPatterns}
use Rattle.term_laws.specs.FullSoundness.{AreSoundNets, IsSoundNode, IsFullySound, fresh_walk, FreshTermsAreSound, ConstructorsKeepSoundness}
use Rattle.term_laws.specs.LaterTables.{LaterTablesAgree}
use Rattle.term_laws.specs.Permission.{permits_of}
use Rattle.term_laws.specs.Placing.{AreEventsPlaced}
use Rattle.term_laws.specs.Soundness.{AreTidyTables, IsKnown}
use Rattle.term_laws.proofs.FullSound.{tidy_of, tidy_tables}
use Rattle.sound_terms.specs.FormLaws.{WalksStayWithin}
use Rattle.sound_terms.specs.TableLaws.{TablesStaySound}
use Rattle.sound_terms.proofs.SoundTables.{is_counted}
use Rattle.term_meaning.specs.Meanings.{Means, MeansUnfoldings}
use Rattle.term_meaning.specs.Naming.{IsNamed}
use Rattle.term_meaning.specs.Portions.{IsPortion}
use Rattle.term_meaning.specs.UnfoldingSets.{AreOnWalk}
use Rattle.term_meaning.proofs.Extended.{keeps_same, later_same, portion_from_now}
use Rattle.term_meaning.proofs.MeaningRules.{mean_sets}
use Rattle.term_meaning.proofs.PortionRules.{portion_sets, portion_means, portion_trail, portion_fresh_walk}
use Rattle.msc_tree.specs.Graphs.{graph, Lines}
use Rattle.msc_meaning.specs.ChartUnfoldings.{OfWoven, of_graph, OfWalk}
use Rattle.msc_meaning.specs.FarEnds.{no_gates}
use Rattle.msc_meaning.specs.Meanings.{Finished, Open, Begun}
use Rattle.msc_meaning.specs.Tables.{Table, ChartEntry, chart_at, Woven, Basic, HighLevel, Refinement, refinements}
use Rattle.msc_meaning.proofs.MeaningLaws.{walks_are_open}
use Rattle.graph_shapes.specs.GraphShapes.{shape_lines}
use Rattle.graph_walks.specs.LineUnfoldings.{OfLine}
use Rattle.graph_walks.specs.GraphLaws.{IsLastNet, GraphTermsMean}
use Rattle.graph_walks.specs.NodeTerms.{IsNodeTerm, IsGraphTerm, with_net}
use Rattle.graph_walks.proofs.NetNodes.{net_here, nodes_here, node_here, node_portion, sized, sound_nets, placed_nets}
use Rattle.graph_walks.proofs.WalkSets.{text_walks_net}

-- a walk in normal form is Nil, or a walk through the net
formed : (P : Tree → Type 0) (b c : Bool) (x y : Tree) → P Nil → P x → walk_form b c x ≡ Some y → P y
formed P false c x y n h e = absurd cc
formed P true true x y n h e = subst P (same_Some Nil y e) n
formed P true false x y n h e = subst P (same_Some x y e) h

pub walk_is : (P : Tree → Type 0) (w : Tables) (n : ℕ) (t : Goal) (x : Tree) → P Nil → ((c : List ℕ) → P (Walk n Start t c)) → fresh_walk w n t ≡ Some x → P x
walk_is P w n Any x m h e = subst P (same_Some (Walk n Start Any (cut ((permits_of w).spread n) [])) x e) (h (cut ((permits_of w).spread n) []))
walk_is P w n End x m h e = let k = permits_of w in let c = cut (k.spread n) [] in let ks = allowed k n c in formed P (graphs.reach (k.net n) ks Start End) (are_nil k n Start End c ks) (Walk n Start End c) x m (h c) e
walk_is P w n (graphs.To j) x m h e = let k = permits_of w in let c = cut (k.spread n) [] in let ks = allowed k n c in formed P (graphs.reach (k.net n) ks Start (graphs.To j)) (are_nil k n Start (graphs.To j) c ks) (Walk n Start (graphs.To j) c) x m (h c) e

-- what holds of what was made, where it was made
held : (P : Tree → Type 0) (r : Option Tree) (x : Tree) → r ≡ Some x → MayHave P r → P x
held P r x e h = subst (λ (q : Option Tree). MayHave P q) e h

module _ (keep : NormalFormsKeepPatterns) (agree : LaterTablesAgree) (fresh : FreshTermsAreSound) (constructors : ConstructorsKeepSoundness) (stay : TablesStaySound)
    (table : Table) (places : ℕ → List ℕ) (v : NetsValue) (names : List (List ℕ)) (lo hi : ℕ) (starts : List LabelRef) (lines : Lines) (e : NetEntry) (h : IsLastNet table places v names lo hi starts lines e) where
  abbrev w : Tables
  w = e ∷ v.tables

  abbrev n : ℕ
  n = net_count v.tables

  nets : AreSoundNets (length v.labels) w
  nets = sound_nets stay table places v names lo hi starts lines e h

  tidy : AreTidyTables w
  tidy = tidy_tables (length v.labels) w nets

  known : IsKnown w n
  known = omega arith

  -- the walks of the net
  walked : (o : Bool) (t : Goal) (x : Tree) → fresh_walk w n t ≡ Some x → IsPortion v.labels names lo hi [] (HasPattern (terms_over w) o x) (AreOnWalk e.net o (OfLine table lines) Start t)
  walked o t x made =
      let P : Option Tree → Type 0 = λ r. IsPortion v.labels names lo hi [] (PatternsOf (terms_over w) o r) (AreOnWalk e.net o (OfLine table lines) Start t) in
      let Q : Net → Type 0 = λ g. IsPortion v.labels names lo hi [] (PatternsOf (terms_over w) o (fresh_walk w n t)) (AreOnWalk g o (OfLine table lines) Start t) in
      subst P made (subst Q (net_here e v.tables)
      (portion_fresh_walk v.labels names keep o w lo hi [] (AreOnWalk (net_of w n) o (OfLine table lines) Start t) n t tidy known
      (portion_trail v.labels names (terms_over w) o h.fit.tables.once lo hi n h.fit.order (OfLine table lines) node Start t)))
    where
      node : (m : ℕ) → IsPortion v.labels names lo hi [] (HasPattern (terms_over w) o (node_of w n m)) (OfLine table lines m)
      node m = subst (λ (x : Tree). IsPortion v.labels names lo hi [] (HasPattern (terms_over w) o x) (OfLine table lines m)) (sym (node_here e v.tables m)) (node_portion table places v names lo hi e tidy h.fit.order o e.nodes lines h.fit.are m)

  placed : (t : Goal) (x : Tree) → fresh_walk w n t ≡ Some x → AreEventsPlaced places x
  placed t x made = walk_is (AreEventsPlaced places) w n t x tt (λ c. tt) made

  closed_term : (x : Tree) → fresh_walk w n End ≡ Some x → IsNodeTerm places (with_net v e) names lo hi x (OfWalk table false lines starts)
  closed_term x made =
      let sound : IsSoundNode (length v.labels) w x = held (IsSoundNode (length v.labels) w) (fresh_walk w n End) x made (constructors.walk (length v.labels) w n End nets known tt tt) in
      record {
        means = portion_from_now agree (with_net v e) names lo hi [] x (λ o. OfWalk table false lines starts) (tidy_of (length v.labels) w x nets sound.sound)
            (λ o. portion_sets v.labels names lo hi [] (HasPattern (terms_over w) o x) (AreOnWalk e.net o (OfLine table lines) Start End) (OfWalk table false lines starts)
            (λ u. let b = text_walks_net.to_end table starts lines e.net h.net o u in record { to = b.from; from = b.to }) (walked o End x made));
        sound = sound;
        placed = placed End x made;
      }

  open_term : (x : Tree) → fresh_walk w n Any ≡ Some x → IsGraphTerm table places (with_net v e) names lo hi x starts lines
  open_term x made =
      let sound : IsFullySound (length v.labels) w x = held (IsFullySound (length v.labels) w) (fresh_walk w n Any) x made (fresh.walk (length v.labels) w n Any nets known tt) in
      record {
        means = portion_from_now agree (with_net v e) names lo hi [] x (λ o. OfWalk table o lines starts) (tidy_of (length v.labels) w x nets sound.term)
            (λ o. portion_sets v.labels names lo hi [] (HasPattern (terms_over w) o x) (AreOnWalk e.net o (OfLine table lines) Start Any) (OfWalk table o lines starts)
            (λ u. let b = text_walks_net.any table starts lines e.net h.net o u in record { to = b.from; from = b.to }) (walked o Any x made));
        sound = sound;
        placed = placed Any x made;
      }

-- a walk leads to an end, where a node is named at the start and none is endless
module _ (fresh : FreshTermsAreSound) (stay : TablesStaySound) (stays : WalksStayWithin) (table : Table) (places : ℕ → List ℕ) (v : NetsValue) (names : List (List ℕ)) (lo hi : ℕ) (start : LabelRef) (starts : List LabelRef) (lines : Lines) (e : NetEntry)
    (h : IsLastNet table places v names lo hi (start ∷ starts) lines e) (never : IsFirstEndless e.net None) where
  first_node : (m : ℕ) × IsIn m e.net.starts
  first_node = some e.net.starts h.net.drawn.starts
    where
      some : (ms : List ℕ) → AreNumbers (shape_lines lines) (start ∷ starts) ms → (m : ℕ) × IsIn m ms
      some [] i = absurd cc
      some (m ∷ ms) i = (m, inl refl)

  all_counted : (m : ℕ) → m < size_of e.net → IsIn m (nodes_of (e ∷ v.tables) (net_count v.tables))
  all_counted m l = subst (λ (ms : List ℕ). IsIn m ms) (sym (nodes_here e v.tables)) (is_counted 0 m e.nodes (omega arith) (omega (arith, l, sized stay table places v names lo hi (start ∷ starts) lines e h)))

  leads : WalkThrough (net_of (e ∷ v.tables) (net_count v.tables)) (nodes_of (e ∷ v.tables) (net_count v.tables)) Start End
  leads =
      let (m, i) = first_node in
      subst (λ (g : Net). WalkThrough g (nodes_of (e ∷ v.tables) (net_count v.tables)) Start End) (sym (net_here e v.tables))
      (stays.ends e.net (nodes_of (e ∷ v.tables) (net_count v.tables)) m h.net.net all_counted never i)

  walk_there : (x : Tree) × (fresh_walk (e ∷ v.tables) (net_count v.tables) End ≡ Some x)
  walk_there = by (fresh_walk (e ∷ v.tables) (net_count v.tables) End) (λ i. (fresh.walk_fails (length v.labels) (e ∷ v.tables) (net_count v.tables) End (sound_nets stay table places v names lo hi (start ∷ starts) lines e h) (omega arith) tt).to i leads)
    where
      by : (r : Option Tree) → (r ≡ None → ⊥) → (x : Tree) × (r ≡ Some x)
      by None i = absurd (i refl)
      by (Some x) i = (x, refl)

-- ---- the chart of the graph

module _ (table : Table) (name : List ℕ) (entry : ChartEntry) (starts : List LabelRef) (lines : Lines) (is : chart_at table name ≡ Some entry) (drawn : entry.content ≡ HighLevel (graph starts lines)) where
  walk_of_graph : (rs : List Refinement) (u : Unfolding) → OfWoven table no_gates rs (HighLevel (graph starts lines)) u → OfWalk table false lines starts u
  walk_of_graph rs u (of_graph h) = h

  same_entry : (c : ChartEntry) → chart_at table name ≡ Some c → c ≡ entry
  same_entry c i = same_Some c entry (sym i ∙ is)

  pub finished_set : (u : Unfolding) → Both (OfWalk table false lines starts u) (Finished table name u)
  finished_set u = record {
    to = λ h. record { chart = entry; is = is; unfolds = subst (λ (c : Woven). OfWoven table no_gates (refinements entry.decls) c u) (sym drawn) (of_graph h) };
    from = λ h. from h;
  }
    where
      from : Finished table name u → OfWalk table false lines starts u
      from h =
          let P : ChartEntry → Type 0 = λ c. OfWoven table no_gates (refinements c.decls) c.content u in
          let k : P entry = subst P (same_entry h.chart h.is) h.unfolds in
          walk_of_graph (refinements entry.decls) u (subst (λ (c : Woven). OfWoven table no_gates (refinements entry.decls) c u) drawn k)

  open_walk : (u : Unfolding) → Open table name u → OfWalk table true lines starts u
  open_walk u h = whole h.starts h.lines (sym (ap (λ (c : ChartEntry). c.content) (same_entry h.chart h.is) ∙ drawn) ∙ h.drawn) h.walks
    where
      starts_of : Woven → List LabelRef → List LabelRef
      starts_of (HighLevel (graph a b)) other = a
      starts_of (Basic body) other = other

      lines_of : Woven → Lines → Lines
      lines_of (HighLevel (graph a b)) other = b
      lines_of (Basic body) other = other

      whole : (a : List LabelRef) (b : Lines) → HighLevel (graph starts lines) ≡ HighLevel (graph a b) → OfWalk table true b a u → OfWalk table true lines starts u
      whole a b e k = subst (λ (x : List LabelRef). OfWalk table true lines x u) (sym (ap (λ c. starts_of c starts) e)) (subst (λ (x : Lines). OfWalk table true x a u) (sym (ap (λ c. lines_of c lines) e)) k)

  pub begun_set : (u : Unfolding) → Both (OfWalk table true lines starts u) (Begun table name u)
  begun_set u = record {
    to = λ h. inr (record { chart = entry; is = is; starts = starts; lines = lines; drawn = drawn; walks = h });
    from = λ h. elim h [ inl i ↦ walks_are_open table lines starts u ((finished_set u).from i) | inr i ↦ open_walk u i ];
  }

  judged_means : (places : ℕ → List ℕ) (v : NetsValue) (names : List (List ℕ)) (lo hi : ℕ) (x : Tree) → Once v.labels → IsGraphTerm table places v names lo hi x starts lines → Means v names x (Finished table name) (Begun table name)
  judged_means places v names lo hi x once m = record {
    once = once;
    finished_ones = mean_sets (IsNamed v.labels names) (HasPattern (terms_over v.tables) false x) (OfWalk table false lines starts) (Finished table name) finished_set (now false);
    all_ones = mean_sets (IsNamed v.labels names) (HasPattern (terms_over v.tables) true x) (OfWalk table true lines starts) (Begun table name) begun_set (now true);
  }
    where
      now : (o : Bool) → MeansUnfoldings v names o x (OfWalk table o lines starts)
      now o = portion_means v.labels names lo hi [] (HasPattern (terms_over v.tables) o x) (OfWalk table o lines starts)
          (m.means.portion v names o (later_same v) (keeps_same names) (tidy_tables (length v.labels) v.tables m.sound.nets))

pub graph_terms_mean : NormalFormsKeepPatterns → LaterTablesAgree → FreshTermsAreSound → ConstructorsKeepSoundness → TablesStaySound → WalksStayWithin → GraphTermsMean
graph_terms_mean keep agree fresh constructors stay stays = record {
  tables = λ table places v names lo hi starts lines e h. record {
    once = h.fit.tables.once;
    labels_once = h.fit.tables.labels_once;
    nets = sound_nets stay table places v names lo hi starts lines e h;
    placed = placed_nets stay table places v names lo hi starts lines e h;
  };
  closed = λ table places v names lo hi starts lines e x h made. closed_term keep agree fresh constructors stay table places v names lo hi starts lines e h x made;
  there = λ table places v names lo hi start starts lines e h never. walk_there fresh stay stays table places v names lo hi start starts lines e h never;
  under_way = λ table places v names lo hi starts lines e x h made. open_term keep agree fresh constructors stay table places v names lo hi starts lines e h x made;
  judged = λ table places v names lo hi x starts lines name entry once is drawn m. judged_means table name entry starts lines is drawn places v names lo hi x once m;
}
