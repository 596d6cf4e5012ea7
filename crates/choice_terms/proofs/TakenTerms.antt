-- The term that is made of items of a level where they stand, over any sound tables: it means their unfoldings, tied as the level is, and
-- is sound. What else the tie names stands elsewhere, and ties nothing.
use Rattle.std.specs.Prelude.{ℕ, ◌<◌, ◌≤◌, ◌==◌, ◌||◌, ◌≢◌, Bool, true, false, List, ◌++◌, length}
use Rattle.std.proofs.Common.{◌≡◌, ◌⊎◌, ◌∙◌, inl, inr, refl, subst, sym}
use Rattle.std.proofs.lemmas.Bool.{eqb-true}
use Rattle.msc_base.specs.declared.label.Label.{Label}
use Rattle.msc_base.specs.declared.label.Pair.{Pair}
use Rattle.msc_base.specs.Orders.{Among, Once}
use Rattle.msc_unfolding.specs.Unfoldings.{Tag, level_tie}
use Rattle.chart_term.specs.NormalForms.{numbers, numbers_all, numbers_row}
use Rattle.chart_term.specs.Properties.{EveryOf, EveryRow}
use Rattle.chart_term.specs.Tables.{Tables}
use Rattle.chart_term.specs.Terms.{Tree, Nil, Event, Join, Choice, Tied, Loop, Walk, Trees, none, more, Row, ends, gap, turn, has}
use Rattle.term_laws.specs.FullSoundness.{AreSoundNets, IsFullySound, IsSoundNode}
use Rattle.term_laws.specs.Soundness.{Lacks, NetLacks}
use Rattle.term_laws.proofs.Numbers.{has_either}
use Rattle.term_meaning.specs.Meanings.{MeansUnfoldings}
use Rattle.term_meaning.specs.UnfoldingSets.{AreTied}
use Rattle.term_tables.specs.NetValues.{NetsValue}
use Rattle.msc_meaning.specs.Bodies.{WovenItems}
use Rattle.msc_meaning.specs.Calls.{calls}
use Rattle.msc_meaning.specs.ChartUnfoldings.{OfItems, gates_of}
use Rattle.msc_meaning.specs.FarEnds.{Around}
use Rattle.msc_meaning.specs.InnerEvents.{GateEnd}
use Rattle.msc_meaning.specs.Tables.{Table}
use Rattle.msc_meaning.specs.Ties.{ties}
use Rattle.expansion_tree.specs.Expansions as tree
use Rattle.expansion_tree.specs.Expansions.{InRow, all_events_in, events_in, map_all_events, map_events}
use Rattle.expansion_tree.specs.Numbered as numbered
use Rattle.expansion_tree.specs.Walks.{EachWalk, EachWalkIn}
use Rattle.expansion_tree.specs.declared.tree.ExpandedEvent.{ExpandedEvent}
use Rattle.expansion_order.specs.Ranks.{CanBeRanked}
use Rattle.expanded_charts.specs.Expanding.{ExpandedParts, NumberedEvent, Shown, expand_charts, expand_items, tied_pairs}
use Rattle.expansion_terms.specs.ExpansionTerms.{event_term, expansion_term, numbered_term, part_terms}
use Rattle.expansion_terms.specs.MadeTerms.{AreWalksMade, IsWalkOf, MadeTermsAgree, made, walk_at}
use Rattle.expanded_terms.specs.ExpandedTerms.{Leaves}
use Rattle.expanded_terms.specs.ExpansionLaws.{event_by}
use Rattle.expanded_terms.specs.FitBodies.{AreEndsOf}
use Rattle.expanded_terms.specs.GraphWalks.{IsGraphWalk}
use Rattle.expanded_terms.specs.NamedEvents.{IsNameable, named_leaves}
use Rattle.expanded_terms.specs.OperandTerms.{IsTermOfTaken, TakenItemsMean, expand_taken}
use Rattle.expanded_terms.specs.RankedTerms.{RankedExpansionsAreSound}
use Rattle.expanded_terms.specs.WholeCharts.{AreWholeItems, IsWholeTo}
use Rattle.expanded_terms.proofs.RankedChartTerms.{mapped_parts, mapped_term, numbered_event}
use Rattle.made_terms.specs.DrawnWalks.{IsDrawnGraph}
use Rattle.made_terms.specs.MadeTerms.{CanBeMade, MadeTermsAreSound}
use Rattle.made_terms.proofs.WalkNumbers.{walks_once}
use Rattle.choice_terms.proofs.TiedTaken.{tie_same}

-- ---- numbers that a term lacks

clash : {R : Type 0} → false ≡ true → R
clash e = absurd cc

module _ (NL : ℕ → ℕ → Type 0) (j : ℕ) where
  mutual
    lacks_number : (x : Tree) → Lacks NL j x → has (numbers x) j ≡ true → ⊥
    lacks_number Nil h i = clash i
    lacks_number (Event e) h i = at (e.number == j) refl i
      where
        at : (b : Bool) → (e.number == j) ≡ b → (b || false) ≡ true → ⊥
        at true p i = h (eqb-true e.number j p)
        at false p i = clash i
    lacks_number (Join m xs) h i = lack_number xs h i
    lacks_number (Choice xs) h i = lack_number xs h i
    lacks_number (Tied x q) h i = lacks_number x h i
    lacks_number (Loop x lo hi r) h i = elim (has_either (numbers x) (numbers_row r) j i) [ inl p ↦ lacks_number x h.0 p | inr p ↦ row_lacks r h.1 p ]
    lacks_number (Walk n f t c) h i = clash i

    lack_number : (xs : Trees) → EveryOf (λ e. e.number ≢ j) (NL j) xs → has (numbers_all xs) j ≡ true → ⊥
    lack_number none h i = clash i
    lack_number (more x xs) h i = elim (has_either (numbers x) (numbers_all xs) j i) [ inl p ↦ lacks_number x h.0 p | inr p ↦ lack_number xs h.1 p ]

    row_lacks : (r : Row) → EveryRow (λ e. e.number ≢ j) (NL j) r → has (numbers_row r) j ≡ true → ⊥
    row_lacks ends h i = clash i
    row_lacks (gap c r) h i = row_lacks r h i
    row_lacks (turn x r) h i = elim (has_either (numbers x) (numbers_row r) j i) [ inl p ↦ lacks_number x h.0 p | inr p ↦ row_lacks r h.1 p ]

has_no : (NL : ℕ → ℕ → Type 0) (j : ℕ) (x : Tree) → Lacks NL j x → has (numbers x) j ≡ false
has_no NL j x h = by (has (numbers x) j) refl
  where
    by : (b : Bool) → has (numbers x) j ≡ b → has (numbers x) j ≡ false
    by true e = absurd (lacks_number NL j x h e)
    by false e = e

-- ---- the items

module _ (agree : MadeTermsAgree) (mean : TakenItemsMean) (ranked : RankedExpansionsAreSound) (sound : MadeTermsAreSound) (names : List (List ℕ)) (labels : List Label) (once : Once names)
    (table : Table) (ends_of : WovenItems → List GateEnd) (depth : ℕ) (around : Around) (n : ℕ) (held : WovenItems) (pairs : List Pair) (taken : WovenItems) (front back : Shown) where
  abbrev f : NumberedEvent → ExpandedEvent
  f = numbered_event names labels

  abbrev row : ExpandedParts
  row = expand_items (expand_charts ends_of table depth) ends_of (gates_of held (ends_of held)) around n taken

  abbrev tags : List (Tag × Tag)
  tags = ties held pairs (calls held) (ends_of held)

  -- what they come to, tied by their own pairs, and by all pairs of the level
  abbrev own : numbered.Expansion
  own = map_events f (expand_taken ends_of table depth around n held pairs taken).part

  abbrev pub in_place : numbered.Expansion
  in_place = tree.Tied (InRow (map_all_events f row.parts)) (tied_pairs (front ++ (row.shown ++ back)) tags)

  abbrev inner : numbered.Expansion
  inner = InRow (map_all_events f row.parts)

  module _ (ends : AreEndsOf table ends_of held) (whole : AreWholeItems table ends_of (IsWholeTo table ends_of depth) taken)
      (named : (e : NumberedEvent) → Among e (all_events_in row.parts) → IsNameable names labels e.happening) (drawn : EachWalk (λ m s xs. IsDrawnGraph s xs) own)
      (from : ℕ) (can : CanBeMade (length labels) from own) (rises : CanBeRanked own)
      (earlier : (p : ℕ × Tag) → Among p front → p.0 < n) (later : (p : ℕ × Tag) → Among p back → row.next ≤ p.0)
      (t : Tables) (nets : AreSoundNets (length labels) t) where
    abbrev w : Tables
    w = (made t own).tables

    abbrev v : NetsValue
    v = record { labels = labels; tables = w }

    abbrev walk : ℕ → Tree
    walk = walk_at (made t own).walks

    abbrev leaves : Leaves
    leaves = named_leaves names labels walk

    are : AreWalksMade walk (made t own).walks
    are = agree.found (made t own).walks (walks_once t from own can.counted)

    pub sound_nets : AreSoundNets (length labels) w
    sound_nets = sound.nets (length labels) from t own nets can

    parts_same : (xs : tree.Expansions NumberedEvent) → part_terms event_term walk (map_all_events f xs) ≡ part_terms (event_by leaves) walk xs
    parts_same xs = mapped_parts f walk xs

    mutual
      graphs : (x : tree.Expansion NumberedEvent) → EachWalk (λ m s xs. IsWalkOf w s (part_terms event_term walk xs) (walk m)) (map_events f x) → EachWalk (λ m s xs. IsDrawnGraph s xs) (map_events f x)
          → EachWalk (λ m s xs. IsGraphWalk w s (part_terms (event_by leaves) walk xs) (walk m)) x
      graphs (tree.Event e) a d = tt
      graphs (InRow xs) a d = all_graphs xs a d
      graphs (tree.Aside xs) a d = all_graphs xs a d
      graphs (tree.OneOf xs) a d = all_graphs xs a d
      graphs (tree.Exception x) a d = graphs x a d
      graphs (tree.Turns m lower upper x) a d = graphs x a d
      graphs (tree.Tied x ps) a d = graphs x a d
      graphs (tree.Walk m s xs) a d = (
        record { walk = subst (λ (ys : List Tree). IsWalkOf w s ys (walk m)) (parts_same xs) a.0; whole = d.0.ending.whole; leads = d.0.ending.leads },
        all_graphs xs a.1 d.1,
      )

      all_graphs : (xs : tree.Expansions NumberedEvent) → EachWalkIn (λ m s xs. IsWalkOf w s (part_terms event_term walk xs) (walk m)) (map_all_events f xs) → EachWalkIn (λ m s xs. IsDrawnGraph s xs) (map_all_events f xs)
          → EachWalkIn (λ m s xs. IsGraphWalk w s (part_terms (event_by leaves) walk xs) (walk m)) xs
      all_graphs tree.no_parts a d = tt
      all_graphs (tree.part_and x xs) a d = (graphs x a.0 d.0, all_graphs xs a.1 d.1)

    known : IsTermOfTaken v names walk table ends_of depth around n held pairs taken
    known = mean.is v names walk table ends_of depth around n held pairs taken once sound_nets ends whole named (graphs (expand_taken ends_of table depth around n held pairs taken).part (agree.walks t own walk are) drawn)

    own_term : (made t own).term ≡ numbered_term walk own
    own_term = agree.term t own walk are

    inner_term : (made t inner).term ≡ expansion_term (event_by leaves) walk (InRow row.parts)
    inner_term = agree.term t inner walk are ∙ mapped_term f walk (InRow row.parts)

    -- no number elsewhere is one of the term's
    elsewhere : (p : ℕ × Tag) → (p.0 < n) ⊎ (row.next ≤ p.0) → has (numbers (made t inner).term) p.0 ≡ false
    elsewhere p b = has_no (NetLacks w) p.0 (made t inner).term (subst (λ (x : Tree). Lacks (NetLacks w) p.0 x) (sym inner_term) (known.beyond p.0 b))

    pub same_term : (made t in_place).term ≡ (made t own).term
    same_term = tie_same (made t inner).term tags front row.shown back (λ p i. elsewhere p (inl (earlier p i))) (λ p i. elsewhere p (inr (later p i)))

    pub taken_means : MeansUnfoldings (record { labels = labels; tables = (made t in_place).tables }) names true (made t in_place).term (AreTied (OfItems table (gates_of held (ends_of held)) around taken) (level_tie tags))
    taken_means = subst (λ (x : Tree). MeansUnfoldings v names true x (AreTied (OfItems table (gates_of held (ends_of held)) around taken) (level_tie tags)))
        (sym (same_term ∙ (own_term ∙ mapped_term f walk (expand_taken ends_of table depth around n held pairs taken).part))) known.means

    pub taken_sound : IsFullySound (length labels) (made t in_place).tables (made t in_place).term
    taken_sound = record {
      nets = sound_nets;
      term = (subst (λ (x : Tree). IsSoundNode (length labels) w x) (sym (same_term ∙ own_term)) (ranked.sound (length labels) w from own walk sound_nets can.counted can.labelled can.tied rises (agree.walks t own walk are))).sound;
    }
