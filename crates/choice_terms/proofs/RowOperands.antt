-- Items of a level that stand up to its end come to an operand's part where they stand.
use Rattle.std.specs.Prelude.{◌<◌, ◌≤◌, ℕ, List, ◌++◌, length}
use Rattle.std.proofs.Common.{◌≡◌, subst, sym}
use Rattle.msc_base.specs.declared.label.Label.{Label}
use Rattle.msc_base.specs.declared.label.Pair.{Pair}
use Rattle.msc_base.specs.Orders.{Among, Once}
use Rattle.msc_unfolding.specs.Unfoldings.{Tag}
use Rattle.chart_term.specs.Tables.{Tables}
use Rattle.chart_term.specs.TermPatterns.{Both}
use Rattle.term_laws.specs.Placing.{AreEventsPlaced, AreNetsPlaced}
use Rattle.trace_judge.specs.Sets.{IsSoundFor}
use Rattle.msc_meaning.specs.Bodies.{WovenItems}
use Rattle.msc_meaning.specs.Calls.{calls}
use Rattle.msc_meaning.specs.ChartUnfoldings.{gates_of}
use Rattle.msc_meaning.specs.FarEnds.{Around}
use Rattle.msc_meaning.specs.InnerEvents.{GateEnd}
use Rattle.msc_meaning.specs.Tables.{Table}
use Rattle.msc_meaning.specs.Ties.{ties}
use Rattle.expansion_tree.specs.Expansions.{InRow, Tied, map_all_events}
use Rattle.expansion_tree.specs.Numbered as numbered
use Rattle.expansion_order.specs.Ranks.{CanBeRanked}
use Rattle.expanded_charts.specs.Expanding.{ExpandedParts, Shown, expand_charts, expand_items, tied_pairs}
use Rattle.expansion_terms.specs.MadeTerms.{MadeTermsAgree, made}
use Rattle.expanded_terms.specs.FitBodies.{AreEndsOf}
use Rattle.expanded_terms.specs.OperandTerms.{TakenItemsMean}
use Rattle.expanded_terms.specs.PlacedTerms.{places}
use Rattle.expanded_terms.specs.RankedTerms.{RankedExpansionsAreSound}
use Rattle.expanded_terms.specs.WholeCharts.{AreWholeItems, IsWholeTo}
use Rattle.made_terms.specs.MadeTerms.{CanBeMade, MadeTermsAreSound}
use Rattle.table_terms.proofs.NumberedCharts.{number_kept}
use Rattle.table_terms.proofs.PlacedTerms.{judged_placed}
use Rattle.choice_meaning.specs.Choices.{Operand}
use Rattle.choice_meaning.specs.FarEndLaws.{FarEndsChangeNothing}
use Rattle.choice_meaning.specs.FirstInstances.{BeginsAt}
use Rattle.first_labels.proofs.FirstLabels.{first_labels_are_told}
use Rattle.choice_terms.specs.JudgedParts.{AreFitTables, GoesOnAt, IsJudgedPart, IsOperandPart, tables_with}
use Rattle.choice_terms.proofs.OperandParts.{GoesOnWithOne, begins_by_labels}
use Rattle.choice_terms.proofs.OperandParts as taken_parts
use Rattle.choice_terms.proofs.PartFacts.{IsRow, f, good_made}
use Rattle.choice_terms.proofs.RowFacts as row
use Rattle.choice_terms.proofs.TakenTerms.{sound_nets, taken_means, taken_sound}

-- the laws that are cited
pub record AreLaws : Type 0 where
  pub far : FarEndsChangeNothing
  pub agree : MadeTermsAgree
  pub mean : TakenItemsMean
  pub ranked : RankedExpansionsAreSound
  pub sound : MadeTermsAreSound

module _ (laws : AreLaws) (names : List (List ℕ)) (labels : List Label) (names_once : Once names) (labels_once : Once labels) (table : Table) (ends_of : WovenItems → List GateEnd) (depth : ℕ) where
  module _ (around : Around) (n : ℕ) (held : WovenItems) (pairs : List Pair) (taken : WovenItems) (front back : Shown) where
    abbrev parts : ExpandedParts
    parts = expand_items (expand_charts ends_of table depth) ends_of (gates_of held (ends_of held)) around n taken

    abbrev tags : List (Tag × Tag)
    tags = ties held pairs (calls held) (ends_of held)

    abbrev all_pairs : List Pair
    all_pairs = tied_pairs (front ++ (parts.shown ++ back)) tags

    abbrev y : numbered.Expansion
    y = Tied (InRow (map_all_events (f names labels) parts.parts)) all_pairs

    abbrev operand : Operand
    operand = record { held = held; pairs = pairs; taken = taken }

    module _ (ends : AreEndsOf table ends_of held) (whole : AreWholeItems table ends_of (IsWholeTo table ends_of depth) taken) (is : IsRow names labels all_pairs parts.parts)
        (earlier : (p : ℕ × Tag) → Among p front → p.0 < n) (later : (p : ℕ × Tag) → Among p back → parts.next ≤ p.0) where
      abbrev own : numbered.Expansion
      own = row.own names labels (number_kept names labels) table ends_of depth around n held pairs taken front back

      can : CanBeMade (length labels) is.good.events.start own
      can = row.own_made names labels (number_kept names labels) table ends_of depth around n held pairs taken front back is.good.events.start (good_made names labels (InRow parts.parts) is.good) is.outside

      rises : CanBeRanked own
      rises = row.own_ranked names labels (number_kept names labels) table ends_of depth around n held pairs taken front back is.rank is.ranked is.rises

      module _ (t : Tables) (fit : AreFitTables names labels t) where
        placed : AreNetsPlaced (places names labels) (made t y).tables × AreEventsPlaced (places names labels) (made t y).term
        placed = judged_placed (places names labels) t y is.good.events.placed fit.placed

        nets : AreFitTables names labels (made t y).tables
        nets = record {
          sound = sound_nets laws.agree laws.mean laws.ranked laws.sound names labels names_once table ends_of depth around n held pairs taken front back ends whole is.good.events.named is.good.drawn is.good.events.start can rises earlier later t fit.sound;
          placed = placed.0;
        }

        sound : IsSoundFor (tables_with labels (made t y).tables) (made t y).term
        sound = record {
          full = taken_sound laws.agree laws.mean laws.ranked laws.sound names labels names_once table ends_of depth around n held pairs taken front back ends whole is.good.events.named is.good.drawn is.good.events.start can rises earlier later t fit.sound;
          placed = record { places = places names labels; nets = placed.0; term = placed.1 };
        }

        begins : (i : List ℕ) → Both (BeginsAt table operand i) (GoesOnWithOne laws.far table held pairs taken (ends_of held) ends.there ends.one (tables_with labels (made t y).tables) (made t y).term i)
        begins i = begins_by_labels laws.far table held pairs taken (ends_of held) ends.there ends.one around (first_labels_are_told (taken_parts.Tied laws.far table held pairs taken (ends_of held) ends.there ends.one around))
            (tables_with labels (made t y).tables) names (made t y).term labels_once
            (taken_means laws.agree laws.mean laws.ranked laws.sound names labels names_once table ends_of depth around n held pairs taken front back ends whole is.good.events.named is.good.drawn is.good.events.start can rises earlier later t fit.sound)
            sound i

        told : (i : List ℕ) → Both (BeginsAt table operand i) (GoesOnAt names labels t y i)
        told i = record {
          to = λ b. let g = (begins i).to b in record { label = g.label; left = g.left; at = g.at };
          from = λ g. (begins i).from (record { label = g.label; left = g.left; at = g.at });
        }

      judged : IsJudgedPart names labels y
      judged = record { stored = is.good.events.stored; whole = is.good.whole; nets = nets; term = sound }

      in_place : IsOperandPart names labels table operand y
      in_place = record { judged = judged; begins = told }

  -- whatever its pairs are called
  pub row_operand : (around : Around) (n : ℕ) (held : WovenItems) (pairs : List Pair) (taken : WovenItems) (front back : Shown) (ps : List Pair)
      → ps ≡ tied_pairs (front ++ ((expand_items (expand_charts ends_of table depth) ends_of (gates_of held (ends_of held)) around n taken).shown ++ back)) (ties held pairs (calls held) (ends_of held))
      → AreEndsOf table ends_of held → AreWholeItems table ends_of (IsWholeTo table ends_of depth) taken
      → IsRow names labels ps (expand_items (expand_charts ends_of table depth) ends_of (gates_of held (ends_of held)) around n taken).parts
      → ((p : ℕ × Tag) → Among p front → p.0 < n) → ((p : ℕ × Tag) → Among p back → (expand_items (expand_charts ends_of table depth) ends_of (gates_of held (ends_of held)) around n taken).next ≤ p.0)
      → IsOperandPart names labels table (record { held = held; pairs = pairs; taken = taken })
      (Tied (InRow (map_all_events (f names labels) (expand_items (expand_charts ends_of table depth) ends_of (gates_of held (ends_of held)) around n taken).parts)) ps)
  row_operand around n held pairs taken front back ps e ends whole is earlier later =
      subst (λ (qs : List Pair). IsOperandPart names labels table (operand around n held pairs taken front back) (Tied (InRow (map_all_events (f names labels) (parts around n held pairs taken front back).parts)) qs)) (sym e)
      (in_place around n held pairs taken front back ends whole (subst (λ (qs : List Pair). IsRow names labels qs (parts around n held pairs taken front back).parts) e is) earlier later)
