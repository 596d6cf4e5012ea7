-- The labels with which the term of a part goes on tell its instances.
use Rattle.std.specs.Prelude.{◌≡◌, ℕ, List, [], ◌∷◌, refl}
use Rattle.std.proofs.Common.{◌∙◌, ap, inl, inr, subst, sym}
use Rattle.msc_base.specs.declared.label.Label.{Label}
use Rattle.chart_term.specs.Terms.{Tree}
use Rattle.term_permission.specs.Ready.{AreReadyTables}
use Rattle.term_tables.specs.NetValues.{NetsValue}
use Rattle.expansion_tree.specs.Numbered.{Expansion}
use Rattle.expansion_terms.specs.MadeTerms.{made}
use Rattle.next_labels.specs.NextLabels.{AreNextLabels}
use Rattle.trace_judge.specs.Sets.{IsSoundFor}
use Rattle.choice_terms.specs.JudgedParts.{GoesOnAt, IsJudgedPart}
use Rattle.chart_choices.specs.declared.tables.TermTables.{TermTables}
use Rattle.chart_choices.specs.Making.{AddsMakers, AreReady, HasLabelAt, HaveAdded, IsKept, PartAdds, no_part, part_then}

module _ (s : TermTables) (y : Expansion) (ready : AreReady s) (judged : IsJudgedPart s.names s.nets.labels y) where
  -- the tables with the nets of the part
  abbrev pub later : TermTables
  later = record s { nets = record s.nets { tables = (made s.nets.tables y).tables } }

  abbrev pub term : Tree
  term = (made s.nets.tables y).term

  pub sound_there : IsSoundFor later.nets term
  sound_there = judged.term s.nets.tables ready.fit

  kept : AreReadyTables later.nets.tables → IsKept s later
  kept h = record { names = refl; labels = refl; ready = record { fit = judged.nets s.nets.tables ready.fit; ready = h } }

  module _ (labels : List Label) (a b : List (List ℕ)) (next : AreNextLabels later.nets (term ∷ []) labels) (added : HaveAdded labels a b) where
    goes : (i : List ℕ) → HasLabelAt labels i → GoesOnAt s.names s.nets.labels s.nets.tables y i
    goes i h = record { label = h.label; left = (next.exact h.label).to h.among; at = h.at }

    labelled : (i : List ℕ) → GoesOnAt s.names s.nets.labels s.nets.tables y i → HasLabelAt labels i
    labelled i g = record { label = g.label; among = (next.exact g.label).from g.left; at = g.at }

    part_adds : PartAdds s.names s.nets.labels y a b
    part_adds = record {
      tables = s.nets.tables;
      fit = ready.fit;
      exact = λ i. record {
        to = λ j. elim ((added.exact i).to j) [ inl k ↦ inl k | inr h ↦ inr (goes i h) ];
        from = λ j. (added.exact i).from (elim j [ inl k ↦ inl k | inr g ↦ inr (labelled i g) ]);
      };
    }

    adds_later : AreReadyTables later.nets.tables → AddsMakers s later (y ∷ []) a b
    adds_later h = record { kept = kept h; rising = added.rising; parts = part_then part_adds no_part }

-- whatever the tables are called
pub makers_added : (s t : TermTables) (y : Expansion) (x : Tree) (labels : List Label) (a b : List (List ℕ)) → AreReady s → IsJudgedPart s.names s.nets.labels y
    → t.names ≡ s.names → t.nets ≡ record s.nets { tables = (made s.nets.tables y).tables } → x ≡ (made s.nets.tables y).term → AreReadyTables t.nets.tables
    → AreNextLabels t.nets (x ∷ []) labels → HaveAdded labels a b → AddsMakers s t (y ∷ []) a b
makers_added s t y x labels a b ready judged names nets is there next added =
    subst (λ (u : TermTables). AddsMakers s u (y ∷ []) a b) (sym same)
    (adds_later s y ready judged labels a b
    (subst (λ (z : Tree). AreNextLabels (later s y ready judged).nets (z ∷ []) labels) is (subst (λ (v : NetsValue). AreNextLabels v (x ∷ []) labels) nets next)) added
    (subst (λ (v : NetsValue). AreReadyTables v.tables) nets there))
  where
    same : t ≡ later s y ready judged
    same = ap (λ (ns : List (List ℕ)). let u : TermTables = record { names = ns; nets = t.nets } in u) names ∙ ap (λ (v : NetsValue). let u : TermTables = record { names = s.names; nets = v } in u) nets
