-- The labels with which unfoldings begin are those after which something is left of a term that means them.
use Rattle.std.specs.List.{slice_get}
use Rattle.std.specs.Prelude.{◌≡◌, ℕ, length, List, [], ◌∷◌, Some, true, refl}
use Rattle.std.proofs.Common.{◌∙◌, ap, inl, inr, sym, subst}
use Rattle.std.proofs.lemmas.Option.{same_Some}
use Rattle.msc_base.specs.declared.label.Label.{Label}
use Rattle.msc_base.specs.Orders.{Once}
use Rattle.msc_base.specs.Patterns.{Position, Before, event_at}
use Rattle.msc_unfolding.specs.Unfoldings.{Unfolding, plain}
use Rattle.label_table.proofs.Numbering.{present}
use Rattle.chart_term.specs.TermPatterns.{Shape, numbered}
use Rattle.chart_term.specs.TermRuns.{IsMinimal, taken_out}
use Rattle.chart_term.specs.Terms.{Tree}
use Rattle.chart_term.proofs.Positions.{minimal_taken, taken_minimal}
use Rattle.term_tables.specs.NetValues.{NetsValue}
use Rattle.term_laws.specs.Sound.{IsSound}
use Rattle.term_laws.proofs.FullSound.{full_soundness_is_kept}
use Rattle.term_laws.proofs.SoundLaws.{sound_has_pattern, soundness_is_kept}
use Rattle.term_laws.proofs.TermLaws.{after_is_exact}
use Rattle.term_meaning.specs.Meanings.{MeansUnfoldings}
use Rattle.term_meaning.specs.Naming.{IsNamed}
use Rattle.term_meaning.specs.Standings.{Stands}
use Rattle.term_successors.specs.Successors.{IsSuccessor}
use Rattle.trace_judge.specs.Sets.{GoesOnWith, IsSoundFor}
use Rattle.verdict_meaning.proofs.Labelled.{label_numbered}
use Rattle.choice_meaning.specs.FirstInstances.{IsFirst}
use Rattle.first_labels.specs.FirstLabels.{BeginsWith, FirstLabelsAreTold}

sound_of : (v : NetsValue) (x : Tree) → IsSoundFor v x → IsSound v.tables x
sound_of v x h = full_soundness_is_kept.suffices (length v.labels) v.tables x h.full

-- ---- positions of a pattern, and of the unfolding for which it stands

module _ (labels : List Label) (names : List (List ℕ)) (s : Shape) (u : Unfolding) (h : Stands numbered plain (IsNamed labels names) s u) where
  first_there : (p : Position s) → IsMinimal s p → IsFirst u (h.to p)
  first_there p m q b = m (h.from q) (h.gives (h.from q) p (subst (λ (r : Position u). Before plain u r (h.to p)) (sym (h.forth q)) b))

  minimal_here : (p : Position u) → IsFirst u p → IsMinimal s (h.from p)
  minimal_here p f q b = f (h.to q) (subst (λ (r : Position u). Before plain u (h.to q) r) (h.forth p) (h.keeps q (h.from p) b))

  -- the label there is that of the number here
  label_there : (p : Position s) (l : Label) → slice_get labels (event_at numbered s p).label ≡ Some l → (event_at plain u (h.to p)).label ≡ l
  label_there p l e = same_Some (event_at plain u (h.to p)).label l (sym (h.event p).label ∙ e)

  label_here : (p : Position u) → slice_get labels (event_at numbered s (h.from p)).label ≡ Some (event_at plain u p).label
  label_here p = (h.event (h.from p)).label ∙ ap (λ (r : Position u). Some (event_at plain u r).label) (h.forth p)

-- ---- the law

module _ (unfolds : Unfolding → Type 0) (v : NetsValue) (names : List (List ℕ)) (x : Tree) (once : Once v.labels) (means : MeansUnfoldings v names true x unfolds) (sound : IsSoundFor v x) (l : Label) where
  begins_by : (y : Tree) → IsSuccessor v l x y → BeginsWith unfolds l
  begins_by y h =
      let good = sound_of v x sound in
      let left = sound_has_pattern.some v.tables y (soundness_is_kept.after_keeps v.tables x y h.event good h.after) in
      let (t, (s, has, takes), like) = after_is_exact.sound true v.tables x y h.event good.tables.tidy good.tidy h.after left.pattern left.has in
      let (p, event, out, minimal) = taken_minimal takes in
      let one = means.each s has in
      record {
        of = one.of;
        is = one.is;
        position = one.stands.to p;
        first = first_there v.labels names s one.of one.stands p minimal;
        label = label_there v.labels names s one.of one.stands p l (ap (λ (e : _). slice_get v.labels e.label) event ∙ present l v.labels h.event.label h.labelled);
      }

  goes_by : BeginsWith unfolds l → GoesOnWith v l (x ∷ [])
  goes_by b =
      let good = sound_of v x sound in
      let one = means.all b.of b.is in
      let p : Position one.pattern = one.stands.from b.position in
      let takes = minimal_taken one.pattern p (minimal_here v.labels names one.pattern b.of one.stands b.position b.first) in
      let left = after_is_exact.whole true v.tables x one.pattern (event_at numbered one.pattern p) (taken_out one.pattern p) good.tables.tidy good.tidy one.is takes in
      record {
        term = left.term;
        left = record {
          term = x;
          held = inl refl;
          left = record {
            event = event_at numbered one.pattern p;
            labelled = label_numbered v.labels once l (event_at numbered one.pattern p).label (label_here v.labels names one.pattern b.of one.stands b.position ∙ ap Some b.label);
            after = left.after;
          };
        };
      }

  goes_begins : GoesOnWith v l (x ∷ []) → BeginsWith unfolds l
  goes_begins g = elim g.left.held [ inl e ↦ begins_by g.term (subst (λ (z : Tree). IsSuccessor v l z g.term) e g.left.left) | inr n ↦ absurd n ]

pub first_labels_are_told : (unfolds : Unfolding → Type 0) → FirstLabelsAreTold unfolds
first_labels_are_told unfolds v names x once means sound l = record { to = goes_begins unfolds v names x once means sound l; from = goes_by unfolds v names x once means sound l }
