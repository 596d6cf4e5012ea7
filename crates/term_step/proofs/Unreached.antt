-- The nodes that a search leaves out have no event with the label that could happen.
use Rattle.std.specs.Prelude.{ℕ, Bool, true, false, List, ◌≡◌, Option, Some, None, IfSome, refl}
use Rattle.std.proofs.Common.{ap, ◌∙◌, inl, inr}
use Rattle.bit_sets.specs.NodeSets.{NodeSetValue}
use Rattle.chart_term.specs.NormalForms.{allowed}
use Rattle.chart_term.specs.Tables.{Tables, net_of}
use Rattle.chart_term.specs.TermPatterns.{instances_of}
use Rattle.chart_term.specs.Terms.{Tree, Walk, ◌∪◌}
use Rattle.hmsc_graph.specs.Graphs.{Spot, Goal, To}
use Rattle.hmsc_graph.proofs.Reaching.{reach_sound}
use Rattle.msc_base.specs.Lists.{IsIn}
use Rattle.term_laws.proofs.Alike.{union-alike}
use Rattle.term_laws.specs.Listing.{may_lead}
use Rattle.term_laws.specs.Normality.{IsSet}
use Rattle.term_laws.specs.Permission.{kept_of, permits_of}
use Rattle.term_step.proofs.Passes.{child-or, passed-lacking}
use Rattle.term_step.proofs.Placed.{same-instances}
use Rattle.term_step.specs.Children.{where_so}
use Rattle.term_step.specs.Reaching.{IsNodeOr, IsReachOfMet}
use Rattle.term_step.specs.Searches.{IsPassed, IsTaken}
use Rattle.term_step.specs.Skips.{ArePlaced}
use Rattle.term_step.specs.declared.ascent.Taken.{Taken}

where_none : (q : Bool) (o : Option Tree) → q ≡ false → where_so q o ≡ None
where_none true o e = cc
where_none false o e = refl

module _ (w : Tables) (a n : ℕ) (f : Spot) (t : Goal) (c : List ℕ) (set : IsSet c) (met : Option Taken) (taken : IfSome met IsTaken) (one : Bool) (placed : one ≡ true → ArePlaced w a (Walk n f t c) met) where
  not_led : (nodes : NodeSetValue) (r : IsReachOfMet w n f c met one nodes) (p : ℕ) → (IsIn p nodes.nodes → ⊥) → may_lead (permits_of w) n f (To p) (c ∪ r.event.at.instances) ≡ false
  not_led nodes r p out = go (may_lead (permits_of w) n f (To p) (c ∪ r.event.at.instances)) refl
    where
      go : (q : Bool) → may_lead (permits_of w) n f (To p) (c ∪ r.event.at.instances) ≡ q → may_lead (permits_of w) n f (To p) (c ∪ r.event.at.instances) ≡ false
      go true e = absurd (out (r.all p (reach_sound (net_of w n) (allowed (permits_of w) n (c ∪ r.event.at.instances)) f (To p) e)))
      go false e = e

  left_out : (nodes : NodeSetValue) → IsReachOfMet w n f c met one nodes → (p : ℕ) → (IsIn p nodes.nodes → ⊥) → IsPassed w a (Walk n f t c) p
  left_out nodes r p out = λ y g e l u b.
      let same = same-instances w a (Walk n f t c) met taken (placed r.one) r.event r.is_met y u p e g l b in
      let union : c ∪ (instances_of e).instances ≡ c ∪ r.event.at.instances = union-alike c (instances_of e).instances r.event.at.instances set same in
      where_none (may_lead (permits_of w) n f (To p) (c ∪ (instances_of e).instances)) _ (ap (may_lead (permits_of w) n f (To p)) union ∙ not_led nodes r p out)

  pub node-passed : (reached : Option NodeSetValue) → IfSome reached (IsReachOfMet w n f c met one) → (p : ℕ) → IsNodeOr a reached p (kept_of w n p c) None → IsPassed w a (Walk n f t c) p
  node-passed None r p (inl out) = absurd out
  node-passed (Some nodes) r p (inl out) = left_out nodes r p out
  node-passed reached r p (inr h) = passed-lacking w a (Walk n f t c) p h

pub node-or : (a : ℕ) (reached : Option NodeSetValue) (p : ℕ) (o s : Option Tree) → s ≡ o → IsNodeOr a reached p o s
node-or a reached p o None e = inr (child-or a o None e)
node-or a reached p o (Some x) e = child-or a o (Some x) e
