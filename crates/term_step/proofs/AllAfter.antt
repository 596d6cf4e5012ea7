-- What was found of more and more terms.
use Rattle.std.specs.Prelude.{ℕ, ◌+◌, ◌≡◌, ◌≤◌, ◌<◌, Bool, true, false, List, [], ◌∷◌, Some, slice_get, take, refl}
use Rattle.std.proofs.Common.{ap, sym, ◌∙◌, subst, arith, inl, inr}
use Rattle.msc_base.specs.Lists.{IsAmong}
use Rattle.chart_term.specs.Properties.{Each}
use Rattle.chart_term.specs.Tables.{Tables}
use Rattle.chart_term.specs.Terms.{Tree}
use Rattle.term_laws.specs.Listing.{set_weight}
use Rattle.msc_base.specs.declared.label.Label.{Label}
use Rattle.list_facts.proofs.Members.{at_among, take_among, among_take, among_first}
use Rattle.term_tables.specs.NetValues.{NetsValue, label_number}
use Rattle.chart_term.specs.TermPatterns.{Both}
use Rattle.term_laws.specs.Permission.{permits_of}
use Rattle.term_laws.specs.Taking.{IsAfter}
use Rattle.term_permission.specs.Ready.{IsReady}
use Rattle.term_step.specs.AllAfter.{AreAllLeft, AreTooMany}
use Rattle.term_successors.specs.Successors.{IsLeftOf}
use Rattle.term_successors.specs.Successors.{IsSuccessor}
use Rattle.term_successors.proofs.TermSets.{each_from, rising_different}
use Rattle.term_step.specs.Gatherings.{IsGathered, IsResultOf, IsTooMuch}
use Rattle.term_step.specs.Searches.{Gathers, IsResult, IsTally}
use Rattle.term_step.specs.declared.found.Found.{Found}

each_member : (P : Tree → Type 0) (xs : List Tree) (x : Tree) → Each P xs → IsAmong xs x → P x
each_member P [] x h i = absurd i
each_member P (y ∷ xs) x h (inl e) = subst P (sym e) h.0
each_member P (y ∷ xs) x h (inr i) = each_member P xs x h.1 i

pub each_item : (P : Tree → Type 0) (xs : List Tree) (i : ℕ) (x : Tree) → slice_get xs i ≡ Some x → Each P xs → P x
each_item P xs i x e h = each_member P xs x h (at_among xs i x e)

module _ (w : Tables) (a most : ℕ) (terms : List Tree) (i : ℕ) (x : Tree) (e : slice_get terms i ≡ Some x) (mid new : Found) (g : IsGathered w a most (take i terms) mid) where
  each_on : (all : Bool) → Gathers w a [] x mid new all → (z : Tree) → IsAmong new.terms.keys z → IsResultOf w a (take (i + 1) terms) z
  each_on all h z j = elim (h.gains.each z j) [
    | inl m ↦ let r = g.each z m in record { term = r.term; held = among_take terms i x r.term e (inr r.held); result = r.result }
    | inr f ↦ record { term = x; held = among_take terms i x x e (inl refl); result = f.result }
  ]

  pub gathered_more : Gathers w a [] x mid new true → IsGathered w a most (take (i + 1) terms) new
  gathered_more h = record {
    tally = h.gains.tally;
    most_is = h.gains.most ∙ g.most_is;
    within = subst (λ (n : ℕ). set_weight new.terms.keys ≤ n) (h.gains.most ∙ g.most_is) (h.bounded.within refl);
    each = each_on true h;
    whole = λ z r. elim (take_among terms i x r.term e r.held) [
      | inl q ↦ h.whole refl z (subst (λ (t : Tree). IsResult w a [] t z) q r.result)
      | inr m ↦ h.gains.kept z (g.whole z (record { term = r.term; held = m; result = r.result }))
    ];
    ready = λ z j. elim (h.gains.each z j) [ inl m ↦ g.ready z m | inr f ↦ f.ready ];
  }

  pub gathered_over : Gathers w a [] x mid new false → IsTooMuch w a most terms new
  gathered_over h = record {
    tally = h.gains.tally;
    each = λ z j. let r = each_on false h z j in record { term = r.term; held = among_first terms (i + 1) r.term r.held; result = r.result };
    above = subst (λ (n : ℕ). n < set_weight new.terms.keys) (h.gains.most ∙ g.most_is) (h.bounded.beyond refl);
  }

-- a result is what an event with the label leaves
result_left : (v : NetsValue) (label : Label) (a : ℕ) → label_number v.labels label ≡ Some a → (x z : Tree) → IsResult v.tables a [] x z → IsSuccessor v label x z
result_left v label a labelled x z r = record { event = r.event; labelled = labelled ∙ ap Some (sym r.labelled); after = subst (λ (y : Tree). IsAfter (permits_of v.tables) x r.event y) (same r.whole) r.taken }
  where
    same : {y u : Tree} → Some y ≡ Some u → y ≡ u
    same e = cc

-- too much was found
pub too_many : (v : NetsValue) (label : Label) (a : ℕ) → label_number v.labels label ≡ Some a → (most : ℕ) (terms : List Tree) (found : Found) → IsTooMuch v.tables a most terms found → AreTooMany v label terms most
too_many v label a labelled most terms found g = record {
  some = found.terms.keys;
  different = rising_different found.terms.keys g.tally.rising;
  each = λ y i. let r = g.each y i in record { term = r.term; held = r.held; left = result_left v label a labelled r.term y r.result };
  above = g.above;
}

-- what was found, in the order of terms
module _ (v : NetsValue) (label : Label) (a : ℕ) (labelled : label_number v.labels label ≡ Some a) (most : ℕ) (terms : List Tree) (found : Found) (g : IsGathered v.tables a most terms found) where
  left_result : (x z : Tree) → IsSuccessor v label x z → IsResult v.tables a [] x z
  left_result x z s = record { event = s.event; labelled = same (sym s.labelled ∙ labelled); left = z; taken = s.after; whole = refl }
    where
      same : {m n : ℕ} → Some m ≡ Some n → m ≡ n
      same e = cc

  left_exact : (y : Tree) → Both (IsAmong found.terms.keys y) (IsLeftOf v label terms y)
  left_exact y = record {
    to = λ i. let r = g.each y i in record { term = r.term; held = r.held; left = result_left v label a labelled r.term y r.result };
    from = λ l. g.whole y (record { term = l.term; held = l.held; result = left_result l.term y l.left });
  }

  pub all_left : AreAllLeft v label terms most found.terms.keys
  all_left = record {
    different = rising_different found.terms.keys g.tally.rising;
    exact = left_exact;
    within = g.within;
  }

pub all_weighed : (w : Tables) (a most : ℕ) (terms : List Tree) (found : Found) → IsGathered w a most terms found → found.weight ≡ set_weight found.terms.keys
all_weighed w a most terms found g = let l = g.within in let h = g.tally.weight in let m = g.tally.most in let q = g.most_is in omega arith

-- what is left is ready
pub all_ready : (w : Tables) (a most : ℕ) (terms : List Tree) (found : Found) → IsGathered w a most terms found → Each (IsReady w) found.terms.keys
all_ready w a most terms found g = each_from (IsReady w) found.terms.keys g.ready

-- nothing was looked at yet
pub gathered_none : (w : Tables) (a most : ℕ) (found : Found) → IsTally found → found.most ≡ most → found.terms.keys ≡ [] → IsGathered w a most [] found
gathered_none w a most found t m e = record {
  tally = t;
  most_is = m;
  within = let z : set_weight found.terms.keys ≡ 0 = ap set_weight e in omega arith;
  each = λ z i. absurd (none z i);
  whole = λ z r. absurd r.held;
  ready = λ z i. absurd (none z i);
}
  where
    none : (z : Tree) → IsAmong found.terms.keys z → ⊥
    none z i = subst (λ (l : List Tree). IsAmong l z) e i

pub ruleset gathering = (each_item, gathered_none)
