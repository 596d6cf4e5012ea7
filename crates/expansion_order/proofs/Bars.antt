-- Stops at their last bars: what is drawn of an item, and of what stands before it.
use Rattle.std.proofs.Common.{◌≡◌, ◌<◌, ◌+◌, ◌⊎◌, inl, inr, ℕ, List, [], ◌∷◌, ◌++◌, Option, Some, None, get_or, length, take, refl, sym, subst, ap, ◌∙◌}
use Rattle.std.proofs.lemmas.List.{take_more}
use Rattle.std.proofs.lemmas.Option.{same_Some}
use Rattle.column_order.specs.Counts.{EdgeLeads}
use Rattle.column_order.specs.declared.edge.Edge.{Edge}
use Rattle.expansion_order.specs.Webs.{AreEntered, HasStop}
use Rattle.expansion_order.specs.declared.stops.Stop.{Stop}
use Rattle.expansion_order.specs.declared.web.Web.{Web}
use Rattle.msc_base.specs.Orders.{first}
use Rattle.expansion_order.proofs.Drawn.{among_left, among_right, among_snoc, leads_last, leads_left, leads_snoc}

-- ---- stops

pub stop_left : (ss ts : List Stop) (k n : ℕ) → HasStop ss k n → HasStop (ss ++ ts) k n
stop_left ss ts k n h = record { stop = h.stop; among = among_left h.stop ss ts h.among; at = h.at; is = h.is }

pub stop_right : (ss ts : List Stop) (k n : ℕ) → HasStop ts k n → HasStop (ss ++ ts) k n
stop_right ss ts k n h = record { stop = h.stop; among = among_right h.stop ss ts h.among; at = h.at; is = h.is }

pub stop_last : (ss : List Stop) (s : Stop) → HasStop (ss ++ s ∷ []) s.column s.number
stop_last ss s = record { stop = s; among = among_right s ss (s ∷ []) first; at = refl; is = refl }

pub stop_snoc : (ss : List Stop) (s : Stop) (k n : ℕ) → HasStop (ss ++ s ∷ []) k n → HasStop ss k n ⊎ ((s.column ≡ k) × (s.number ≡ n))
stop_snoc ss s k n h = elim (among_snoc h.stop ss s h.among) [
  | inl l ↦ inl (record { stop = h.stop; among = l; at = h.at; is = h.is })
  | inr e ↦ inr (subst (λ (t : Stop). (t.column ≡ k) × (t.number ≡ n)) e (h.at, h.is))
]

pub no_stop : (k n : ℕ) → HasStop [] k n → ⊥
no_stop k n h = let a = h.among in elim a [ ]

-- ---- stops behind the last bars

pub entered_none : (w : Web) (last : ℕ → Option ℕ) → AreEntered w w last []
entered_none w last = record { bars = refl; pairs = refl; before = refl; kept = λ b v h. h; drawn = λ k b v h. absurd (no_stop k v h); only = λ b v h. inl h }

entered_past : (old now : Web) (last : ℕ → Option ℕ) (ss : List Stop) (s : Stop) → last s.column ≡ None → AreEntered old now last ss → AreEntered old now last (ss ++ s ∷ [])
entered_past old now last ss s none h = record {
  bars = h.bars;
  pairs = h.pairs;
  before = h.before;
  kept = h.kept;
  drawn = λ k b v x e. elim (stop_snoc ss s k v x) [
    | inl l ↦ h.drawn k b v l e
    | inr r ↦ let at : last s.column ≡ Some b = subst (λ (i : ℕ). last i ≡ Some b) (sym r.0) e in absurd (cc)
  ];
  only = λ b v x. elim (h.only b v x) [ inl o ↦ inl o | inr r ↦ inr (r.0, stop_left ss (s ∷ []) r.0 v r.1, r.2) ];
}

entered_more : (old now : Web) (last : ℕ → Option ℕ) (ss : List Stop) (s : Stop) (bar : ℕ) (pushed : List Edge) → last s.column ≡ Some bar → pushed ≡ now.behind ++ record { from = bar; to = s.number } ∷ [] → AreEntered old now last ss
    → AreEntered old (record now { behind = pushed }) last (ss ++ s ∷ [])
entered_more old now last ss s bar pushed at is h = record {
  bars = h.bars;
  pairs = h.pairs;
  before = h.before;
  kept = λ b v x. kept b v (h.kept b v x);
  drawn = λ k b v x e. elim (stop_snoc ss s k v x) [
    | inl l ↦ kept b v (h.drawn k b v l e)
    | inr r ↦
        let here : last s.column ≡ Some b = subst (λ (i : ℕ). last i ≡ Some b) (sym r.0) e in
        let same : bar ≡ b = same_Some bar b (sym at ∙ here) in
        subst (λ (i : ℕ). EdgeLeads pushed i v) same (subst (λ (i : ℕ). EdgeLeads pushed bar i) r.1 (subst (λ (l : List Edge). EdgeLeads l bar s.number) (sym is) (leads_last now.behind edge)))
  ];
  only = λ b v x. elim (leads_snoc now.behind edge b v (subst (λ (l : List Edge). EdgeLeads l b v) is x)) [
    | inl o ↦ elim (h.only b v o) [ inl p ↦ inl p | inr r ↦ inr (r.0, stop_left ss (s ∷ []) r.0 v r.1, r.2) ]
    | inr r ↦ inr (s.column, subst (λ (i : ℕ). HasStop (ss ++ s ∷ []) s.column i) r.1 (stop_last ss s), at ∙ ap (λ (i : ℕ). Some i) r.0)
  ];
}
  where
    edge : Edge
    edge = record { from = bar; to = s.number }

    kept : (b v : ℕ) → EdgeLeads now.behind b v → EdgeLeads pushed b v
    kept b v x = subst (λ (l : List Edge). EdgeLeads l b v) (sym is) (leads_left now.behind (edge ∷ []) b v x)

pub entered_past_step : (old now : Web) (last : ℕ → Option ℕ) (all : List Stop) (i : ℕ) (d : Stop) → i < length all → last (get_or all i d).column ≡ None → AreEntered old now last (take i all) → AreEntered old now last (take (i + 1) all)
entered_past_step old now last all i d low none h = subst (AreEntered old now last) (sym (take_more all i d low)) (entered_past old now last (take i all) (get_or all i d) none h)

pub entered_step : (old now : Web) (last : ℕ → Option ℕ) (all : List Stop) (i : ℕ) (d : Stop) (bar : ℕ) (pushed : List Edge) → i < length all → last (get_or all i d).column ≡ Some bar
    → pushed ≡ now.behind ++ record { from = bar; to = (get_or all i d).number } ∷ [] → AreEntered old now last (take i all) → AreEntered old (record now { behind = pushed }) last (take (i + 1) all)
entered_step old now last all i d bar pushed low at is h =
    subst (AreEntered old (record now { behind = pushed }) last) (sym (take_more all i d low)) (entered_more old now last (take i all) (get_or all i d) bar pushed at is h)
