-- What stands in front of a part, and what the part adds to it.
use Rattle.std.proofs.Common.{◌≡◌, ◌<◌, ◌⊎◌, inl, inr, ℕ, List, ◌++◌, Option, Some, refl, sym, subst, ◌∙◌, arith}
use Rattle.column_order.specs.Counts.{EdgeLeads}
use Rattle.column_order.specs.declared.edge.Edge.{Edge}
use Rattle.msc_base.specs.Orders.{Among}
use Rattle.expansion_order.specs.Precedence.{StopsOrder}
use Rattle.expansion_order.specs.Webs.{AreDrawn, AreEntered, AreLeft, Grows, HasStop, IsFront, IsTidy, Nothing}
use Rattle.expansion_order.specs.declared.stops.Stop.{Stop}
use Rattle.expansion_order.specs.declared.web.Web.{Web}
use Rattle.expansion_order.proofs.Bars.{stop_left, stop_right}
use Rattle.expansion_order.proofs.Drawn.{among_either, rises_before}

-- ---- a part behind the front

module _ (old new : Web) (last : ℕ → Option ℕ) (stops front : List Stop) (tidy : IsTidy old) (stands : IsFront old last front) (h : AreEntered old new last stops) where
  entered_grows : Grows old new
  entered_grows = record {
    bars = let e = h.bars in omega (arith, e);
    pairs = λ u v x. subst (λ (l : List Edge). EdgeLeads l u v) (sym h.pairs) x;
    before = λ u b x. subst (λ (l : List Edge). EdgeLeads l u b) (sym h.before) x;
    behind = h.kept;
    same = λ u b x lt. subst (λ (l : List Edge). EdgeLeads l u b) h.before x;
  }

  entered_tidy : IsTidy new
  entered_tidy = record {
    before = λ u b x. let l = tidy.before u b (subst (λ (l : List Edge). EdgeLeads l u b) h.before x) in let e = h.bars in omega (arith, l, e);
    behind = λ b v x. elim (h.only b v x) [
      | inl o ↦ let l = tidy.behind b v o in let e = h.bars in omega (arith, l, e)
      | inr r ↦ let l = stands.low r.0 b r.2 in let e = h.bars in omega (arith, l, e)
    ];
  }

  pub entered_drawn : AreDrawn (StopsOrder front stops) old new
  entered_drawn = record {
    tidy = entered_tidy;
    grown = entered_grows;
    rises = λ rank bar r u v c.
        let f = stands.rises rank bar (rises_before rank bar old new entered_grows r) c.earlier c.among_first in
        let at : last c.later.column ≡ Some f.0 = subst (λ (i : ℕ). last i ≡ Some f.0) c.at_one f.1 in
        let low : bar f.0 < rank c.later.number = r.behind f.0 c.later.number (h.drawn c.later.column f.0 c.later.number (record { stop = c.later; among = c.among_second; at = refl; is = refl }) at) in
        let high : rank c.earlier.number < bar f.0 = f.2 in
        let both : rank c.earlier.number < rank c.later.number = omega (arith, low, high) in
        subst (λ (i : ℕ). rank i < rank v) c.first (subst (λ (i : ℕ). rank c.earlier.number < rank i) c.second both);
    asked = λ u v d. elim d [
      | inl p ↦ inl (inl (subst (λ (l : List Edge). EdgeLeads l u v) h.pairs p))
      | inr p ↦
          let before : EdgeLeads old.before u p.bar = subst (λ (l : List Edge). EdgeLeads l u p.bar) h.before p.before in
          elim (h.only p.bar v p.behind) [
            | inl o ↦ inl (inr (record { bar = p.bar; before = before; behind = o }))
            | inr r ↦
                let e = stands.only r.0 p.bar u r.2 before in
                let f = r.1 in
                inr (record { earlier = e.stop; later = f.stop; among_first = e.among; among_second = f.among; at_one = e.at ∙ sym f.at; first = e.is; second = f.is })
          ]
    ];
  }

  pub entered_front : IsFront new last front
  entered_front = record {
    low = λ k b x. let l = stands.low k b x in let e = h.bars in omega (arith, l, e);
    rises = λ rank bar r s a. stands.rises rank bar (rises_before rank bar old new entered_grows r) s a;
    only = λ k b u x l. stands.only k b u x (subst (λ (l : List Edge). EdgeLeads l u b) h.before l);
  }

-- ---- a part before new bars

module _ (old new : Web) (was last : ℕ → Option ℕ) (stops front : List Stop) (tidy : IsTidy old) (stands : IsFront old was front)
    (entered : (k b v : ℕ) → HasStop stops k v → was k ≡ Some b → EdgeLeads old.behind b v) (h : AreLeft old new was last stops) where
  left_grows : Grows old new
  left_grows = record {
    bars = h.bars;
    pairs = λ u v x. subst (λ (l : List Edge). EdgeLeads l u v) (sym h.pairs) x;
    before = h.kept;
    behind = λ b v x. subst (λ (l : List Edge). EdgeLeads l b v) (sym h.behind) x;
    same = λ u b x lt. elim (h.only u b x) [ inl o ↦ o | inr r ↦ let g = r.3 in absurd (omega (arith, g, lt)) ];
  }

  last_low : (k b : ℕ) → last k ≡ Some b → b < new.bars
  last_low k b x = elim (h.come k b x) [ inl w ↦ let l = stands.low k b w in let e = h.bars in omega (arith, l, e) | inr r ↦ r.1 ]

  left_tidy : IsTidy new
  left_tidy = record {
    before = λ u b x. elim (h.only u b x) [ inl o ↦ let l = tidy.before u b o in let e = h.bars in omega (arith, l, e) | inr r ↦ last_low r.0 b r.2 ];
    behind = λ b v x. let l = tidy.behind b v (subst (λ (l : List Edge). EdgeLeads l b v) h.behind x) in let e = h.bars in omega (arith, l, e);
  }

  pub left_drawn : AreDrawn Nothing old new
  left_drawn = record {
    tidy = left_tidy;
    grown = left_grows;
    rises = λ rank bar r u v x. absurd x;
    asked = λ u v d. elim d [
      | inl p ↦ inl (inl (subst (λ (l : List Edge). EdgeLeads l u v) h.pairs p))
      | inr p ↦
          let behind : EdgeLeads old.behind p.bar v = subst (λ (l : List Edge). EdgeLeads l p.bar v) h.behind p.behind in
          inl (inr (record { bar = p.bar; before = left_grows.same u p.bar p.before (tidy.behind p.bar v behind); behind = behind }))
    ];
  }

  pub left_front : IsFront new last (front ++ stops)
  left_front = record {
    low = last_low;
    rises = λ rank bar r s a. elim (among_either s front stops a) [
      | inl x ↦
          let f = stands.rises rank bar (rises_before rank bar old new left_grows r) s x in
          elim (h.stayed s.column f.0 f.1) [
            | inl l ↦ (f.0, l, f.2)
            | inr t ↦
                let d = h.drawn s.column t.0 t.1 in
                let above : bar f.0 < rank t.0 = r.behind f.0 t.0 (subst (λ (l : List Edge). EdgeLeads l f.0 t.0) (sym h.behind) (entered s.column f.0 t.0 t.1 f.1)) in
                let under : rank t.0 < bar d.0 = r.before t.0 d.0 d.3 in
                let here : rank s.number < bar f.0 = f.2 in
                (d.0, d.1, omega (arith, above, under, here))
          ]
      | inr y ↦
          let d = h.drawn s.column s.number (record { stop = s; among = y; at = refl; is = refl }) in
          (d.0, d.1, r.before s.number d.0 d.3)
    ];
    only = λ k b u x l. elim (h.only u b l) [
      | inl o ↦ elim (h.come k b x) [
        | inl w ↦ stop_left front stops k u (stands.only k b u w o)
        | inr r ↦ let lt = tidy.before u b o in let g = r.0 in absurd (omega (arith, lt, g))
      ]
      | inr r ↦
          let one : r.0 ≡ k = h.apart r.0 k b r.2 x r.3 in
          stop_right front stops k u (subst (λ (i : ℕ). HasStop stops i u) one r.1)
    ];
  }
