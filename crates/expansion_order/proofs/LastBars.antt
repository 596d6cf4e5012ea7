-- New bars behind stops: each instance has its own, and the stops alone are drawn before it.
use Rattle.std.proofs.Common.{◌≡◌, ◌<◌, ◌≤◌, ◌+◌, inl, inr, ℕ, List, [], ◌∷◌, ◌++◌, Option, Some, get_or, length, take, sym, subst, ap, ◌∙◌, arith}
use Rattle.std.proofs.lemmas.Bool.{cases_eq}
use Rattle.std.proofs.lemmas.List.{take_more}
use Rattle.std.proofs.lemmas.Option.{same_Some}
use Rattle.column_order.specs.Counts.{EdgeLeads}
use Rattle.column_order.specs.declared.edge.Edge.{Edge}
use Rattle.expansion_order.specs.Webs.{AreLeft, HasStop, IsBarAt}
use Rattle.expansion_order.specs.declared.stops.Stop.{Stop}
use Rattle.expansion_order.specs.declared.web.Web.{Web}
use Rattle.expansion_order.proofs.Drawn.{leads_last, leads_left, leads_snoc}
use Rattle.expansion_order.proofs.Bars.{stop_last, stop_left, stop_snoc}

module _ (old now next : Web) (was mid last : ℕ → Option ℕ) (ss : List Stop) (s : Stop) (bar : ℕ) (low : (k b : ℕ) → was k ≡ Some b → b < old.bars) (h : AreLeft old now was mid ss) (at : IsBarAt now next mid last old.bars s.column bar) where
  abbrev pub edge : Edge
  edge = record { from = s.number; to = bar }

  bars_rise : now.bars ≤ next.bars
  bars_rise = elim at.which [ inl x ↦ let e = x.2 in omega (arith, e) | inr x ↦ let e = x.1 in omega (arith, e) ]

  bar_is_new : old.bars ≤ bar
  bar_is_new = elim at.which [ inl x ↦ x.1 | inr x ↦ let e = x.0 in let b = h.bars in omega (arith, e, b) ]

  bar_is_low : bar < next.bars
  bar_is_low = elim at.which [
    | inl x ↦ elim (h.come s.column bar x.0) [
      | inl w ↦ let l = low s.column bar w in let n = x.1 in absurd (omega (arith, l, n))
      | inr r ↦ let l = r.1 in let e = x.2 in omega (arith, l, e)
    ]
    | inr x ↦ let e = x.0 in let f = x.1 in omega (arith, e, f)
  ]

  -- a new bar stays its instance's
  stays : (k b : ℕ) → mid k ≡ Some b → old.bars ≤ b → last k ≡ Some b
  stays k b m new = elim (cases_eq k s.column) [
    | inl e ↦
        let here : mid s.column ≡ Some b = subst (λ (i : ℕ). mid i ≡ Some b) e m in
        let same : bar ≡ b = elim at.which [ inl x ↦ same_Some bar b (sym x.0 ∙ here) | inr x ↦ let l = x.2 b here in absurd (omega (arith, l, new)) ] in
        subst (λ (i : ℕ). last i ≡ Some b) (sym e) (at.here ∙ ap (λ (i : ℕ). Some i) same)
    | inr ne ↦ at.others k ne ∙ m
  ]

  other_bar : (k : ℕ) → (k ≡ s.column → ⊥) → last k ≡ Some bar → ⊥
  other_bar k ne l =
      let m : mid k ≡ Some bar = sym (at.others k ne) ∙ l in
      elim at.which [
        | inl x ↦ ne (h.apart k s.column bar m x.0 x.1)
        | inr x ↦ elim (h.come k bar m) [
          | inl w ↦ let b = low k bar w in let e = x.0 in let r = h.bars in absurd (omega (arith, b, e, r))
          | inr r ↦ let b = r.1 in let e = x.0 in absurd (omega (arith, b, e))
        ]
      ]

  module _ (pushed : List Edge) (is : pushed ≡ next.before ++ edge ∷ []) where
    kept_before : (u b : ℕ) → EdgeLeads now.before u b → EdgeLeads pushed u b
    kept_before u b x = subst (λ (l : List Edge). EdgeLeads l u b) (sym is) (leads_left next.before (edge ∷ []) u b (subst (λ (l : List Edge). EdgeLeads l u b) (sym at.before) x))

    pub left_more : AreLeft old (record next { before = pushed }) was last (ss ++ s ∷ [])
    left_more = record {
      pairs = at.pairs ∙ h.pairs;
      behind = at.behind ∙ h.behind;
      bars = let a = h.bars in let b = bars_rise in omega (arith, a, b);
      kept = λ u b x. kept_before u b (h.kept u b x);
      drawn = λ k u x. elim (stop_snoc ss s k u x) [
        | inl l ↦ let d = h.drawn k u l in (d.0, stays k d.0 d.1 d.2, d.2, kept_before u d.0 d.3)
        | inr r ↦ (
          bar,
          subst (λ (i : ℕ). last i ≡ Some bar) r.0 at.here,
          bar_is_new,
          subst (λ (i : ℕ). EdgeLeads pushed i bar) r.1 (subst (λ (l : List Edge). EdgeLeads l s.number bar) (sym is) (leads_last next.before edge)),
        )
      ];
      only = λ u b x. elim (leads_snoc next.before edge u b (subst (λ (l : List Edge). EdgeLeads l u b) is x)) [
        | inl o ↦ elim (h.only u b (subst (λ (l : List Edge). EdgeLeads l u b) at.before o)) [
          | inl p ↦ inl p
          | inr r ↦ inr (r.0, stop_left ss (s ∷ []) r.0 u r.1, stays r.0 b r.2 r.3, r.3)
        ]
        | inr r ↦ inr (
          s.column,
          subst (λ (i : ℕ). HasStop (ss ++ s ∷ []) s.column i) r.0 (stop_last ss s),
          at.here ∙ ap (λ (i : ℕ). Some i) r.1,
          subst (λ (i : ℕ). old.bars ≤ i) r.1 bar_is_new,
        )
      ];
      come = λ k b x. elim (cases_eq k s.column) [
        | inl e ↦
            let same : bar ≡ b = same_Some bar b (sym at.here ∙ subst (λ (i : ℕ). last i ≡ Some b) e x) in
            inr (subst (λ (i : ℕ). old.bars ≤ i) same bar_is_new, subst (λ (i : ℕ). i < next.bars) same bar_is_low, s.number, subst (λ (i : ℕ). HasStop (ss ++ s ∷ []) i s.number) (sym e) (stop_last ss s))
        | inr ne ↦ elim (h.come k b (sym (at.others k ne) ∙ x)) [
          | inl w ↦ inl w
          | inr r ↦ inr (r.0, let a = r.1 in let c = bars_rise in omega (arith, a, c), r.2, stop_left ss (s ∷ []) k r.2 r.3)
        ]
      ];
      apart = λ k l b x y new. elim (cases_eq k s.column) [
        | inl e ↦
            let same : bar ≡ b = same_Some bar b (sym at.here ∙ subst (λ (i : ℕ). last i ≡ Some b) e x) in
            elim (cases_eq l s.column) [ inl f ↦ e ∙ sym f | inr nf ↦ absurd (other_bar l nf (subst (λ (i : ℕ). last l ≡ Some i) (sym same) y)) ]
        | inr ne ↦ elim (cases_eq l s.column) [
          | inl f ↦ let same : bar ≡ b = same_Some bar b (sym at.here ∙ subst (λ (i : ℕ). last i ≡ Some b) f y) in absurd (other_bar k ne (subst (λ (i : ℕ). last k ≡ Some i) (sym same) x))
          | inr nf ↦ h.apart k l b (sym (at.others k ne) ∙ x) (sym (at.others l nf) ∙ y) new
        ]
      ];
      stayed = λ k b x. elim (h.stayed k b x) [
        | inl m ↦ elim (cases_eq k s.column) [ inl e ↦ inr (s.number, subst (λ (i : ℕ). HasStop (ss ++ s ∷ []) i s.number) (sym e) (stop_last ss s)) | inr ne ↦ inl (at.others k ne ∙ m) ]
        | inr r ↦ inr (r.0, stop_left ss (s ∷ []) k r.0 r.1)
      ];
    }

pub left_step : (old now next : Web) (was mid last : ℕ → Option ℕ) (all : List Stop) (i : ℕ) (d : Stop) (bar : ℕ) (pushed : List Edge) → i < length all → ((k b : ℕ) → was k ≡ Some b → b < old.bars) → AreLeft old now was mid (take i all)
    → IsBarAt now next mid last old.bars (get_or all i d).column bar → pushed ≡ next.before ++ record { from = (get_or all i d).number; to = bar } ∷ [] → AreLeft old (record next { before = pushed }) was last (take (i + 1) all)
left_step old now next was mid last all i d bar pushed inside low h at is =
    subst (AreLeft old (record next { before = pushed }) was last) (sym (take_more all i d inside)) (left_more old now next was mid last (take i all) (get_or all i d) bar low h at pushed is)
