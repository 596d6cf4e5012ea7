-- The worked charts meet what the laws ask.
use Rattle.std.specs.Prelude.{ℕ, Bool, true, false, List, [], ◌∷◌, Option, None, Some, codes}
use Rattle.std.specs.Str.{bytes_eq}
use Rattle.std.proofs.Common.{◌≡◌, refl, sym, ap, subst, arith}
use Rattle.std.proofs.lemmas.Option.{same_Some}
use Rattle.msc_base.specs.Orders.{Among, first, later}
use Rattle.msc_unfolding.specs.Unfoldings.{Happening, Own, Via}
use Rattle.msc_tree.specs.declared.event.Target.{Target}
use Rattle.msc_tree.specs.declared.event.Target.TheVariants.{Env}
use Rattle.msc_tree.specs.Expressions.{Chart}
use Rattle.msc_meaning.specs.Bodies.{Body}
use Rattle.msc_meaning.specs.FarEnds.{no_gates}
use Rattle.msc_meaning.specs.InnerEvents.{InnerEvent, here, in_chart, IsInner, own, inside, passed, this, that, IsInnerOfExpression, of_chart, IsInnerOf, of_inline, of_reference, no_ends, end_and}
use Rattle.msc_meaning.specs.WorkedCharts as worked
use Rattle.msc_meaning.specs.WorkedCharts.{d, e, g, h, i, j, k, m, n, p, q, x}
use Rattle.msc_meaning.specs.WorkedParts.{sent, received, done}
use Rattle.msc_meaning.proofs.Deciding.{not_so}
use Rattle.msc_meaning.proofs.KnownEnds.{one_call, two_calls}
use Rattle.expanded_terms.specs.FitBodies.{IsFitTo, AreEndsOf}
use Rattle.expanded_terms.specs.JoinProducts.{IsFewTo}
use Rattle.expanded_terms.specs.ExpandedTerms.{Leaves}
use Rattle.expanded_terms.specs.WorkedPremises.{MeetsAll, PremisesAreMet}
use Rattle.expanded_terms.specs.WorkedTerms.{joined_ends, inline_ends}
use Rattle.expanded_terms.specs.WorkedTerms as ends
use Rattle.expanded_terms.proofs.WorkedExpansion.{none_called}

abbrev R : List ℕ
R = codes "R"

abbrev S : List ℕ
S = codes "S"

abbrev X : List ℕ
X = codes "X"

abbrev is_named : List ℕ → Option (List ℕ) → Bool
is_named name None = false
is_named name (Some other) = bytes_eq name other

not_s : Some R ≡ Some S → ⊥
not_s e = not_so (sym (ap (is_named R) e))

not_r : Some S ≡ Some R → ⊥
not_r e = not_so (sym (ap (is_named S) e))

-- ---- the inner events of two references

in_p : {e : InnerEvent} → IsInnerOfExpression worked.gates_joined (Chart (codes "P")) g e → e.node ≡ worked.gate_out
in_p (of_chart {body = b} {e = f} first e s) = let P : Body → Type 0 = λ x. IsInner worked.gates_joined x g f in inner (subst P (sym (same_Some worked.out_body b e)) s)
  where
    inner : {e : InnerEvent} → IsInner worked.gates_joined worked.out_body g e → e.node ≡ worked.gate_out
    inner (own first e) = refl
    inner (own (later a) e) = elim a [ ]
    inner (inside (later a) c h) = elim a [ ]
    inner (passed (later a) b e h) = elim a [ ]
in_p (of_chart (later a) e s) = elim a [ ]

in_q : {e : InnerEvent} → IsInnerOfExpression worked.gates_joined (Chart (codes "Q")) h e → e.node ≡ worked.gate_in_q
in_q (of_chart {body = b} {e = f} first e s) = let P : Body → Type 0 = λ x. IsInner worked.gates_joined x h f in inner (subst P (sym (same_Some worked.in_body b e)) s)
  where
    inner : {e : InnerEvent} → IsInner worked.gates_joined worked.in_body h e → e.node ≡ worked.gate_in_q
    inner (own first e) = refl
    inner (own (later a) e) = elim a [ ]
    inner (inside (later a) c h) = elim a [ ]
    inner (passed (later a) b e h) = elim a [ ]
in_q (of_chart (later a) e s) = elim a [ ]

of_r : {e : InnerEvent} → IsInnerOf worked.gates_joined worked.joined_items R g e → e.node ≡ worked.gate_out
of_r (of_inline (later (later a)) e s) = elim a [ ]
of_r (of_reference first e s) = in_p s
of_r (of_reference (later first) e s) = absurd (not_r e)
of_r (of_reference (later (later a)) e s) = elim a [ ]

of_s : {e : InnerEvent} → IsInnerOf worked.gates_joined worked.joined_items S h e → e.node ≡ worked.gate_in_q
of_s (of_inline (later (later a)) e s) = elim a [ ]
of_s (of_reference first e s) = absurd (not_s e)
of_s (of_reference (later first) e s) = in_q s
of_s (of_reference (later (later a)) e s) = elim a [ ]

end_r : IsInnerOf worked.gates_joined worked.joined_items R g (in_chart (codes "P") (here worked.gate_out))
end_r = of_reference first refl (of_chart first refl (own first refl))

end_s : IsInnerOf worked.gates_joined worked.joined_items S h (in_chart (codes "Q") (here worked.gate_in_q))
end_s = of_reference (later first) refl (of_chart first refl (own first refl))

joined_have : AreEndsOf worked.gates_joined joined_ends worked.joined_items
joined_have = record {
  there = end_and (in_chart (codes "Q") (here worked.gate_in_q)) end_s (end_and (in_chart (codes "P") (here worked.gate_out)) end_r no_ends);
  one = two_calls worked.gates_joined worked.joined_items _ _ worked.gate_in_q worked.gate_out (λ e s. of_s s) (λ e s. of_r s);
}

-- ---- a join

abbrev sent_p : Happening
sent_p = record { label = sent p m q; also = None; tags = Own 0 ∷ Via g ∷ [] }

abbrev taken_q : Happening
taken_q = record { label = received q m p; also = None; tags = Own 0 ∷ Via h ∷ [] }

joined_fit : (leaves : Leaves) (Named : Happening → Type 0) → Named sent_p → Named taken_q → IsFitTo worked.gates_joined joined_ends leaves Named (λ i g nodes. ⊥) 2 (codes "A") no_gates 0
joined_fit leaves Named a b = record {
  entry = _;
  is = refl;
  fit = (
    joined_have,
    (
      record { entry = _; is = refl; fit = (record { there = no_ends; one = none_called worked.gates_joined _ }, (a, tt)) },
      (record { entry = _; is = refl; fit = (record { there = no_ends; one = none_called worked.gates_joined _ }, (b, tt)) }, tt),
    ),
  );
}

joined_meets : MeetsAll (p ∷ q ∷ []) (sent p m q ∷ received q m p ∷ []) joined_ends worked.gates_joined 2
joined_meets = record {
  whole = record {
    entry = _;
    is = refl;
    whole = (
      joined_have,
      (
        record { entry = _; is = refl; whole = (record { there = no_ends; one = none_called worked.gates_joined _ }, (tt, tt)) },
        (record { entry = _; is = refl; whole = (record { there = no_ends; one = none_called worked.gates_joined _ }, (tt, tt)) }, tt),
      ),
    );
  };
  fit = joined_fit _ _ (record { label = refl; at = refl; also = λ i e. absurd cc }) (record { label = refl; at = refl; also = λ i e. absurd cc });
  placeable = joined_fit _ _ (record { label = refl; child = refl }) (record { label = refl; child = refl });
  few = (
    record { numbers = tt; pairs = omega arith; calls = tt },
    ((record { numbers = (λ i. elim i [ ], tt); pairs = omega arith; calls = tt }, (tt, tt)), ((record { numbers = (λ i. elim i [ ], tt); pairs = omega arith; calls = tt }, (tt, tt)), tt)),
  );
}

-- ---- a gate of an inline expression

abbrev is_gate : Target → Bool
is_gate (Env g) = true
is_gate _ = false

inner_with : {e : InnerEvent} → IsInner worked.gate_of_inline worked.with_gate g e → e.node ≡ worked.inner_in
inner_with (own first e) = refl
inner_with (own (later a) e) = elim a [ ]
inner_with (inside (later a) c h) = elim a [ ]
inner_with (passed (later a) b e h) = elim a [ ]

inner_without : {e : InnerEvent} → IsInner worked.gate_of_inline worked.without_gate g e → ⊥
inner_without (own first e) = not_so (ap is_gate e)
inner_without (own (later a) e) = elim a [ ]
inner_without (inside (later a) c h) = elim a [ ]
inner_without (passed (later a) b e h) = elim a [ ]

of_x : {e : InnerEvent} → IsInnerOf worked.gate_of_inline worked.inline_items X g e → e.node ≡ worked.inner_in
of_x (of_inline (later first) e (this s)) = inner_with s
of_x (of_inline (later first) e (that (this s))) = absurd (inner_without s)
of_x (of_inline (later first) e (that (that s))) = elim s [ ]
of_x (of_inline (later (later a)) e s) = elim a [ ]
of_x (of_reference (later (later a)) e s) = elim a [ ]

inline_have : AreEndsOf worked.gate_of_inline inline_ends worked.inline_items
inline_have = record {
  there = end_and (here worked.inner_in) (of_inline (later first) refl (this (own first refl))) no_ends;
  one = one_call worked.gate_of_inline worked.inline_items _ worked.inner_in (λ e s. of_x s);
}

abbrev sent_i : Happening
sent_i = record { label = sent i m k; also = None; tags = Own 0 ∷ [] }

abbrev taken_k : Happening
taken_k = record { label = received k m i; also = None; tags = Own 1 ∷ Via g ∷ [] }

abbrev done_k : Happening
done_k = record { label = done k x; also = None; tags = Own 2 ∷ [] }

inline_fit : (leaves : Leaves) (Named : Happening → Type 0) → Named sent_i → Named taken_k → Named done_k → IsFitTo worked.gate_of_inline inline_ends leaves Named (λ i g nodes. ⊥) 1 (codes "A") no_gates 0
inline_fit leaves Named a b c = record {
  entry = _;
  is = refl;
  fit = (
    inline_have,
    (
      a,
      (
        (
          refl,
          (
            (record { there = no_ends; one = none_called worked.gate_of_inline _ }, (b, tt)),
            ((record { there = no_ends; one = none_called worked.gate_of_inline _ }, (c, tt)), tt),
          ),
        ),
        tt,
      ),
    ),
  );
}

inline_meets : MeetsAll (i ∷ k ∷ []) (sent i m k ∷ received k m i ∷ done k x ∷ []) inline_ends worked.gate_of_inline 1
inline_meets = record {
  whole = record {
    entry = _;
    is = refl;
    whole = (
      inline_have,
      (
        tt,
        (
          (
            refl,
            (
              (record { there = no_ends; one = none_called worked.gate_of_inline _ }, (tt, tt)),
              ((record { there = no_ends; one = none_called worked.gate_of_inline _ }, (tt, tt)), tt),
            ),
          ),
          tt,
        ),
      ),
    );
  };
  fit = inline_fit _ _ (record { label = refl; at = refl; also = λ i e. absurd cc }) (record { label = refl; at = refl; also = λ i e. absurd cc }) (record { label = refl; at = refl; also = λ i e. absurd cc });
  placeable = inline_fit _ _ (record { label = refl; child = refl }) (record { label = refl; child = refl }) (record { label = refl; child = refl });
  few = (
    record { numbers = (λ i. elim i [ ], tt); pairs = omega arith; calls = (λ i. elim i [ ], tt) },
    (
      tt,
      (
        (
          refl,
          ((record { numbers = (λ i. elim i [ ], tt); pairs = omega arith; calls = tt }, (tt, tt)), ((record { numbers = (λ i. elim i [ ], tt); pairs = omega arith; calls = tt }, (tt, tt)), tt)),
        ),
        tt,
      ),
    ),
  );
}

-- ---- a decomposed instance

abbrev sent_j : Happening
sent_j = record { label = sent j m d; also = None; tags = Own 1 ∷ [] }

abbrev sent_e : Happening
sent_e = record { label = sent e n d; also = None; tags = Own 0 ∷ [] }

abbrev taken_d : Happening
taken_d = record { label = received d n e; also = None; tags = Own 1 ∷ [] }

abbrev matched_d : Happening
matched_d = record { label = received d m j; also = None; tags = Own 2 ∷ [] }

decomposed_fit : (leaves : Leaves) (Named : Happening → Type 0) → Named sent_j → Named sent_e → Named taken_d → Named matched_d → IsFitTo worked.refined ends.no_ends leaves Named (λ i g nodes. ⊥) 1 (codes "A") no_gates 0
decomposed_fit leaves Named a b c f = record {
  entry = _;
  is = refl;
  fit = (
    record { there = no_ends; one = none_called worked.refined _ },
    (a, tt),
    ((record { there = no_ends; one = none_called worked.refined _ }, (b, (c, (f, tt)))), tt),
  );
}

abbrev IsNone : ℕ → List ℕ → Type 0
IsNone m [] = Unit {0}
IsNone m (n ∷ ns) = (m ≡ n → ⊥) × IsNone m ns

apart_from : (m : ℕ) (ns : List ℕ) → IsNone m ns → Among m ns → ⊥
apart_from m [] h i = elim i [ ]
apart_from m (n ∷ ns) (h, hs) i = one m n ns h (apart_from m ns hs) i
  where
    one : (m n : ℕ) (ns : List ℕ) → (m ≡ n → ⊥) → (Among m ns → ⊥) → Among m (n ∷ ns) → ⊥
    one m _ ns h f first = h refl
    one m n ns h f (later i) = f i

-- the body, and that of its refining chart
decomposed_few : IsFewTo worked.refined 1 (codes "A")
decomposed_few = (
  (record { numbers = (λ i. apart_from 0 (1 ∷ []) ((λ e. omega (arith, e)), tt) i, (λ i. elim i [ ], tt)); pairs = omega arith; calls = tt }, (tt, (tt, tt))),
  (
    (
      record { numbers = (λ i. apart_from 0 (1 ∷ 2 ∷ []) ((λ e. omega (arith, e)), ((λ e. omega (arith, e)), tt)) i, (λ i. apart_from 1 (2 ∷ []) ((λ e. omega (arith, e)), tt) i, (λ i. elim i [ ], tt))); pairs = omega arith; calls = tt },
      (tt, (tt, (tt, tt))),
    ),
    tt,
  ),
)

decomposed_meets : MeetsAll (j ∷ d ∷ e ∷ []) (sent j m d ∷ sent e n d ∷ received d n e ∷ received d m j ∷ []) ends.no_ends worked.refined 1
decomposed_meets = record {
  whole = record {
    entry = _;
    is = refl;
    whole = (
      record { there = no_ends; one = none_called worked.refined _ },
      (tt, tt),
      ((record { there = no_ends; one = none_called worked.refined _ }, (tt, (tt, (tt, tt)))), tt),
    );
  };
  fit = decomposed_fit _ _ (record { label = refl; at = refl; also = λ i e. absurd cc }) (record { label = refl; at = refl; also = λ i e. absurd cc }) (record { label = refl; at = refl; also = λ i e. absurd cc }) (record { label = refl; at = refl; also = λ i e. absurd cc });
  placeable = decomposed_fit _ _ (record { label = refl; child = refl }) (record { label = refl; child = refl }) (record { label = refl; child = refl }) (record { label = refl; child = refl });
  few = decomposed_few;
}

pub premises_are_met : PremisesAreMet
premises_are_met = record { joined = joined_meets; inline = inline_meets; decomposed = decomposed_meets }
