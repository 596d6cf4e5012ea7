-- The worked tables, one after another.
use Rattle.std.proofs.Common.{◌≡◌, inl, inr, ℕ, List, [], ◌∷◌, Some, None, codes, arith, refl, sym, ap}
use Rattle.std.proofs.lemmas.Bool.{true≢false}
use Rattle.chart_links.specs.Links.{Refers}
use Rattle.chart_links.specs.References.{own, onward, there}
use Rattle.chart_text.specs.Texts.{Whole}
use Rattle.msc_meaning.specs.Bodies.{Single, level, items}
use Rattle.refinement_rules.specs.RefinementRules.{by_item, by_other, by_own, by_reference, in_operand, in_other, is_graph}
use Rattle.refinement_rules.specs.Worked.{HasLocal, HasMoreInside, HasOtherMessages, Shares, acts, at_byte, chart_by, declares, opt, refers, refining, says, sends}

first_byte : List ℕ → ℕ
first_byte [] = 0
first_byte (x ∷ xs) = x

j_is_other : codes "j" ≡ codes "i" → ⊥
unfolding first_byte
j_is_other e = let b : 106 ≡ 105 = ap first_byte e in omega (arith, b)

i_is_other : codes "i" ≡ codes "j" → ⊥
i_is_other e = j_is_other (sym e)

a_is_other : codes "A" ≡ codes "D" → ⊥
unfolding first_byte
a_is_other e = let b : 65 ≡ 68 = ap first_byte e in omega (arith, b)

pub other_messages : HasOtherMessages
other_messages = record {
  chart = chart_by None (Single (sends (codes "i") 60) ∷ []);
  among = inl refl;
  body = level (codes "i" ∷ codes "j" ∷ []) (items (Single (sends (codes "i") 60) ∷ [])) [];
  is = refl;
  decl = declares (codes "i") (Some (codes "D")) 30;
  declares = inl refl;
  refining = codes "D";
  refines = refl;
  breaks = (refl, record { like = sends (codes "i") 60; differs = λ e. let b : 1 ≡ 0 = e in omega (arith, b) });
}

pub shares : Shares
shares = (
  record {
    chart = chart_by None (opt (codes "i" ∷ codes "j" ∷ []) [] 60 ∷ []);
    among = inl refl;
    body = level (codes "i" ∷ codes "j" ∷ []) (items (opt (codes "i" ∷ codes "j" ∷ []) [] 60 ∷ [])) [];
    is = refl;
    decl = declares (codes "i") (Some (codes "D")) 30;
    declares = inl refl;
    refining = codes "D";
    refines = refl;
    breaks = (refl, by_item (record { item = opt (codes "i" ∷ codes "j" ∷ []) [] 60; among = inl refl; own = inl refl; other = codes "j"; besides = inr (inl refl); differs = j_is_other }));
  },
  record {
    chart = chart_by None [];
    among = inl refl;
    body = level (codes "i" ∷ codes "j" ∷ []) (items []) [];
    is = refl;
    decl = declares (codes "i") (Some (codes "D")) 30;
    declares = inl refl;
    refining = codes "D";
    refines = refl;
    breaks = (refl, by_own (codes "j") (inr (inl refl)) refl (own (says (codes "D") (codes "j" ∷ []) []) (inr (inl refl)) refl (inl refl, λ h. h)));
  },
  record {
    chart = chart_by None (refers (codes "j" ∷ []) (codes "D") 60 ∷ []);
    among = inl refl;
    body = level (codes "i" ∷ codes "j" ∷ []) (items (refers (codes "j" ∷ []) (codes "D") 60 ∷ [])) [];
    is = refl;
    decl = declares (codes "i") (Some (codes "D")) 30;
    declares = inl refl;
    refining = codes "D";
    refines = refl;
    breaks = (
      refl,
      by_reference (codes "D") (inl refl) (record {
        instance = codes "x";
        first = own (says (codes "D") (codes "x" ∷ []) []) (inr (inl refl)) refl (inl refl, λ h. h);
        second = own (says (codes "D") (codes "x" ∷ []) []) (inr (inl refl)) refl (inl refl, λ h. h);
      }),
    );
  },
  record {
    chart = chart_by (Some (codes "D")) [];
    among = inl refl;
    body = level (codes "i" ∷ codes "j" ∷ []) (items []) [];
    is = refl;
    decl = declares (codes "i") (Some (codes "D")) 30;
    declares = inl refl;
    refining = codes "D";
    refines = refl;
    breaks = (
      refl,
      by_other (declares (codes "j") (Some (codes "D")) 50) (codes "D") (inr (inl refl)) j_is_other refl (record {
        instance = codes "x";
        first = own (says (codes "D") (codes "x" ∷ []) []) (inr (inl refl)) refl (inl refl, λ h. h);
        second = own (says (codes "D") (codes "x" ∷ []) []) (inr (inl refl)) refl (inl refl, λ h. h);
      }),
    );
  },
)

pub more_inside : HasMoreInside
more_inside = (
  record {
    chart = chart_by None [];
    among = inl refl;
    body = level (codes "i" ∷ codes "j" ∷ []) (items []) [];
    is = refl;
    decl = declares (codes "i") (Some (codes "D")) 30;
    declares = inl refl;
    refining = codes "D";
    refines = refl;
    breaks = (refl, is_graph refl);
  },
  record {
    chart = chart_by None [];
    among = inl refl;
    body = level (codes "i" ∷ codes "j" ∷ []) (items []) [];
    is = refl;
    decl = declares (codes "i") (Some (codes "D")) 30;
    declares = inl refl;
    refining = codes "D";
    refines = refl;
    breaks = (refl, in_operand (level (codes "x" ∷ []) (items (opt (codes "x" ∷ []) (Single (sends (codes "x") 99) ∷ []) 95 ∷ [])) []) refl (record { event = sends (codes "x") 99; among = inl refl; env = refl }));
  },
  record {
    chart = chart_by None [];
    among = inl refl;
    body = level (codes "i" ∷ codes "j" ∷ []) (items []) [];
    is = refl;
    decl = declares (codes "i") (Some (codes "D")) 30;
    declares = inl refl;
    refining = codes "D";
    refines = refl;
    breaks = (
      refl,
      in_other (codes "A") (level (codes "x" ∷ []) (items (Single (sends (codes "x") 130) ∷ [])) []) a_is_other
          (onward (record { chart = says (codes "D") (codes "x" ∷ []) (Refers (codes "A") (at_byte 95) Whole 3 ∷ []); among = inr (inl refl); called = refl; link = Refers (codes "A") (at_byte 95) Whole 3; says = inl refl; is = refl }) there)
          refl (record { event = sends (codes "x") 130; among = inl refl; env = refl }),
    );
  },
)

pub has_local : HasLocal
has_local = (
  record {
    chart = chart_by None (Single (acts (codes "i") 60) ∷ []);
    among = inl refl;
    body = level (codes "i" ∷ codes "j" ∷ []) (items (Single (acts (codes "i") 60) ∷ [])) [];
    is = refl;
    decl = declares (codes "i") (Some (codes "D")) 30;
    declares = inl refl;
    refining = codes "D";
    refines = refl;
    breaks = inl (record { event = acts (codes "i") 60; among = inl refl; own = refl; plain = λ t. true≢false (sym t); stands = refl });
  },
  record {
    chart = chart_by None (refers (codes "i" ∷ []) (codes "D") 70 ∷ []);
    among = inl refl;
    body = level (codes "i" ∷ codes "j" ∷ []) (items (refers (codes "i" ∷ []) (codes "D") 70 ∷ [])) [];
    is = refl;
    decl = declares (codes "i") (Some (codes "D")) 30;
    declares = inl refl;
    refining = codes "D";
    refines = refl;
    breaks = inr (record { item = refers (codes "i" ∷ []) (codes "D") 70; among = inl refl; own = inl refl; stands = refl });
  },
)
