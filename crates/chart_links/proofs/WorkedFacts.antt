-- The worked charts, one after another.
use Rattle.std.proofs.Common.{◌≡◌, ◌⊎◌, inl, inr, ℕ, List, [], ◌∷◌, codes, arith, refl, sym, ap, subst, ◌∙◌}
use Rattle.msc_base.specs.Lists.{IsAmong}
use Rattle.msc_base.specs.declared.place.Place.{Place}
use Rattle.chart_links.specs.Links.{Link}
use Rattle.chart_links.specs.References.{IsCalled, IsExpanded, Leads, LeavesUncovered, MissesChart, Recurs, own, of_named, onward, there}
use Rattle.chart_links.specs.Summaries.{IsOwn, Summary}
use Rattle.chart_links.specs.Worked.{CoversAll, LeavesOneOut, NamesItself, NodesName, graph_caller, plain_chart, self_caller, whole_caller}

first_byte : List ℕ → ℕ
first_byte [] = 0
first_byte (x ∷ xs) = x

pub one_left_out : LeavesOneOut
unfolding first_byte
one_left_out = inr (inl (inl (
  refl,
  record {
    instance = codes "j";
    expanded = own plain_chart (inl refl) refl (inr (inl refl), λ h. h);
    mine = inr (inl refl);
    outside = λ h. elim h [ inl e ↦ let b : 106 ≡ 105 = ap first_byte e in absurd (omega (arith, b)) | inr n ↦ n ];
  },
)))

abbrev both : List Summary
both = plain_chart ∷ whole_caller ∷ []

none_uncovered : (q : Place) → LeavesUncovered both q → ⊥
none_uncovered q (inl h) = h
none_uncovered q (inr (inl (inl p))) = p.1.outside tt
none_uncovered q (inr (inl (inr h))) = h
none_uncovered q (inr (inr h)) = h

none_missing : (q : Place) → MissesChart both q → ⊥
none_missing q (inl h) = h
none_missing q (inr (inl (inl p))) = p.1 (record { chart = plain_chart; among = inl refl; called = refl })
none_missing q (inr (inl (inr h))) = h
none_missing q (inr (inr h)) = h

-- A names nothing
names_none : (c : Summary) (l : Link) → IsAmong both c → c.name ≡ codes "A" → IsAmong c.links l → ⊥
unfolding first_byte
names_none c l (inl e) called says = subst (λ (s : Summary). IsAmong s.links l) e says
names_none c l (inr (inl e)) called says = let b : 90 ≡ 65 = sym (ap (λ (s : Summary). first_byte s.name) e) ∙ ap first_byte called in absurd (omega (arith, b))
names_none c l (inr (inr n)) called says = n

leads_none : (n m : List ℕ) → n ≡ codes "A" → m ≡ codes "Z" → Leads both n m → ⊥
unfolding first_byte
leads_none n m e f there = let b : 65 ≡ 90 = ap first_byte (sym e ∙ f) in absurd (omega (arith, b))
leads_none n m e f (onward names rest) = names_none names.chart names.link names.among (names.called ∙ e) names.says

none_recurs : (q : Place) → Recurs both q → ⊥
none_recurs q (inl h) = h
none_recurs q (inr (inl (inl p))) = leads_none (codes "A") (codes "Z") refl refl p.1
none_recurs q (inr (inl (inr h))) = h
none_recurs q (inr (inr h)) = h

pub all_covered : CoversAll
all_covered q = (none_uncovered q, none_missing q, none_recurs q)

abbrev alone : List Summary
alone = self_caller ∷ []

own_of_self : (c : Summary) (i : List ℕ) → IsAmong alone c → IsOwn c i → (i ≡ codes "i") ⊎ (i ≡ codes "j")
own_of_self c i (inl e) o = elim (subst (λ (s : Summary). IsAmong s.instances i) e o.0) [ inl a ↦ inl a | inr r ↦ elim r [ inl b ↦ inr b | inr n ↦ absurd n ] ]
own_of_self c i (inr n) o = absurd n

self_expanded : (n i : List ℕ) → IsExpanded alone n i → (i ≡ codes "i") ⊎ (i ≡ codes "j")
self_expanded n i (own chart among called o) = own_of_self chart i among o
self_expanded n i (of_named {next = m} names rest) = self_expanded m i rest

pub itself_named : NamesItself
itself_named = (inl (inl (refl, there)), λ i x. self_expanded (codes "A") i x)

-- no chart but G
not_there : IsCalled (graph_caller ∷ []) (codes "A") → ⊥
unfolding first_byte
not_there r = elim r.among [ inl e ↦ let b : 71 ≡ 65 = sym (ap (λ (s : Summary). first_byte s.name) e) ∙ ap first_byte r.called in absurd (omega (arith, b)) | inr n ↦ n ]

pub nodes_name : NodesName
nodes_name = (refl, inl (inl (refl, not_there)), inl (inr (inr (inl (refl, there)))))
