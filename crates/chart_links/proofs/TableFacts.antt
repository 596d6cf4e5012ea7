-- Numbers of names, and what tables of charts gather by them.
use Rattle.std.proofs.Common.{◌≡◌, ◌↔◌, ◌⊎◌, inl, inr, ℕ, ◌<◌, true, List, [], ◌∷◌, length, get_or, Option, Some, None, refl, ap, sym, subst, ◌∙◌}
use Rattle.std.proofs.lemmas.Bool.{true≢false}
use Rattle.std.proofs.lemmas.List.Quantifiers.{position-Some}
use Rattle.std.proofs.lemmas.Slice.Eq.{bytes_eq-Decides}
use Rattle.std.specs.List.{position}
use Rattle.std.specs.Option.{is_some}
use Rattle.std.specs.Str.{bytes_eq}
use Rattle.bit_sets.specs.Blocks.{has_bit, with_bit}
use Rattle.msc_base.proofs.NameFacts.{number_of_one, one_of_number}
use Rattle.msc_base.specs.Lists.{IsAmong}
use Rattle.msc_base.specs.NameTables.{with_name}
use Rattle.list_facts.proofs.Tables.{among_with_name}
use Rattle.chart_links.specs.Links.{Link, IsRefined, linked}
use Rattle.chart_links.specs.References.{IsCalled, IsExpanded, Leads, there, onward, own, of_named}
use Rattle.chart_links.specs.Rows.{AreGathered, IsClosure, IsPath, RowHas, at_once, by_way}
use Rattle.chart_links.specs.Summaries.{IsOwn, Summary}
use Rattle.chart_links.specs.Tables.{AreChartNames, AreEdges, AreOwnRows, AreTables, HasInstances, HaveEdge, HaveOwn, IsNumber, LinksTo, OwnAmong}
use Rattle.chart_links.proofs.RowFacts.{joined}
use Rattle.chart_links.proofs.BitFacts.{had_with, none_had}

-- ---- numbers

pub number_low : (table : List (List ℕ)) (a : List ℕ) (u : ℕ) → IsNumber table a u → u < length table
number_low table a u h = (position-Some (bytes_eq a) table u [] h).0

-- what has the same number is the same
pub same_name : (table : List (List ℕ)) (a b : List ℕ) (u : ℕ) → IsNumber table a u → IsNumber table b u → a ≡ b
same_name table a b u h k =
    let mine : a ≡ get_or table u [] = (bytes_eq-Decides a (get_or table u [])).0 (position-Some (bytes_eq a) table u [] h).1 in
    let theirs : b ≡ get_or table u [] = (bytes_eq-Decides b (get_or table u [])).0 (position-Some (bytes_eq b) table u [] k).1 in
    mine ∙ sym theirs

pub same_number : (table : List (List ℕ)) (a : List ℕ) (u v : ℕ) → IsNumber table a u → IsNumber table a v → u ≡ v
same_number table a u v h k = let e : Some u ≡ Some v = sym h ∙ k in cc

pub has_number : (table : List (List ℕ)) (a : List ℕ) → IsAmong table a → (u : ℕ) × IsNumber table a u
has_number table a h = by (position (bytes_eq a) table) refl
  where
    by : (o : Option ℕ) → position (bytes_eq a) table ≡ o → (u : ℕ) × IsNumber table a u
    by (Some u) e = (u, e)
    by None e = absurd (true≢false (sym (number_of_one table a h) ∙ ap is_some e))

pub among_numbered : (table : List (List ℕ)) (a : List ℕ) (u : ℕ) → IsNumber table a u → IsAmong table a
among_numbered table a u h = one_of_number table a (ap is_some h)

-- ---- steps of walks over links

abbrev Stepped : (Old New : ℕ → Type 0) → ℕ → Type 0
Stepped Old New n = New n ↔ Old n

-- the set has the numbers of the links so far; one link more that has a number
pub links_found : (names : List (List ℕ)) (link : Link) (links : List Link) (set new : List ℕ) (k : ℕ) (All : ℕ → Type 0) → new ≡ with_bit set k → position (bytes_eq (linked link)) names ≡ Some k
    → ((n : ℕ) → ((has_bit set n ≡ true) ⊎ LinksTo names (link ∷ links) n) ↔ All n) → (n : ℕ) → ((has_bit new n ≡ true) ⊎ LinksTo names links n) ↔ All n
links_found names link links set new k All made at h n = (
  λ s. (h n).0 (elim s [
    | inl b ↦ elim ((had_with set k n).0 (subst (λ (l : List ℕ). has_bit l n ≡ true) made b)) [ inl old ↦ inl old | inr e ↦ inr (inl (at ∙ ap Some (sym e))) ]
    | inr r ↦ inr (inr r)
  ]),
  λ a. elim ((h n).1 a) [
    | inl old ↦ inl (has (inl old))
    | inr r ↦ elim r [ inl is ↦ inl (has (inr (same_number names (linked link) n k is at))) | inr more ↦ inr more ]
  ],
)
  where
    has : (has_bit set n ≡ true) ⊎ (n ≡ k) → has_bit new n ≡ true
    has s = subst (λ (l : List ℕ). has_bit l n ≡ true) (sym made) ((had_with set k n).1 s)

-- and one that has none
pub links_missed : (names : List (List ℕ)) (link : Link) (links : List Link) (set : List ℕ) (All : ℕ → Type 0) → position (bytes_eq (linked link)) names ≡ None
    → ((n : ℕ) → ((has_bit set n ≡ true) ⊎ LinksTo names (link ∷ links) n) ↔ All n) → (n : ℕ) → ((has_bit set n ≡ true) ⊎ LinksTo names links n) ↔ All n
links_missed names link links set All at h n = (
  λ s. (h n).0 (elim s [ inl b ↦ inl b | inr r ↦ inr (inr r) ]),
  λ a. elim ((h n).1 a) [
    | inl old ↦ inl old
    | inr r ↦ elim r [ inl is ↦ let e : Some n ≡ None = sym is ∙ at in absurd (cc) | inr more ↦ inr more ]
  ],
)

-- the same of instances that no link refines
pub own_found : (known : List (List ℕ)) (links : List Link) (instance : List ℕ) (instances : List (List ℕ)) (set new : List ℕ) (k : ℕ) (All : ℕ → Type 0) → (IsRefined links instance → ⊥) → new ≡ with_bit set k → position (bytes_eq instance) known ≡ Some k
    → ((n : ℕ) → ((has_bit set n ≡ true) ⊎ OwnAmong known links (instance ∷ instances) n) ↔ All n) → (n : ℕ) → ((has_bit new n ≡ true) ⊎ OwnAmong known links instances n) ↔ All n
own_found known links instance instances set new k All plain made at h n = (
  λ s. (h n).0 (elim s [
    | inl b ↦ elim ((had_with set k n).0 (subst (λ (l : List ℕ). has_bit l n ≡ true) made b)) [ inl old ↦ inl old | inr e ↦ inr (inl (plain, at ∙ ap Some (sym e))) ]
    | inr r ↦ inr (inr r)
  ]),
  λ a. elim ((h n).1 a) [
    | inl old ↦ inl (has (inl old))
    | inr r ↦ elim r [ inl is ↦ inl (has (inr (same_number known instance n k is.1 at))) | inr more ↦ inr more ]
  ],
)
  where
    has : (has_bit set n ≡ true) ⊎ (n ≡ k) → has_bit new n ≡ true
    has s = subst (λ (l : List ℕ). has_bit l n ≡ true) (sym made) ((had_with set k n).1 s)

pub own_missed : (known : List (List ℕ)) (links : List Link) (instance : List ℕ) (instances : List (List ℕ)) (set : List ℕ) (All : ℕ → Type 0) → ((n : ℕ) → (IsRefined links instance → ⊥) → IsNumber known instance n → ⊥)
    → ((n : ℕ) → ((has_bit set n ≡ true) ⊎ OwnAmong known links (instance ∷ instances) n) ↔ All n) → (n : ℕ) → ((has_bit set n ≡ true) ⊎ OwnAmong known links instances n) ↔ All n
own_missed known links instance instances set All never h n = (
  λ s. (h n).0 (elim s [ inl b ↦ inl b | inr r ↦ inr (inr r) ]),
  λ a. elim ((h n).1 a) [
    | inl old ↦ inl old
    | inr r ↦ elim r [ inl is ↦ absurd (never n is.0 is.1) | inr more ↦ inr more ]
  ],
)

-- ---- edges and walks

links_at : (names : List (List ℕ)) (links : List Link) (v : ℕ) → LinksTo names links v → (link : Link) × IsAmong links link × IsNumber names (linked link) v
links_at names [] v h = absurd h
links_at names (l ∷ ls) v (inl is) = (l, inl refl, is)
links_at names (l ∷ ls) v (inr h) = let p = links_at names ls v h in (p.0, inr p.1, p.2)

links_to : (names : List (List ℕ)) (links : List Link) (link : Link) (v : ℕ) → IsAmong links link → IsNumber names (linked link) v → LinksTo names links v
links_to names [] link v m is = absurd m
links_to names (l ∷ ls) link v (inl e) is = inl (subst (λ (x : Link). IsNumber names (linked x) v) e is)
links_to names (l ∷ ls) link v (inr m) is = inr (links_to names ls link v m is)

-- an edge between numbers
record IsEdge (names : List (List ℕ)) (charts : List Summary) (u v : ℕ) : Type 0 where
  chart : Summary
  among : IsAmong charts chart
  from : IsNumber names chart.name u
  link : Link
  says : IsAmong chart.links link
  to : IsNumber names (linked link) v

edge_at : (names : List (List ℕ)) (charts : List Summary) (u v : ℕ) → HaveEdge names charts u v → IsEdge names charts u v
edge_at names [] u v h = absurd h
edge_at names (c ∷ cs) u v (inl p) = let l = links_at names c.links v p.1 in record { chart = c; among = inl refl; from = p.0; link = l.0; says = l.1; to = l.2 }
edge_at names (c ∷ cs) u v (inr h) = let e = edge_at names cs u v h in record { chart = e.chart; among = inr e.among; from = e.from; link = e.link; says = e.says; to = e.to }

edge_from : (names : List (List ℕ)) (charts : List Summary) (c : Summary) (u v : ℕ) → IsAmong charts c → IsNumber names c.name u → LinksTo names c.links v → HaveEdge names charts u v
edge_from names [] c u v m is h = absurd m
edge_from names (d ∷ ds) c u v (inl e) is h = inl (subst (λ (x : Summary). IsNumber names x.name u × LinksTo names x.links v) e (is, h))
edge_from names (d ∷ ds) c u v (inr m) is h = inr (edge_from names ds c u v m is h)

-- an own instance, by numbers
record IsOwnAt (names known : List (List ℕ)) (charts : List Summary) (u n : ℕ) : Type 0 where
  chart : Summary
  among : IsAmong charts chart
  from : IsNumber names chart.name u
  instance : List ℕ
  is_own : IsOwn chart instance
  to : IsNumber known instance n

own_among : (known : List (List ℕ)) (links : List Link) (instances : List (List ℕ)) (n : ℕ) → OwnAmong known links instances n → (i : List ℕ) × IsAmong instances i × (IsRefined links i → ⊥) × IsNumber known i n
own_among known links [] n h = absurd h
own_among known links (i ∷ is) n (inl p) = (i, inl refl, p.0, p.1)
own_among known links (i ∷ is) n (inr h) = let p = own_among known links is n h in (p.0, inr p.1, p.2, p.3)

own_at : (names known : List (List ℕ)) (charts : List Summary) (u n : ℕ) → HaveOwn names known charts u n → IsOwnAt names known charts u n
own_at names known [] u n h = absurd h
own_at names known (c ∷ cs) u n (inl p) = let o = own_among known c.links c.instances n p.1 in record { chart = c; among = inl refl; from = p.0; instance = o.0; is_own = (o.1, o.2); to = o.3 }
own_at names known (c ∷ cs) u n (inr h) = let o = own_at names known cs u n h in record { chart = o.chart; among = inr o.among; from = o.from; instance = o.instance; is_own = o.is_own; to = o.to }

among_own : (known : List (List ℕ)) (links : List Link) (instances : List (List ℕ)) (i : List ℕ) (n : ℕ) → IsAmong instances i → (IsRefined links i → ⊥) → IsNumber known i n → OwnAmong known links instances n
among_own known links [] i n m plain is = absurd m
among_own known links (j ∷ js) i n (inl e) plain is = inl (subst (λ (x : List ℕ). (IsRefined links x → ⊥) × IsNumber known x n) e (plain, is))
among_own known links (j ∷ js) i n (inr m) plain is = inr (among_own known links js i n m plain is)

own_from : (names known : List (List ℕ)) (charts : List Summary) (c : Summary) (i : List ℕ) (u n : ℕ) → IsAmong charts c → IsNumber names c.name u → IsOwn c i → IsNumber known i n → HaveOwn names known charts u n
own_from names known [] c i u n m is o k = absurd m
own_from names known (d ∷ ds) c i u n (inl e) is o k =
    inl (subst (λ (x : Summary). IsNumber names x.name u × OwnAmong known x.links x.instances n) e (is, among_own known c.links c.instances i n o.0 o.1 k))
own_from names known (d ∷ ds) c i u n (inr m) is o k = inr (own_from names known ds c i u n m is o k)

-- ---- expanded instances by walks

module _ (charts : List Summary) where
  -- an own instance of a chart to which the name leads
  pub record IsReached (a i : List ℕ) : Type 0 where
    pub chart : Summary
    pub among : IsAmong charts chart
    pub leads : Leads charts a chart.name
    pub is_own : IsOwn chart i

  pub expanded_reached : (a i : List ℕ) → IsExpanded charts a i → IsReached a i
  expanded_reached a i (own chart among called o) = record { chart = chart; among = among; leads = subst (λ (x : List ℕ). Leads charts x chart.name) called there; is_own = o }
  expanded_reached a i (of_named {next = b} names rest) =
      let r = expanded_reached b i rest in
      record { chart = r.chart; among = r.among; leads = onward names r.leads; is_own = r.is_own }

  pub expanded_through : (a b i : List ℕ) → Leads charts a b → IsExpanded charts b i → IsExpanded charts a i
  expanded_through a b i there x = x
  expanded_through a b i (onward {next = m} names rest) x = of_named names (expanded_through m b i rest x)

  pub reached_expanded : (a i : List ℕ) → IsReached a i → IsExpanded charts a i
  reached_expanded a i r = expanded_through a r.chart.name i r.leads (own r.chart r.among refl r.is_own)

  -- what leads to a chart is the name of a chart
  pub called_leads : (a b : List ℕ) → Leads charts a b → IsCalled charts b → IsCalled charts a
  called_leads a b there c = c
  called_leads a b (onward names rest) c = record { chart = names.chart; among = names.among; called = names.called }

  -- ---- what the rows say

  module _ (names known : List (List ℕ)) (edges reach own_sets expanded : List (List ℕ)) (names_are : AreChartNames charts names) (known_are : HasInstances charts known)
      (edges_are : AreEdges names charts edges) (closure : IsClosure edges reach) (own_are : AreOwnRows names known charts own_sets) (gathered : AreGathered reach own_sets expanded) where
    path_leads : (a b : List ℕ) (u v : ℕ) → IsPath edges u v → IsNumber names a u → IsNumber names b v → Leads charts a b
    path_leads a b u v (at_once h) from to = elim ((edges_are u v).0 h) [
      | inl p ↦ subst (Leads charts a) (same_name names a b u from (subst (λ (z : ℕ). IsNumber names b z) p.1 to)) there
      | inr e ↦
          let x = edge_at names charts u v e in
          onward (record { chart = x.chart; among = x.among; called = same_name names x.chart.name a u x.from from; link = x.link; says = x.says; is = same_name names (linked x.link) b v x.to to }) there
    ]
    path_leads a b u w (by_way {v = v} h p) from to = elim ((edges_are u v).0 h) [
      | inl q ↦ path_leads a b v w p (subst (λ (z : ℕ). IsNumber names a z) (sym q.1) from) to
      | inr e ↦
          let x = edge_at names charts u v e in
          onward (record { chart = x.chart; among = x.among; called = same_name names x.chart.name a u x.from from; link = x.link; says = x.says; is = refl }) (path_leads (linked x.link) b v w p x.to to)
    ]

    leads_path : (a b : List ℕ) (u v : ℕ) → Leads charts a b → IsNumber names a u → IsNumber names b v → IsPath edges u v
    leads_path a b u v there from to = at_once ((edges_are u v).1 (inl (number_low names a u from, same_number names a v u to from)))
    leads_path a b u v (onward {next = m} step rest) from to =
        let k = has_number names m ((names_are m).1 (called_leads m b rest ((names_are b).0 (among_numbered names b v to)))) in
        let start : IsNumber names step.chart.name u = subst (λ (x : List ℕ). IsNumber names x u) (sym step.called) from in
        let target : IsNumber names (linked step.link) k.0 = subst (λ (x : List ℕ). IsNumber names x k.0) (sym step.is) k.1 in
        by_way ((edges_are u k.0).1 (inr (edge_from names charts step.chart u k.0 step.among start (links_to names step.chart.links step.link k.0 step.says target)))) (leads_path m b k.0 v rest k.1 to)

    leads_is : (a b : List ℕ) (u v : ℕ) → IsNumber names a u → IsNumber names b v → RowHas reach u v ↔ Leads charts a b
    leads_is a b u v from to = (λ h. path_leads a b u v ((closure.has u v).0 h) from to, λ l. (closure.has u v).1 (leads_path a b u v l from to))

    expands_to : (a i : List ℕ) (u n : ℕ) → IsNumber names a u → IsNumber known i n → RowHas expanded u n → IsExpanded charts a i
    expands_to a i u n from to h =
        let g = (gathered.has u n).0 h in
        let o = own_at names known charts g.middle n ((own_are g.middle n).0 g.has) in
        let same : o.instance ≡ i = same_name known o.instance i n o.to to in
        reached_expanded a i (record { chart = o.chart; among = o.among; leads = (leads_is a o.chart.name u g.middle from o.from).0 g.leads; is_own = subst (IsOwn o.chart) same o.is_own })

    expands_from : (a i : List ℕ) (u n : ℕ) → IsNumber names a u → IsNumber known i n → IsExpanded charts a i → RowHas expanded u n
    expands_from a i u n from to x =
        let r = expanded_reached a i x in
        let m = has_number names r.chart.name ((names_are r.chart.name).1 (record { chart = r.chart; among = r.among; called = refl })) in
        let leads : RowHas reach u m.0 = (leads_is a r.chart.name u m.0 from m.1).1 r.leads in
        let has : RowHas own_sets m.0 n = (own_are m.0 n).1 (own_from names known charts r.chart i m.0 n r.among m.1 r.is_own to) in
        (gathered.has u n).1 (record { middle = m.0; leads = leads; has = has })

    pub tables_are : length reach ≡ length names → AreTables charts names known reach expanded
    tables_are len = record {
      names_are = names_are;
      known_are = known_are;
      leads = leads_is;
      expands = λ a i u n from to. (expands_to a i u n from to, expands_from a i u n from to);
      numbered = λ u n h. let g = (gathered.has u n).0 h in let o = own_at names known charts g.middle n ((own_are g.middle n).0 g.has) in (o.instance, o.to);
      through = λ u v w a b. (closure.has u w).1 (joined ((closure.has u v).0 a) ((closure.has v w).0 b));
      reach_len = len;
      expanded_len = gathered.len ∙ len;
    }

-- ---- more steps of walks

pub nothing_yet : (set : List ℕ) → set ≡ [] → (All : ℕ → Type 0) → (n : ℕ) → ((has_bit set n ≡ true) ⊎ All n) ↔ All n
nothing_yet set e All n = (λ s. elim s [ inl h ↦ absurd (true≢false (sym h ∙ ap (λ (l : List ℕ). has_bit l n) e ∙ none_had n)) | inr a ↦ a ], λ a. inr a)

pub nothing_left : (set : List ℕ) (Rest All : ℕ → Type 0) → ((n : ℕ) → Rest n → ⊥) → ((n : ℕ) → ((has_bit set n ≡ true) ⊎ Rest n) ↔ All n) → (n : ℕ) → (has_bit set n ≡ true) ↔ All n
nothing_left set Rest All none h n = (λ b. (h n).0 (inl b), λ a. elim ((h n).1 a) [ inl b ↦ b | inr r ↦ absurd (none n r) ])

-- a name more in a table
pub name_added : (table new : List (List ℕ)) (name : List ℕ) (Here Rest All : List ℕ → Type 0) → new ≡ with_name table name → ((n : List ℕ) → Here n → n ≡ name) → ((n : List ℕ) → n ≡ name → Here n)
    → ((n : List ℕ) → (IsAmong table n ⊎ (Here n ⊎ Rest n)) ↔ All n) → (n : List ℕ) → (IsAmong new n ⊎ Rest n) ↔ All n
name_added table new name Here Rest All made to from h n = (
  λ s. (h n).0 (elim s [
    | inl a ↦ elim ((among_with_name table name n).0 (subst (λ (l : List (List ℕ)). IsAmong l n) made a)) [ inl e ↦ inr (inl (from n e)) | inr old ↦ inl old ]
    | inr r ↦ inr (inr r)
  ]),
  λ a. elim ((h n).1 a) [
    | inl old ↦ inl (has (inr old))
    | inr s ↦ elim s [ inl here ↦ inl (has (inl (to n here))) | inr r ↦ inr r ]
  ],
)
  where
    has : (n ≡ name) ⊎ IsAmong table n → IsAmong new n
    has s = subst (λ (l : List (List ℕ)). IsAmong l n) (sym made) ((among_with_name table name n).1 s)

called_more : (c : Summary) (cs : List Summary) (n : List ℕ) → IsCalled (c ∷ cs) n ↔ ((c.name ≡ n) ⊎ IsCalled cs n)
called_more c cs n = (
  λ h. by h.chart h.among h.called,
  λ s. elim s [ inl e ↦ record { chart = c; among = inl refl; called = e } | inr h ↦ record { chart = h.chart; among = inr h.among; called = h.called } ],
)
  where
    by : (d : Summary) → IsAmong (c ∷ cs) d → d.name ≡ n → (c.name ≡ n) ⊎ IsCalled cs n
    by d (inl e) is = inl (subst (λ (x : Summary). x.name ≡ n) e is)
    by d (inr m) is = inr (record { chart = d; among = m; called = is })

pub chart_added : (table new : List (List ℕ)) (c : Summary) (cs : List Summary) (All : List ℕ → Type 0) → new ≡ with_name table c.name → ((n : List ℕ) → (IsAmong table n ⊎ IsCalled (c ∷ cs) n) ↔ All n)
    → (n : List ℕ) → (IsAmong new n ⊎ IsCalled cs n) ↔ All n
chart_added table new c cs All made h =
    name_added table new c.name (λ n. c.name ≡ n) (IsCalled cs) All made (λ n e. sym e) (λ n e. sym e) (λ n. (
      λ s. (h n).0 (elim s [ inl a ↦ inl a | inr t ↦ inr ((called_more c cs n).1 t) ]),
      λ a. elim ((h n).1 a) [ inl old ↦ inl old | inr t ↦ inr ((called_more c cs n).0 t) ],
    ))

-- what has an expanded instance has a number, and so has the instance
pub expanded_numbered : (charts : List Summary) (names known reach expanded : List (List ℕ)) → AreTables charts names known reach expanded → (a i : List ℕ) → IsExpanded charts a i
    → ((u : ℕ) × IsNumber names a u) × ((n : ℕ) × IsNumber known i n)
expanded_numbered charts names known reach expanded t a i x =
    let r = expanded_reached charts a i x in
    let called : IsCalled charts a = called_leads charts a r.chart.name r.leads (record { chart = r.chart; among = r.among; called = refl }) in
    (has_number names a ((t.names_are a).1 called), has_number known i (t.known_are r.chart i r.among r.is_own.0))

pub not_numbered : (table : List (List ℕ)) (a : List ℕ) → position (bytes_eq a) table ≡ None → (u : ℕ) → IsNumber table a u → ⊥
not_numbered table a none u is = let e : Some u ≡ None = sym is ∙ none in absurd (cc)
