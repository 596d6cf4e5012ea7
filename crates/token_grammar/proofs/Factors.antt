-- A word that begins one of the items and the end as well, read first: { O | W X } W Y is { O } W { X { O } W } Y.
use Rattle.std.proofs.Common.{ℕ, ◌≡◌, ◌∙◌, ◌++◌, true, List, [], ◌∷◌, refl, sym, ap, ap₂, inl, inr, append_assoc, append-nil, subst, map}
use Rattle.msc_tokens.specs.declared.token.Token.{Token}
use Rattle.token_grammar.specs.Languages.{Set, among, Read}
use Rattle.token_grammar.specs.Languages as rules
use Rattle.token_grammar.specs.Grammars.{Grammar, word, seq, or, read_as, until}
use Rattle.token_grammar.specs.Factored.{Item, Row, items, unrow}
use Rattle.token_grammar.proofs.Rules.{Rule, Law, same_law, same_rule}

module _ {A B D : Type 0} (w : Set) (O : Grammar A) (X : Grammar B) (Y : Grammar D) where
  abbrev pub item : Grammar (Item A B)
  item = or (read_as inl O) (read_as inr (seq (word w) X))

  abbrev pub flat : Grammar (List (Item A B) × (Token × D))
  flat = until item (seq (word w) Y)

  abbrev pub part : Grammar (List A × Token)
  part = until O (word w)

  abbrev pub row : Grammar (Row A B)
  row = seq X part

  abbrev pub rows : Grammar ((List A × Token) × (List (Row A B) × D))
  rows = seq part (until row Y)

  -- ---- readings

  items-cons : (o : A) (z : List A × Token) (l : List (Row A B)) → items (o ∷ z.0, z.1) l ≡ (inl o ∷ (items z l).0, (items z l).1)
  items-cons o (os, t) [] = refl
  items-cons o (os, t) ((b, z) ∷ l) = refl

  record Closed (x : List Token) (l : List (Item A B)) (t : Token) : Type 0 where
    first : List A × Token
    more : List (Row A B)
    u : List Token
    r : List Token
    cut : x ++ t ∷ [] ≡ u ++ r
    begun : part.reads u first
    goes : rules.each row.reads r more
    value : items first more ≡ (l, t)

  closed_of : (l : List (Item A B)) (x : List Token) → rules.each item.reads x l → (t : Token) → among w t ≡ true → Closed x l t
  closed_of [] x h t a = record {
    first = ([], t);
    more = [];
    u = t ∷ [];
    r = [];
    cut = ap (λ k. k ++ t ∷ []) h;
    begun = ([], t ∷ [], refl, refl, (refl, a));
    goes = refl;
    value = refl;
  }
  closed_of (i ∷ l) x (y, z, cut, h, k) t a =
      let c = closed_of l z k t a in
      step i h c
    where
      line : (u r : List Token) → z ++ t ∷ [] ≡ u ++ r → x ++ t ∷ [] ≡ (y ++ u) ++ r
      line u r e = ap (λ l. l ++ t ∷ []) cut ∙ append_assoc y z (t ∷ []) ∙ ap (λ l. y ++ l) e ∙ sym (append_assoc y u r)

      step : (i : Item A B) → item.reads y i → Closed z l t → Closed x (i ∷ l) t
      step i (inl h) c =
          let b = c.begun in
          record {
            first = (h.0 ∷ c.first.0, c.first.1);
            more = c.more;
            u = y ++ c.u;
            r = c.r;
            cut = line c.u c.r c.cut;
            begun = (y ++ b.0, b.1, ap (λ l. y ++ l) b.2 ∙ sym (append_assoc y b.0 b.1), (y, b.0, refl, h.1, b.3), b.4);
            goes = c.goes;
            value = items-cons h.0 c.first c.more ∙ ap (λ p. (inl h.0 ∷ p.0, p.1)) c.value ∙ ap (λ j. (j ∷ l, t)) (sym h.2);
          }
      step i (inr h) c =
          let s = h.1 in
          let e : y ≡ h.0.0 ∷ s.1 = s.2 ∙ ap (λ l. l ++ s.1) s.3.0 in
          record {
            first = ([], h.0.0);
            more = (h.0.1, c.first) ∷ c.more;
            u = h.0.0 ∷ [];
            r = (s.1 ++ c.u) ++ c.r;
            cut = line c.u c.r c.cut ∙ ap (λ l. (l ++ c.u) ++ c.r) e;
            begun = ([], h.0.0 ∷ [], refl, refl, (refl, s.3.1));
            goes = (s.1 ++ c.u, c.r, refl, (s.1, c.u, refl, s.4, c.begun), c.goes);
            value = ap (λ p. (inr (h.0.0, h.0.1) ∷ p.0, p.1)) c.value ∙ ap (λ j. (j ∷ l, t)) (sym h.2);
          }

  each_append : {E : Type 0} (R : List Token → E → Type 0) (a b : List E) (x y : List Token) → rules.each R x a → rules.each R y b → rules.each R (x ++ y) (a ++ b)
  each_append R [] b x y h k = subst (λ l. rules.each R (l ++ y) b) (sym h) k
  each_append R (e ∷ a) b x y h k = (h.0, h.1 ++ y, ap (λ l. l ++ y) h.2 ∙ append_assoc h.0 h.1 y, h.3, each_append R a b h.1 y h.4 k)

  as_items : (os : List A) (x : List Token) → rules.each O.reads x os → rules.each item.reads x (map inl os)
  as_items [] x h = h
  as_items (o ∷ os) x h = (h.0, h.1, h.2, inl (o, h.3, refl), as_items os h.1 h.4)

  record Items (x : List Token) (l : List (Item A B)) (t : Token) : Type 0 where
    prefix : List Token
    cut : x ≡ prefix ++ t ∷ []
    each : rules.each item.reads prefix l
    is : among w t ≡ true

  items_of : (more : List (Row A B)) (first : List A × Token) (u r : List Token) → part.reads u first → rules.each row.reads r more
      → Items (u ++ r) (items first more).0 (items first more).1
  items_of [] (os, t) u r h k = record {
    prefix = h.0;
    cut = ap (λ l. u ++ l) k ∙ append-nil u ∙ h.2 ∙ ap (λ l. h.0 ++ l) h.4.0;
    each = as_items os h.0 h.3;
    is = h.4.1;
  }
  items_of ((b, z) ∷ more) (os, t) u r h (y, s, cut, (x, v, e, hx, hv), k) =
      let i = items_of more z v s hv k in
      record {
        prefix = h.0 ++ t ∷ (x ++ i.prefix);
        cut = line h.0 h.1 i.prefix (items z more).1 h.2 h.4.0 i.cut;
        each = each_append item.reads (map inl os) (inr (t, b) ∷ (items z more).0) h.0 (t ∷ (x ++ i.prefix)) (as_items os h.0 h.3)
            (t ∷ x, i.prefix, refl, inr ((t, b), (t ∷ [], x, refl, (refl, h.4.1), hx), refl), i.each);
        is = i.is;
      }
    where
      line : (f d g : List Token) (q : Token) → u ≡ f ++ d → d ≡ t ∷ [] → v ++ s ≡ g ++ q ∷ [] → u ++ r ≡ (f ++ t ∷ (x ++ g)) ++ q ∷ []
      line f d g q e1 e2 e3 =
          let a : u ++ r ≡ (f ++ t ∷ []) ++ ((x ++ v) ++ s) = ap₂ (λ l m. l ++ m) (e1 ∙ ap (λ l. f ++ l) e2) (cut ∙ ap (λ l. l ++ s) e) in
          let b : (x ++ v) ++ s ≡ x ++ (g ++ q ∷ []) = append_assoc x v s ∙ ap (λ l. x ++ l) e3 in
          a ∙ ap (λ l. (f ++ t ∷ []) ++ l) b ∙ append_assoc f (t ∷ []) (x ++ (g ++ q ∷ [])) ∙ ap (λ l. f ++ t ∷ l) (sym (append_assoc x g (q ∷ []))) ∙ sym (append_assoc f (t ∷ (x ++ g)) (q ∷ []))

  pub to_flat : (x : List Token) (v : List (Item A B) × (Token × D)) → (read_as unrow rows).reads x v → flat.reads x v
  to_flat x v (((os, t), (more, d)), (u, k, cut, h, (r, z, e, g, y)), q) =
      let i = items_of more (os, t) u r h g in
      subst (flat.reads x) (sym q) (
        i.prefix,
        (items (os, t) more).1 ∷ z,
        cut ∙ ap (λ l. u ++ l) e ∙ sym (append_assoc u r z) ∙ ap (λ l. l ++ z) i.cut ∙ append_assoc i.prefix ((items (os, t) more).1 ∷ []) z,
        i.each,
        ((items (os, t) more).1 ∷ [], z, refl, (refl, i.is), y),
      )

  pub from_flat : (x : List Token) (v : List (Item A B) × (Token × D)) → flat.reads x v → (read_as unrow rows).reads x v
  from_flat x (l, (t, d)) (y, z, cut, h, (s, k, e, g, m)) =
      let c = closed_of l y h t g.1 in (
        ((c.first.0, c.first.1), (c.more, d)),
        (
          c.u,
          c.r ++ k,
          cut ∙ ap (λ l. y ++ l) (e ∙ ap (λ l. l ++ k) g.0) ∙ sym (append_assoc y (t ∷ []) k) ∙ ap (λ l. l ++ k) c.cut ∙ append_assoc c.u c.r k,
          c.begun,
          (c.r, k, refl, c.goes, m),
        ),
        ap (λ p. (p.0, (p.1, d))) (sym c.value),
      )

  -- ---- openings

  cons_o : (o : A) (y p : List Token) → O.reads y o → rows.brink p → rows.brink (y ++ p)
  cons_o o y p h (inl (inl (u, z, os, cut, g, k))) = inl (inl (y ++ u, z, o ∷ os, ap (λ l. y ++ l) cut ∙ sym (append_assoc y u z), (y, u, refl, h, g), k))
  cons_o o y p h (inl (inr (u, z, os, cut, g, k))) = absurd k
  cons_o o y p h (inr (u, z, f, cut, g, k)) =
      inr (y ++ u, z, (o ∷ f.0, f.1), ap (λ l. y ++ l) cut ∙ sym (append_assoc y u z), (y ++ g.0, g.1, ap (λ l. y ++ l) g.2 ∙ sym (append_assoc y g.0 g.1), (y, g.0, refl, h, g.3), g.4), k)

  cons_x : (t : Token) (b : B) (x p : List Token) → among w t ≡ true → X.reads x b → rows.brink p → rows.brink (t ∷ (x ++ p))
  cons_x t b x p a h (inl (inl k)) = inr (t ∷ [], x ++ p, ([], t), refl, ([], t ∷ [], refl, refl, (refl, a)), inl ([], x ++ p, [], refl, refl, inr (x, p, b, refl, h, inl k)))
  cons_x t b x p a h (inl (inr (u, z, os, cut, g, k))) = absurd k
  cons_x t b x p a h (inr (u, z, f, cut, g, k)) =
      inr (
        t ∷ [],
        x ++ p,
        ([], t),
        refl,
        ([], t ∷ [], refl, refl, (refl, a)),
        subst (λ l. (until row Y).brink (x ++ l)) (sym cut) (subst (until row Y).brink (append_assoc x u z) (more k)),
      )
    where
      more : (until row Y).brink z → (until row Y).brink ((x ++ u) ++ z)
      more (inl (r, o, bs, e, m, n)) = inl ((x ++ u) ++ r, o, (b, f) ∷ bs, ap (λ l. (x ++ u) ++ l) e ∙ sym (append_assoc (x ++ u) r o), (x ++ u, r, refl, (x, u, refl, h, g), m), n)
      more (inr (r, o, bs, e, m, n)) = inr ((x ++ u) ++ r, o, (b, f) ∷ bs, ap (λ l. (x ++ u) ++ l) e ∙ sym (append_assoc (x ++ u) r o), (x ++ u, r, refl, (x, u, refl, h, g), m), n)

  behind_items : (l : List (Item A B)) (y z : List Token) → rules.each item.reads y l → rows.brink z → rows.brink (y ++ z)
  behind_items [] y z h k = subst (λ l. rows.brink (l ++ z)) (sym h) k
  behind_items (i ∷ l) y z (u, v, cut, h, m) k =
      let r = behind_items l v z m k in
      subst rows.brink (sym (ap (λ l. l ++ z) cut ∙ append_assoc u v z)) (step i h r)
    where
      step : (i : Item A B) → item.reads u i → rows.brink (v ++ z) → rows.brink (u ++ (v ++ z))
      step i (inl g) r = cons_o g.0 u (v ++ z) g.1 r
      step i (inr g) r =
          let s = g.1 in
          subst (λ l. rows.brink (l ++ (v ++ z))) (sym (s.2 ∙ ap (λ l. l ++ s.1) s.3.0)) (cons_x g.0.0 g.0.1 s.1 (v ++ z) s.3.1 s.4 r)

  pub from_flat_brink : (p : List Token) → flat.brink p → rows.brink p
  from_flat_brink p (inl (y, z, l, cut, h, inl k)) = subst rows.brink (sym cut) (behind_items l y z h (inl (inl ([], z, [], refl, refl, k))))
  from_flat_brink p (inl (y, z, l, cut, h, inr (inl k))) = absurd k
  from_flat_brink p (inl (y, z, l, cut, h, inr (inr (u, v, t, e, g, k)))) =
      subst rows.brink (sym cut) (behind_items l y z h
      (inr (u, v, ([], t), e, ([], u, refl, refl, g), inl ([], v, [], refl, refl, inl k))))
  from_flat_brink p (inr (y, z, l, cut, h, inl k)) = absurd k
  from_flat_brink p (inr (y, z, l, cut, h, inr (u, v, t, e, g, k))) =
      subst rows.brink (sym cut) (behind_items l y z h (inr (u, v, ([], t), e, ([], u, refl, refl, g), inr ([], v, [], refl, refl, k))))

  pub to_flat_brink : (p : List Token) → rows.brink p → flat.brink p
  to_flat_brink p (inl (inl (y, z, os, cut, h, k))) = inl (y, z, map inl os, cut, as_items os y h, inl k)
  to_flat_brink p (inl (inr (y, z, os, cut, h, k))) = absurd k
  to_flat_brink p (inr (u, q, (os, t), cut, h, inl (r, z, more, e, g, inl k))) =
      let i = items_of more (os, t) u r h g in
      let s = (items (os, t) more).1 in
      inl (i.prefix, s ∷ z, (items (os, t) more).0, line i.prefix s cut e i.cut, i.each, inr (inr (s ∷ [], z, s, refl, (refl, i.is), k)))
    where
      line : (f : List Token) (s : Token) → p ≡ u ++ q → q ≡ r ++ z → u ++ r ≡ f ++ s ∷ [] → p ≡ f ++ s ∷ z
      line f s a b c = a ∙ ap (λ l. u ++ l) b ∙ sym (append_assoc u r z) ∙ ap (λ l. l ++ z) c ∙ append_assoc f (s ∷ []) z
  to_flat_brink p (inr (u, q, (os, t), cut, h, inl (r, z, more, e, g, inr (x, v, b, d, hx, inl (y, o, ns, c, m, k))))) =
      let i = items_of more (os, t) u r h g in
      let s = (items (os, t) more).1 in
      inl (
        i.prefix ++ s ∷ (x ++ y),
        o,
        (items (os, t) more).0 ++ inr (s, b) ∷ map inl ns,
        line i.prefix s i.cut,
        each_append item.reads (items (os, t) more).0 (inr (s, b) ∷ map inl ns) i.prefix (s ∷ (x ++ y)) i.each
            (s ∷ x, y, refl, inr ((s, b), (s ∷ [], x, refl, (refl, i.is), hx), refl), as_items ns y m),
        inl k,
      )
    where
      line : (f : List Token) (s : Token) → u ++ r ≡ f ++ s ∷ [] → p ≡ (f ++ s ∷ (x ++ y)) ++ o
      line f s a =
          cut ∙ ap (λ l. u ++ l) (e ∙ ap (λ l. r ++ l) (d ∙ ap (λ l. x ++ l) c)) ∙ sym (append_assoc u r (x ++ (y ++ o))) ∙ ap (λ l. l ++ (x ++ (y ++ o))) a
          ∙ append_assoc f (s ∷ []) (x ++ (y ++ o)) ∙ ap (λ l. f ++ s ∷ l) (sym (append_assoc x y o)) ∙ sym (append_assoc f (s ∷ (x ++ y)) o)
  to_flat_brink p (inr (u, q, (os, t), cut, h, inl (r, z, more, e, g, inr (x, v, b, d, hx, inr (y, o, ns, c, m, k))))) = absurd k
  to_flat_brink p (inr (u, q, (os, t), cut, h, inr (r, z, more, e, g, k))) =
      let i = items_of more (os, t) u r h g in
      let s = (items (os, t) more).1 in
      inr (i.prefix, s ∷ z, (items (os, t) more).0, line i.prefix s cut e i.cut, i.each, inr (s ∷ [], z, s, refl, (refl, i.is), k))
    where
      line : (f : List Token) (s : Token) → p ≡ u ++ q → q ≡ r ++ z → u ++ r ≡ f ++ s ∷ [] → p ≡ f ++ s ∷ z
      line f s a b c = a ∙ ap (λ l. u ++ l) b ∙ sym (append_assoc u r z) ∙ ap (λ l. l ++ z) c ∙ append_assoc f (s ∷ []) z

-- a rule of the rows is one of the items
module _ {A B D : Type 0} (w : Set) (O : ℕ → Grammar A) (X : ℕ → Grammar B) (Y : ℕ → Grammar D) {F : Set} {C : List (Item A B) × (Token × D) → Set} {n : ℕ} where
  pub flat_law : Law (λ m. read_as unrow (rows w (O m) (X m) (Y m))) n F C → Law (λ m. flat w (O m) (X m) (Y m)) n F C
  flat_law r = same_law (λ m. read_as unrow (rows w (O m) (X m) (Y m))) (λ m. flat w (O m) (X m) (Y m)) F C n
      (λ m x v h. to_flat w (O m) (X m) (Y m) x v h) (λ m x v h. from_flat w (O m) (X m) (Y m) x v h) r

  pub flat_rule : {p : List Token → Read (List (Item A B) × (Token × D))} → Rule (λ m. read_as unrow (rows w (O m) (X m) (Y m))) n F C p → Rule (λ m. flat w (O m) (X m) (Y m)) n F C p
  flat_rule r = same_rule (λ m. read_as unrow (rows w (O m) (X m) (Y m))) (λ m. flat w (O m) (X m) (Y m)) F C n
      (λ m x v h. to_flat w (O m) (X m) (Y m) x v h) (λ m x v h. from_flat w (O m) (X m) (Y m) x v h)
      (λ p h. to_flat_brink w (O n) (X n) (Y n) p h) (λ p h. from_flat_brink w (O n) (X n) (Y n) p h) r

-- the same items under other values
module _ {A B D : Type 0} (g : A → B) (R : ℕ → Grammar B) (J : ℕ → Grammar A) (S : ℕ → Grammar D)
    (to : (m : ℕ) (x : List Token) (a : A) → (J m).reads x a → (R m).reads x (g a)) (from : (m : ℕ) (x : List Token) (b : B) → (R m).reads x b → (read_as g (J m)).reads x b) where
  abbrev pub through : List A × D → List B × D
  through p = (map g p.0, p.1)

  abbrev pub Mapped : ℕ → Grammar (List B × D)
  Mapped m = read_as through (until (J m) (S m))

  abbrev pub Whole : ℕ → Grammar (List B × D)
  Whole m = until (R m) (S m)

  each_to : (m : ℕ) (l : List A) (x : List Token) → rules.each (J m).reads x l → rules.each (R m).reads x (map g l)
  each_to m [] x h = h
  each_to m (a ∷ l) x h = (h.0, h.1, h.2, to m h.0 a h.3, each_to m l h.1 h.4)

  each_from : (m : ℕ) (l : List B) (x : List Token) → rules.each (R m).reads x l → (k : List A) × rules.each (J m).reads x k × (l ≡ map g k)
  each_from m [] x h = ([], h, refl)
  each_from m (b ∷ l) x h =
      let f = from m h.0 b h.3 in
      let r = each_from m l h.1 h.4 in
      (f.0 ∷ r.0, (h.0, h.1, h.2, f.1, r.1), ap₂ (λ c k. c ∷ k) f.2 r.2)

  whole_to : (m : ℕ) (x : List Token) (v : List B × D) → (Mapped m).reads x v → (Whole m).reads x v
  whole_to m x v (p, (y, z, cut, h, k), e) = subst ((Whole m).reads x) (sym e) (y, z, cut, each_to m p.0 y h, k)

  whole_from : (m : ℕ) (x : List Token) (v : List B × D) → (Whole m).reads x v → (Mapped m).reads x v
  whole_from m x (l, d) (y, z, cut, h, k) = let r = each_from m l y h in ((r.0, d), (y, z, cut, r.1, k), ap (λ c. (c, d)) r.2)

  pub through_law : {F : Set} {C : List B × D → Set} {n : ℕ} → Law Mapped n F C → Law Whole n F C
  through_law {F = F} {C = C} {n = n} r = same_law Mapped Whole F C n whole_to whole_from r

  pub through_rule : {F : Set} {C : List B × D → Set} {n : ℕ} {p : List Token → Read (List B × D)} → ((q : List Token) → (J n).brink q → (R n).brink q) → ((q : List Token) → (R n).brink q → (J n).brink q)
      → Rule Mapped n F C p → Rule Whole n F C p
  through_rule {F = F} {C = C} {n = n} to_brink from_brink r = same_rule Mapped Whole F C n whole_to whole_from brink_to brink_from r
    where
      brink_to : (q : List Token) → (Mapped n).brink q → (Whole n).brink q
      brink_to q (inl (y, z, l, cut, h, k)) = inl (y, z, map g l, cut, each_to n l y h, to_brink z k)
      brink_to q (inr (y, z, l, cut, h, k)) = inr (y, z, map g l, cut, each_to n l y h, k)

      brink_from : (q : List Token) → (Whole n).brink q → (Mapped n).brink q
      brink_from q (inl (y, z, l, cut, h, k)) = let r = each_from n l y h in inl (y, z, r.0, cut, r.1, from_brink z k)
      brink_from q (inr (y, z, l, cut, h, k)) = let r = each_from n l y h in inr (y, z, r.0, cut, r.1, k)
