-- Parts and their numbers.
use Rattle.std.specs.Prelude.{ℕ, zero, suc, ◌+◌, ◌-◌, ◌<◌, ◌≤◌, ◌≡◌, ◌⊎◌, List, [], ◌∷◌, ◌++◌, Option, Some, None, refl, length, slice_get, take, Result, Ok, Err, OnOk}
use Rattle.std.proofs.Common.{ap, sym, subst, ◌∙◌, arith, inl, inr, length-append, append_assoc}
use Rattle.std.proofs.lemmas.Option.{slice_get_within}
use Rattle.list_facts.proofs.Reading.{get_left, some_at, take_step}
use Rattle.chart_term.specs.Properties.{IsBelow, EveryOf}
use Rattle.chart_term.specs.Tables.{Tables, net_count, net_of, node_of}
use Rattle.hmsc_graph.specs.Nets.{size_of}
use Rattle.chart_term.specs.Terms.{Tree, Nil, Event, Join, Choice, Tied, Loop, Walk, Trees, none, more, items, trees}
use Rattle.chart_term.proofs.Lists.{items-trees}
use Rattle.msc_base.specs.Patterns.{seq, par}
use Rattle.term_laws.proofs.TidyTables.{higher}
use Rattle.certificates.specs.CertificateLaws.{IsUnbegun, AreUnbegun}
use Rattle.empty_terms.specs.ChartTerms.{IsChartTerm}
use Rattle.empty_terms.specs.Outlines.{parts_in, IsAt, AreFrom, ArePartsKnown, AreAllUnbegun, AreBelowFrom, IsNetAt, IsOutlined, Grows, HasNodes}
use Rattle.empty_terms.specs.declared.outline.Outline.{Outline}

module _ {A : Type 0} where
  -- what stands in the second of two lists
  pub get_right : (xs ys : List A) (j : ℕ) → slice_get (xs ++ ys) (length xs + j) ≡ slice_get ys j
  get_right [] ys j = ap (slice_get ys) (omega arith)
  get_right (x ∷ xs) ys j = ap (slice_get (x ∷ (xs ++ ys))) (let e : length (x ∷ xs) + j ≡ suc (length xs + j) = omega arith in e) ∙ get_right xs ys j

  -- it stands in one of them
  pub get_either : (xs ys : List A) (k : ℕ) (x : A) → slice_get (xs ++ ys) k ≡ Some x → (slice_get xs k ≡ Some x) ⊎ ((length xs ≤ k) × ((j : ℕ) × (k ≡ length xs + j) × (slice_get ys j ≡ Some x)))
  get_either [] ys k x h = inr (omega arith, (k, omega arith, h))
  get_either (y ∷ xs) ys zero x h = inl h
  get_either (y ∷ xs) ys (suc k) x h = on (get_either xs ys k x h)
    where
      on : (slice_get xs k ≡ Some x) ⊎ ((length xs ≤ k) × ((j : ℕ) × (k ≡ length xs + j) × (slice_get ys j ≡ Some x))) → (slice_get xs k ≡ Some x) ⊎ ((length (y ∷ xs) ≤ suc k) × ((j : ℕ) × (suc k ≡ length (y ∷ xs) + j) × (slice_get ys j ≡ Some x)))
      on (inl g) = inl g
      on (inr g) = inr (let l = g.0 in omega arith, (g.1.0, let e = g.1.1 in omega arith, g.1.2))

-- the parts of a term have what it has
each_unbegun : (xs : Trees) → AreUnbegun xs → (j : ℕ) (x : Tree) → slice_get (items xs) j ≡ Some x → IsUnbegun x
each_unbegun none h j x g = cc
each_unbegun (more y xs) h zero x g = let same : y ≡ x = cc in subst IsUnbegun same h.0
each_unbegun (more y xs) h (suc j) x g = each_unbegun xs h.1 j x g

the_one : (P : Tree → Type 0) (y : Tree) → P y → (j : ℕ) (x : Tree) → slice_get (y ∷ []) j ≡ Some x → P x
the_one P y h zero x g = let same : y ≡ x = cc in subst P same h
the_one P y h (suc j) x g = cc

pub parts_unbegun : (y : Tree) → IsUnbegun y → (j : ℕ) (x : Tree) → slice_get (parts_in y) j ≡ Some x → IsUnbegun x
parts_unbegun Nil h j x g = cc
parts_unbegun (Event e) h j x g = cc
parts_unbegun (Join m xs) h j x g = each_unbegun xs h j x g
parts_unbegun (Choice xs) h j x g = each_unbegun xs h j x g
parts_unbegun (Tied y q) h j x g = the_one IsUnbegun y h j x g
parts_unbegun (Loop y lo hi r) h j x g = the_one IsUnbegun y h.0 j x g
parts_unbegun (Walk n f t c) h j x g = cc

each_below : (n : ℕ) (xs : Trees) → EveryOf (λ e. Unit {0}) (λ m. m < n) xs → (j : ℕ) (x : Tree) → slice_get (items xs) j ≡ Some x → IsBelow n x
each_below n none h j x g = cc
each_below n (more y xs) h zero x g = let same : y ≡ x = cc in subst (IsBelow n) same h.0
each_below n (more y xs) h (suc j) x g = each_below n xs h.1 j x g

pub parts_below : (n : ℕ) (y : Tree) → IsBelow n y → (j : ℕ) (x : Tree) → slice_get (parts_in y) j ≡ Some x → IsBelow n x
parts_below n Nil h j x g = cc
parts_below n (Event e) h j x g = cc
parts_below n (Join m xs) h j x g = each_below n xs h j x g
parts_below n (Choice xs) h j x g = each_below n xs h j x g
parts_below n (Tied y q) h j x g = the_one (IsBelow n) y h j x g
parts_below n (Loop y lo hi r) h j x g = the_one (IsBelow n) y h.0 j x g
parts_below n (Walk m f t c) h j x g = cc

-- ---- one term is looked into

pub grows_self : (r : ℕ) (ts : List Tree) → Grows r ts ts
grows_self r ts = record { longer = omega arith; kept = λ k x h. h; unbegun = λ h. h; below = λ n s l h. h }

pub grows_on : (r s : ℕ) (a b c : List Tree) → r ≤ s → Grows r a b → Grows s b c → Grows r a c
grows_on r s a b c l g h = record {
  longer = omega (arith, g.longer, h.longer);
  kept = λ k x i. h.kept k x (g.kept k x i);
  unbegun = λ i. h.unbegun (g.unbegun i);
  below = λ n q m i. h.below n q (omega arith) (g.below n q m i);
}

pub parts_added : (ts : List Tree) (k : ℕ) (x : Tree) → IsAt ts k x → Grows k ts (ts ++ parts_in x)
parts_added ts k x at = record {
  longer = omega (arith, length-append ts (parts_in x));
  kept = λ i y h. get_left ts (parts_in x) i y h;
  unbegun = λ h i y g. either_unbegun h i y (get_either ts (parts_in x) i y g);
  below = λ n s l h i y m g. either_below n s l h i y m (get_either ts (parts_in x) i y g);
}
  where
    either_unbegun : AreAllUnbegun ts → (i : ℕ) (y : Tree) → (slice_get ts i ≡ Some y) ⊎ ((length ts ≤ i) × ((j : ℕ) × (i ≡ length ts + j) × (slice_get (parts_in x) j ≡ Some y))) → IsUnbegun y
    either_unbegun h i y (inl g) = h i y g
    either_unbegun h i y (inr g) = parts_unbegun x (h k x at) g.1.0 y g.1.2

    either_below : (n s : ℕ) → s ≤ k → AreBelowFrom n s ts → (i : ℕ) (y : Tree) → s ≤ i → (slice_get ts i ≡ Some y) ⊎ ((length ts ≤ i) × ((j : ℕ) × (i ≡ length ts + j) × (slice_get (parts_in x) j ≡ Some y))) → IsBelow n y
    either_below n s l h i y m (inl g) = h i y m g
    either_below n s l h i y m (inr g) = parts_below n x (h k x l at) g.1.0 y g.1.2

pub parts_known : (ts : List Tree) (fs : List ℕ) (x : Tree) → IsAt ts (length fs) x → ArePartsKnown ts fs → ArePartsKnown (ts ++ parts_in x) (fs ++ length ts ∷ [])
parts_known ts fs x at h k f y g i = either (get_either fs (length ts ∷ []) k f g) (get_either ts (parts_in x) k y i)
  where
    last : (j : ℕ) → slice_get (length ts ∷ []) j ≡ Some f → (j ≡ 0) × (f ≡ length ts)
    last zero e = (refl, cc)
    last (suc j) e = cc

    there : (z : Tree) → AreFrom (ts ++ parts_in z) (length ts) (parts_in z)
    there z j u e = get_right ts (parts_in z) j ∙ e

    moved : AreFrom ts f (parts_in y) → AreFrom (ts ++ parts_in x) f (parts_in y)
    moved a j u e = get_left ts (parts_in x) (f + j) u (a j u e)

    either : (slice_get fs k ≡ Some f) ⊎ ((length fs ≤ k) × ((j : ℕ) × (k ≡ length fs + j) × (slice_get (length ts ∷ []) j ≡ Some f)))
        → (slice_get ts k ≡ Some y) ⊎ ((length ts ≤ k) × ((j : ℕ) × (k ≡ length ts + j) × (slice_get (parts_in x) j ≡ Some y)))
        → (k < f) × AreFrom (ts ++ parts_in x) f (parts_in y)
    either (inl a) (inl b) = let r = h k f y a b in (r.0, moved r.1)
    either (inl a) (inr b) = absurd (let l = slice_get_within fs k f a in let m = slice_get_within ts (length fs) x at in let n = b.0 in omega arith)
    either (inr a) (inr b) = absurd (let e = last a.1.0 a.1.2 in let p = e.0 in let q = a.1.1 in let m = slice_get_within ts (length fs) x at in let n = b.0 in omega arith)
    either (inr a) (inl b) =
        let e = last a.1.0 a.1.2 in
        let p = e.0 in
        let q = a.1.1 in
        let here : k ≡ length fs = omega arith in
        let same : Some x ≡ Some y = sym at ∙ (ap (slice_get ts) (sym here) ∙ b) in
        let one : x ≡ y = cc in
        let m = slice_get_within ts (length fs) x at in
        let r = e.1 in
        (omega arith, subst (λ (n : ℕ). AreFrom (ts ++ parts_in x) n (parts_in y)) (sym e.1) (subst (λ (z : Tree). AreFrom (ts ++ parts_in x) (length ts) (parts_in z)) one (there x)))

-- ---- whole outlines

-- the terms of the first nodes were added
pub record HasSomeNodes (w : Tables) (n c : ℕ) (old new : List Tree) : Type 0 where
  pub count : length new ≡ length old + c
  pub kept : (k : ℕ) (x : Tree) → IsAt old k x → IsAt new k x
  pub nodes : (m : ℕ) → m < c → IsAt new (length old + m) (node_of w n m)
  pub only : (k : ℕ) (x : Tree) → IsAt new k x → IsAt old k x ⊎ ((length old ≤ k) × ((m : ℕ) × (x ≡ node_of w n m)))

pub no_nodes : (w : Tables) (n : ℕ) (ts : List Tree) → HasSomeNodes w n 0 ts ts
no_nodes w n ts = record { count = omega arith; kept = λ k x h. h; nodes = λ m l. absurd (omega arith); only = λ k x h. inl h }

pub one_node : (w : Tables) (n c : ℕ) (old mid new : List Tree) (x : Tree) → x ≡ node_of w n c → new ≡ mid ++ x ∷ [] → HasSomeNodes w n c old mid → HasSomeNodes w n (c + 1) old new
one_node w n c old mid new x is e h = subst (λ (l : List Tree). HasSomeNodes w n (c + 1) old l) (sym e) (record {
  count = omega (arith, h.count, length-append mid (x ∷ []));
  kept = λ k y g. get_left mid (x ∷ []) k y (h.kept k y g);
  nodes = λ m l. node m (last_or m c l);
  only = λ k y g. either k y (get_either mid (x ∷ []) k y g);
})
  where
    last_or : (m c : ℕ) → m < c + 1 → (m < c) ⊎ (m ≡ c)
    last_or m c l = grind arith

    node : (m : ℕ) → (m < c) ⊎ (m ≡ c) → IsAt (mid ++ x ∷ []) (length old + m) (node_of w n m)
    node m (inl l) = get_left mid (x ∷ []) (length old + m) (node_of w n m) (h.nodes m l)
    node m (inr q) =
        let here : length old + m ≡ length mid + 0 = omega (arith, h.count) in
        ap (slice_get (mid ++ x ∷ [])) here ∙ (get_right mid (x ∷ []) 0 ∙ ap Some (is ∙ ap (node_of w n) (sym q)))

    the_last : (j : ℕ) (y : Tree) → slice_get (x ∷ []) j ≡ Some y → y ≡ x
    the_last zero y g = cc
    the_last (suc j) y g = cc

    either : (k : ℕ) (y : Tree) → (slice_get mid k ≡ Some y) ⊎ ((length mid ≤ k) × ((j : ℕ) × (k ≡ length mid + j) × (slice_get (x ∷ []) j ≡ Some y))) → IsAt old k y ⊎ ((length old ≤ k) × ((m : ℕ) × (y ≡ node_of w n m)))
    either k y (inl g) = h.only k y g
    either k y (inr g) = inr (omega (arith, h.count, g.0), (c, the_last g.1.0 y g.1.2 ∙ is))

pub all_nodes : (w : Tables) (n c : ℕ) (old new : List Tree) → c ≡ size_of (net_of w n) → HasSomeNodes w n c old new → HasNodes w n old new
all_nodes w n c old new e h = record { longer = omega (arith, h.count); kept = h.kept; nodes = λ m l. h.nodes m (omega (arith, e)); only = h.only }

pub few_nodes : (w : Tables) (n c : ℕ) (old new : List Tree) → HasSomeNodes w n c old new → length old ≤ length new
few_nodes w n c old new h = omega (arith, h.count)

pub one_outlined : (w : Tables) (x : Tree) (ts : List Tree) (o : Outline) → IsChartTerm w x → ts ≡ x ∷ [] → o.roots.items ≡ [] → ArePartsKnown o.terms o.firsts.items → length o.firsts.items ≡ length o.terms → Grows 0 ts o.terms → IsOutlined w x o
one_outlined w x ts o c e lacks known whole g = record {
  root = g.kept 0 x (subst (λ (l : List Tree). IsAt l 0 x) (sym e) refl);
  known = known;
  whole = whole;
  nets = λ i r h. absurd (nothing (slice_get o.roots.items i) r (ap (λ (l : List ℕ). slice_get l i) lacks) h);
  unbegun = g.unbegun (λ k y h. only_one k y IsUnbegun c.unbegun (subst (λ (l : List Tree). IsAt l k y) e h));
  below = g.below (net_count w) 0 (omega arith) (λ k y l h. only_one k y (IsBelow (net_count w)) c.within (subst (λ (l : List Tree). IsAt l k y) e h));
}
  where
    nothing : (o : Option ℕ) (r : ℕ) → o ≡ None → o ≡ Some r → ⊥
    nothing o r a b = let q : None ≡ Some r = sym a ∙ b in cc

    only_one : (k : ℕ) (y : Tree) (P : Tree → Type 0) → P x → IsAt (x ∷ []) k y → P y
    only_one zero y P p h = let same : x ≡ y = cc in subst P same p
    only_one (suc k) y P p h = cc

pub known_kept : (old new : List Tree) (fs : List ℕ) → length fs ≤ length old → ((k : ℕ) (x : Tree) → IsAt old k x → IsAt new k x) → ArePartsKnown old fs → ArePartsKnown new fs
known_kept old new fs l kept h k f x g i =
    let m = slice_get_within fs k f g in
    let (y, at) = some_at old k (omega (arith, l, m)) in
    let same : Some y ≡ Some x = sym (kept k y at) ∙ i in
    let one : y ≡ x = cc in
    let r = h k f x g (subst (λ (z : Tree). IsAt old k z) one at) in
    (r.0, λ j z s. kept (f + j) z (r.1 j z s))

-- one net more
pub net_outlined : (w : Tables) (x : Tree) (n : ℕ) (mid : List Tree) (old new : Outline) → IsChartTerm w x → n + suc (length old.roots.items) ≡ net_count w → new.roots.items ≡ old.roots.items ++ length old.terms ∷ []
    → HasNodes w n old.terms mid → length old.firsts.items ≡ length old.terms → ArePartsKnown new.terms new.firsts.items → length new.firsts.items ≡ length new.terms → Grows (length old.firsts.items) mid new.terms
    → IsOutlined w x old → IsOutlined w x new
net_outlined w x n mid old new c next roots nodes full known whole g h = record {
  root = kept 0 x h.root;
  known = known;
  whole = whole;
  nets = λ i r s. either i r (get_either old.roots.items (length old.terms ∷ []) i r (subst (λ (l : List ℕ). slice_get l i ≡ Some r) roots s));
  unbegun = g.unbegun (λ k y s. unbegun k y (nodes.only k y s));
  below = g.below (net_count w) 0 (omega arith) (λ k y l s. below k y (nodes.only k y s));
}
  where
    kept : (k : ℕ) (y : Tree) → IsAt old.terms k y → IsAt new.terms k y
    kept k y s = g.kept k y (nodes.kept k y s)

    unbegun : (k : ℕ) (y : Tree) → IsAt old.terms k y ⊎ ((length old.terms ≤ k) × ((m : ℕ) × (y ≡ node_of w n m))) → IsUnbegun y
    unbegun k y (inl s) = h.unbegun k y s
    unbegun k y (inr s) = subst IsUnbegun (sym s.1.1) (c.nodes.nodes n s.1.0)

    below : (k : ℕ) (y : Tree) → IsAt old.terms k y ⊎ ((length old.terms ≤ k) × ((m : ℕ) × (y ≡ node_of w n m))) → IsBelow (net_count w) y
    below k y (inl s) = h.below k y (omega arith) s
    below k y (inr s) = higher n (net_count w) (omega (arith, next)) y (subst (IsBelow n) (sym s.1.1) (c.older n s.1.0))

    -- behind the net's own nodes no term names it
    own : AreBelowFrom n (length old.terms) mid
    own k y l s = by (nodes.only k y s)
      where
        by : IsAt old.terms k y ⊎ ((length old.terms ≤ k) × ((m : ℕ) × (y ≡ node_of w n m))) → IsBelow n y
        by (inl t) = absurd (let m = slice_get_within old.terms k y t in omega (arith, l, m))
        by (inr t) = subst (IsBelow n) (sym t.1.1) (c.older n t.1.0)

    -- nor a newer one behind an earlier root
    further : (m r : ℕ) → n ≤ m → r ≤ length old.terms → AreBelowFrom m r old.terms → AreBelowFrom m r mid
    further m r l u b k y q s = by (nodes.only k y s)
      where
        by : IsAt old.terms k y ⊎ ((length old.terms ≤ k) × ((j : ℕ) × (y ≡ node_of w n j))) → IsBelow m y
        by (inl t) = b k y q t
        by (inr t) = higher n m l y (subst (IsBelow n) (sym t.1.1) (c.older n t.1.0))

    at_last : (j r : ℕ) → slice_get (length old.terms ∷ []) j ≡ Some r → (j ≡ 0) × (r ≡ length old.terms)
    at_last zero r s = (refl, cc)
    at_last (suc j) r s = cc

    longer : length old.terms ≤ length new.terms
    longer = omega (arith, nodes.longer, g.longer)

    either : (i r : ℕ) → (slice_get old.roots.items i ≡ Some r) ⊎ ((length old.roots.items ≤ i) × ((j : ℕ) × (i ≡ length old.roots.items + j) × (slice_get (length old.terms ∷ []) j ≡ Some r))) → IsNetAt w new.terms (net_count w - suc i) r
    either i r (inl s) =
        let a = h.nets i r s in
        let l = slice_get_within old.roots.items i r s in
        let m : n ≤ net_count w - suc i = omega (arith, next, l) in
        record {
          within = omega (arith, a.within, longer);
          nodes = λ m q. kept (r + m) (node_of w (net_count w - suc i) m) (a.nodes m q);
          below = g.below (net_count w - suc i) r (omega (arith, full, a.within)) (further (net_count w - suc i) r m a.within a.below);
        }
    either i r (inr s) =
        let e = at_last s.1.0 r s.1.2 in
        let p = e.0 in
        let q = s.1.1 in
        let here : net_count w - suc i ≡ n = omega (arith, next, p, q) in
        subst (λ (m : ℕ). IsNetAt w new.terms m r) (sym here) (subst (λ (q : ℕ). IsNetAt w new.terms n q) (sym e.1) (record {
          within = longer;
          nodes = λ m q. g.kept (length old.terms + m) (node_of w n m) (nodes.nodes m q);
          below = g.below n (length old.terms) (omega (arith, full)) own;
        }))

pub take_all : (xs : List Tree) (n : ℕ) → length xs ≤ n → take n xs ≡ xs
take_all [] zero h = refl
take_all [] (suc n) h = refl
take_all (x ∷ xs) zero h = absurd (omega arith)
take_all (x ∷ xs) (suc n) h = ap (λ l. x ∷ l) (take_all xs n (omega arith))

-- one turn more is appended
pub pushed : (old mid new xs : List Tree) (i : ℕ) (x : Tree) → slice_get xs i ≡ Some x → mid ≡ old ++ take i xs → new ≡ mid ++ x ∷ [] → new ≡ old ++ take (i + 1) xs
pushed old mid new xs i x g e f = f ∙ (ap (λ (l : List Tree). l ++ x ∷ []) e ∙ (append_assoc old (take i xs) (x ∷ []) ∙ ap (λ (l : List Tree). old ++ l) (sym (take_step xs i x g))))

pub on_ok : {A E : Type 0} (P Q : Type 0) (r : Result A E) → (P → Q) → OnOk r P → OnOk r Q
on_ok P Q (Ok a) f h = f h
on_ok P Q (Err e) f h = h

pub on_ok_three : {A E : Type 0} (P Q R S : Type 0) (r : Result A E) → (P → Q → R → S) → OnOk r P → OnOk r Q → OnOk r R → OnOk r S
on_ok_three P Q R S (Ok a) f p q r = f p q r
on_ok_three P Q R S (Err e) f p q r = p

-- the parts of a join and of a choice are the turns
pub seq_parts : (x : Tree) (xs : List Tree) → x ≡ Join seq (trees xs) → parts_in x ≡ xs
seq_parts x xs e = ap parts_in e ∙ items-trees xs

pub par_parts : (x : Tree) (xs : List Tree) → x ≡ Join par (trees xs) → parts_in x ≡ xs
par_parts x xs e = ap parts_in e ∙ items-trees xs

pub choice_parts : (x : Tree) (xs : List Tree) → x ≡ Choice (trees xs) → parts_in x ≡ xs
choice_parts x xs e = ap parts_in e ∙ items-trees xs

pub ruleset numbering = (grows_self, no_nodes)
