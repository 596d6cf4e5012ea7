-- Tidy tables give what the laws need.
use Rattle.std.specs.Prelude.{ℕ, zero, suc, ◌+◌, ◌<◌, ◌≤◌, ◌==◌, ◌≢◌, Bool, true, false, List, [], ◌∷◌, ◌≡◌, Option, Some, None, refl}
use Rattle.std.proofs.Common.{sym, arith, inl, inr}
use Rattle.std.proofs.lemmas.Bool.Decides.{nat_tests}
use Rattle.hmsc_graph.specs.Graphs.{Spot, behind}
use Rattle.msc_base.specs.Lists.{IsIn}
use Rattle.chart_term.specs.NormalForms.{NetPermits, only}
use Rattle.chart_term.specs.Properties.{Each, MayHave, Every, EveryOf, EveryRow, IsBelow}
use Rattle.chart_term.specs.Tables.{NetEntry, net_count, choose, count_from, nth_tree, node_of}
use Rattle.chart_term.specs.TermMeanings.{NetTerms, HasPattern, has_nil, PatternsOf, Leaves, terms_of}
use Rattle.chart_term.specs.TermPatterns.{Shape}
use Rattle.chart_term.specs.Terms.{Block, Tree, Nil, Event, Join, Choice, Tied, Loop, Walk, Trees, none, more, Row, ends, gap, turn}
use Rattle.chart_term.proofs.Instances.{IsInside, inside_left, inside_right}
use Rattle.chart_term.specs.Spreads.{touch, touch_list}
use Rattle.term_laws.specs.Permission.{permit, permits_of, permit_nth}
use Rattle.term_laws.specs.Soundness.{PickType, NetLacks, IsKnown, IsTidyOver, AreTidyTables, AreTidy, IsTidyRow, IsOutside, AreOutside}
use Rattle.term_laws.proofs.Agreeing.{same_all_of}
use Rattle.term_laws.proofs.Permitting.{permit_law, inside, only_fits}
use Rattle.term_laws.proofs.TidyKept.{AreExactNets, good_ok, permit_good}
use Rattle.term_laws.proofs.Everywhere.{permit_every}
use Rattle.term_laws.proofs.Keeping.{at_some}

pub less_or_same : (n k : ℕ) → n < suc k → (n == k) ≡ false → n < k
less_or_same n k h e = grind (arith, nat_tests)

pub not_same : (n k : ℕ) → n < k → (n == k) ≡ false
not_same n k h = grind (arith, nat_tests)

pub each_nth : (P : Tree → Type 0) (xs : List Tree) → P Nil → Each P xs → (m : ℕ) → P (nth_tree xs m)
each_nth P [] z h m = z
each_nth P (x ∷ xs) z h zero = h.0
each_nth P (x ∷ xs) z h (suc m) = each_nth P xs z h.1 m

-- a term that names only old nets names only nets below a larger number
module _ (a b : ℕ) (l : a ≤ b) where
  mutual
    pub higher : (x : Tree) → IsBelow a x → IsBelow b x
    higher Nil h = tt
    higher (Event e) h = tt
    higher (Join m xs) h = higher_all xs h
    higher (Choice xs) h = higher_all xs h
    higher (Tied x q) h = higher x h
    higher (Loop x lo hi r) h = (higher x h.0, higher_row r h.1)
    higher (Walk n f t c) h = omega arith

    higher_all : (xs : Trees) → EveryOf (λ e. Unit {0}) (λ m. m < a) xs → EveryOf (λ e. Unit {0}) (λ m. m < b) xs
    higher_all none h = tt
    higher_all (more x xs) h = (higher x h.0, higher_all xs h.1)

    higher_row : (r : Row) → EveryRow (λ e. Unit {0}) (λ m. m < a) r → EveryRow (λ e. Unit {0}) (λ m. m < b) r
    higher_row ends h = tt
    higher_row (gap c r) h = higher_row r h
    higher_row (turn x r) h = (higher x h.0, higher_row r h.1)

pub each_map : (P Q : Tree → Type 0) → ((x : Tree) → P x → Q x) → (xs : List Tree) → Each P xs → Each Q xs
each_map P Q f [] h = tt
each_map P Q f (x ∷ xs) h = (f x h.0, each_map P Q f xs h.1)

pub nth_has : (P : Tree → Type 0) (k : NetPermits) (b : Block) (xs : List Tree) → ((x : Tree) → P x → MayHave P (permit k b x)) → Each P xs → (m : ℕ) → MayHave P (permit_nth k b xs m)
nth_has P k b [] f h m = tt
nth_has P k b (x ∷ xs) f h zero = f x h.0
nth_has P k b (x ∷ xs) f h (suc m) = nth_has P k b xs f h.1 m

pub picked : {A : Type 0} (P : A → Type 0) (t : Bool) (x y : A) → (t ≡ true → P x) → (t ≡ false → P y) → P (choose t x y)
picked P true x y f g = f refl
picked P false x y f g = g refl

pub node_below : (o : Bool) (es : List NetEntry) → AreTidyTables es → (n : ℕ) → n < net_count es → (m : ℕ) → IsBelow (net_count es) (node_of es n m)
node_below o [] h n l m = absurd (omega arith)
node_below o (e ∷ es) h n l m =
    picked (IsBelow (suc (net_count es))) (n == net_count es) (nth_tree e.nodes m) (node_of es n m)
    (λ p. higher (net_count es) (suc (net_count es)) (omega arith) (nth_tree e.nodes m) (each_nth (IsBelow (net_count es)) e.nodes tt h.2 m))
    (λ p. higher (net_count es) (suc (net_count es)) (omega arith) (node_of es n m) (node_below o es h.0 n (less_or_same n (net_count es) l p) m))

pub kept_has : (o : Bool) (es : List NetEntry) → AreTidyTables es → (n : ℕ) → n < net_count es → (m : ℕ) (c : List ℕ) → MayHave (IsBelow (net_count es)) ((permits_of es).kept n m c)
kept_has o [] h n l m c = absurd (omega arith)
kept_has o (e ∷ es) h n l m c =
    picked (MayHave (IsBelow (suc (net_count es)))) (n == net_count es) (permit_nth (permits_of es) (only c) e.nodes m) ((permits_of es).kept n m c)
    (λ p. up (permit_nth (permits_of es) (only c) e.nodes m)
    (nth_has (IsBelow (net_count es)) (permits_of es) (only c) e.nodes
    (permit_every (λ e. Unit {0}) (λ m. m < net_count es) (permits_of es) (only c)) h.2 m))
    (λ p. up ((permits_of es).kept n m c) (kept_has o es h.0 n (less_or_same n (net_count es) l p) m c))
  where
    up : (r : Option Tree) → MayHave (IsBelow (net_count es)) r → MayHave (IsBelow (suc (net_count es))) r
    up None q = tt
    up (Some y) q = higher (net_count es) (suc (net_count es)) (omega arith) y q

pub same_is : (a b : ℕ) → (a == b) ≡ true → a < suc b
same_is a b q = grind (arith, nat_tests)

pub known_pick : (t : Bool) (A B : Type 0) (n k : ℕ) → (n == k) ≡ t → (B → n < k) → PickType t A B → n < suc k
known_pick true A B n k q f h = same_is n k q
known_pick false A B n k q f h = let l : n < k = f h in omega arith

known_lacks : (es : List NetEntry) (i n : ℕ) → NetLacks es i n → n < net_count es
known_lacks [] i n h = absurd h
known_lacks (f ∷ fs) i n h = known_pick (n == net_count fs) (Each (Every (λ g. g.number ≢ i) (NetLacks fs i)) f.nodes) (NetLacks fs i n) n (net_count fs) refl (known_lacks fs i n) h

-- tables with one more net say the same of the older nets
module _ (o : Bool) (e : NetEntry) (es : List NetEntry) (sound : AreTidyTables es) where
  abbrev k : NetPermits
  k = permits_of (e ∷ es)

  abbrev j : NetPermits
  j = permits_of es

  abbrev w : NetTerms
  w = terms_of k (node_of (e ∷ es))

  abbrev v : NetTerms
  v = terms_of j (node_of es)

  abbrev top : ℕ
  top = net_count es

  same_net : (n : ℕ) → n < top → v.net n ≡ w.net n
  same_net n l = let p : (n == top) ≡ false = not_same n top l in rw p

  same_node : (n : ℕ) → n < top → (m : ℕ) → v.node n m ≡ w.node n m
  same_node n l m = let p : (n == top) ≡ false = not_same n top l in rw p

  pub up : (x : Tree) → IsBelow top x → (s : Shape) → HasPattern v o x s → HasPattern w o x s
  up x b s a = same_all_of v w o top same_net same_node (node_below o es sound) a b

  pub down : (x : Tree) → IsBelow top x → (s : Shape) → HasPattern w o x s → HasPattern v o x s
  down x b s a = same_all_of w v o top (λ n l. sym (same_net n l)) (λ n l m. sym (same_node n l m)) (λ n l m. rw (← same_node n l m) (node_below o es sound n l m)) a b

  opt_up : (r : Option Tree) → MayHave (IsBelow top) r → (s : Shape) → PatternsOf v o r s → PatternsOf w o r s
  opt_up None b s a = a
  opt_up (Some y) b s a = up y b s a

  opt_down : (r : Option Tree) → MayHave (IsBelow top) r → (s : Shape) → PatternsOf w o r s → PatternsOf v o r s
  opt_down None b s a = a
  opt_down (Some y) b s a = down y b s a

  leaves_up : (c : Block) (x : Tree) (r : Option Tree) → IsBelow top x → MayHave (IsBelow top) r → Leaves v o c x r → Leaves w o c x r
  leaves_up c x r b d h = record {
    sound = λ s a. let i = h.sound s (opt_down r d s a) in (i.0, (up x b i.0 i.1.0, i.1.1), i.2);
    whole = λ s a. let i = h.whole s (down x b s a.0, a.1) in (i.0, opt_up r d i.0 i.1, i.2);
  }

  pub lacks_up : (i n : ℕ) → n < top → NetLacks es i n → NetLacks (e ∷ es) i n
  lacks_up i n l h = let p : (n == top) ≡ false = not_same n top l in rw p h

  mutual
    pub lacks_tree : (i : ℕ) (x : Tree) → IsBelow top x → Every (λ f. f.number ≢ i) (NetLacks es i) x → Every (λ f. f.number ≢ i) (NetLacks (e ∷ es) i) x
    lacks_tree i Nil b h = tt
    lacks_tree i (Event f) b h = h
    lacks_tree i (Join m xs) b h = lacks_all i xs b h
    lacks_tree i (Choice xs) b h = lacks_all i xs b h
    lacks_tree i (Tied x q) b h = lacks_tree i x b h
    lacks_tree i (Loop x lo hi r) b h = (lacks_tree i x b.0 h.0, lacks_row i r b.1 h.1)
    lacks_tree i (Walk n f t c) b h = lacks_up i n b h

    pub lacks_all : (i : ℕ) (xs : Trees) → EveryOf (λ e. Unit {0}) (λ m. m < top) xs → EveryOf (λ f. f.number ≢ i) (NetLacks es i) xs → EveryOf (λ f. f.number ≢ i) (NetLacks (e ∷ es) i) xs
    lacks_all i none b h = tt
    lacks_all i (more x xs) b h = (lacks_tree i x b.0 h.0, lacks_all i xs b.1 h.1)

    pub lacks_row : (i : ℕ) (r : Row) → EveryRow (λ e. Unit {0}) (λ m. m < top) r → EveryRow (λ f. f.number ≢ i) (NetLacks es i) r → EveryRow (λ f. f.number ≢ i) (NetLacks (e ∷ es) i) r
    lacks_row i ends b h = tt
    lacks_row i (gap c r) b h = lacks_row i r b h
    lacks_row i (turn x r) b h = (lacks_tree i x b.0 h.0, lacks_row i r b.1 h.1)

  abbrev Out' : ℕ → Tree → Type 0
  Out' i x = IsOutside (NetLacks es) i x

  abbrev Out'' : ℕ → Tree → Type 0
  Out'' i x = IsOutside (NetLacks (e ∷ es)) i x

  mutual
    out_tree : (i : ℕ) (x : Tree) → IsBelow top x → Out' i x → Out'' i x
    out_tree i Nil b h = tt
    out_tree i (Event f) b h = tt
    out_tree i (Join m xs) b h = out_all i xs b h
    out_tree i (Choice xs) b h = out_all i xs b h
    out_tree i (Tied x q) b h = out_tree i x b h
    out_tree i (Loop x lo hi r) b h = (lacks_tree i x b.0 h.0, lacks_row i r b.1 h.1)
    out_tree i (Walk n f t c) b h = lacks_up i n b h

    out_all : (i : ℕ) (xs : Trees) → EveryOf (λ e. Unit {0}) (λ m. m < top) xs → AreOutside (NetLacks es) i xs → AreOutside (NetLacks (e ∷ es)) i xs
    out_all i none b h = tt
    out_all i (more x xs) b h = (out_tree i x b.0 h.0, out_all i xs b.1 h.1)

  mutual
    pub good_tree : (x : Tree) → IsBelow top x → IsTidyOver es x → IsTidyOver (e ∷ es) x
    good_tree Nil b h = tt
    good_tree (Event f) b h = tt
    good_tree (Join m xs) b h = good_all xs b h
    good_tree (Choice xs) b h = good_all xs b h
    good_tree (Tied x q) b h = (good_tree x b h.0, λ i p. out_tree i x b (h.1 i p), h.2)
    good_tree (Loop x lo hi r) b h = (good_tree x b.0 h.0, good_row r b.1 h.1, h.2, h.3)
    good_tree (Walk n f t c) b h = omega arith

    good_all : (xs : Trees) → EveryOf (λ e. Unit {0}) (λ m. m < top) xs → AreTidy (NetLacks es) (IsKnown es) xs → AreTidy (NetLacks (e ∷ es)) (IsKnown (e ∷ es)) xs
    good_all none b h = tt
    good_all (more x xs) b h = (good_tree x b.0 h.0, good_all xs b.1 h.1)

    good_row : (r : Row) → EveryRow (λ e. Unit {0}) (λ m. m < top) r → IsTidyRow (NetLacks es) (IsKnown es) r → IsTidyRow (NetLacks (e ∷ es)) (IsKnown (e ∷ es)) r
    good_row ends b h = tt
    good_row (gap c r) b h = good_row r b h
    good_row (turn x r) b h = (good_tree x b.0 h.0, good_row r b.1 h.1)

  -- the newest net
  module _ (nodes : Each (IsTidyOver es) e.nodes) (low : Each (IsBelow top) e.nodes) (within : (f : Spot) (m : ℕ) → IsIn m (behind e.net f) → IsIn m (count_from 0 e.nodes))
      (old : AreExactNets j (node_of es) o (NetLacks es) (IsKnown es)) where
    law : (x : Tree) → IsTidyOver es x → (c : List ℕ) → Leaves v o (only c) x (permit j (only c) x)
    law x g c = permit_law j (node_of es) o x (good_ok j (node_of es) o (NetLacks es) (IsKnown es) old x g) (only c) (only_fits j (node_of es) o c x)

    low_permit : (c : Block) (x : Tree) → IsBelow top x → MayHave (IsBelow top) (permit j c x)
    low_permit c = permit_every (λ e. Unit {0}) (λ m. m < top) j c

    nth_leaves : (xs : List Tree) → Each (IsTidyOver es) xs → Each (IsBelow top) xs → (i m : ℕ) → IsIn m (count_from i xs) → (d : ℕ) → m ≡ i + d → (c : List ℕ) → Leaves w o (only c) (nth_tree xs d) (permit_nth j (only c) xs d)
    nth_leaves [] g b i m h d q c = absurd h
    nth_leaves (x ∷ xs) g b i m h zero q c = leaves_up (only c) x (permit j (only c) x) b.0 (low_permit (only c) x b.0) (law x g.0 c)
    nth_leaves (x ∷ xs) g b i m (inl p) (suc d) q c = absurd (omega arith)
    nth_leaves (x ∷ xs) g b i m (inr p) (suc d) q c = nth_leaves xs g.1 b.1 (i + 1) m p d (omega arith) c

    nth_known : (xs : List Tree) (i d m : ℕ) → m ≡ i + d → (c : Block) (y : Tree) → permit_nth j c xs d ≡ Some y → IsIn m (count_from i xs)
    nth_known [] i d m p c y q = cc
    nth_known (x ∷ xs) i zero m p c y q = inl (omega arith)
    nth_known (x ∷ xs) i (suc d) m p c y q = inr (nth_known xs (i + 1) d m (omega arith) c y q)

    nil_inside : (s : Shape) → HasPattern v o Nil s → IsInside [] s
    nil_inside s has_nil = tt

    nth_inside : (xs : List Tree) → Each (IsTidyOver es) xs → (d : ℕ) (s : Shape) → HasPattern v o (nth_tree xs d) s → IsInside (touch_list j.spread xs) s
    nth_inside [] g d s a = nil_inside s a
    nth_inside (x ∷ xs) g zero s a = inside_left (touch j.spread x) (touch_list j.spread xs) s (inside j (node_of es) o x (good_ok j (node_of es) o (NetLacks es) (IsKnown es) old x g.0) s a)
    nth_inside (x ∷ xs) g (suc d) s a = inside_right (touch j.spread x) (touch_list j.spread xs) s (nth_inside xs g.1 d s a)

    within_at : (n : ℕ) (t : Bool) → (n == top) ≡ t → n < suc top → (f : Spot) (m : ℕ) → IsIn m (behind (choose t e.net (j.net n)) f) → IsIn m (choose t (count_from 0 e.nodes) (j.nodes n))
    within_at n true p l f m h = within f m h
    within_at n false p l f m h = (old.fine n (less_or_same n top l p)).within f m h

    holds_at : (n : ℕ) (t : Bool) → (n == top) ≡ t → n < suc top → (m : ℕ) → IsIn m (choose t (count_from 0 e.nodes) (j.nodes n)) → (c : List ℕ) → Leaves w o (only c) (choose t (nth_tree e.nodes m) (node_of es n m)) (choose t (permit_nth j (only c) e.nodes m) (j.kept n m c))
    holds_at n true p l m i c = nth_leaves e.nodes nodes low 0 m i m (omega arith) c
    holds_at n false p l m i c =
        let q = less_or_same n top l p in
        leaves_up (only c) (node_of es n m) (j.kept n m c) (node_below o es sound n q m) (kept_has o es sound n q m c) ((old.fine n q).holds m i c)

    inside_at : (n : ℕ) (t : Bool) → (n == top) ≡ t → n < suc top → (m : ℕ) → IsIn m (choose t (count_from 0 e.nodes) (j.nodes n)) → (s : Shape) → HasPattern w o (choose t (nth_tree e.nodes m) (node_of es n m)) s → IsInside (choose t (touch_list j.spread e.nodes) (j.spread n)) s
    inside_at n true p l m i s a = nth_inside e.nodes nodes m s (down (nth_tree e.nodes m) (each_nth (IsBelow top) e.nodes tt low m) s a)
    inside_at n false p l m i s a = let q = less_or_same n top l p in (old.fine n q).inside m i s (down (node_of es n m) (node_below o es sound n q m) s a)

    good_at : (n : ℕ) (t : Bool) → (n == top) ≡ t → n < suc top → (m : ℕ) (d : List ℕ) (x : Tree) → choose t (permit_nth j (only d) e.nodes m) (j.kept n m d) ≡ Some x → IsTidyOver (e ∷ es) x
    good_at n true p l m d x q =
        good_tree x (at_some (IsBelow top) (permit_nth j (only d) e.nodes m) x q (nth_has (IsBelow top) j (only d) e.nodes (low_permit (only d)) low m))
        (at_some (IsTidyOver es) (permit_nth j (only d) e.nodes m) x q (nth_has (IsTidyOver es) j (only d) e.nodes (permit_good j (node_of es) o (NetLacks es) (IsKnown es) old (only d)) nodes m))
    good_at n false p l m d x q = let r = less_or_same n top l p in good_tree x (at_some (IsBelow top) (j.kept n m d) x q (kept_has o es sound n r m d)) (old.good n m d x r q)

    lacks_at : (i n : ℕ) (t : Bool) → (n == top) ≡ t → (m : ℕ) (d : List ℕ) (x : Tree) → PickType t (Each (Every (λ f. f.number ≢ i) (NetLacks es i)) e.nodes) (NetLacks es i n) → choose t (permit_nth j (only d) e.nodes m) (j.kept n m d) ≡ Some x
        → Every (λ f. f.number ≢ i) (NetLacks (e ∷ es) i) x
    lacks_at i n true p m d x h q =
        lacks_tree i x (at_some (IsBelow top) (permit_nth j (only d) e.nodes m) x q (nth_has (IsBelow top) j (only d) e.nodes (low_permit (only d)) low m))
        (at_some (Every (λ f. f.number ≢ i) (NetLacks es i)) (permit_nth j (only d) e.nodes m) x q
        (nth_has (Every (λ f. f.number ≢ i) (NetLacks es i)) j (only d) e.nodes (permit_every (λ f. f.number ≢ i) (NetLacks es i) j (only d)) h m))
    lacks_at i n false p m d x h q = lacks_tree i x (at_some (IsBelow top) (j.kept n m d) x q (kept_has o es sound n (known_lacks es i n h) m d)) (old.lacks i n m d x h q)

    node_at : (i n m : ℕ) (t : Bool) → (n == top) ≡ t → PickType t (Each (Every (λ f. f.number ≢ i) (NetLacks es i)) e.nodes) (NetLacks es i n) → Every (λ f. f.number ≢ i) (NetLacks (e ∷ es) i) (choose t (nth_tree e.nodes m) (node_of es n m))
    node_at i n m true p h = lacks_tree i (nth_tree e.nodes m) (each_nth (IsBelow top) e.nodes tt low m) (each_nth (Every (λ f. f.number ≢ i) (NetLacks es i)) e.nodes tt h m)
    node_at i n m false p h = lacks_tree i (node_of es n m) (node_below o es sound n (known_lacks es i n h) m) (old.node_lacks i n m h)

    known_at : (n m : ℕ) (t : Bool) → (d : List ℕ) (x : Tree) → choose t (permit_nth j (only d) e.nodes m) (j.kept n m d) ≡ Some x → IsIn m (choose t (count_from 0 e.nodes) (j.nodes n))
    known_at n m true d x q = nth_known e.nodes 0 m m (omega arith) (only d) x q
    known_at n m false d x q = old.known n m d x q

    new_nets : AreExactNets k (node_of (e ∷ es)) o (NetLacks (e ∷ es)) (IsKnown (e ∷ es))
    new_nets = record {
      fine = λ n l. record { within = within_at n (n == top) refl l; holds = holds_at n (n == top) refl l; inside = inside_at n (n == top) refl l };
      good = λ n m d x l q. good_at n (n == top) refl l m d x q;
      lacks = λ i n m d x h q. lacks_at i n (n == top) refl m d x h q;
      node_lacks = λ i n m h. node_at i n m (n == top) refl h;
      known = λ n m d x q. known_at n m (n == top) d x q;
    }

none_kept : (n m : ℕ) (d : List ℕ) (x : Tree) → (permits_of []).kept n m d ≡ Some x → ⊥
none_kept n m d x q = cc

no_nets : (o : Bool) → AreExactNets (permits_of []) (node_of []) o (NetLacks []) (IsKnown [])
no_nets o = record {
  fine = λ n l. absurd (omega arith);
  good = λ n m d x l q. absurd (none_kept n m d x q);
  lacks = λ i n m d x h q. absurd (none_kept n m d x q);
  node_lacks = λ i n m h. absurd h;
  known = λ n m d x q. absurd (none_kept n m d x q);
}

-- sound tables give what the laws need
pub nets_good : (o : Bool) (es : List NetEntry) → AreTidyTables es → AreExactNets (permits_of es) (node_of es) o (NetLacks es) (IsKnown es)
nets_good o [] h = no_nets o
nets_good o (e ∷ es) h = new_nets o e es h.0 h.1 h.2 h.3 (nets_good o es h.0)
