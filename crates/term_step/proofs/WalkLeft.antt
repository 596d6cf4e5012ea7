-- What is left of a walk, by the walk to a node and the walk on from it.
use Rattle.std.specs.Prelude.{ℕ, zero, suc, ◌<◌, ◌==◌, Bool, true, false, List, [], ◌∷◌, ◌++◌, ◌≡◌, ◌&&◌, Option, Some, None, refl, length}
use Rattle.std.proofs.Common.{ap, sym, ◌∙◌, arith, cond, filter, inl, inr}
use Rattle.std.proofs.lemmas.Bool.{or_left, or_right}
use Rattle.msc_base.specs.Patterns.{seq}
use Rattle.hmsc_graph.specs.Graphs.{Spot, At, Goal, To, End, Any, reach}
use Rattle.msc_base.specs.Lists.{IsIn}
use Rattle.chart_term.specs.NormalForms.{only, cut, join_all, some_kept, allowed, are_nil, walk_form, walk_of}
use Rattle.chart_term.specs.Properties.{Each, IsBelow}
use Rattle.chart_term.specs.Spreads.{touch, touch_list, spread_of}
use Rattle.chart_term.specs.Tables.{Tables, NetEntry, net_count, choose, count_from, nth_tree, node_of, nodes_of}
use Rattle.chart_term.specs.TermPatterns.{instances_of}
use Rattle.chart_term.specs.Terms.{TermEvent, has, Tree, Walk, ◌∪◌}
use Rattle.chart_term.specs.Views.{event_of}
use Rattle.chart_term.proofs.Instances.{has_app}
use Rattle.chart_term.proofs.Lists.{count_length}
use Rattle.term_step.specs.Children.{where_so, three, put}
use Rattle.term_laws.specs.Listing.{may_lead}
use Rattle.term_laws.specs.Normality.{IsSet}
use Rattle.term_laws.specs.Permission.{permits_of}
use Rattle.term_permission.specs.Ready.{IsReady, AreReadyTables}
use Rattle.term_step.specs.Searches.{IsTaken}
use Rattle.term_step.specs.declared.ascent.Taken.{Taken}
use Rattle.term_laws.proofs.Agreeing.{same_touch}
use Rattle.term_laws.proofs.Alike.{AreIn, AgreeOn, permit-alike, union-alike}
use Rattle.term_permission.proofs.NodeTerms.{node-is, below}
use Rattle.term_permission.proofs.PermitWalks.{nodes_in}
use Rattle.term_laws.proofs.SetFacts.{has_cut}
use Rattle.term_laws.proofs.TidyTables.{not_same, less_or_same}

-- a node's term touches instances of its net alone

nth_touch : (s : ℕ → List ℕ) (xs : List Tree) (m : ℕ) → m < length xs → AreIn (touch s (nth_tree xs m)) (touch_list s xs)
nth_touch s [] m l = absurd (omega arith)
nth_touch s (x ∷ xs) zero l = λ n i. has_app (touch s x) (touch_list s xs) n ∙ or_left (has (touch s x) n) (has (touch_list s xs) n) i
nth_touch s (x ∷ xs) (suc m) l = λ n i. has_app (touch s x) (touch_list s xs) n ∙ or_right (has (touch s x) n) (has (touch_list s xs) n) (nth_touch s xs m (omega arith) n i)

nth_ready : (es : Tables) (xs : List Tree) (m : ℕ) → m < length xs → Each (IsReady es) xs → IsReady es (nth_tree xs m)
nth_ready es [] m l h = absurd (omega arith)
nth_ready es (x ∷ xs) zero l h = h.0
nth_ready es (x ∷ xs) (suc m) l h = nth_ready es xs m (omega arith) h.1

module _ (e : NetEntry) (es : Tables) where
  up_touch : (x : Tree) → IsBelow (net_count es) x → touch (spread_of es) x ≡ touch (spread_of (e ∷ es)) x
  up_touch x h =
      same_touch (permits_of es) (permits_of (e ∷ es)) (net_count es)
      (λ n l. let p : (n == net_count es) ≡ false = not_same n (net_count es) l in rw p refl)
      (λ n l. let p : (n == net_count es) ≡ false = not_same n (net_count es) l in rw p refl)
      (λ n l m c. let p : (n == net_count es) ≡ false = not_same n (net_count es) l in rw p refl)
      (λ n l. let p : (n == net_count es) ≡ false = not_same n (net_count es) l in rw p refl) x h

pub node-touch : (w : Tables) → AreReadyTables w → (n m : ℕ) → n < net_count w → m < length (nodes_of w n) → AreIn (touch (spread_of w) (node_of w n m)) (spread_of w n)
node-touch [] h n m l k = absurd (omega arith)
node-touch (e ∷ es) h n m l k = go (n == net_count es) refl (node-touch es h.0 n m)
  where
    go : (t : Bool) → (n == net_count es) ≡ t → (n < net_count es → m < length (nodes_of es n) → AreIn (touch (spread_of es) (node_of es n m)) (spread_of es n)) → AreIn (touch (spread_of (e ∷ es)) (node_of (e ∷ es) n m)) (spread_of (e ∷ es) n)
    go true p f j i =
        let q : length (nodes_of (e ∷ es) n) ≡ length e.nodes = ap (λ t. length (choose t (count_from 0 e.nodes) (nodes_of es n))) p ∙ count_length 0 e.nodes in
        let lt : m < length e.nodes = omega arith in
        let x : Tree = nth_tree e.nodes m in
        let own : node_of (e ∷ es) n m ≡ x = ap (λ t. choose t x (node_of es n m)) p in
        let low : IsBelow (net_count es) x = below es x (nth_ready es e.nodes m lt h.1).within in
        let there : has (touch (spread_of es) x) j ≡ true = ap (λ l. has l j) (up_touch e es x low) ∙ (ap (λ y. has (touch (spread_of (e ∷ es)) y) j) (sym own) ∙ i) in
        ap (λ t. has (choose t (touch_list (spread_of es) e.nodes) (spread_of es n)) j) p ∙ nth_touch (spread_of es) e.nodes m lt j there
    go false p f j i =
        let q : length (nodes_of (e ∷ es) n) ≡ length (nodes_of es n) = ap (λ t. length (choose t (count_from 0 e.nodes) (nodes_of es n))) p in
        let old : n < net_count es = less_or_same n (net_count es) l p in
        let lt : m < length (nodes_of es n) = omega arith in
        let own : node_of (e ∷ es) n m ≡ node_of es n m = ap (λ t. choose t (nth_tree e.nodes m) (node_of es n m)) p in
        let low : IsBelow (net_count es) (node_of es n m) = below es (node_of es n m) (node-is es h.0 n m old lt).ready.within in
        let there : has (touch (spread_of es) (node_of es n m)) j ≡ true = ap (λ l. has l j) (up_touch e es (node_of es n m) low) ∙ (ap (λ y. has (touch (spread_of (e ∷ es)) y) j) (sym own) ∙ i) in
        ap (λ t. has (choose t (touch_list (spread_of es) e.nodes) (spread_of es n)) j) p ∙ f old lt j there

filter_alike : (f g : ℕ → Bool) (ms : List ℕ) → ((m : ℕ) → IsIn m ms → f m ≡ g m) → filter f ms ≡ filter g ms
filter_alike f g [] h = refl
filter_alike f g (m ∷ ms) h = λ i. cond (h m (inl refl) i) (m ∷ filter_alike f g ms (λ j l. h j (inr l)) i) (filter_alike f g ms (λ j l. h j (inr l)) i)

module _ (w : Tables) (tables : AreReadyTables w) (n : ℕ) (known : n < net_count w) where
  -- a walk's block counts as far as it is one of the net's
  kept_cut : (c : List ℕ) (m : ℕ) → IsIn m (nodes_of w n) → some_kept ((permits_of w).kept n m (cut (spread_of w n) c)) ≡ some_kept ((permits_of w).kept n m c)
  kept_cut c m i =
      let lt : m < length (nodes_of w n) = (nodes_in w n m).0 i in
      let node = node-is w tables n m known lt in
      let agree : AgreeOn (spread_of w n) (only (cut (spread_of w n) c)) (only c) = record { instances = λ j l. has_cut (spread_of w n) c j ∙ (ap (λ t. has c j && t) l ∙ and_true (has c j)); numbers = λ j. refl } in
      ap some_kept (node.kept (cut (spread_of w n) c) ∙ (permit-alike (permits_of w) (spread_of w n) (only (cut (spread_of w n) c)) (only c) agree (node_of w n m) (node-touch w tables n m known lt) node.ready.normal ∙ sym (node.kept c)))
    where
      and_true : (t : Bool) → (t && true) ≡ t
      and_true true = refl
      and_true false = refl

  allowed_cut : (c : List ℕ) → allowed (permits_of w) n (cut (spread_of w n) c) ≡ allowed (permits_of w) n c
  allowed_cut c = filter_alike (λ m. some_kept ((permits_of w).kept n m (cut (spread_of w n) c))) (λ m. some_kept ((permits_of w).kept n m c)) (nodes_of w n) (kept_cut c)

  form_some : (a b : Bool) (x u : Tree) → walk_form a b x ≡ Some u → a ≡ true
  form_some true b x u h = refl
  form_some false b x u h = cc

  pub trail-leads : (f : Spot) (t : Goal) (c : List ℕ) (u : Tree) → walk_of (permits_of w) n f t c ≡ Some u → may_lead (permits_of w) n f t c ≡ true
  trail-leads f Any c u h = refl
  trail-leads f End c u h =
      let d = cut (spread_of w n) c in
      ap (λ ks. reach ((permits_of w).net n) ks f End) (sym (allowed_cut c))
      ∙ form_some (reach ((permits_of w).net n) (allowed (permits_of w) n d) f End) (are_nil (permits_of w) n f End d (allowed (permits_of w) n d)) (Walk n f End d) u h
  trail-leads f (To m) c u h =
      let d = cut (spread_of w n) c in
      ap (λ ks. reach ((permits_of w).net n) ks f (To m)) (sym (allowed_cut c))
      ∙ form_some (reach ((permits_of w).net n) (allowed (permits_of w) n d) f (To m)) (are_nil (permits_of w) n f (To m) d (allowed (permits_of w) n d)) (Walk n f (To m) d) u h

  module _ (t : Taken) (taken : IsTaken t) (f : Spot) (g : Goal) (c : List ℕ) (set : IsSet c) (m : ℕ) (y : Tree) where
    abbrev e : TermEvent
    e = event_of t.event

    wide : c ∪ t.at.instances ≡ c ∪ (instances_of e).instances
    wide = union-alike c t.at.instances (instances_of e).instances set taken.same

    abbrev sides : Option Tree → Option Tree → Option Tree
    sides u v = where_so (may_lead (permits_of w) n f (To m) (c ∪ (instances_of e).instances)) (where_so (may_lead (permits_of w) n (At m) g c) (three u y v))

    no_first : (a b : Bool) (v : Option Tree) → where_so a (where_so b (three None y v)) ≡ None
    no_first true true v = refl
    no_first true false v = refl
    no_first false b v = refl

    no_last : (a b : Bool) (u : Option Tree) → where_so a (where_so b (three u y None)) ≡ None
    no_last true true None = refl
    no_last true true (Some u) = refl
    no_last true false u = refl
    no_last false b u = refl

    pub walk-none-first : None ≡ walk_of (permits_of w) n f (To m) (c ∪ t.at.instances) → None ≡ put (permits_of w) e (Walk n f g c) m y
    walk-none-first h =
        let first : walk_of (permits_of w) n f (To m) (c ∪ (instances_of e).instances) ≡ None = ap (walk_of (permits_of w) n f (To m)) (sym wide) ∙ sym h in
        sym (ap (λ u. sides u (walk_of (permits_of w) n (At m) g c)) first ∙ no_first (may_lead (permits_of w) n f (To m) (c ∪ (instances_of e).instances)) (may_lead (permits_of w) n (At m) g c) (walk_of (permits_of w) n (At m) g c))

    pub walk-none-last : (d : List ℕ) → d ≡ [] → None ≡ walk_of (permits_of w) n (At m) g (c ∪ d) → None ≡ put (permits_of w) e (Walk n f g c) m y
    walk-none-last d s h =
        let last : walk_of (permits_of w) n (At m) g c ≡ None = sym (h ∙ ap (λ l. walk_of (permits_of w) n (At m) g (c ∪ l)) s) in
        sym (ap (sides (walk_of (permits_of w) n f (To m) (c ∪ (instances_of e).instances))) last ∙ no_last (may_lead (permits_of w) n f (To m) (c ∪ (instances_of e).instances)) (may_lead (permits_of w) n (At m) g c) (walk_of (permits_of w) n f (To m) (c ∪ (instances_of e).instances)))

    pub walk-whole : (d : List ℕ) (u v z : Tree) (l1 l2 l3 : List Tree) → d ≡ [] → Some u ≡ walk_of (permits_of w) n f (To m) (c ∪ t.at.instances) → Some v ≡ walk_of (permits_of w) n (At m) g (c ∪ d) → l1 ≡ [] ++ u ∷ [] → l2 ≡ l1 ++ y ∷ [] → l3 ≡ l2 ++ v ∷ [] → z ≡ join_all seq l3
        → Some z ≡ put (permits_of w) e (Walk n f g c) m y
    walk-whole d u v z l1 l2 l3 s hu hv e1 e2 e3 ez =
        let first : walk_of (permits_of w) n f (To m) (c ∪ (instances_of e).instances) ≡ Some u = ap (walk_of (permits_of w) n f (To m)) (sym wide) ∙ sym hu in
        let last : walk_of (permits_of w) n (At m) g c ≡ Some v = sym (hv ∙ ap (λ l. walk_of (permits_of w) n (At m) g (c ∪ l)) s) in
        let all : l3 ≡ u ∷ y ∷ v ∷ [] = e3 ∙ ap (λ l. l ++ v ∷ []) (e2 ∙ ap (λ l. l ++ y ∷ []) e1) in
        ap Some (ez ∙ ap (join_all seq) all)
        ∙ sym (λ j. where_so (trail-leads f (To m) (c ∪ (instances_of e).instances) u first j) (where_so (trail-leads (At m) g c v last j) (three (first j) y (last j))))
