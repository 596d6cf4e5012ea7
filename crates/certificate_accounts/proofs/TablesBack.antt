-- The laws of accounts over tables.
use Rattle.std.specs.Prelude.{ℕ, zero, suc, ◌+◌, ◌<◌, ◌==◌, Bool, true, false, List, [], ◌∷◌, ◌≡◌, ◌⊎◌, Option, Some, refl, length, map, slice_get}
use Rattle.std.specs.List.{range_with_len}
use Rattle.std.proofs.Common.{ap, sym, ◌∙◌, arith, inl, inr}
use Rattle.std.proofs.lemmas.Bool.Decides.{nat_tests}
use Rattle.std.proofs.lemmas.List.{length-map}
use Rattle.std.proofs.lemmas.Option.{none-some}
use Rattle.msc_base.specs.Patterns.{Mode, empty}
use Rattle.hmsc_graph.specs.Graphs.{Spot, Goal}
use Rattle.chart_term.specs.NormalForms.{NetPermits, only}
use Rattle.chart_term.specs.Properties.{Each, EachTurn, IsBelow}
use Rattle.chart_term.specs.Tables.{NetEntry, Tables, net_count, choose, nth_tree, net_of, node_of, terms_over}
use Rattle.chart_term.specs.TermMeanings.{NetTerms}
use Rattle.chart_term.specs.TermPatterns.{Shape, earlier, InPairs, before_in, put_if}
use Rattle.chart_term.specs.TermRuns.{Runs, label_of}
use Rattle.chart_term.specs.Terms.{TermEvent, Block, has, Tree, Tied, Part}
use Rattle.term_laws.proofs.TidyKept.{earlier_pairs}
use Rattle.term_laws.specs.Permission.{permit, permits_of, permit_nth}
use Rattle.term_laws.specs.Soundness.{NetLacks, IsKnown, IsTidyOver, AreTidyTables}
use Rattle.term_laws.specs.Taking.{IsAfter}
use Rattle.term_laws.proofs.Agreeing.{same_all_of}
use Rattle.term_laws.proofs.Everywhere.{every_out, every_row_out, permit_every}
use Rattle.term_laws.proofs.Keeping.{at_some}
use Rattle.term_laws.proofs.Permitting.{IsRegular, Fits, only_fits}
use Rattle.term_laws.proofs.TidyKept.{good_ok, closed, after_good, outs_fit, outside_fits, after_out}
use Rattle.term_laws.proofs.TidyTables.{not_same, each_nth, nth_has, node_below, kept_has, same_is, nets_good}
use Rattle.certificates.specs.Certificates.{HasEmpty}
use Rattle.certificate_accounts.specs.Accounts.{Account, nothing, Accounts, RowAccount, Visits, placed_event, Tells, tells_nothing, tells_event, tells_parts, tells_branch, tells_tie, tells_row, tells_walk, TellsAll, tells_none, tells_part, TellsOne, tells_this, tells_that, TellsRow, tells_over, tells_turn, tells_shut, tells_more, TellsWalk, tells_arrived, tells_visit}
use Rattle.certificate_accounts.specs.PermitsBack.{permit_back}
use Rattle.certificate_accounts.specs.StepsBack.{step_back}
use Rattle.certificate_accounts.specs.Paths.{Path, AreAt, account_back}
use Rattle.certificate_accounts.specs.AccountLaws.{kept_account, nodes_over, FindsWays, AccountsGoBack}
use Rattle.certificate_accounts.proofs.PermitsBack.{Back, permit_told}
use Rattle.certificate_accounts.proofs.StepsBack.{Stepped, AreNodesTold, step_told}
use Rattle.certificate_accounts.proofs.Certifying.{run_held, path_told}

-- tables that agree on the nets that a term names tell the same of it
module _ (v w : NetTerms) (ev : ℕ → TermEvent) (top : ℕ) (same_net : (n : ℕ) → n < top → v.net n ≡ w.net n) (same_node : (n : ℕ) → n < top → (m : ℕ) → v.node n m ≡ w.node n m) (lower : (n : ℕ) → n < top → (m : ℕ) → IsBelow top (v.node n m)) where
  same_empty : (x : Tree) → IsBelow top x → HasEmpty v x → HasEmpty w x
  same_empty x b h = record { pattern = h.pattern; has = same_all_of v w false top same_net same_node lower h.has b; none = h.none }

  mutual
    pub same_told : {x : Tree} {a : Account} {s : Shape} → Tells v ev x a s → IsBelow top x → Tells w ev x a s
    same_told (tells_nothing {x = x} h) b = tells_nothing (same_empty x b h)
    same_told (tells_event h) b = tells_event h
    same_told (tells_parts {xs = xs} h) b = tells_parts (same_all h (every_out (λ e. Unit {0}) (λ m. m < top) xs b))
    same_told (tells_branch {xs = xs} h) b = tells_branch (same_one h (every_out (λ e. Unit {0}) (λ m. m < top) xs b))
    same_told (tells_tie h) b = tells_tie (same_told h b)
    same_told (tells_row {x = x} {r = r} n c h g l) b = tells_row {r = r} n c (same_row h b.0 (every_row_out (λ e. Unit {0}) (λ m. m < top) r b.1)) g (elim l [ inl i ↦ inl i | inr i ↦ inr (i.0, same_empty x b.0 i.1) ])
    same_told (tells_walk h) b = tells_walk (same_walk h b)

    same_all : {m : Mode} {xs : List Tree} {us : Accounts} {s : Shape} → TellsAll v ev m xs us s → Each (IsBelow top) xs → TellsAll w ev m xs us s
    same_all tells_none b = tells_none
    same_all (tells_part h r) b = tells_part (same_told h b.0) (same_all r b.1)

    same_one : {xs : List Tree} {i : ℕ} {a : Account} {s : Shape} → TellsOne v ev xs i a s → Each (IsBelow top) xs → TellsOne w ev xs i a s
    same_one (tells_this h) b = tells_this (same_told h b.0)
    same_one (tells_that h) b = tells_that (same_one h b.1)

    same_row : {x : Tree} {ps : List Part} {rb : RowAccount} {n : ℕ} {s : Shape} → TellsRow v ev x ps rb n s → IsBelow top x → EachTurn (IsBelow top) ps → TellsRow w ev x ps rb n s
    same_row tells_over b d = tells_over
    same_row (tells_turn h r) b d = tells_turn (same_told h d.0) (same_row r b d.1)
    same_row (tells_shut r) b d = tells_shut (same_row r b d)
    same_row (tells_more h av r) b d = tells_more (same_told h b) av (same_row r b d)

    same_walk : {n : ℕ} {f : Spot} {t : Goal} {c : List ℕ} {u : Visits} {s : Shape} → TellsWalk v ev n f t c u s → n < top → TellsWalk w ev n f t c u s
    same_walk {n = n} (tells_arrived m i a) l = tells_arrived m (rw (← same_net n l) i) (rw (← same_net n l) a)
    same_walk {n = n} (tells_visit m i h av r) l = tells_visit m (rw (← same_net n l) i) (rw (← same_node n l m) (same_told h (lower n l m))) av (same_walk r l)

second_of : {A : Type 0} (t : Bool) (x y : A) → t ≡ false → choose t x y ≡ y
second_of true x y e = cc
second_of false x y e = refl

known_by : (n k : ℕ) (t : Bool) → (n == k) ≡ t → (f g : Option Tree) (x : Tree) → (g ≡ Some x → n < k) → choose t f g ≡ Some x → n < suc k
known_by n k true p f g x h e = same_is n k p
known_by n k false p f g x h e = let l = h e in omega (arith, l)

kept_known : (es : Tables) (n m : ℕ) (c : List ℕ) (x : Tree) → (permits_of es).kept n m c ≡ Some x → n < net_count es
kept_known [] n m c x e = absurd (none-some x e)
kept_known (f ∷ es) n m c x e = known_by n (net_count es) (n == net_count es) refl (permit_nth (permits_of es) (only c) f.nodes m) ((permits_of es).kept n m c) x (kept_known es n m c x) e

nth_permit : (k : NetPermits) (b : Block) (xs : List Tree) (m : ℕ) (x : Tree) → permit_nth k b xs m ≡ Some x → permit k b (nth_tree xs m) ≡ Some x
nth_permit k b [] m x e = absurd (none-some x e)
nth_permit k b (y ∷ xs) zero x e = e
nth_permit k b (y ∷ xs) (suc m) x e = nth_permit k b xs m x e

-- with one more net
module _ (ev : ℕ → TermEvent) (e : NetEntry) (es : Tables) (tidy : AreTidyTables es) (nodes : Each (IsTidyOver es) e.nodes) (low : Each (IsBelow (net_count es)) e.nodes) where
  abbrev top : ℕ
  top = net_count es

  same_nets : (n : ℕ) → n < top → net_of es n ≡ net_of (e ∷ es) n
  same_nets n l = sym (second_of (n == top) e.net (net_of es n) (not_same n top l))

  same_nodes : (n : ℕ) → n < top → (m : ℕ) → node_of es n m ≡ node_of (e ∷ es) n m
  same_nodes n l m = sym (second_of (n == top) (nth_tree e.nodes m) (node_of es n m) (not_same n top l))

  below : (n : ℕ) → n < top → (m : ℕ) → IsBelow top (node_of es n m)
  below n l m = node_below false es tidy n l m

  below_now : (n : ℕ) → n < top → (m : ℕ) → IsBelow top (node_of (e ∷ es) n m)
  below_now n l m = rw (← same_nodes n l m) (below n l m)

  newer : {x : Tree} {a : Account} {s : Shape} → Tells (terms_over es) ev x a s → IsBelow top x → Tells (terms_over (e ∷ es)) ev x a s
  newer h b = same_told (terms_over es) (terms_over (e ∷ es)) ev top same_nets same_nodes below h b

  older : {x : Tree} {a : Account} {s : Shape} → Tells (terms_over (e ∷ es)) ev x a s → IsBelow top x → Tells (terms_over es) ev x a s
  older h b = same_told (terms_over (e ∷ es)) (terms_over es) ev top (λ n l. sym (same_nets n l)) (λ n l m. sym (same_nodes n l m)) below_now h b

  newer_back : (x y : Tree) (f : Account → Account) (b : Block) → IsBelow top x → IsBelow top y → Back (permits_of es) (node_of es) ev x f b y → Back (permits_of (e ∷ es)) (node_of (e ∷ es)) ev x f b y
  newer_back x y f b bx by g a s h = let i = g a s (older h by) in (i.0, newer i.1 bx, i.2, i.3)

  newest : (m : ℕ) (c : List ℕ) (x : Tree) → permit_nth (permits_of es) (only c) e.nodes m ≡ Some x → Back (permits_of (e ∷ es)) (node_of (e ∷ es)) ev (nth_tree e.nodes m) (permit_back (permits_of es) (only c) (nth_tree e.nodes m)) (only c) x
  newest m c x q =
      let y = nth_tree e.nodes m in
      let old = nets_good false es tidy in
      newer_back y x (permit_back (permits_of es) (only c) y) (only c) (each_nth (IsBelow top) e.nodes tt low m)
      (at_some (IsBelow top) (permit_nth (permits_of es) (only c) e.nodes m) x q (nth_has (IsBelow top) (permits_of es) (only c) e.nodes (permit_every (λ e. Unit {0}) (λ m. m < top) (permits_of es) (only c)) low m))
      (permit_told (permits_of es) (node_of es) ev y (good_ok (permits_of es) (node_of es) false (NetLacks es) (IsKnown es) old y (each_nth (IsTidyOver es) e.nodes tt nodes m)) (only c) (only_fits (permits_of es) (node_of es) false c y) x (nth_permit (permits_of es) (only c) e.nodes m x q))

  by_net : (n m : ℕ) (c : List ℕ) (x : Tree) (t : Bool) → (n == top) ≡ t → (n < top → (permits_of es).kept n m c ≡ Some x → Back (permits_of es) (node_of es) ev (node_of es n m) (kept_account es n m c) (only c) x)
      → choose t (permit_nth (permits_of es) (only c) e.nodes m) ((permits_of es).kept n m c) ≡ Some x
      → Back (permits_of (e ∷ es)) (node_of (e ∷ es)) ev (choose t (nth_tree e.nodes m) (node_of es n m)) (λ a. choose t (permit_back (permits_of es) (only c) (nth_tree e.nodes m) a) (kept_account es n m c a)) (only c) x
  by_net n m c x true p f q = newest m c x q
  by_net n m c x false p f q =
      let l = kept_known es n m c x q in
      newer_back (node_of es n m) x (kept_account es n m c) (only c) (below n l m) (at_some (IsBelow top) ((permits_of es).kept n m c) x q (kept_has false es tidy n l m c)) (f l q)

pub kept_told : (ev : ℕ → TermEvent) (es : Tables) → AreTidyTables es → (n m : ℕ) (c : List ℕ) (x : Tree) → (permits_of es).kept n m c ≡ Some x → Back (permits_of es) (node_of es) ev (node_of es n m) (kept_account es n m c) (only c) x
kept_told ev [] h n m c x q = absurd (none-some x q)
kept_told ev (e ∷ es) h n m c x q = by_net ev e es h.0 h.1 h.2 n m c x (n == net_count es) refl (λ l p. kept_told ev es h.0 n m c x p) q

module _ (w : Tables) (ev : ℕ → TermEvent) (ways : ℕ → Spot → Goal → Visits) (tidy : AreTidyTables w) (finds : FindsWays w ev ways) where
  told_nodes : (place : ℕ) → AreNodesTold (permits_of w) (node_of w) ev (nodes_over w ways) place
  told_nodes place = record { empty_told = finds; kept_told = kept_told ev w tidy }

  fits : (x y : Tree) (q : List (ℕ × ℕ)) (e : TermEvent) → IsTidyOver w (Tied x q) → IsAfter (permits_of w) x e y → IsRegular (permits_of w) (node_of w) false y × Fits (permits_of w) (node_of w) false (earlier q e) y
  fits x y q e h a =
      let nets = nets_good false w tidy in
      let k = permits_of w in
      let node = node_of w in (
        good_ok k node false (NetLacks w) (IsKnown w) nets y (after_good k node false (NetLacks w) (IsKnown w) nets a h.0),
        outs_fit k node false (NetLacks w) (IsKnown w) nets (earlier q e) y (λ j p. outside_fits k node false (NetLacks w) (IsKnown w) j y (after_out k node false (NetLacks w) (IsKnown w) nets j a (h.1 j (earlier_pairs q e.number j p)))),
      )

  one_step : (place : ℕ) (x y : Tree) (e : TermEvent) (h : IsAfter (permits_of w) x e y) → IsTidyOver w x → ev place ≡ e → (a : Account) (s : Shape) → Tells (terms_over w) ev y a s → Stepped (permits_of w) (node_of w) ev (nodes_over w ways) place x (step_back (permits_of w) (nodes_over w ways) place h a) (placed_event e place) s
  one_step place x y e h g at a s t = step_told (permits_of w) (node_of w) ev (nodes_over w ways) place (IsTidyOver w) (closed (permits_of w) (node_of w) false (NetLacks w) (IsKnown w) (nets_good false w tidy)) fits (told_nodes place) h g at a s t

  whole_way : (x z : Tree) (es : List TermEvent) (h : Path (permits_of w) x es z) → IsTidyOver w x → AreAt ev 1 es → HasEmpty (terms_over w) z → (t : Shape) × Tells (terms_over w) ev x (account_back (permits_of w) (nodes_over w ways) h 1 nothing) t × Runs t (range_with_len 1 (length es))
  whole_way x z es h g at n =
      path_told (permits_of w) (node_of w) ev (nodes_over w ways) (IsTidyOver w) (closed (permits_of w) (node_of w) false (NetLacks w) (IsKnown w) (nets_good false w tidy)) fits told_nodes
      (λ u v e a i. after_good (permits_of w) (node_of w) false (NetLacks w) (IsKnown w) (nets_good false w tidy) a i) h g 1 at nothing empty (tells_nothing n) tt

-- the labels of the events of a log
labels_at : (ev : ℕ → TermEvent) (i : ℕ) (es : List TermEvent) → AreAt ev i es → (k : ℕ) → k < length (map label_of es) → slice_get (map label_of es) k ≡ Some (ev (i + k)).label
labels_at ev i [] h k l = absurd (omega arith)
labels_at ev i (e ∷ es) h zero l = ap (λ f. Some f.label) (sym h.0) ∙ ap (λ n. Some (ev n).label) (omega arith)
labels_at ev i (e ∷ es) h (suc k) l = labels_at ev (i + 1) es h.1 k (omega (arith, l)) ∙ ap (λ n. Some (ev n).label) (omega arith)

pub accounts_go_back : AccountsGoBack
accounts_go_back = record {
  step = λ w ev ways place x y e h tidy g finds at a s t. let i = one_step w ev ways tidy finds place x y e h g at a s t in record { before = i.before; after = i.after; tells = i.tells; takes = i.takes; same_as = i.same_as };
  way = λ w ev ways x z es h tidy g finds at n. whole_way w ev ways tidy finds x z es h g at n;
  certificate = λ w ev x a t es nets u at h r. run_held (terms_over w) ev nets.over nets.nodes x a t (map label_of es) u h (rw (← length-map es label_of) at r)
      (λ k l. labels_at ev 1 es at k l ∙ ap (λ n. Some (ev n).label) (omega arith));
}
