-- The node terms of tables that are ready.
use Rattle.std.specs.Prelude.{ℕ, zero, suc, ◌<◌, ◌≤◌, ◌==◌, Bool, true, false, List, [], ◌∷◌, ◌≡◌, refl, length}
use Rattle.std.proofs.Common.{ap, sym, ◌∙◌, subst, arith}
use Rattle.hmsc_graph.specs.Graphs.{Spot, Goal}
use Rattle.hmsc_graph.specs.Nets.{size_of}
use Rattle.chart_term.specs.NormalForms.{only}
use Rattle.chart_term.specs.Properties.{Each, IsBelow}
use Rattle.chart_term.specs.Tables.{Tables, NetEntry, net_count, choose, count_from, nth_tree, node_of, net_of, nodes_of}
use Rattle.chart_term.specs.Terms.{Block, Tree}
use Rattle.chart_term.proofs.Lists.{count_length}
use Rattle.term_laws.specs.Permission.{permit, permit_nth, permits_of}
use Rattle.term_permission.specs.Ready.{IsSpotWithin, IsGoalWithin, IsWalkWithin, IsWithin, IsReady, AreReadyTables}
use Rattle.term_laws.proofs.EveryPart.{part_below, part_map}
use Rattle.term_laws.proofs.Agreeing.{same_permit}
use Rattle.term_laws.proofs.Measures.{rank_in}
use Rattle.term_laws.proofs.NormalTables.{up_normal}
use Rattle.term_laws.proofs.TermSentences.{net_rank, sum_rank, same_rank, new_rank}
use Rattle.term_laws.proofs.TidyTables.{not_same, less_or_same}

-- a term within the tables names only their nets
pub below : (w : Tables) (x : Tree) → IsWithin w x → IsBelow (net_count w) x
below w x h = part_below (λ e. Unit {0}) (λ y q. Unit {0}) (λ y. Unit {0}) (IsWalkWithin w) (net_count w) (λ n f t i. i.0) x h

-- what holds over the older nets holds with one more
module _ (e : NetEntry) (es : Tables) where
  old_nodes : (n : ℕ) → n < net_count es → nodes_of es n ≡ nodes_of (e ∷ es) n
  old_nodes n l = let p : (n == net_count es) ≡ false = not_same n (net_count es) l in rw p refl

  up_spot : (n : ℕ) (f : Spot) → n < net_count es → IsSpotWithin (length (nodes_of es n)) f → IsSpotWithin (length (nodes_of (e ∷ es) n)) f
  up_spot n f l h = let p = old_nodes n l in rw (← p) h

  up_goal : (n : ℕ) (t : Goal) → n < net_count es → IsGoalWithin (length (nodes_of es n)) t → IsGoalWithin (length (nodes_of (e ∷ es) n)) t
  up_goal n t l h = let p = old_nodes n l in rw (← p) h

  up_within : (x : Tree) → IsWithin es x → IsWithin (e ∷ es) x
  up_within x h =
      part_map (λ e. Unit {0}) (λ e. Unit {0}) (λ y q. Unit {0}) (λ y q. Unit {0}) (λ y. Unit {0}) (λ y. Unit {0}) (IsWalkWithin es) (IsWalkWithin (e ∷ es)) (net_count es)
      (λ e i. tt) (λ x q b i. tt) (λ x b i. tt) (λ n f t l i. (omega (arith, l), up_spot n f l i.1, up_goal n t l i.2)) x (below es x h) h

  pub up_ready : (x : Tree) → IsReady es x → IsReady (e ∷ es) x
  up_ready x h = record { within = up_within x h.within; normal = up_normal e es x (below es x h.within) h.normal }

  up_permit : (b : Block) (x : Tree) → IsBelow (net_count es) x → permit (permits_of es) b x ≡ permit (permits_of (e ∷ es)) b x
  up_permit b x h =
      same_permit (permits_of es) (permits_of (e ∷ es)) (net_count es)
      (λ n l. let p : (n == net_count es) ≡ false = not_same n (net_count es) l in rw p refl)
      (λ n l. let p : (n == net_count es) ≡ false = not_same n (net_count es) l in rw p refl)
      (λ n l m c. let p : (n == net_count es) ≡ false = not_same n (net_count es) l in rw p refl)
      (λ n l. let p : (n == net_count es) ≡ false = not_same n (net_count es) l in rw p refl) x h b

  up_rank : (x : Tree) → IsBelow (net_count es) x → rank_in es x ≡ rank_in (e ∷ es) x
  up_rank x h = same_rank (net_rank es) (net_rank (e ∷ es)) (net_count es) (new_rank e es) x h

nth_each : (P : Tree → Type 0) (xs : List Tree) (m : ℕ) → m < length xs → Each P xs → P (nth_tree xs m)
nth_each P [] m l h = absurd (omega arith)
nth_each P (x ∷ xs) zero l h = h.0
nth_each P (x ∷ xs) (suc m) l h = nth_each P xs m (omega arith) h.1

nth_permit : (es : Tables) (b : Block) (xs : List Tree) (m : ℕ) → m < length xs → permit_nth (permits_of es) b xs m ≡ permit (permits_of es) b (nth_tree xs m)
nth_permit es b [] m l = absurd (omega arith)
nth_permit es b (x ∷ xs) zero l = refl
nth_permit es b (x ∷ xs) (suc m) l = nth_permit es b xs m (omega arith)

nth_rank : (es : Tables) (xs : List Tree) (m : ℕ) → m < length xs → rank_in es (nth_tree xs m) ≤ sum_rank (net_rank es) xs
nth_rank es [] m l = absurd (omega arith)
nth_rank es (x ∷ xs) zero l = omega arith
nth_rank es (x ∷ xs) (suc m) l = omega (arith, nth_rank es xs m (omega arith))

-- what holds of a node term
pub record IsNode (w : Tables) (n m : ℕ) (x : Tree) : Type 0 where
  pub ready : IsReady w x
  pub kept : (c : List ℕ) → (permits_of w).kept n m c ≡ permit (permits_of w) (only c) x
  pub rank : rank_in w x ≤ net_rank w n

module _ (e : NetEntry) (es : Tables) (n m : ℕ) where
  -- a node of the newest net
  this_node : (n == net_count es) ≡ true → m < length (nodes_of (e ∷ es) n) → AreReadyTables (e ∷ es) → IsNode (e ∷ es) n m (node_of (e ∷ es) n m)
  this_node p l h =
      let q : length (nodes_of (e ∷ es) n) ≡ length e.nodes = ap (λ t. length (choose t (count_from 0 e.nodes) (nodes_of es n))) p ∙ count_length 0 e.nodes in
      let lt : m < length e.nodes = omega arith in
      let x : Tree = nth_tree e.nodes m in
      let r : IsReady es x = nth_each (IsReady es) e.nodes m lt h.1 in
      let b : IsBelow (net_count es) x = below es x r.within in
      let own : node_of (e ∷ es) n m ≡ x = ap (λ t. choose t x (node_of es n m)) p in
      let here : net_rank (e ∷ es) n ≡ sum_rank (net_rank es) e.nodes = ap (λ t. choose t (sum_rank (net_rank es) e.nodes) (net_rank es n)) p in
      let same : rank_in es x ≡ rank_in (e ∷ es) x = up_rank e es x b in
      let below_sum : rank_in es x ≤ sum_rank (net_rank es) e.nodes = nth_rank es e.nodes m lt in
      let at : IsNode (e ∷ es) n m x = record {
        ready = up_ready e es x r;
        kept = λ c. ap (λ t. choose t (permit_nth (permits_of es) (only c) e.nodes m) ((permits_of es).kept n m c)) p ∙ (nth_permit es (only c) e.nodes m lt ∙ up_permit e es (only c) x b);
        rank = omega arith;
      } in
      subst (λ (y : Tree). IsNode (e ∷ es) n m y) (sym own) at

  -- a node of an older net
  old_node : (n == net_count es) ≡ false → IsNode es n m (node_of es n m) → IsNode (e ∷ es) n m (node_of (e ∷ es) n m)
  old_node p i =
      let x : Tree = node_of es n m in
      let b : IsBelow (net_count es) x = below es x i.ready.within in
      let own : node_of (e ∷ es) n m ≡ x = ap (λ t. choose t (nth_tree e.nodes m) x) p in
      let here : net_rank (e ∷ es) n ≡ net_rank es n = ap (λ t. choose t (sum_rank (net_rank es) e.nodes) (net_rank es n)) p in
      let same : rank_in es x ≡ rank_in (e ∷ es) x = up_rank e es x b in
      let was : rank_in es x ≤ net_rank es n = i.rank in
      let at : IsNode (e ∷ es) n m x = record {
        ready = up_ready e es x i.ready;
        kept = λ c. ap (λ t. choose t (permit_nth (permits_of es) (only c) e.nodes m) ((permits_of es).kept n m c)) p ∙ (i.kept c ∙ up_permit e es (only c) x b);
        rank = omega arith;
      } in
      subst (λ (y : Tree). IsNode (e ∷ es) n m y) (sym own) at

  old_size : (n == net_count es) ≡ false → m < length (nodes_of (e ∷ es) n) → m < length (nodes_of es n)
  old_size p l = let q : length (nodes_of (e ∷ es) n) ≡ length (nodes_of es n) = ap (λ t. length (choose t (count_from 0 e.nodes) (nodes_of es n))) p in omega arith

pub node-is : (w : Tables) → AreReadyTables w → (n m : ℕ) → n < net_count w → m < length (nodes_of w n) → IsNode w n m (node_of w n m)
node-is [] h n m l k = absurd (omega arith)
node-is (e ∷ es) h n m l k = go (n == net_count es) refl (λ p. node-is es h.0 n m (less_or_same n (net_count es) l p) (old_size e es n m p k))
  where
    go : (t : Bool) → (n == net_count es) ≡ t → ((n == net_count es) ≡ false → IsNode es n m (node_of es n m)) → IsNode (e ∷ es) n m (node_of (e ∷ es) n m)
    go true p f = this_node e es n m p k h
    go false p f = old_node e es n m p (f p)

pub sizes-are : (w : Tables) → AreReadyTables w → (n : ℕ) → n < net_count w → size_of (net_of w n) ≡ length (nodes_of w n)
sizes-are [] h n l = absurd (omega arith)
sizes-are (e ∷ es) h n l = go (n == net_count es) refl (λ p. sizes-are es h.0 n (less_or_same n (net_count es) l p))
  where
    go : (t : Bool) → (n == net_count es) ≡ t → ((n == net_count es) ≡ false → size_of (net_of es n) ≡ length (nodes_of es n)) → size_of (net_of (e ∷ es) n) ≡ length (nodes_of (e ∷ es) n)
    go true p f = ap (λ t. size_of (choose t e.net (net_of es n))) p ∙ (h.2 ∙ sym (ap (λ t. length (choose t (count_from 0 e.nodes) (nodes_of es n))) p ∙ count_length 0 e.nodes))
    go false p f = ap (λ t. size_of (choose t e.net (net_of es n))) p ∙ (f p ∙ sym (ap (λ t. length (choose t (count_from 0 e.nodes) (nodes_of es n))) p))
