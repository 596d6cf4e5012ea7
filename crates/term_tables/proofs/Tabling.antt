-- The tables of stored nets: what stands at a number, and one net more.
use Rattle.std.specs.Prelude.{slice_get, Some, ◌==◌}
use Rattle.std.proofs.Common.{◌≡◌, ℕ, zero, suc, ◌+◌, ◌<◌, List, [], ◌∷◌, ◌++◌, refl, ap, sym, ◌∙◌, arith, length}
use Rattle.std.proofs.lemmas.Bool.{eq-eqb, ne_eqb}
use Rattle.hmsc_graph.specs.Nets.{size_of}
use Rattle.term_tables.specs.declared.nets.StoredNet.{StoredNet}
use Rattle.term_tables.specs.NetTables.{entry_of, entries_onto, tables_of, AreSized}
use Rattle.chart_term.specs.Tables.{Tables, NetEntry, choose, count_from, nth_tree, net_count, net_of, nodes_of, node_of}
use Rattle.chart_term.specs.Terms.{Tree}
use Rattle.chart_term.proofs.Lists.{count_length}

entries_onto-snoc : (es : List StoredNet) (e : StoredNet) (t : Tables) → entries_onto (es ++ e ∷ []) t ≡ entry_of e ∷ entries_onto es t
entries_onto-snoc [] e t = refl
entries_onto-snoc (d ∷ es) e t = entries_onto-snoc es e (entry_of d ∷ t)

-- one net more is the newest
pub tables_of-snoc : (es : List StoredNet) (e : StoredNet) → tables_of (es ++ e ∷ []) ≡ entry_of e ∷ tables_of es
tables_of-snoc es e = entries_onto-snoc es e []

count_onto : (es : List StoredNet) (t : Tables) → net_count (entries_onto es t) ≡ length es + net_count t
count_onto [] t = omega arith
count_onto (e ∷ es) t = let r = count_onto es (entry_of e ∷ t) in omega (arith, r)

pub count_of : (es : List StoredNet) → net_count (tables_of es) ≡ length es
count_of es = let r = count_onto es [] in omega (arith, r)

-- a number that the tables have is one of a stored net
pub number_within : (es : List StoredNet) (t : Tables) (n : ℕ) → tables_of es ≡ t → n < net_count t → n < length es
number_within es t n p h = let count = count_of es in let seen : net_count (tables_of es) ≡ net_count t = ap net_count p in omega (arith, count, seen, h)

pub sized-snoc : (es : List StoredNet) (e : StoredNet) → AreSized es → size_of e.net ≡ length e.nodes → AreSized (es ++ e ∷ [])
sized-snoc [] e h p = (p, tt)
sized-snoc (d ∷ es) e h p = (h.0, sized-snoc es e h.1 p)

pub sized_at : (es : List StoredNet) (i : ℕ) (e : StoredNet) → slice_get es i ≡ Some e → AreSized es → size_of e.net ≡ length e.nodes
sized_at [] i e p h = cc
sized_at (d ∷ es) zero e p h = let q : d ≡ e = cc in rw (← q) h.0
sized_at (d ∷ es) (suc i) e p h = sized_at es i e p h.1

-- what is looked up by a net's number, where each net has it from its own entry and those of older nets
module _ {A : Type 0} (look : Tables → ℕ → A) (own : NetEntry → Tables → A) (at_front : (e : NetEntry) (es : Tables) (n : ℕ) → look (e ∷ es) n ≡ choose (n == net_count es) (own e es) (look es n)) where
  look-older : (es : List StoredNet) (t : Tables) (n : ℕ) → n < net_count t → look (entries_onto es t) n ≡ look t n
  look-older [] t n h = refl
  look-older (e ∷ es) t n h = look-older es (entry_of e ∷ t) n (omega (arith, h)) ∙ at_front (entry_of e) t n ∙ ap (λ b. choose b (own (entry_of e) t) (look t n)) (ne_eqb n (net_count t) (omega (arith, h)))

  look-own : (es : List StoredNet) (t : Tables) (e : StoredNet) → look (entries_onto es (entry_of e ∷ t)) (net_count t) ≡ own (entry_of e) t
  look-own es t e = look-older es (entry_of e ∷ t) (net_count t) (omega arith) ∙ at_front (entry_of e) t (net_count t) ∙ ap (λ b. choose b (own (entry_of e) t) (look t (net_count t))) (eq-eqb (net_count t) (net_count t) refl)

  -- the entry of a number, and those of the older nets
  pub look-onto : (es : List StoredNet) (i : ℕ) (e : StoredNet) (t : Tables) → slice_get es i ≡ Some e → (o : Tables) × (look (entries_onto es t) (i + net_count t) ≡ own (entry_of e) o)
  look-onto [] i e t p = cc
  look-onto (d ∷ es) zero e t p =
      let q : d ≡ e = cc in
      let k : zero + net_count t ≡ net_count t = omega arith in
      (t, ap (look (entries_onto (d ∷ es) t)) k ∙ look-own es t d ∙ ap (λ x. own (entry_of x) t) q)
  look-onto (d ∷ es) (suc i) e t p =
      let (o, r) = look-onto es i e (entry_of d ∷ t) p in
      let k : suc i + net_count t ≡ i + net_count (entry_of d ∷ t) = omega arith in
      (o, ap (look (entries_onto (d ∷ es) t)) k ∙ r)

plus_none : (i : ℕ) → i ≡ i + net_count []
plus_none i = omega arith

pub net_at : (es : List StoredNet) (i : ℕ) (e : StoredNet) → slice_get es i ≡ Some e → e.net ≡ net_of (tables_of es) i
net_at es i e p = let (o, r) = look-onto net_of (λ d t. d.net) (λ d t n. refl) es i e [] p in sym (ap (net_of (tables_of es)) (plus_none i) ∙ r)

pub nodes_at : (es : List StoredNet) (i : ℕ) (e : StoredNet) → slice_get es i ≡ Some e → nodes_of (tables_of es) i ≡ count_from 0 e.nodes
nodes_at es i e p = let (o, r) = look-onto nodes_of (λ d t. count_from 0 d.nodes) (λ d t n. refl) es i e [] p in ap (nodes_of (tables_of es)) (plus_none i) ∙ r

pub nodes_length : (es : List StoredNet) (i : ℕ) (e : StoredNet) → slice_get es i ≡ Some e → length (nodes_of (tables_of es) i) ≡ length e.nodes
nodes_length es i e p = ap length (nodes_at es i e p) ∙ count_length 0 e.nodes

nth-at : (xs : List Tree) (m : ℕ) (x : Tree) → slice_get xs m ≡ Some x → nth_tree xs m ≡ x
nth-at [] m x p = cc
nth-at (y ∷ xs) zero x p = let q : y ≡ x = cc in q
nth-at (y ∷ xs) (suc m) x p = nth-at xs m x p

pub node_at : (es : List StoredNet) (i : ℕ) (e : StoredNet) (m : ℕ) (x : Tree) → slice_get es i ≡ Some e → slice_get e.nodes m ≡ Some x → x ≡ node_of (tables_of es) i m
node_at es i e m x p q =
    let (o, r) = look-onto (λ t n. node_of t n m) (λ d t. nth_tree d.nodes m) (λ d t n. refl) es i e [] p in
    sym (ap (λ n. node_of (tables_of es) n m) (plus_none i) ∙ r ∙ nth-at e.nodes m x q)

pub ruleset tabling = (tables_of-snoc, count_of, sized-snoc)
