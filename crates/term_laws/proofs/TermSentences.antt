-- The laws of permission and taking, for every tidy term over tidy tables.
use Rattle.std.specs.Prelude.{ℕ, zero, suc, ◌+◌, ◌<◌, ◌≤◌, ◌==◌, Bool, true, false, List, [], ◌∷◌, ◌≡◌, Option, Some, refl, length}
use Rattle.std.proofs.Common.{ap, arith}
use Rattle.chart_term.specs.NormalForms.{NetPermits, only}
use Rattle.chart_term.specs.Properties.{EveryOf, EveryRow, IsBelow}
use Rattle.chart_term.specs.Tables.{NetEntry, net_count, choose}
use Rattle.chart_term.specs.Terms.{Block, Tree, Nil, Event, Join, Choice, Tied, Loop, Walk, Trees, none, more, Row, ends, gap, turn}
use Rattle.term_laws.specs.Permission.{permits_of, permit_nth}
use Rattle.term_laws.specs.Soundness.{AreTidyTables}
use Rattle.term_laws.proofs.Ranking.{rank, ranks, row_rank, permit_rank}
use Rattle.term_laws.proofs.Everywhere.{permit_every}
use Rattle.term_laws.proofs.TidyTables.{kept_has, not_same, nth_has, same_is}
use Rattle.term_laws.proofs.Keeping.{at_some}

abbrev pub sum_rank : (ℕ → ℕ) → List Tree → ℕ
sum_rank f [] = 0
sum_rank f (x ∷ xs) = rank f x + sum_rank f xs

abbrev pub net_rank : List NetEntry → ℕ → ℕ
net_rank [] n = 0
net_rank (e ∷ es) n = choose (n == net_count es) (sum_rank (net_rank es) e.nodes) (net_rank es n)

module _ (f g : ℕ → ℕ) (top : ℕ) (alike : (n : ℕ) → n < top → f n ≡ g n) where
  mutual
    pub same_rank : (x : Tree) → IsBelow top x → rank f x ≡ rank g x
    same_rank Nil h = refl
    same_rank (Event e) h = refl
    same_rank (Join m xs) h = ap (λ n. 1 + n) (same_ranks xs h)
    same_rank (Choice xs) h = ap (λ n. 1 + n) (same_ranks xs h)
    same_rank (Tied x q) h = ap (λ n. 1 + n + length q) (same_rank x h)
    same_rank (Loop x lo hi r) h = λ i. 1 + same_rank x h.0 i + same_row r h.1 i
    same_rank (Walk n s t c) h = ap (λ n. 1 + n) (alike n h)

    same_ranks : (xs : Trees) → EveryOf (λ e. Unit {0}) (λ m. m < top) xs → ranks f xs ≡ ranks g xs
    same_ranks none h = refl
    same_ranks (more x xs) h = λ i. same_rank x h.0 i + same_ranks xs h.1 i

    same_row : (r : Row) → EveryRow (λ e. Unit {0}) (λ m. m < top) r → row_rank f r ≡ row_rank g r
    same_row ends h = refl
    same_row (gap c r) h = ap (λ n. 1 + n) (same_row r h)
    same_row (turn x r) h = λ i. same_rank x h.0 i + same_row r h.1 i

nth_rank : (k : NetPermits) (f : ℕ → ℕ) (b : Block) (xs : List Tree) (m : ℕ) (x : Tree) → permit_nth k b xs m ≡ Some x → rank f x ≤ sum_rank f xs
nth_rank k f b [] m x q = cc
nth_rank k f b (y ∷ ys) zero x q = omega (arith, permit_rank k f b y x q)
nth_rank k f b (y ∷ ys) (suc m) x q = omega (arith, nth_rank k f b ys m x q)

known_step : (t : Bool) (n top : ℕ) (a b : Option Tree) (x : Tree) → (n == top) ≡ t → (b ≡ Some x → n < top) → choose t a b ≡ Some x → n < suc top
known_step true n top a b x p f q = same_is n top p
known_step false n top a b x p f q = let l : n < top = f q in omega arith

known_node : (es : List NetEntry) (n m : ℕ) (c : List ℕ) (x : Tree) → (permits_of es).kept n m c ≡ Some x → n < net_count es
known_node [] n m c x q = cc
known_node (e ∷ es) n m c x q = known_step (n == net_count es) n (net_count es) (permit_nth (permits_of es) (only c) e.nodes m) ((permits_of es).kept n m c) x refl (known_node es n m c x) q

pub new_rank : (e : NetEntry) (es : List NetEntry) (n : ℕ) → n < net_count es → net_rank es n ≡ net_rank (e ∷ es) n
new_rank e es n l = let p : (n == net_count es) ≡ false = not_same n (net_count es) l in rw p

rank_step : (t : Bool) (a b : Option Tree) (u v : ℕ) (f : Tree → ℕ) (x : Tree) → (a ≡ Some x → f x ≤ u) → (b ≡ Some x → f x ≤ v) → choose t a b ≡ Some x → f x ≤ choose t u v
rank_step true a b u v f x g h q = g q
rank_step false a b u v f x g h q = h q

pub kept_below : (o : Bool) (es : List NetEntry) → AreTidyTables es → (n m : ℕ) (c : List ℕ) (x : Tree) → (permits_of es).kept n m c ≡ Some x → IsBelow (net_count es) x
kept_below o es h n m c x q = at_some (IsBelow (net_count es)) ((permits_of es).kept n m c) x q (kept_has o es h n (known_node es n m c x q) m c)

pub low_nth : (o : Bool) (e : NetEntry) (es : List NetEntry) → AreTidyTables (e ∷ es) → (m : ℕ) (c : List ℕ) (x : Tree) → permit_nth (permits_of es) (only c) e.nodes m ≡ Some x → IsBelow (net_count es) x
low_nth o e es h m c x q =
    at_some (IsBelow (net_count es)) (permit_nth (permits_of es) (only c) e.nodes m) x q
    (nth_has (IsBelow (net_count es)) (permits_of es) (only c) e.nodes
    (permit_every (λ e. Unit {0}) (λ m. m < net_count es) (permits_of es) (only c)) h.2 m)

pub kept_rank : (o : Bool) (es : List NetEntry) → AreTidyTables es → (n m : ℕ) (c : List ℕ) (x : Tree) → (permits_of es).kept n m c ≡ Some x → rank (net_rank es) x ≤ net_rank es n
kept_rank o [] h n m c x q = cc
kept_rank o (e ∷ es) h n m c x q =
    rank_step (n == net_count es) (permit_nth (permits_of es) (only c) e.nodes m) ((permits_of es).kept n m c) (sum_rank (net_rank es) e.nodes) (net_rank es n) (rank (net_rank (e ∷ es))) x
    (λ r. rw (← same_rank (net_rank es) (net_rank (e ∷ es)) (net_count es) (new_rank e es) x (low_nth o e es h m c x r)) (nth_rank (permits_of es) (net_rank es) (only c) e.nodes m x r))
    (λ r. rw (← same_rank (net_rank es) (net_rank (e ∷ es)) (net_count es) (new_rank e es) x (kept_below o es h.0 n m c x r)) (kept_rank o es h.0 n m c x r)) q
