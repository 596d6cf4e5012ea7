-- The laws of terms, from the sentences on tidy terms over tidy tables.
use Rattle.std.specs.Prelude.{ℕ, ◌<◌, ◌==◌, [], ◌∷◌}
use Rattle.std.proofs.Common.{arith}
use Rattle.chart_term.specs.Tables.{Tables, net_count, nth_tree, node_of, terms_over}
use Rattle.chart_term.specs.Terms.{Tree, Nil, Event, Join, Choice, Tied, Loop, Walk, Trees, none, more, Row, ends, gap, turn}
use Rattle.term_laws.specs.Laws.{PermitIsExact, AfterIsExact, MayEndIsExact, RunsAreLinearOrders}
use Rattle.term_laws.specs.Permission.{permits_of}
use Rattle.term_laws.specs.Soundness.{AreTidyTables, IsTidyOver, AreTidy, IsTidyRow, NetLacks, IsKnown}
use Rattle.term_laws.proofs.Ending.{Counts, CountsAll, CountsRow, end_sound, end_whole}
use Rattle.term_laws.proofs.Sentences.{permission, taking_sound, taking_whole}
use Rattle.term_laws.proofs.TermSentences.{net_rank, kept_rank}
use Rattle.term_laws.proofs.TidyTables.{nets_good, less_or_same, picked, each_nth}
use Rattle.chart_term.proofs.Arranging.{runs_linear, linear_run}

pub permit_is_exact : PermitIsExact
permit_is_exact = record {
  leaves = λ o w x b h g f. permission (permits_of w) (node_of w) o (NetLacks w) (IsKnown w) (nets_good o w h) (net_rank w) (kept_rank o w h) x g b f;
}

pub after_is_exact : AfterIsExact
after_is_exact = record {
  sound = λ o w x y e h g a. taking_sound (permits_of w) (node_of w) o (NetLacks w) (IsKnown w) (nets_good o w h) (net_rank w) (kept_rank o w h) a g;
  whole = λ o w x s e t h g a k. let (y, f, u, p, q) = taking_whole (permits_of w) (node_of w) o (NetLacks w) (IsKnown w) (nets_good o w h) (net_rank w) (kept_rank o w h) x g s e t a k in
      record { term = y; after = f; pattern = u; has = p; same = q };
}

-- the lower count of each loop is at most the upper, also in the terms of the nets
module _ (N : ℕ → Type 0) (es : Tables) (all : Tables) (known : (n : ℕ) → n < net_count es → N n) where
  mutual
    counts : (x : Tree) → IsTidyOver es x → Counts (terms_over all) N x
    counts Nil h = tt
    counts (Event e) h = tt
    counts (Join m xs) h = counts_all xs h
    counts (Choice xs) h = counts_all xs h
    counts (Tied x q) h = counts x h.0
    counts (Loop x lo hi r) h = (counts x h.0, counts_row r h.1, h.2)
    counts (Walk n f t c) h = known n h

    counts_all : (xs : Trees) → AreTidy (NetLacks es) (IsKnown es) xs → CountsAll (terms_over all) N xs
    counts_all none h = tt
    counts_all (more x xs) h = (counts x h.0, counts_all xs h.1)

    counts_row : (r : Row) → IsTidyRow (NetLacks es) (IsKnown es) r → CountsRow (terms_over all) N r
    counts_row ends h = tt
    counts_row (gap c r) h = counts_row r h
    counts_row (turn x r) h = (counts x h.0, counts_row r h.1)

node_counts : (N : ℕ → Type 0) (all es : Tables) → AreTidyTables es → ((n : ℕ) → n < net_count es → N n) → (n : ℕ) → n < net_count es → (m : ℕ) → Counts (terms_over all) N (node_of es n m)
node_counts N all [] h known n l m = absurd (omega arith)
node_counts N all (e ∷ es) h known n l m =
    picked (Counts (terms_over all) N) (n == net_count es) (nth_tree e.nodes m) (node_of es n m)
    (λ p. counts N es all (λ i j. known i (omega arith)) (nth_tree e.nodes m) (each_nth (IsTidyOver es) e.nodes tt h.1 m))
    (λ p. node_counts N all es h.0 (λ i j. known i (omega arith)) n (less_or_same n (net_count es) l p) m)

pub may_end_is_exact : MayEndIsExact
may_end_is_exact = record {
  exact = λ w x h g. record {
    to = λ a. let (s, p, q) = end_sound (terms_over w) (IsKnown w) (λ n m k. node_counts (IsKnown w) w w h (λ i j. j) n k m) a (counts (IsKnown w) w w (λ i j. j) x g) in
        record { pattern = s; has = p; empty = q };
    from = λ a. end_whole (terms_over w) a.has a.empty;
  };
}

pub runs_are_linear_orders : RunsAreLinearOrders
runs_are_linear_orders = record { exact = λ s run. record { to = λ h. runs_linear h; from = λ h. linear_run s run h } }
