-- The facts of lists of parts, and of terms made of them.
use Rattle.std.proofs.Common.{◌≡◌, ℕ, ◌+◌, ◌<◌, Bool, false, ◌||◌, ◌&&◌, not, List, [], ◌∷◌, ◌++◌, refl, ap, ap₂, subst, sym, ◌∙◌, arith, length, take, get_or, append_assoc, append-nil, min, max, nat_eq, Option, Some, None}
use Rattle.std.specs.List.{list_any}
use Rattle.chart_term.specs.declared.term.RowPart.{RowPart}
use Rattle.chart_term.specs.declared.term.RowPart.TheVariants as part
use Rattle.chart_term.specs.Rows.{part_of, parts_of}
use Rattle.std.proofs.lemmas.List.Folds.{list_any-append}
use Rattle.msc_base.specs.Stored.{most_stored}
use Rattle.bit_sets.specs.Blocks.{BlockValue}
use Rattle.list_facts.proofs.Bools.{or_assoc, or_false, or_comm}
use Rattle.term_facts.specs.declared.facts.Facts.{Facts}
use Rattle.term_facts.specs.declared.facts.Span.{Span}
use Rattle.chart_term.specs.Labels.{labels, labels_all, labels_row}
use Rattle.chart_term.specs.NormalForms.{begun, numbers, numbers_all, numbers_row}
use Rattle.chart_term.specs.PartLists.{AreTurns}
use Rattle.term_facts.specs.NodeFacts.{AreFacts, Adds, facts_miss, span_of, lies_in, numbers_code, wider}
use Rattle.chart_term.specs.Facts.{HasFacts, RowHasFacts, holds_walk, any_walk, row_walk, instances, instances_all, instances_row, misses, row_misses}
use Rattle.chart_term.specs.Terms.{Tree, Loop, Row, trees, weight, weights, row_weight, Part, Gap, Turn, row_of, has}
use Rattle.term_facts.proofs.Coding.{numbers_code-turned}
use Rattle.term_facts.proofs.Members.{facts_added, span_of-append}
use Rattle.chart_term.proofs.Turns.{parts_next}

row_weight-append : (ps qs : List Part) → row_weight (row_of (ps ++ qs)) ≡ row_weight (row_of ps) + row_weight (row_of qs)
row_weight-append [] qs = omega arith
row_weight-append (Gap c ∷ ps) qs = omega (arith, row_weight-append ps qs)
row_weight-append (Turn x ∷ ps) qs = omega (arith, row_weight-append ps qs)

row_walk-append : (ps qs : List Part) → row_walk (row_of (ps ++ qs)) ≡ (row_walk (row_of ps) || row_walk (row_of qs))
row_walk-append [] qs = refl
row_walk-append (Gap c ∷ ps) qs = row_walk-append ps qs
row_walk-append (Turn x ∷ ps) qs = ap (λ b. holds_walk x || b) (row_walk-append ps qs) ∙ sym (or_assoc (holds_walk x) (row_walk (row_of ps)) (row_walk (row_of qs)))

row_instances-append : (ps qs : List Part) → instances_row (row_of (ps ++ qs)) ≡ instances_row (row_of ps) ++ instances_row (row_of qs)
row_instances-append [] qs = refl
row_instances-append (Gap c ∷ ps) qs = row_instances-append ps qs
row_instances-append (Turn x ∷ ps) qs = ap (λ l. instances x ++ l) (row_instances-append ps qs) ∙ sym (append_assoc (instances x) (instances_row (row_of ps)) (instances_row (row_of qs)))

pub row_numbers-append : (ps qs : List Part) → numbers_row (row_of (ps ++ qs)) ≡ numbers_row (row_of ps) ++ numbers_row (row_of qs)
row_numbers-append [] qs = refl
row_numbers-append (Gap c ∷ ps) qs = row_numbers-append ps qs
row_numbers-append (Turn x ∷ ps) qs = ap (λ l. numbers x ++ l) (row_numbers-append ps qs) ∙ sym (append_assoc (numbers x) (numbers_row (row_of ps)) (numbers_row (row_of qs)))

row_labels-append : (ps qs : List Part) → labels_row (row_of (ps ++ qs)) ≡ labels_row (row_of ps) ++ labels_row (row_of qs)
row_labels-append [] qs = refl
row_labels-append (Gap c ∷ ps) qs = row_labels-append ps qs
row_labels-append (Turn x ∷ ps) qs = ap (λ l. labels x ++ l) (row_labels-append ps qs) ∙ sym (append_assoc (labels x) (labels_row (row_of ps)) (labels_row (row_of qs)))

-- facts stay where what they are of is the same
pub moved : (v w : ℕ) (a b : Bool) (ps qs ms ns ks ls : List ℕ) (f : Facts) → v ≡ w → a ≡ b → ps ≡ qs → ms ≡ ns → ks ≡ ls → AreFacts v a ps ms ks f → AreFacts w b qs ns ls f
moved v w a b ps qs ms ns ks ls f p q r s t facts = record {
  weight = rw (← p) facts.weight;
  trail = facts.trail ∙ q;
  instances = λ n. facts.instances n ∙ ap (λ l. has l n) r;
  span = facts.span ∙ ap span_of s;
  labels = facts.labels ∙ ap span_of t;
  code = facts.code ∙ ap numbers_code s;
}

-- the parts of two lists
pub have_both : (ps qs : List Part) (f g h : Facts) → RowHasFacts (row_of ps) f → RowHasFacts (row_of qs) g → Adds f g h → RowHasFacts (row_of (ps ++ qs)) h
have_both ps qs f g h p q s =
    let v = row_weight (row_of ps) in
    let w = row_weight (row_of qs) in
    let a = row_walk (row_of ps) in
    let b = row_walk (row_of qs) in
    moved (v + w) (row_weight (row_of (ps ++ qs))) (a || b) (row_walk (row_of (ps ++ qs))) (instances_row (row_of ps) ++ instances_row (row_of qs)) (instances_row (row_of (ps ++ qs))) (numbers_row (row_of ps) ++ numbers_row (row_of qs)) (numbers_row (row_of (ps ++ qs))) (labels_row (row_of ps) ++ labels_row (row_of qs)) (labels_row (row_of (ps ++ qs))) h
    (sym (row_weight-append ps qs)) (sym (row_walk-append ps qs)) (sym (row_instances-append ps qs)) (sym (row_numbers-append ps qs)) (sym (row_labels-append ps qs))
    (facts_added v w a b (instances_row (row_of ps)) (instances_row (row_of qs)) (numbers_row (row_of ps)) (numbers_row (row_of qs)) (labels_row (row_of ps)) (labels_row (row_of qs)) f g h p q s)

-- a turn has the facts of its term
turn_facts : (x : Tree) (f : Facts) → HasFacts x f → RowHasFacts (row_of (Turn x ∷ [])) f
turn_facts x f =
    moved (weight x) (row_weight (row_of (Turn x ∷ []))) (holds_walk x) (holds_walk x || false) (instances x) (instances x ++ []) (numbers x) (numbers x ++ []) (labels x) (labels x ++ []) f
    (omega arith) (sym (or_false (holds_walk x))) (sym (append-nil (instances x))) (sym (append-nil (numbers x))) (sym (append-nil (labels x)))

-- one more begun turn
row_facts-turn : (ps : List Part) (x : Tree) (f g h : Facts) → RowHasFacts (row_of ps) f → HasFacts x g → Adds f g h → RowHasFacts (row_of (ps ++ Turn x ∷ [])) h
row_facts-turn ps x f g h p q s = have_both ps (Turn x ∷ []) f g h p (turn_facts x g q) s

-- one more gap
row_facts-gap : (ps : List Part) (c : List ℕ) (f h : Facts) → RowHasFacts (row_of ps) f → h ≡ record f { weight = min (f.weight + 1) most_stored } → RowHasFacts (row_of (ps ++ Gap c ∷ [])) h
row_facts-gap ps c f h p e = subst (RowHasFacts (row_of (ps ++ Gap c ∷ []))) (sym e) (record {
  weight = omega (arith, p.weight, row_weight-append ps (Gap c ∷ []));
  trail = p.trail ∙ sym (row_walk-append ps (Gap c ∷ []) ∙ or_false (row_walk (row_of ps)));
  instances = λ n. p.instances n ∙ ap (λ l. has l n) (sym (row_instances-append ps (Gap c ∷ []) ∙ append-nil (instances_row (row_of ps))));
  span = p.span ∙ ap span_of (sym (row_numbers-append ps (Gap c ∷ []) ∙ append-nil (numbers_row (row_of ps))));
  labels = p.labels ∙ ap span_of (sym (row_labels-append ps (Gap c ∷ []) ∙ append-nil (labels_row (row_of ps))));
  code = p.code ∙ ap numbers_code (sym (row_numbers-append ps (Gap c ∷ []) ∙ append-nil (numbers_row (row_of ps))));
})

-- tests that agree
any_same : (p q : ℕ → Bool) (ns : List ℕ) → ((n : ℕ) → p n ≡ q n) → list_any p ns ≡ list_any q ns
any_same p q [] f = refl
any_same p q (n ∷ ns) f = ap₂ (λ a b. a || b) (f n) (any_same p q ns f)

-- the stored facts tell whether a block misses the term
pub facts_miss_is : (b : BlockValue) (x : Tree) (f : Facts) → HasFacts x f → facts_miss b f ≡ misses b x
facts_miss_is b x f h =
    ap₂ (λ m n. m && n)
    (ap₂ (λ m n. not m && not n) h.trail (any_same (has f.instances.instances) (has (instances x)) b.instances h.instances))
    (ap (λ s. not (list_any (lies_in s) b.events)) h.span)

-- those of a list tell it of the list
pub row_miss_is : (b : BlockValue) (ps : List Part) (f : Facts) → RowHasFacts (row_of ps) f → facts_miss b f ≡ row_misses b (row_of ps)
row_miss_is b ps f h =
    ap₂ (λ m n. m && n)
    (ap₂ (λ m n. not m && not n) h.trail (any_same (has f.instances.instances) (has (instances_row (row_of ps))) b.instances h.instances))
    (ap (λ s. not (list_any (lies_in s) b.events)) h.span)

wider_turned : (r s : Option Span) → wider r s ≡ wider s r
wider_turned None None = refl
wider_turned None (Some s) = refl
wider_turned (Some r) None = refl
wider_turned (Some r) (Some s) = λ i. Some (record { least = least_turned i; greatest = greatest_turned i })
  where
    least_turned : min r.least s.least ≡ min s.least r.least
    least_turned = omega arith

    greatest_turned : max r.greatest s.greatest ≡ max s.greatest r.greatest
    greatest_turned = omega arith

-- the facts of a loop, from those of its row and its operand
pub loop_facts : (x : Tree) (lo : ℕ) (hi : Option ℕ) (r : Row) (f g h k : Facts) → RowHasFacts r f → HasFacts x g → Adds f g h → k ≡ record h { weight = min (h.weight + 1) most_stored } → HasFacts (Loop x lo hi r) k
loop_facts x lo hi r f g h k p q s e =
    let both : AreFacts (row_weight r + weight x) (row_walk r || holds_walk x) (instances_row r ++ instances x) (numbers_row r ++ numbers x) (labels_row r ++ labels x) h = facts_added (row_weight r) (weight x) (row_walk r) (holds_walk x) (instances_row r) (instances x) (numbers_row r) (numbers x) (labels_row r) (labels x) f g h p q s in
    subst (HasFacts (Loop x lo hi r)) (sym e) (record {
      weight = omega (arith, both.weight);
      trail = both.trail ∙ or_comm (row_walk r) (holds_walk x);
      instances = λ n. both.instances n ∙ list_any-append (λ m. nat_eq m n) (instances_row r) (instances x) ∙ or_comm (has (instances_row r) n) (has (instances x) n) ∙ sym (list_any-append (λ m. nat_eq m n) (instances x) (instances_row r));
      span = both.span ∙ span_turned (numbers_row r) (numbers x);
      labels = both.labels ∙ span_turned (labels_row r) (labels x);
      code = both.code ∙ numbers_code-turned (numbers_row r) (numbers x);
    })
  where
    span_turned : (ms ns : List ℕ) → span_of (ms ++ ns) ≡ span_of (ns ++ ms)
    span_turned ms ns = span_of-append ms ns ∙ wider_turned (span_of ms) (span_of ns) ∙ sym (span_of-append ns ms)

-- the facts of turns are those of their terms, but for one more of weight
turns-weight : (ps : List Part) → AreTurns ps → row_weight (row_of ps) ≡ weights (trees (begun ps))
turns-weight [] h = refl
turns-weight (Gap c ∷ ps) h = cc
turns-weight (Turn x ∷ ps) h = ap (λ n. weight x + n) (turns-weight ps h)

turns-walk : (ps : List Part) → row_walk (row_of ps) ≡ any_walk (trees (begun ps))
turns-walk [] = refl
turns-walk (Gap c ∷ ps) = turns-walk ps
turns-walk (Turn x ∷ ps) = ap (λ b. holds_walk x || b) (turns-walk ps)

turns-instances : (ps : List Part) → instances_row (row_of ps) ≡ instances_all (trees (begun ps))
turns-instances [] = refl
turns-instances (Gap c ∷ ps) = turns-instances ps
turns-instances (Turn x ∷ ps) = ap (λ l. instances x ++ l) (turns-instances ps)

pub turns-numbers : (ps : List Part) → numbers_row (row_of ps) ≡ numbers_all (trees (begun ps))
turns-numbers [] = refl
turns-numbers (Gap c ∷ ps) = turns-numbers ps
turns-numbers (Turn x ∷ ps) = ap (λ l. numbers x ++ l) (turns-numbers ps)

turns-labels : (ps : List Part) → labels_row (row_of ps) ≡ labels_all (trees (begun ps))
turns-labels [] = refl
turns-labels (Gap c ∷ ps) = turns-labels ps
turns-labels (Turn x ∷ ps) = ap (λ l. labels x ++ l) (turns-labels ps)

-- the facts of a join or a choice of turns
pub turns_facts : (ps : List Part) (f h : Facts) → AreTurns ps → RowHasFacts (row_of ps) f → h ≡ record f { weight = min (f.weight + 1) most_stored }
    → AreFacts (1 + weights (trees (begun ps))) (any_walk (trees (begun ps))) (instances_all (trees (begun ps))) (numbers_all (trees (begun ps))) (labels_all (trees (begun ps))) h
turns_facts ps f h turns p e = subst (λ (g : Facts). AreFacts (1 + weights (trees (begun ps))) (any_walk (trees (begun ps))) (instances_all (trees (begun ps))) (numbers_all (trees (begun ps))) (labels_all (trees (begun ps))) g) (sym e) (record {
  weight = omega (arith, p.weight, turns-weight ps turns);
  trail = p.trail ∙ turns-walk ps;
  instances = λ n. p.instances n ∙ ap (λ l. has l n) (turns-instances ps);
  span = p.span ∙ ap span_of (turns-numbers ps);
  labels = p.labels ∙ ap span_of (turns-labels ps);
  code = p.code ∙ ap numbers_code (turns-numbers ps);
})

pub row_facts-next_gap : (xs : List RowPart) (i : ℕ) (x : RowPart) (b : BlockValue) (f h : Facts) → i < length xs → x ≡ get_or xs i x → x ≡ part.Gap b → RowHasFacts (row_of (parts_of (take i xs))) f → h ≡ record f { weight = min (f.weight + 1) most_stored } → RowHasFacts (row_of (parts_of (take (i + 1) xs))) h
row_facts-next_gap xs i x b f h lt e is p s =
    subst (λ (l : List Part). RowHasFacts (row_of l) h) (sym (parts_next xs i x lt e ∙ ap (λ y. parts_of (take i xs) ++ part_of y ∷ []) is)) (row_facts-gap (parts_of (take i xs)) b.instances f h p s)

pub row_facts-next_turn : (xs : List RowPart) (i : ℕ) (x : RowPart) (y : Tree) (f g h : Facts) → i < length xs → x ≡ get_or xs i x → x ≡ part.Turn y → RowHasFacts (row_of (parts_of (take i xs))) f → HasFacts y g → Adds f g h → RowHasFacts (row_of (parts_of (take (i + 1) xs))) h
row_facts-next_turn xs i x y f g h lt e is p q s =
    subst (λ (l : List Part). RowHasFacts (row_of l) h) (sym (parts_next xs i x lt e ∙ ap (λ z. parts_of (take i xs) ++ part_of z ∷ []) is)) (row_facts-turn (parts_of (take i xs)) y f g h p q s)

pub ruleset gathering = (facts_miss_is, row_miss_is, loop_facts)
