-- The instances that terms touch, gathered one term after another.
use Rattle.std.specs.Prelude.{slice_get, Some, ◌==◌}
use Rattle.std.proofs.Common.{◌≡◌, ℕ, zero, suc, ◌+◌, ◌<◌, ◌≤◌, Bool, true, false, ◌||◌, List, [], ◌∷◌, ◌++◌, refl, ap, ap₂, subst, sym, ◌∙◌, arith, length, take, get_or, append_assoc, append-nil, inl, inr}
use Rattle.std.proofs.lemmas.Bool.{eq-eqb, ne_eqb, cases_order, or_parts}
use Rattle.bit_sets.specs.Blocks.{insert_each}
use Rattle.chart_term.specs.Facts.{holds_walk, any_walk, row_walk, instances, instances_all, instances_row}
use Rattle.msc_base.specs.Patterns.{seq, par}
use Rattle.list_facts.proofs.Reading.{take_step}
use Rattle.list_facts.proofs.Bools.{or_false, or_assoc}
use Rattle.chart_term.proofs.Turns.{parts_next}
use Rattle.chart_term.specs.NormalForms.{begun}
use Rattle.chart_term.specs.PartLists.{AreTurns}
use Rattle.chart_term.specs.Rows.{part_of, parts_of}
use Rattle.chart_term.specs.declared.term.RowPart.{RowPart}
use Rattle.chart_term.specs.Spreads.{touch, touch_all, touch_row, touch_part, touch_list, spread_of}
use Rattle.chart_term.specs.Tables.{choose}
use Rattle.chart_term.specs.Terms.{has, Tree, Nil, Event, Join, Choice, Tied, Loop, Walk, Trees, none, more, Row, ends, gap, turn, trees, Part, Gap, Turn, row_of}
use Rattle.chart_term.proofs.Instances.{has_app}
use Rattle.chart_term.proofs.Members.{has-insert_each}
use Rattle.term_tables.specs.declared.nets.StoredNet.{StoredNet}
use Rattle.term_tables.specs.NetTables.{spread_at, tables_of}
use Rattle.term_tables.specs.Unions.{IsUnion}
use Rattle.term_tables.proofs.Nodes.{nodes-then, nodes-par, nodes-choice, nodes-tied, nodes-loop, nodes-first, nodes-second, nodes-held}
use Rattle.term_tables.proofs.Tabling.{tables_of-snoc, count_of}

pub union-none : (c : List ℕ) → IsUnion c [] c
union-none c = record { same = λ n. sym (or_false (has c n)) }

pub union-more : (old a b mid new : List ℕ) → IsUnion old a mid → IsUnion mid b new → IsUnion old (a ++ b) new
union-more old a b mid new f g = record { same = λ n. g.same n ∙ ((λ i. f.same n i || has b n) ∙ (or_assoc (has old n) (has a n) (has b n) ∙ ap (λ t. has old n || t) (sym (has_app a b n)))) }

-- a set is added whose members are these
pub union-insert : (c a b d : List ℕ) → ((n : ℕ) → has a n ≡ has b n) → d ≡ insert_each c a → IsUnion c b d
union-insert c a b d f e = record { same = λ n. ap (λ l. has l n) e ∙ has-insert_each c a n ∙ ap (λ t. has c n || t) (f n) }

module _ (k : ℕ → List ℕ) where
  -- a term without walks touches its own instances alone
  mutual
    pub touch-own : (x : Tree) → holds_walk x ≡ false → instances x ≡ touch k x
    touch-own Nil h = refl
    touch-own (Event e) h = refl
    touch-own (Join m xs) h = touch-own_all xs h
    touch-own (Choice xs) h = touch-own_all xs h
    touch-own (Tied x q) h = touch-own x h
    touch-own (Loop x lo hi r) h = λ i. touch-own x ((or_parts (holds_walk x) (row_walk r) h).0) i ++ touch-own_row r ((or_parts (holds_walk x) (row_walk r) h).1) i
    touch-own (Walk n s t c) h = cc

    touch-own_all : (xs : Trees) → any_walk xs ≡ false → instances_all xs ≡ touch_all k xs
    touch-own_all none h = refl
    touch-own_all (more x xs) h = λ i. touch-own x ((or_parts (holds_walk x) (any_walk xs) h).0) i ++ touch-own_all xs ((or_parts (holds_walk x) (any_walk xs) h).1) i

    touch-own_row : (r : Row) → row_walk r ≡ false → instances_row r ≡ touch_row k r
    touch-own_row ends h = refl
    touch-own_row (gap c r) h = touch-own_row r h
    touch-own_row (turn x r) h = λ i. touch-own x ((or_parts (holds_walk x) (row_walk r) h).0) i ++ touch-own_row r ((or_parts (holds_walk x) (row_walk r) h).1) i

  pub union-own : (c a d : List ℕ) (x : Tree) → holds_walk x ≡ false → ((n : ℕ) → has a n ≡ has (instances x) n) → d ≡ insert_each c a → IsUnion c (touch k x) d
  union-own c a d x h f e = union-insert c a (touch k x) d (λ n. f n ∙ ap (λ l. has l n) (touch-own x h)) e

  all-snoc : (xs : List Tree) (x : Tree) → touch_all k (trees (xs ++ x ∷ [])) ≡ touch_all k (trees xs) ++ touch k x
  all-snoc [] x = append-nil (touch k x)
  all-snoc (y ∷ xs) x = ap (λ l. touch k y ++ l) (all-snoc xs x) ∙ sym (append_assoc (touch k y) (touch_all k (trees xs)) (touch k x))

  row-snoc : (ps : List Part) (t : Part) → touch_row k (row_of (ps ++ t ∷ [])) ≡ touch_row k (row_of ps) ++ touch_part k t
  row-snoc [] (Gap c) = refl
  row-snoc [] (Turn x) = append-nil (touch k x)
  row-snoc (Gap c ∷ ps) t = row-snoc ps t
  row-snoc (Turn y ∷ ps) t = ap (λ l. touch k y ++ l) (row-snoc ps t) ∙ sym (append_assoc (touch k y) (touch_row k (row_of ps)) (touch_part k t))

  -- a term of which the look is known
  pub union-nil : (c : List ℕ) (x : Tree) → x ≡ Nil → IsUnion c (touch k x) c
  union-nil c x e = subst (λ (y : Tree). IsUnion c (touch k y) c) (sym e) (union-none c)

  -- one more term
  pub union-all : (xs : List Tree) (i : ℕ) (x : Tree) (old mid new : List ℕ) → slice_get xs i ≡ Some x → IsUnion old (touch_all k (trees (take i xs))) mid → IsUnion mid (touch k x) new → IsUnion old (touch_all k (trees (take (i + 1) xs))) new
  union-all xs i x old mid new p f g = subst (λ (d : List ℕ). IsUnion old d new) (sym (ap (λ l. touch_all k (trees l)) (take_step xs i x p) ∙ all-snoc (take i xs) x)) (union-more old (touch_all k (trees (take i xs))) (touch k x) mid new f g)

  -- turns touch what their terms do
  turns-touch : (ps : List Part) → touch_row k (row_of ps) ≡ touch_all k (trees (begun ps))
  turns-touch [] = refl
  turns-touch (Gap c ∷ ps) = turns-touch ps
  turns-touch (Turn x ∷ ps) = ap (λ l. touch k x ++ l) (turns-touch ps)

  pub seq-touches : (x : Tree) (ps : List Part) → (x ≡ Join seq (trees (begun ps))) × AreTurns ps → touch_row k (row_of ps) ≡ touch k x
  seq-touches x ps h = turns-touch ps ∙ ap (touch k) (sym h.0)

  pub par-touches : (x : Tree) (ps : List Part) → (x ≡ Join par (trees (begun ps))) × AreTurns ps → touch_row k (row_of ps) ≡ touch k x
  par-touches x ps h = turns-touch ps ∙ ap (touch k) (sym h.0)

  pub choice-touches : (x : Tree) (ps : List Part) → (x ≡ Choice (trees (begun ps))) × AreTurns ps × (0 < length ps) → touch_row k (row_of ps) ≡ touch k x
  choice-touches x ps h = turns-touch ps ∙ ap (touch k) (sym h.0)

  -- a list of parts without walks
  pub union-plain : (c a d : List ℕ) (ps : List Part) → row_walk (row_of ps) ≡ false → ((n : ℕ) → has a n ≡ has (instances_row (row_of ps)) n) → d ≡ insert_each c a → IsUnion c (touch_row k (row_of ps)) d
  union-plain c a d ps h f e = union-insert c a (touch_row k (row_of ps)) d (λ n. f n ∙ ap (λ l. has l n) (touch-own_row (row_of ps) h)) e

  row-append : (ps qs : List Part) → touch_row k (row_of (ps ++ qs)) ≡ touch_row k (row_of ps) ++ touch_row k (row_of qs)
  row-append [] qs = refl
  row-append (Gap c ∷ ps) qs = row-append ps qs
  row-append (Turn x ∷ ps) qs = ap (λ l. touch k x ++ l) (row-append ps qs) ∙ sym (append_assoc (touch k x) (touch_row k (row_of ps)) (touch_row k (row_of qs)))

  -- the two halves of a list
  pub union-fork : (ps qs rs : List Part) (old mid new : List ℕ) → ps ≡ qs ++ rs → IsUnion old (touch_row k (row_of qs)) mid → IsUnion mid (touch_row k (row_of rs)) new → IsUnion old (touch_row k (row_of ps)) new
  union-fork ps qs rs old mid new e f g = subst (λ (d : List ℕ). IsUnion old d new) (sym (ap (λ l. touch_row k (row_of l)) e ∙ row-append qs rs)) (union-more old (touch_row k (row_of qs)) (touch_row k (row_of rs)) mid new f g)

  -- the parts of a leaf
  pub union-held : (held : List RowPart) (i : ℕ) (x : RowPart) (old mid new : List ℕ) → i < length held → x ≡ get_or held i x → IsUnion old (touch_row k (row_of (parts_of (take i held)))) mid → IsUnion mid (touch_part k (part_of x)) new → IsUnion old (touch_row k (row_of (parts_of (take (i + 1) held)))) new
  union-held held i x old mid new lt e f g = subst (λ (d : List ℕ). IsUnion old d new) (sym (ap (λ l. touch_row k (row_of l)) (parts_next held i x lt e) ∙ row-snoc (parts_of (take i held)) (part_of x))) (union-more old (touch_row k (row_of (parts_of (take i held)))) (touch_part k (part_of x)) mid new f g)

  pub first-all : (xs : List Tree) (c : List ℕ) → IsUnion c (touch_all k (trees (take 0 xs))) c
  first-all [] c = union-none c
  first-all (x ∷ xs) c = union-none c

-- what is stored at a number
pub spread-read : (es : List StoredNet) (i : ℕ) (e : StoredNet) → slice_get es i ≡ Some e → e.spread.instances ≡ spread_at es i
spread-read [] i e p = cc
spread-read (d ∷ es) zero e p = let q : d ≡ e = cc in ap (λ x. x.spread.instances) (sym q)
spread-read (d ∷ es) (suc i) e p = spread-read es i e p

pub spread-beyond : (es : List StoredNet) (i : ℕ) → length es ≤ i → spread_at es i ≡ []
spread-beyond [] i p = refl
spread-beyond (d ∷ es) zero p = absurd (omega (arith, p))
spread-beyond (d ∷ es) (suc i) p = spread-beyond es i (omega (arith, p))

suc_eqb : (i m : ℕ) → (i == m) ≡ (suc i == suc m)
suc_eqb i m = elim (cases_order i m) [
  | inl e ↦ eq-eqb i m e ∙ sym (eq-eqb (suc i) (suc m) (omega (arith, e)))
  | inr (inl l) ↦ ne_eqb i m (omega (arith, l)) ∙ sym (ne_eqb (suc i) (suc m) (omega (arith, l)))
  | inr (inr l) ↦ ne_eqb i m (omega (arith, l)) ∙ sym (ne_eqb (suc i) (suc m) (omega (arith, l)))
]

spread-snoc : (es : List StoredNet) (e : StoredNet) (i : ℕ) → spread_at (es ++ e ∷ []) i ≡ choose (i == length es) e.spread.instances (spread_at es i)
spread-snoc [] e zero = refl
spread-snoc [] e (suc i) = sym (ap (λ b. choose b e.spread.instances []) (ne_eqb (suc i) 0 (omega arith)))
spread-snoc (d ∷ es) e zero = sym (ap (λ b. choose b e.spread.instances d.spread.instances) (ne_eqb 0 (suc (length es)) (omega arith)))
spread-snoc (d ∷ es) e (suc i) = spread-snoc es e i ∙ ap (λ b. choose b e.spread.instances (spread_at es i)) (suc_eqb i (length es))

-- the same instances of each net make the same of a term
module _ (k j : ℕ → List ℕ) (f : (i n : ℕ) → has (k i) n ≡ has (j i) n) where
  both_same : (a b c d : List ℕ) (n : ℕ) → has a n ≡ has c n → has b n ≡ has d n → has (a ++ b) n ≡ has (c ++ d) n
  both_same a b c d n p q = has_app a b n ∙ ap₂ (λ s t. s || t) p q ∙ sym (has_app c d n)

  mutual
    pub same_touch : (x : Tree) (n : ℕ) → has (touch k x) n ≡ has (touch j x) n
    same_touch Nil n = refl
    same_touch (Event e) n = refl
    same_touch (Join m xs) n = same_all xs n
    same_touch (Choice xs) n = same_all xs n
    same_touch (Tied x q) n = same_touch x n
    same_touch (Loop x lo hi r) n = both_same (touch k x) (touch_row k r) (touch j x) (touch_row j r) n (same_touch x n) (same_row r n)
    same_touch (Walk m s t c) n = f m n

    same_all : (xs : Trees) (n : ℕ) → has (touch_all k xs) n ≡ has (touch_all j xs) n
    same_all none n = refl
    same_all (more x xs) n = both_same (touch k x) (touch_all k xs) (touch j x) (touch_all j xs) n (same_touch x n) (same_all xs n)

    same_row : (r : Row) (n : ℕ) → has (touch_row k r) n ≡ has (touch_row j r) n
    same_row ends n = refl
    same_row (gap c r) n = same_row r n
    same_row (turn x r) n = both_same (touch k x) (touch_row k r) (touch j x) (touch_row j r) n (same_touch x n) (same_row r n)

  list_touch : (xs : List Tree) (n : ℕ) → has (touch_all k (trees xs)) n ≡ has (touch_list j xs) n
  list_touch [] n = refl
  list_touch (x ∷ xs) n = both_same (touch k x) (touch_all k (trees xs)) (touch j x) (touch_list j xs) n (same_touch x n) (list_touch xs n)

chosen : (b : Bool) (a c d e : List ℕ) (n : ℕ) → has a n ≡ has d n → has c n ≡ has e n → has (choose b a c) n ≡ has (choose b d e) n
chosen true a c d e n p q = p
chosen false a c d e n p q = q

-- one net more
pub spreads-snoc : (es : List StoredNet) (e : StoredNet) → ((i n : ℕ) → has (spread_at es i) n ≡ has (spread_of (tables_of es) i) n) → IsUnion [] (touch_all (spread_at es) (trees e.nodes)) e.spread.instances
    → (i n : ℕ) → has (spread_at (es ++ e ∷ []) i) n ≡ has (spread_of (tables_of (es ++ e ∷ [])) i) n
spreads-snoc es e f u i n =
    ap (λ l. has l n) (spread-snoc es e i)
    ∙ chosen (i == length es) e.spread.instances (spread_at es i) (touch_list (spread_of (tables_of es)) e.nodes) (spread_of (tables_of es) i) n (u.same n ∙ list_touch (spread_at es) (spread_of (tables_of es)) f e.nodes n) (f i n)
    ∙ ap (λ c. has (choose (i == c) (touch_list (spread_of (tables_of es)) e.nodes) (spread_of (tables_of es) i)) n) (sym (count_of es))
    ∙ ap (λ t. has (spread_of t i) n) (sym (tables_of-snoc es e))

pub ruleset touching = (union-none, union-nil, seq-touches, par-touches, choice-touches, nodes-then, nodes-par, nodes-choice, nodes-tied, nodes-loop, nodes-first, nodes-second, nodes-held)
