-- The law of one residual.
use Rattle.std.specs.Prelude.{ℕ, suc, ◌+◌, ◌*◌, ◌≤◌, ◌==◌, ◌||◌, ◌≢◌, Bool, true, false, List, [], ◌∷◌, ◌++◌, ◌≡◌, ◌⊎◌, map, length, refl}
use Rattle.std.proofs.Common.{ap, sym, ◌∙◌, arith, inl, inr}
use Rattle.std.proofs.Math.Nat.{suc-mul, mul-le-mul_right}
use Rattle.std.proofs.lemmas.List.{map-append}
use Rattle.std.proofs.lemmas.Bool.{eqb-true, eq-eqb, or_parts}
use Rattle.msc_base.specs.Patterns.{Mode, seq, par}
use Rattle.chart_term.specs.Equality.{same_tree}
use Rattle.chart_term.specs.NormalForms.{NetPermits}
use Rattle.chart_term.specs.Properties.{Each, Every, EveryOf, EveryRow}
use Rattle.chart_term.specs.Tables.{Tables}
use Rattle.chart_term.specs.Terms.{TermEvent, has, Tree, Nil, Event, Join, Choice, Tied, Loop, Walk, Trees, none, more, Row, ends, gap, turn, items, weight, weights}
use Rattle.chart_term.proofs.Equal.{same_tree_is_exact}
use Rattle.term_laws.specs.Listing.{residual_set, set_weight}
use Rattle.msc_base.specs.Lists.{IsAmong}
use Rattle.list_facts.proofs.Members.{among_left, among_right}
use Rattle.term_laws.specs.Normality.{AreDifferent}
use Rattle.term_laws.specs.OneResidual.{labels_of, labels_of_all, labels_of_row, AreOnce, HasNoGraph, IsStraight, AreStraight, IsUnbegun, HasStraightLoops, HaveStraightLoops, IsUnambiguous, OneResidual}
use Rattle.term_laws.specs.Permission.{permits_of}
use Rattle.term_laws.specs.Residuals.{IsResidual, res_none, res_more}
use Rattle.term_laws.proofs.Apart.{Apart, AllApart}
use Rattle.term_laws.proofs.Single.{Single, SingleAll, SingleRow, after_single}
use Rattle.term_laws.proofs.Everywhere.{after_every}
use Rattle.term_laws.proofs.Numbers.{number_not, lacks_both}
use Rattle.term_laws.proofs.OneWay.{same_after}
use Rattle.term_laws.proofs.OneWeight.{after_weight}
use Rattle.term_laws.proofs.SetExact.{set_sound, different, alone}
use Rattle.term_laws.proofs.Steady.{Lacks, LackAll, Sure, Plain, PlainAll, lacks_sure, taken_every}

-- Lists of labels

once_left : (a b : List ℕ) → AreOnce (a ++ b) → AreOnce a
once_left [] b h = tt
once_left (i ∷ a) b h = ((lacks_both a b i h.0).0, once_left a b h.1)

once_right : (a b : List ℕ) → AreOnce (a ++ b) → AreOnce b
once_right [] b h = h
once_right (i ∷ a) b h = once_right a b h.1

-- a label of the first list is none of the second
once_apart : (a b : List ℕ) (n : ℕ) → AreOnce (a ++ b) → has a n ≡ true → has b n ≡ false
once_apart [] b n h t = cc
once_apart (i ∷ a) b n h t = go (i == n) refl t (λ u. once_apart a b n h.1 u)
  where
    lacks : (i n : ℕ) → i ≡ n → has b i ≡ false → has b n ≡ false
    lacks i n e p = rw e at p

    go : (u : Bool) → (i == n) ≡ u → (u || has a n) ≡ true → (has a n ≡ true → has b n ≡ false) → has b n ≡ false
    go true e t f = lacks i n (eqb-true i n e) (lacks_both a b i h.0).1
    go false e t f = f t

-- An unambiguous term is single

mutual
  lacks_of : (a : ℕ) (x : Tree) → HasNoGraph x → has (labels_of x) a ≡ false → Lacks a x
  lacks_of a Nil g h = tt
  lacks_of a (Event e) g h = number_not e.label a ((or_parts (e.label == a) false h).0)
  lacks_of a (Join m xs) g h = lack_all_of a xs g h
  lacks_of a (Choice xs) g h = lack_all_of a xs g h
  lacks_of a (Tied x q) g h = lacks_of a x g h
  lacks_of a (Loop x lo hi r) g h = let i = lacks_both (labels_of x) (labels_of_row r) a h in (lacks_of a x g.0 i.0, lack_row_of a r g.1 i.1)
  lacks_of a (Walk n f t c) g h = absurd g

  lack_all_of : (a : ℕ) (xs : Trees) → EveryOf (λ e. Unit {0}) (λ n. ⊥) xs → has (labels_of_all xs) a ≡ false → LackAll a xs
  lack_all_of a none g h = tt
  lack_all_of a (more x xs) g h = let i = lacks_both (labels_of x) (labels_of_all xs) a h in (lacks_of a x g.0 i.0, lack_all_of a xs g.1 i.1)

  lack_row_of : (a : ℕ) (r : Row) → EveryRow (λ e. Unit {0}) (λ n. ⊥) r → has (labels_of_row r) a ≡ false → EveryRow (λ e. e.label ≢ a) (λ n. ⊥) r
  lack_row_of a ends g h = tt
  lack_row_of a (gap c r) g h = lack_row_of a r g h
  lack_row_of a (turn x r) g h = let i = lacks_both (labels_of x) (labels_of_row r) a h in (lacks_of a x g.0 i.0, lack_row_of a r g.1 i.1)

apart_one : (m : Mode) (x y : Tree) → HasNoGraph x → ((a : ℕ) → has (labels_of x) a ≡ true → Lacks a y) → Apart m x y
apart_one seq x y g f = λ a. go a (has (labels_of x) a) refl
  where
    go : (a : ℕ) (t : Bool) → has (labels_of x) a ≡ t → Sure a x ⊎ Lacks a y
    go a true e = inr (f a e)
    go a false e = inl (lacks_sure a x (lacks_of a x g e))
apart_one par x y g f = λ a. go a (has (labels_of x) a) refl
  where
    go : (a : ℕ) (t : Bool) → has (labels_of x) a ≡ t → Lacks a x ⊎ Lacks a y
    go a true e = inr (f a e)
    go a false e = inl (lacks_of a x g e)

each_apart : (m : Mode) (x : Tree) (ys : Trees) → HasNoGraph x → ((a : ℕ) → has (labels_of x) a ≡ true → LackAll a ys) → Each (Apart m x) (items ys)
each_apart m x none g f = tt
each_apart m x (more y ys) g f = (apart_one m x y g (λ a i. (f a i).0), each_apart m x ys g (λ a i. (f a i).1))

all_apart : (m : Mode) (xs : Trees) → EveryOf (λ e. Unit {0}) (λ n. ⊥) xs → AreOnce (labels_of_all xs) → AllApart m (items xs)
all_apart m none g o = tt
all_apart m (more x xs) g o = (each_apart m x xs g.0 (λ a i. lack_all_of a xs g.1 (once_apart (labels_of x) (labels_of_all xs) a o i)), all_apart m xs g.1 (once_right (labels_of x) (labels_of_all xs) o))

mutual
  plain_of : (x : Tree) → IsStraight x → HasNoGraph x → Plain x
  plain_of Nil h g = tt
  plain_of (Event e) h g = tt
  plain_of (Join m xs) h g = plains_of xs h g
  plain_of (Choice xs) h g = absurd h
  plain_of (Tied x q) h g = plain_of x h g
  plain_of (Loop x lo hi r) h g = absurd h
  plain_of (Walk n f t c) h g = absurd g

  plains_of : (xs : Trees) → AreStraight xs → EveryOf (λ e. Unit {0}) (λ n. ⊥) xs → PlainAll xs
  plains_of none h g = tt
  plains_of (more x xs) h g = (plain_of x h.0 g.0, plains_of xs h.1 g.1)

-- a straight term has no loop
mutual
  no_loops : (x : Tree) → IsStraight x → HasStraightLoops x
  no_loops Nil h = tt
  no_loops (Event e) h = tt
  no_loops (Join m xs) h = none_loops xs h
  no_loops (Choice xs) h = absurd h
  no_loops (Tied x q) h = no_loops x h
  no_loops (Loop x lo hi r) h = absurd h
  no_loops (Walk n f t c) h = tt

  none_loops : (xs : Trees) → AreStraight xs → HaveStraightLoops xs
  none_loops none h = tt
  none_loops (more x xs) h = (no_loops x h.0, none_loops xs h.1)

single_row : (m : ℕ) (r : Row) → IsUnbegun r → SingleRow m r
single_row m ends h = absurd h
single_row m (gap [] ends) h = tt
single_row m (gap [] (gap c r)) h = absurd h
single_row m (gap [] (turn x r)) h = absurd h
single_row m (gap (n ∷ c) r) h = absurd h
single_row m (turn x r) h = absurd h

mutual
  single_of : (m : ℕ) (x : Tree) → weight x ≤ m → AreOnce (labels_of x) → HasNoGraph x → HasStraightLoops x → Single m x
  single_of m Nil w o g h = tt
  single_of m (Event e) w o g h = tt
  single_of m (Join n xs) w o g h = (singles_of m xs (omega arith) o g h, all_apart n xs g o)
  single_of m (Choice xs) w o g h = (singles_of m xs (omega arith) o g h, all_apart par xs g o)
  single_of m (Tied x q) w o g h = single_of m x (omega arith) o g h
  single_of m (Loop x lo hi r) w o g h = ((plain_of x h.0 g.0, single_of m x (omega arith) (once_left (labels_of x) (labels_of_row r) o) g.0 (no_loops x h.0)), single_row m r h.1, omega arith)
  single_of m (Walk n f t c) w o g h = absurd g

  singles_of : (m : ℕ) (xs : Trees) → weights xs ≤ m → AreOnce (labels_of_all xs) → EveryOf (λ e. Unit {0}) (λ n. ⊥) xs → HaveStraightLoops xs → SingleAll m xs
  singles_of m none w o g h = tt
  singles_of m (more x xs) w o g h =
      (single_of m x (omega arith) (once_left (labels_of x) (labels_of_all xs) o) g.0 h.0, singles_of m xs (omega arith) (once_right (labels_of x) (labels_of_all xs) o) g.1 h.1)

-- The events of the term: a label is that of one event

abbrev mutual
  events_of : Tree → List TermEvent
  events_of Nil = []
  events_of (Event e) = e ∷ []
  events_of (Join m xs) = events_all xs
  events_of (Choice xs) = events_all xs
  events_of (Tied x q) = events_of x
  events_of (Loop x lo hi r) = events_of x ++ events_row r
  events_of (Walk n f t c) = []

  events_all : Trees → List TermEvent
  events_all none = []
  events_all (more x xs) = events_of x ++ events_all xs

  events_row : Row → List TermEvent
  events_row ends = []
  events_row (gap c r) = events_row r
  events_row (turn x r) = events_of x ++ events_row r

abbrev labels : List TermEvent → List ℕ
labels es = map (λ e. e.label) es

app_labels : (a b : List TermEvent) (c d : List ℕ) → labels a ≡ c → labels b ≡ d → labels (a ++ b) ≡ c ++ d
app_labels a b c d p q = map-append (λ e. e.label) a b ∙ (λ i. p i ++ q i)

mutual
  same_labels : (x : Tree) → labels (events_of x) ≡ labels_of x
  same_labels Nil = refl
  same_labels (Event e) = refl
  same_labels (Join m xs) = same_all xs
  same_labels (Choice xs) = same_all xs
  same_labels (Tied x q) = same_labels x
  same_labels (Loop x lo hi r) = app_labels (events_of x) (events_row r) (labels_of x) (labels_of_row r) (same_labels x) (same_row r)
  same_labels (Walk n f t c) = refl

  same_all : (xs : Trees) → labels (events_all xs) ≡ labels_of_all xs
  same_all none = refl
  same_all (more x xs) = app_labels (events_of x) (events_all xs) (labels_of x) (labels_of_all xs) (same_labels x) (same_all xs)

  same_row : (r : Row) → labels (events_row r) ≡ labels_of_row r
  same_row ends = refl
  same_row (gap c r) = same_row r
  same_row (turn x r) = app_labels (events_of x) (events_row r) (labels_of x) (labels_of_row r) (same_labels x) (same_row r)

labels_once : (x : Tree) → AreOnce (labels_of x) → AreOnce (labels (events_of x))
labels_once x h = rw (same_labels x) h

mutual
  each_known : (es : List TermEvent) (x : Tree) → HasNoGraph x → ((e : TermEvent) → IsAmong (events_of x) e → IsAmong es e) → Every (λ e. IsAmong es e) (λ n. ⊥) x
  each_known es Nil g f = tt
  each_known es (Event e) g f = f e (inl refl)
  each_known es (Join m xs) g f = all_known es xs g f
  each_known es (Choice xs) g f = all_known es xs g f
  each_known es (Tied x q) g f = each_known es x g f
  each_known es (Loop x lo hi r) g f = (each_known es x g.0 (λ e i. f e (among_left (events_of x) (events_row r) e i)), row_known es r g.1 (λ e i. f e (among_right (events_of x) (events_row r) e i)))
  each_known es (Walk n f t c) g h = absurd g

  all_known : (es : List TermEvent) (xs : Trees) → EveryOf (λ e. Unit {0}) (λ n. ⊥) xs → ((e : TermEvent) → IsAmong (events_all xs) e → IsAmong es e) → EveryOf (λ e. IsAmong es e) (λ n. ⊥) xs
  all_known es none g f = tt
  all_known es (more x xs) g f = (each_known es x g.0 (λ e i. f e (among_left (events_of x) (events_all xs) e i)), all_known es xs g.1 (λ e i. f e (among_right (events_of x) (events_all xs) e i)))

  row_known : (es : List TermEvent) (r : Row) → EveryRow (λ e. Unit {0}) (λ n. ⊥) r → ((e : TermEvent) → IsAmong (events_row r) e → IsAmong es e) → EveryRow (λ e. IsAmong es e) (λ n. ⊥) r
  row_known es ends g f = tt
  row_known es (gap c r) g f = row_known es r g f
  row_known es (turn x r) g f = (each_known es x g.0 (λ e i. f e (among_left (events_of x) (events_row r) e i)), row_known es r g.1 (λ e i. f e (among_right (events_of x) (events_row r) e i)))

has_label : (es : List TermEvent) (e : TermEvent) → IsAmong es e → has (labels es) e.label ≡ true
has_label [] e h = absurd h
has_label (f ∷ es) e (inl p) = go (ap (λ g. g.label) (sym p))
  where
    go : f.label ≡ e.label → ((f.label == e.label) || has (labels es) e.label) ≡ true
    go q = rw q (rw (eq-eqb e.label e.label refl) refl)
has_label (f ∷ es) e (inr i) = go (f.label == e.label) (has_label es e i)
  where
    go : (t : Bool) → has (labels es) e.label ≡ true → (t || has (labels es) e.label) ≡ true
    go true h = refl
    go false h = h

-- events with one label are one
one_event : (es : List TermEvent) → AreOnce (labels es) → (e f : TermEvent) → IsAmong es e → IsAmong es f → e.label ≡ f.label → e ≡ f
one_event [] o e f i j q = absurd i
one_event (g ∷ es) o e f (inl p) (inl r) q = p ∙ sym r
one_event (g ∷ es) o e f (inl p) (inr j) q = absurd (differs g.label f.label (ap (λ h. h.label) (sym p) ∙ q) o.0 (has_label es f j))
  where
    differs : (a b : ℕ) → a ≡ b → has (labels es) a ≡ false → has (labels es) b ≡ true → ⊥
    differs a b p h i = cc
one_event (g ∷ es) o e f (inr i) (inl r) q = absurd (differs g.label e.label (ap (λ h. h.label) (sym r) ∙ sym q) o.0 (has_label es e i))
  where
    differs : (a b : ℕ) → a ≡ b → has (labels es) a ≡ false → has (labels es) b ≡ true → ⊥
    differs a b p h i = cc
one_event (g ∷ es) o e f (inr i) (inr j) q = one_event es o.1 e f i j q

-- Lists of events

abbrev first : List ℕ → ℕ
first [] = 0
first (a ∷ l) = a

abbrev later : List ℕ → List ℕ
later [] = []
later (a ∷ l) = l

module _ (m : ℕ) (k : NetPermits) (es : List TermEvent) (once : AreOnce (labels es)) where
  abbrev Known : Tree → Type 0
  Known x = Every (λ e. IsAmong es e) (λ n. ⊥) x

  moved : (x y z : Tree) (l : List ℕ) → x ≡ y → IsResidual k y l z → IsResidual k x l z
  moved x y z l p r = rw p r

  same_residual : {x y z : Tree} {l n : List ℕ} → IsResidual k x l y → IsResidual k x n z → l ≡ n → Single m x → Known x → y ≡ z
  same_residual res_none res_none q h g = refl
  same_residual res_none (res_more a r) q h g = cc
  same_residual (res_more a r) res_none q h g = cc
  same_residual (res_more {y = u} {e = e} a r) (res_more {y = v} {z = z} {e = f} {l = n} b s) q h g =
      let i : e ≡ f = one_event es once e f (taken_every k (λ e. IsAmong es e) a g) (taken_every k (λ e. IsAmong es e) b g) (ap first q) in
      let j : u ≡ v = same_after m k a b i h in
      same_residual r (moved u v z n j s) (ap later q) (after_single m k a h) (after_every (λ e. IsAmong es e) (λ n. ⊥) k (λ n m d x h q. absurd h) a g)

  residual_weight : {x y : Tree} {l : List ℕ} → IsResidual k x l y → Single m x → weight y ≤ weight x + length l * m
  residual_weight res_none h = omega arith
  residual_weight (res_more {x = x} {z = z} {e = e} {l = l} a r) h =
      let i = residual_weight r (after_single m k a h) in
      let j = after_weight k m a h in
      let p = suc-mul (length l) m in
      omega arith

enough : (k w v : ℕ) → v ≤ w + k * w → v ≤ 2 * (k + 1) * w
enough k w v h =
    let p : suc k * w ≡ k * w + w = suc-mul k w in
    let q : suc k * w ≤ 2 * (k + 1) * w = mul-le-mul_right w (omega arith) in
    omega arith

-- a set of no two members
none_two : (s : List Tree) → AreDifferent s → ((y z : Tree) → IsAmong s y → IsAmong s z → y ≡ z) → length s ≤ 1
none_two [] h f = omega arith
none_two (x ∷ []) h f = omega arith
none_two (x ∷ y ∷ s) h f = absurd (clash (same_tree x y) (same_tree_is_exact.whole x y (f x y (inl refl) (inr (inl refl)))) h.0.0)
  where
    clash : (t : Bool) → t ≡ true → t ≡ false → ⊥
    clash t p q = cc

light : (s : List Tree) (n : ℕ) → length s ≤ 1 → ((y : Tree) → IsAmong s y → weight y ≤ n) → set_weight s ≤ n
light [] n l f = omega arith
light (x ∷ []) n l f = let i = f x (inl refl) in omega arith
light (x ∷ y ∷ s) n l f = absurd (omega arith)

same_of : (w : Tables) (x y z : Tree) (l : List ℕ) → IsUnambiguous x → IsResidual (permits_of w) x l y → IsResidual (permits_of w) x l z → y ≡ z
same_of w x y z l h r s =
    same_residual (weight x) (permits_of w) (events_of x) (labels_once x h.labels) r s refl (single_of (weight x) x (omega arith) h.labels h.no_graph h.loops) (each_known (events_of x) x h.no_graph (λ e i. i))

weight_of : (w : Tables) (x y : Tree) (l : List ℕ) → IsUnambiguous x → IsResidual (permits_of w) x l y → weight y ≤ 2 * (length l + 1) * weight x
weight_of w x y l h r =
    enough (length l) (weight x) (weight y) (residual_weight (weight x) (permits_of w) (events_of x) (labels_once x h.labels) r (single_of (weight x) x (omega arith) h.labels h.no_graph h.loops))

-- a member of the computed set is a residual term
member_of : (w : Tables) (n : ℕ) (x y : Tree) (l : List ℕ) → IsAmong (residual_set n (permits_of w) (x ∷ []) l) y → IsResidual (permits_of w) x l y
member_of w n x y l i = let j = set_sound w n l (x ∷ []) y i in alone w n x j.0 l y j.1 j.2

one_of : (w : Tables) (n : ℕ) (x : Tree) (l : List ℕ) → IsUnambiguous x → length (residual_set n (permits_of w) (x ∷ []) l) ≤ 1
one_of w n x l h = none_two (residual_set n (permits_of w) (x ∷ []) l) (different w n l (x ∷ []) (tt, tt)) (λ y z i j. same_of w x y z l h (member_of w n x y l i) (member_of w n x z l j))

pub one_residual : OneResidual
one_residual = record {
  same = same_of;
  weighs = weight_of;
  at_most_one = one_of;
  set_weighs = λ w n x l h. light (residual_set n (permits_of w) (x ∷ []) l) (2 * (length l + 1) * weight x) (one_of w n x l h) (λ y i. weight_of w x y l h (member_of w n x y l i));
}
