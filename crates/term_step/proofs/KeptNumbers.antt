-- Which numbers a term still has after an event in a part of it.
use Rattle.std.specs.Prelude.{ℕ, zero, suc, ◌+◌, ◌<◌, ◌==◌, Bool, true, false, List, [], ◌∷◌, ◌++◌, ◌≡◌, ◌||◌, Option, Some, None, refl, length, take, drop, slice_get, min, max, nat_eq, IfSome}
use Rattle.std.proofs.Common.{ap, sym, ◌∙◌, subst, arith, append-nil, add-one}
use Rattle.std.proofs.lemmas.Bool.Decides.{nat_tests}
use Rattle.std.proofs.lemmas.List.Folds.{list_any-append}
use Rattle.std.proofs.lemmas.Bool.{both_ways}
use Rattle.msc_base.specs.Patterns.{Mode, seq, par}
use Rattle.list_facts.proofs.Reading.{some_at}
use Rattle.term_facts.specs.NodeFacts.{lies_in, numbers_in}
use Rattle.term_facts.specs.declared.facts.Facts.{Facts}
use Rattle.term_facts.specs.declared.facts.Span.{Span}
use Rattle.chart_term.specs.Facts.{HasFacts, RowHasFacts}
use Rattle.chart_term.specs.NormalForms.{NetPermits, begun, join_of, numbers, numbers_all, numbers_row, open_part}
use Rattle.chart_term.specs.PartLists.{AreTurns}
use Rattle.chart_term.specs.Tables.{Tables}
use Rattle.chart_term.specs.Terms.{TermEvent, Tree, Nil, Event, Join, Choice, Tied, Loop, Walk, Trees, none, more, items, trees, has, Part, row_of}
use Rattle.chart_term.proofs.Lists.{items-trees}
use Rattle.chart_term.proofs.Turns.{begun-length}
use Rattle.chart_term.proofs.Gathering.{turns-numbers}
use Rattle.chart_term.proofs.Passing.{lies_first, lies_second, lies_there}
use Rattle.term_laws.specs.Permission.{permits_of}
use Rattle.term_step.specs.Children.{child}
use Rattle.term_step.specs.Kept.{AreKept, AreKeptOf, AreLinked, top}
use Rattle.term_step.specs.Searches.{IsSearched, at_root, below, child_count}
use Rattle.term_step.specs.declared.ascent.Frame.{Frame}
use Rattle.term_permission.proofs.Joins.{begun-drop, begun-take}
use Rattle.term_permission.proofs.Retying.{range_there}

-- the span of both
abbrev pub wide : Span → Span → Span
wide s r = record { least = min s.least r.least; greatest = max s.greatest r.greatest }

pub first_beside : (s r t : Span) → t ≡ wide s r → (n : ℕ) → lies_in (Some t) n ≡ false → lies_in (Some s) n ≡ false
first_beside s r t e n h = by_case (lies_in (Some s) n) refl
  where
    by_case : (b : Bool) → lies_in (Some s) n ≡ b → b ≡ false
    by_case false k = refl
    by_case true k = absurd (both_ways (lies_in (Some t) n) h (ap (λ u. lies_in (Some u) n) e ∙ lies_first (Some s) (Some r) n k))

pub second_there : (s r t : Span) → t ≡ wide s r → (n : ℕ) → lies_in (Some r) n ≡ true → lies_in (Some t) n ≡ true
second_there s r t e n h = ap (λ u. lies_in (Some u) n) e ∙ lies_second (Some s) (Some r) n h

-- all numbers of the term lie in the span
pub none_beside : (x z : Tree) (f : Facts) (s r t : Span) → HasFacts x f → ((n : ℕ) → lies_in (numbers_in f.ranges) n ≡ true → lies_in (Some r) n ≡ true) → t ≡ wide s r → AreKept t x z
none_beside x z f s r t h c e n i j = absurd (both_ways (lies_in (Some t) n) j (second_there s r t e n (range_there x f r h c n i)))

-- the parts of a row that were permitted
pub parts_stay : (s : Span) (xs : List Tree) (o : Option (List Tree)) → o ≡ Some xs → AreKeptOf s xs o
parts_stay s xs o e ys h n i j = let same : xs ≡ ys = is xs ys (sym e ∙ h) in subst (λ (l : List Tree). has (numbers_all (trees l)) n ≡ true) same i
  where
    is : (us vs : List Tree) → Some us ≡ Some vs → us ≡ vs
    is us vs k = cc

pub parts_fail : (s : Span) (xs : List Tree) (o : Option (List Tree)) → o ≡ None → AreKeptOf s xs o
parts_fail s xs o e ys h = cc

pub parts_change : (ps : List Part) (f : Facts) (s r t : Span) (o : Option (List Tree)) → RowHasFacts (row_of ps) f → ((n : ℕ) → lies_in (numbers_in f.ranges) n ≡ true → lies_in (Some r) n ≡ true) → t ≡ wide s r → AreKeptOf t (begun ps) o
parts_change ps f s r t o h c e ys k n i j =
    absurd (both_ways (lies_in (Some t) n) j (second_there s r t e n (c n (ap (λ u. lies_in u n) h.span ∙ lies_there (numbers_row (row_of ps)) n (ap (λ l. has l n) (turns-numbers ps) ∙ i)))))

-- numbers of lists of terms
all_both : (xs ys : List Tree) (n : ℕ) → has (numbers_all (trees (xs ++ ys))) n ≡ (has (numbers_all (trees xs)) n || has (numbers_all (trees ys)) n)
all_both [] ys n = refl
all_both (x ∷ xs) ys n =
    list_any-append (λ m. nat_eq m n) (numbers x) (numbers_all (trees (xs ++ ys)))
    ∙ (ap (λ b. has (numbers x) n || b) (all_both xs ys n) ∙ (or_turn (has (numbers x) n) (has (numbers_all (trees xs)) n) (has (numbers_all (trees ys)) n)
    ∙ sym (ap (λ b. b || has (numbers_all (trees ys)) n) (list_any-append (λ m. nat_eq m n) (numbers x) (numbers_all (trees xs))))))
  where
    or_turn : (a b c : Bool) → (a || (b || c)) ≡ ((a || b) || c)
    or_turn true b c = refl
    or_turn false b c = refl

same_trees : (xs : Trees) → trees (items xs) ≡ xs
same_trees none = refl
same_trees (more x xs) = ap (more x) (same_trees xs)

part_numbers : (m : Mode) (y : Tree) → numbers_all (trees (open_part m y)) ≡ numbers y
part_numbers m Nil = refl
part_numbers m (Event e) = refl
part_numbers seq (Join seq xs) = ap numbers_all (same_trees xs)
part_numbers seq (Join par xs) = append-nil (numbers_all xs)
part_numbers par (Join seq xs) = append-nil (numbers_all xs)
part_numbers par (Join par xs) = ap numbers_all (same_trees xs)
part_numbers m (Choice xs) = append-nil (numbers_all xs)
part_numbers m (Tied x q) = append-nil (numbers x)
part_numbers m (Loop x lo hi r) = append-nil (numbers (Loop x lo hi r))
part_numbers m (Walk n s t c) = refl

join_numbers : (m : Mode) (xs : List Tree) → numbers (join_of m xs) ≡ numbers_all (trees xs)
join_numbers m [] = refl
join_numbers m (x ∷ []) = sym (append-nil (numbers x))
join_numbers m (x ∷ y ∷ ys) = refl

split_at : (xs : List Tree) (i : ℕ) (y : Tree) → slice_get xs i ≡ Some y → xs ≡ take i xs ++ y ∷ drop (suc i) xs
split_at [] i y h = cc
split_at (x ∷ xs) zero y h = let e : x ≡ y = cc in ap (λ z. z ∷ xs) e
split_at (x ∷ xs) (suc i) y h = ap (λ l. x ∷ l) (split_at xs i y h)

or_three : (a b c p q r : Bool) → (a ≡ true → p ≡ true) → (b ≡ true → q ≡ true) → (c ≡ r) → (a || (b || c)) ≡ true → (p || (q || r)) ≡ true
or_three true b c p q r f g h k = ap (λ u. u || (q || r)) (f refl)
or_three false true c p q r f g h k = ap (λ u. p || (u || r)) (g refl) ∙ right p
  where
    right : (u : Bool) → (u || true) ≡ true
    right true = refl
    right false = refl
or_three false false c p q r f g h k = ap (λ u. p || (q || u)) (sym h ∙ k) ∙ right p q
  where
    right : (u v : Bool) → (u || (v || true)) ≡ true
    right true v = refl
    right false true = refl
    right false false = refl

-- a join of which one part was replaced
join_at : (m : Mode) (s : Span) (ps qs ks rs : List Part) (i : ℕ) (x y z : Tree) → AreTurns ps → qs ≡ take i ps → ((n : ℕ) → has (numbers_all (trees (begun qs))) n ≡ true → lies_in (Some s) n ≡ false → has (numbers_all (trees (begun ks))) n ≡ true)
    → begun rs ≡ begun ks ++ (open_part m y ++ begun (drop (i + 1) ps)) → z ≡ join_of m (begun rs) → slice_get (begun ps) i ≡ Some x → AreKept s x y → AreKept s (Join m (trees (begun ps))) z
join_at m s ps qs ks rs i x y z turns q front r e at kept n there beside =
    ap (λ l. has l n) (ap numbers e ∙ join_numbers m (begun rs)) ∙ (new ∙ or_three (has (numbers_all (trees (begun qs))) n) (has (numbers x) n) (has (numbers_all (trees tail)) n) (has (numbers_all (trees (begun ks))) n) (has (numbers y) n) (has (numbers_all (trees tail)) n) (λ h. front n h beside) (λ h. kept n h beside) refl (sym old ∙ there))
  where
    tail : List Tree
    tail = begun (drop (i + 1) ps)

    new : has (numbers_all (trees (begun rs))) n ≡ (has (numbers_all (trees (begun ks))) n || (has (numbers y) n || has (numbers_all (trees tail)) n))
    new =
        ap (λ l. has (numbers_all (trees l)) n) r
        ∙ (all_both (begun ks) (open_part m y ++ tail) n ∙ ap (λ b. has (numbers_all (trees (begun ks))) n || b) (all_both (open_part m y) tail n ∙ ap (λ l. has l n || has (numbers_all (trees tail)) n) (part_numbers m y)))

    cuts : begun ps ≡ begun qs ++ x ∷ tail
    cuts =
        split_at (begun ps) i x at
        ∙ ((λ j. sym (ap begun q ∙ begun-take ps i turns) j ++ x ∷ drop (suc i) (begun ps)) ∙ ap (λ l. begun qs ++ x ∷ l) (sym (begun-drop ps (suc i) turns) ∙ ap (λ k. begun (drop k ps)) (sym (add-one i))))

    old : has (numbers_all (trees (begun ps))) n ≡ (has (numbers_all (trees (begun qs))) n || (has (numbers x) n || has (numbers_all (trees tail)) n))
    old = ap (λ l. has (numbers_all (trees l)) n) cuts ∙ (all_both (begun qs) (x ∷ tail) n ∙ ap (λ b. has (numbers_all (trees (begun qs))) n || b) (list_any-append (λ m. nat_eq m n) (numbers x) (numbers_all (trees tail))))

pub join_keeps : (m : Mode) (s : Span) (ps qs ks rs : List Part) (i : ℕ) (y z : Tree) → AreTurns ps → i < length ps → qs ≡ take i ps → ((n : ℕ) → has (numbers_all (trees (begun qs))) n ≡ true → lies_in (Some s) n ≡ false → has (numbers_all (trees (begun ks))) n ≡ true)
    → begun rs ≡ begun ks ++ (open_part m y ++ begun (drop (i + 1) ps)) → z ≡ join_of m (begun rs) → ((x : Tree) → slice_get (begun ps) i ≡ Some x → AreKept s x y) → AreKept s (Join m (trees (begun ps))) z
join_keeps m s ps qs ks rs i y z turns l q front r e kept =
    let (x, at) = some_at (begun ps) i (omega (arith, l, begun-length ps turns)) in
    join_at m s ps qs ks rs i x y z turns q front r e at (kept x at)

-- the part of a join
pub join_child : (k : NetPermits) (m : Mode) (u : Tree) (xs : List Tree) (i : ℕ) → u ≡ Join m (trees xs) → child k u i ≡ slice_get xs i
join_child k m u xs i e = ap (λ v. child k v i) e ∙ ap (λ l. slice_get l i) (items-trees xs)

-- whatever is left
pub each_kept : (s : Span) (x : Tree) (o : Option Tree) → ((z : Tree) → AreKept s x z) → IfSome o (AreKept s x)
each_kept s x None h = tt
each_kept s x (Some z) h = h z

-- the event itself
pub event_kept : (e : TermEvent) (s : Span) (z : Tree) → s ≡ record { least = e.number; greatest = e.number } → AreKept s (Event e) z
event_kept e s z h n i j = absurd (both_ways (lies_in (Some s) n) j (ap (λ u. lies_in (Some u) n) h ∙ itself (one (e.number == n) i)))
  where
    one : (b : Bool) → (b || false) ≡ true → b ≡ true
    one true k = refl
    one false k = k

    itself : (e.number == n) ≡ true → lies_in (Some (record { least = e.number; greatest = e.number })) n ≡ true
    itself k = grind (arith, nat_tests)

-- the term below a tie
pub tie_child : (w : Tables) (k : NetPermits) (x y : Tree) (q : List (ℕ × ℕ)) (i : ℕ) → x ≡ Tied y q → i < child_count w x → child k x i ≡ Some y
tie_child w k x y q i e l = ap (λ u. child k u i) e ∙ first i (subst (λ (u : Tree). i < child_count w u) e l)
  where
    first : (j : ℕ) → j < 1 → child k (Tied y q) j ≡ Some y
    first zero h = refl
    first (suc j) h = absurd (omega arith)

-- frames that are linked
pub linked_at : (k : NetPermits) (fs : List Frame) (x : Tree) (i j : ℕ) (f : Frame) → AreLinked k fs x → slice_get fs i ≡ Some f → i + 1 ≡ j → child k f.parent f.index ≡ Some (top (drop j fs) x)
linked_at k fs x i j f h e n = go fs i h e ∙ ap (λ m. Some (top (drop m fs) x)) (sym (add-one i) ∙ n)
  where
    go : (gs : List Frame) (m : ℕ) → AreLinked k gs x → slice_get gs m ≡ Some f → child k f.parent f.index ≡ Some (top (drop (suc m) gs) x)
    go [] m u v = cc
    go (g ∷ gs) zero u v = let p : g ≡ f = cc in subst (λ (w : Frame). child k w.parent w.index ≡ Some (top gs x)) p u.0
    go (g ∷ gs) (suc m) u v = go gs m u.1 v

pub kept_child : (k : NetPermits) (s : Span) (x : Tree) (i : ℕ) (u left : Tree) → child k x i ≡ Some u → AreKept s u left → (y : Tree) → child k x i ≡ Some y → AreKept s y left
kept_child k s x i u left e h y f = subst (λ (v : Tree). AreKept s v left) (same u y (sym e ∙ f)) h
  where
    same : (v w : Tree) → Some v ≡ Some w → v ≡ w
    same v w g = cc

pub top_at : (fs : List Frame) (x : Tree) (i : ℕ) (f : Frame) → slice_get fs i ≡ Some f → top (drop i fs) x ≡ f.parent
top_at [] x i f e = cc
top_at (g ∷ gs) x zero f e = let p : g ≡ f = cc in ap (λ (w : Frame). w.parent) p
top_at (g ∷ gs) x (suc i) f e = top_at gs x i f e

pub top_none : (fs : List Frame) (x : Tree) (i : ℕ) → i ≡ length fs → top (drop i fs) x ≡ x
top_none fs x i e = ap (λ m. top (drop m fs) x) e ∙ go fs
  where
    go : (gs : List Frame) → top (drop (length gs) gs) x ≡ x
    go [] = refl
    go (g ∷ gs) = go gs

top_snoc : (hs : List Frame) (g : Frame) (x : Tree) → top hs g.parent ≡ top (hs ++ g ∷ []) x
top_snoc [] g x = refl
top_snoc (h ∷ hs) g x = refl

linked_snoc : (k : NetPermits) (gs : List Frame) (g : Frame) (x : Tree) → AreLinked k gs g.parent → child k g.parent g.index ≡ Some x → AreLinked k (gs ++ g ∷ []) x
linked_snoc k [] g x h c = (c, tt)
linked_snoc k (f ∷ fs) g x h c = (h.0 ∙ ap (λ u. Some u) (top_snoc fs g x), linked_snoc k fs g x h.1 c)

pub linked_searched : (w : Tables) (a : ℕ) (root : Tree) (zs : List Tree) (fs : List Frame) (x : Tree) (i : ℕ) → IsSearched w a root zs fs x i → AreLinked (permits_of w) fs x
linked_searched w a root zs fs x i (at_root e r s) = subst (λ (gs : List Frame). AreLinked (permits_of w) gs x) (sym e) tt
linked_searched w a root zs fs x i (below gs g e c s t) = subst (λ (hs : List Frame). AreLinked (permits_of w) hs x) (sym e) (linked_snoc (permits_of w) gs g x (linked_searched w a root zs gs g.parent g.index s) c)

pub ruleset kept_numbers = (first_beside, parts_stay, parts_fail, parts_change)
