-- The terms that are made are those of the expansion, by the terms of its walks.
use Rattle.std.specs.Prelude.{ℕ, Bool, true, false, ◌==◌, List, [], ◌∷◌, ◌++◌, map}
use Rattle.std.proofs.Common.{◌≡◌, ◌∙◌, refl, sym, ap, subst, append_assoc}
use Rattle.std.proofs.Common.{eqb-true, eq-eqb}
use Rattle.msc_base.specs.Orders.{Among, Once, first, later}
use Rattle.msc_base.specs.Patterns.{par}
use Rattle.hmsc_graph.specs.declared.shape.Shape.{Shape}
use Rattle.hmsc_graph.specs.Graphs.{End}
use Rattle.chart_term.specs.NormalForms.{join_all, tie_of}
use Rattle.chart_term.specs.Tables.{Tables}
use Rattle.chart_term.specs.Terms.{Tree}
use Rattle.chart_term.specs.Views.{pairs_of}
use Rattle.expansion_tree.specs.Expansions.{Event, InRow, Aside, OneOf, Exception, Turns, Tied, Walk, no_parts, part_and, is_exception}
use Rattle.expansion_tree.specs.Numbered.{Expansion, Expansions}
use Rattle.expansion_tree.specs.Walks.{EachWalk, EachWalkIn}
use Rattle.expansion_terms.specs.Constructors.{one_of, placed, turns_of}
use Rattle.expansion_terms.specs.ExpansionTerms.{aside_term, event_term, numbered_term, part_terms, row_term}
use Rattle.expansion_terms.specs.MadeTerms.{AreWalksMade, IsWalkOf, MadeTermsAgree, in_row, made, made_all, net_of_shape, newest_walk, side_by_side, walk_at, walk_if}
use Rattle.expansion_terms.proofs.Within.{among_left, among_right}

-- ---- which term

module _ (walk : ℕ → Tree) where
  row_is : (xs : Expansions) → in_row xs (part_terms event_term walk xs) ≡ row_term event_term walk xs
  row_is no_parts = refl
  row_is (part_and x xs) = ap (placed (is_exception x) (numbered_term walk x)) (row_is xs)

  side_is : (xs : Expansions) → side_by_side (part_terms event_term walk xs) ≡ aside_term event_term walk xs
  side_is no_parts = refl
  side_is (part_and x xs) = ap (λ (y : Tree). join_all par (numbered_term walk x ∷ y ∷ [])) (side_is xs)

  mutual
    term_is : (t : Tables) (x : Expansion) → AreWalksMade walk (made t x).walks → (made t x).term ≡ numbered_term walk x
    term_is t (Event e) h = refl
    term_is t (InRow xs) h = ap (in_row xs) (terms_are t xs h) ∙ row_is xs
    term_is t (Aside xs) h = ap side_by_side (terms_are t xs h) ∙ side_is xs
    term_is t (OneOf xs) h = ap one_of (terms_are t xs h)
    term_is t (Exception x) h = term_is t x h
    term_is t (Turns n lower upper x) h = ap (turns_of lower upper) (term_is t x h)
    term_is t (Tied x ps) h = ap (λ (y : Tree). tie_of y (pairs_of ps)) (term_is t x h)
    term_is t (Walk n g xs) h = let l = made_all t xs in sym (h (n, newest_walk End (record { net = net_of_shape g; nodes = l.terms } ∷ l.tables)) first)

    terms_are : (t : Tables) (xs : Expansions) → AreWalksMade walk (made_all t xs).walks → (made_all t xs).terms ≡ part_terms event_term walk xs
    terms_are t no_parts h = refl
    terms_are t (part_and x xs) h =
        let m = made t x in
        let here = term_is t x (λ p i. h p (among_left m.walks (made_all m.tables xs).walks p i)) in
        let behind = terms_are m.tables xs (λ p i. h p (among_right m.walks (made_all m.tables xs).walks p i)) in
        λ i. here i ∷ behind i

-- ---- which walks

-- other tables behind which these are
pub record IsBehind (t w : Tables) : Type 0 where
  pub newer : Tables
  pub is : w ≡ newer ++ t

behind_same : (t : Tables) → IsBehind t t
behind_same t = record { newer = []; is = refl }

behind_on : (t u w : Tables) → IsBehind t u → IsBehind u w → IsBehind t w
behind_on t u w h i = record { newer = i.newer ++ h.newer; is = i.is ∙ (ap (λ (v : Tables). i.newer ++ v) h.is ∙ sym (append_assoc i.newer h.newer t)) }

mutual
  made_behind : (t : Tables) (x : Expansion) → IsBehind t (made t x).tables
  made_behind t (Event e) = behind_same t
  made_behind t (InRow xs) = all_behind t xs
  made_behind t (Aside xs) = all_behind t xs
  made_behind t (OneOf xs) = all_behind t xs
  made_behind t (Exception x) = made_behind t x
  made_behind t (Turns n lower upper x) = made_behind t x
  made_behind t (Tied x ps) = made_behind t x
  made_behind t (Walk n g xs) = let l = made_all t xs in behind_on t l.tables (made t (Walk n g xs)).tables (all_behind t xs) (record { newer = record { net = net_of_shape g; nodes = l.terms } ∷ []; is = refl })

  all_behind : (t : Tables) (xs : Expansions) → IsBehind t (made_all t xs).tables
  all_behind t no_parts = behind_same t
  all_behind t (part_and x xs) = behind_on t (made t x).tables (made_all (made t x).tables xs).tables (made_behind t x) (all_behind (made t x).tables xs)

module _ (P Q : ℕ → Shape → Expansions → Type 0) (to : (n : ℕ) (g : Shape) (xs : Expansions) → P n g xs → Q n g xs) where
  mutual
    each_walk : (x : Expansion) → EachWalk P x → EachWalk Q x
    each_walk (Event e) h = tt
    each_walk (InRow xs) h = each_walk_in xs h
    each_walk (Aside xs) h = each_walk_in xs h
    each_walk (OneOf xs) h = each_walk_in xs h
    each_walk (Exception x) h = each_walk x h
    each_walk (Turns n lower upper x) h = each_walk x h
    each_walk (Tied x ps) h = each_walk x h
    each_walk (Walk n g xs) h = (to n g xs h.0, each_walk_in xs h.1)

    each_walk_in : (xs : Expansions) → EachWalkIn P xs → EachWalkIn Q xs
    each_walk_in no_parts h = tt
    each_walk_in (part_and x xs) h = (each_walk x h.0, each_walk_in xs h.1)

walk_behind : (t w : Tables) (g : Shape) (nodes : List Tree) (x : Tree) → IsBehind t w → IsWalkOf t g nodes x → IsWalkOf w g nodes x
walk_behind t w g nodes x b h = record {
  newer = b.newer ++ h.newer;
  older = h.older;
  there = b.is ∙ (ap (λ (v : Tables). b.newer ++ v) h.there ∙ sym (append_assoc b.newer h.newer (record { net = net_of_shape g; nodes = nodes } ∷ h.older)));
  is = h.is;
}

module _ (walk : ℕ → Tree) where
  -- the walks are through nets of these tables
  abbrev IsWalkIn : Tables → ℕ → Shape → Expansions → Type 0
  IsWalkIn w n g xs = IsWalkOf w g (part_terms event_term walk xs) (walk n)

  each_behind : (t w : Tables) (x : Expansion) → IsBehind t w → EachWalk (IsWalkIn t) x → EachWalk (IsWalkIn w) x
  each_behind t w x b h = each_walk (IsWalkIn t) (IsWalkIn w) (λ n g xs i. walk_behind t w g (part_terms event_term walk xs) (walk n) b i) x h

  each_in_behind : (t w : Tables) (xs : Expansions) → IsBehind t w → EachWalkIn (IsWalkIn t) xs → EachWalkIn (IsWalkIn w) xs
  each_in_behind t w xs b h = each_walk_in (IsWalkIn t) (IsWalkIn w) (λ n g ys i. walk_behind t w g (part_terms event_term walk ys) (walk n) b i) xs h

  -- the newest walk, by what its nodes come to
  newest_is : (t : Tables) (n : ℕ) (g : Shape) (xs : Expansions) → AreWalksMade walk (made t (Walk n g xs)).walks → IsWalkIn (made t (Walk n g xs)).tables n g xs
  newest_is t n g xs h =
      let l = made_all t xs in
      let same : l.terms ≡ part_terms event_term walk xs = terms_are walk t xs (λ p i. h p (later i)) in
      record {
        newer = [];
        older = l.tables;
        there = ap (λ (ys : List Tree). record { net = net_of_shape g; nodes = ys } ∷ l.tables) same;
        is = h (n, newest_walk End (record { net = net_of_shape g; nodes = l.terms } ∷ l.tables)) first ∙ ap (λ (ys : List Tree). newest_walk End (record { net = net_of_shape g; nodes = ys } ∷ l.tables)) same;
      }

  mutual
    walks_are : (t : Tables) (x : Expansion) → AreWalksMade walk (made t x).walks → EachWalk (IsWalkIn (made t x).tables) x
    walks_are t (Event e) h = tt
    walks_are t (InRow xs) h = all_walks_are t xs h
    walks_are t (Aside xs) h = all_walks_are t xs h
    walks_are t (OneOf xs) h = all_walks_are t xs h
    walks_are t (Exception x) h = walks_are t x h
    walks_are t (Turns n lower upper x) h = walks_are t x h
    walks_are t (Tied x ps) h = walks_are t x h
    walks_are t (Walk n g xs) h =
        let l = made_all t xs in
        (newest_is t n g xs h, each_in_behind l.tables (made t (Walk n g xs)).tables xs (record { newer = record { net = net_of_shape g; nodes = l.terms } ∷ []; is = refl }) (all_walks_are t xs (λ p i. h p (later i))))

    all_walks_are : (t : Tables) (xs : Expansions) → AreWalksMade walk (made_all t xs).walks → EachWalkIn (IsWalkIn (made_all t xs).tables) xs
    all_walks_are t no_parts h = tt
    all_walks_are t (part_and x xs) h =
        let m = made t x in
        let l = made_all m.tables xs in (
          each_behind m.tables l.tables x (all_behind m.tables xs) (walks_are t x (λ p i. h p (among_left m.walks l.walks p i))),
          all_walks_are m.tables xs (λ p i. h p (among_right m.walks l.walks p i)),
        )

-- ---- walks by their numbers

abbrev numbers : List (ℕ × Tree) → List ℕ
numbers ws = map (λ (p : ℕ × Tree). p.0) ws

number_among : (p : ℕ × Tree) (ws : List (ℕ × Tree)) → Among p ws → Among p.0 (numbers ws)
number_among p [] i = elim i [ ]
number_among p (q ∷ ws) first = first
number_among p (q ∷ ws) (later i) = later (number_among p ws i)

found : (ws : List (ℕ × Tree)) → Once (numbers ws) → AreWalksMade (walk_at ws) ws
found [] o p i = elim i [ ]
found (q ∷ ws) o p first = ap (λ (b : Bool). walk_if b q.1 (walk_at ws q.0)) (eq-eqb q.0 q.0 refl)
found (q ∷ ws) o p (later i) = by (q.0 == p.0) refl (found ws o.1 p i)
  where
    by : (b : Bool) → (q.0 == p.0) ≡ b → walk_at ws p.0 ≡ p.1 → walk_if b q.1 (walk_at ws p.0) ≡ p.1
    by true e h = absurd (o.0 (subst (λ (n : ℕ). Among n (numbers ws)) (sym (eqb-true q.0 p.0 e)) (number_among p ws i)))
    by false e h = h

pub made_terms_agree : MadeTermsAgree
made_terms_agree = record {
  term = λ t x walk h. term_is walk t x h;
  terms = λ t xs walk h. terms_are walk t xs h;
  walks = λ t x walk h. walks_are walk t x h;
  found = found;
}
