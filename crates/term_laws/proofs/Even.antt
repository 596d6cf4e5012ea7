-- Terms that are tidy but for ties of a number with itself: each that is in normal form has a pattern.
use Rattle.std.specs.Prelude.{ℕ, Bool, true, List, [], ◌∷◌, Option}
use Rattle.std.proofs.Common.{inl, inr}
use Rattle.chart_term.specs.NormalForms.{NetPermits, only, numbers}
use Rattle.chart_term.specs.Properties.{Each, EachTurn, MayHave}
use Rattle.chart_term.specs.Tables.{Tables, node_of, terms_over}
use Rattle.chart_term.specs.TermMeanings.{HasPattern, UpTo, terms_of}
use Rattle.chart_term.specs.TermPatterns.{Shape, InPairs}
use Rattle.chart_term.specs.Terms.{Block, Tree, Nil, Event, Join, Choice, Tied, Loop, Walk, Trees, none, more, Row, ends, gap, turn, items, trees, Part, Gap, Turn, parts, row_of}
use Rattle.chart_term.proofs.Binding.{kept_in}
use Rattle.chart_term.proofs.Lists.{parts-row_of}
use Rattle.term_laws.specs.Normality.{AreNormalTables, IsNormalOver}
use Rattle.chart_term.specs.Spreads.{touch}
use Rattle.term_laws.specs.Permission.{permit, permit_row, permits_of}
use Rattle.term_laws.specs.Soundness.{NeverGrows, IsOutside, AreTidyTables, AreTidy, IsTidyRow, NetLacks, IsKnown}
use Rattle.term_laws.proofs.Keeping.{Kind, permit_keeps, at_some}
use Rattle.term_laws.proofs.Living.{has_pattern}
use Rattle.term_laws.proofs.NormalTables.{live, kept_normal}
use Rattle.term_laws.proofs.Permitting.{IsRegular, AreRegular, IsRegularRow}
use Rattle.term_laws.proofs.Ranking.{permit_rank}
use Rattle.term_laws.proofs.TakingSound.{IsTurnOf, IsHeld}
use Rattle.term_laws.proofs.TermSentences.{net_rank, kept_rank}
use Rattle.term_laws.proofs.TidyKept.{Tidy, AreExactNets, falls_of, permit_shows, permit_out, after_out, never_sub, never_cut, never_wide, never_some, never_after, up_low, up_down}
use Rattle.term_laws.proofs.TidyTables.{nets_good}

module _ (NL : ℕ → ℕ → Type 0) (NG : ℕ → Type 0) where
  abbrev mutual
    pub Even : Tree → Type 0
    Even Nil = Unit {0}
    Even (Event e) = Unit {0}
    Even (Join m xs) = AllEven xs
    Even (Choice xs) = AllEven xs
    Even (Tied x q) = Even x × ((j : ℕ) → InPairs j q → IsOutside NL j x)
    Even (Loop x lo hi r) = Even x × RowEven r × UpTo hi lo × NeverGrows (parts r)
    Even (Walk n f t c) = NG n

    pub AllEven : Trees → Type 0
    AllEven none = Unit {0}
    AllEven (more x xs) = Even x × AllEven xs

    pub RowEven : Row → Type 0
    RowEven ends = Unit {0}
    RowEven (gap c r) = RowEven r
    RowEven (turn x r) = Even x × RowEven r

  even_in : (xs : List Tree) → Each Even xs → AllEven (trees xs)
  even_in [] h = tt
  even_in (x ∷ xs) h = (h.0, even_in xs h.1)

  even_out : (xs : Trees) → AllEven xs → Each Even (items xs)
  even_out none h = tt
  even_out (more x xs) h = (h.0, even_out xs h.1)

  row_in : (ps : List Part) → EachTurn Even ps → RowEven (row_of ps)
  row_in [] h = tt
  row_in (Gap c ∷ ps) h = row_in ps h
  row_in (Turn x ∷ ps) h = (h.0, row_in ps h.1)

  row_out : (r : Row) → RowEven r → EachTurn Even (parts r)
  row_out ends h = tt
  row_out (gap c r) h = row_out r h
  row_out (turn x r) h = (h.0, row_out r h.1)

  begun_even : (y : Tree) (ps : List Part) → EachTurn Even ps → IsTurnOf y ps → Even y
  begun_even y [] h i = absurd i
  begun_even y (Gap c ∷ ps) h i = begun_even y ps h i
  begun_even y (Turn z ∷ ps) h (inl e) = rw e h.0
  begun_even y (Turn z ∷ ps) h (inr i) = begun_even y ps h.1 i

  module _ (k : NetPermits) (node : ℕ → ℕ → Tree) (o : Bool) where
    mutual
      pub tidy_even : (x : Tree) → Tidy k node o NL NG x → Even x
      tidy_even Nil h = tt
      tidy_even (Event e) h = tt
      tidy_even (Join m xs) h = all_tidy_even xs h
      tidy_even (Choice xs) h = all_tidy_even xs h
      tidy_even (Tied x q) h = (tidy_even x h.0, h.1)
      tidy_even (Loop x lo hi r) h = (tidy_even x h.0, row_tidy_even r h.1, h.2, h.3)
      tidy_even (Walk n f t c) h = h

      pub all_tidy_even : (xs : Trees) → AreTidy NL NG xs → AllEven xs
      all_tidy_even none h = tt
      all_tidy_even (more x xs) h = (tidy_even x h.0, all_tidy_even xs h.1)

      pub row_tidy_even : (r : Row) → IsTidyRow NL NG r → RowEven r
      row_tidy_even ends h = tt
      row_tidy_even (gap c r) h = row_tidy_even r h
      row_tidy_even (turn x r) h = (tidy_even x h.0, row_tidy_even r h.1)

    module _ (nets : AreExactNets k node o NL NG) where
      abbrev EvenLoop : Tree → ℕ → Option ℕ → List Part → Type 0
      EvenLoop x lo hi ps = Even x × UpTo hi lo × NeverGrows ps

      abbrev Keeps : Tree → Tree → Type 0
      Keeps x z = (j : ℕ) → IsOutside NL j x → IsOutside NL j z

      even_kind : Kind k Even Even EvenLoop Keeps
      even_kind = record {
        nil = tt;
        join_in = λ m xs h. even_in xs h;
        join_out = λ m xs h. even_out xs h;
        choice_in = λ x y xs a b h. (a, (b, even_in xs h));
        choice_out = λ xs h. even_out xs h;
        bound_out = λ x q h. h.0;
        bound_in = λ x z q h d i. (i, λ j p. d j (h.1 j p));
        bound_fewer = λ x q h. (h.0, λ j p. h.1 j (kept_in j (numbers x) q p));
        turns_in = λ x lo hi ps h d g a. (h.0, row_in ps d, h.1, never_same ps h.2);
        turns_out = λ x lo hi r h. ((h.0, h.2, h.3), row_out r h.1);
        release = λ x h. h;
        turn_permit = λ b x h i. i;
        turn_after = λ x y e h a i. i;
        new_turn = λ x y z c lo hi ps e h p a f. f h.0;
        sub = λ x lo hi ps qs s h. (h.0, h.1, never_sub s h.2);
        cuts = λ x lo hi ps h. (h.0, h.1, never_cut (touch k.spread x) ps h.2);
        low = λ x lo hi ps b h. (h.0, up_low k node o NL NG nets b lo hi h.1, h.2);
        wide = λ b x lo hi r qs e h. (h.0, h.1, never_some k node o NL NG nets (permit_row k b r) qs e (never_wide k b r h.2));
        after_row = λ x lo hi r qs b e a hm h. (h.0, up_down k node o NL NG nets b lo hi hm h.1, never_after k node o NL NG nets a h.2);
        trail_in = λ n f g t u c d h s a l. h;
        permitted = λ b x z e j h. at_some (IsOutside NL j) (permit k b x) z e (permit_out k node o NL NG nets j b x h);
        taken = λ x y z b e a p j h. at_some (IsOutside NL j) (permit k b y) z p (permit_out k node o NL NG nets j b y (after_out k node o NL NG nets j a h));
      }
        where
          never_same : (ps : List Part) → NeverGrows ps → NeverGrows (parts (row_of ps))
          never_same ps h = rw (parts-row_of ps) h

      permit_even : (b : Block) (x : Tree) → Even x → MayHave Even (permit k b x)
      permit_even = permit_keeps k Even Even EvenLoop Keeps even_kind

      mutual
        even_ok : (x : Tree) → Even x → IsRegular k node o x
        even_ok Nil h = tt
        even_ok (Event e) h = tt
        even_ok (Join m xs) h = all_even_ok xs h
        even_ok (Choice xs) h = all_even_ok xs h
        even_ok (Tied x q) h = (even_ok x h.0, permit_shows k node o NL NG nets q x h.1)
        even_ok (Loop x lo hi r) h = (even_ok x h.0, row_even_ok r h.1, h.2, falls_of (terms_of k node) o x (parts r) h.3)
        even_ok (Walk n f t c) h = nets.fine n h

        all_even_ok : (xs : Trees) → AllEven xs → AreRegular k node o xs
        all_even_ok none h = tt
        all_even_ok (more x xs) h = (even_ok x h.0, all_even_ok xs h.1)

        row_even_ok : (r : Row) → RowEven r → IsRegularRow k node o r
        row_even_ok ends h = tt
        row_even_ok (gap c r) h = row_even_ok r h
        row_even_ok (turn x r) h = (even_ok x h.0, row_even_ok r h.1)

      pub held : IsHeld k node o Even
      held = record {
        ok = even_ok;
        joined = λ m x xs h. (h.0, h.1);
        chosen = λ x xs h. (h.0, h.1);
        tied = λ x q h. h.0;
        operand = λ x lo hi r h. h.0;
        begun = λ x lo hi y r h i. begun_even y (parts r) (row_out r h.1) i;
        permitted = λ c x y h e. at_some Even (permit k (only c) x) y e (permit_even (only c) x h);
        kept = λ n f t c d m x h i e. tidy_even x (nets.good n m d x h e);
      }

-- over the tables
abbrev pub IsEvenOver : Tables → Tree → Type 0
IsEvenOver w x = Even (NetLacks w) (IsKnown w) x

module _ (w : Tables) (h : AreTidyTables w) (g : AreNormalTables w) where
  -- every such term in normal form has a pattern, walks under way included
  pub some_even : (x : Tree) → IsEvenOver w x → IsNormalOver w x → (s : Shape) × HasPattern (terms_over w) true x s
  some_even x t n =
      has_pattern (permits_of w) (λ i. Unit {0}) (λ i m d y l q. live w y (kept_normal w h g i m d y q)) (node_of w) (IsEvenOver w)
      (held (NetLacks w) (IsKnown w) (permits_of w) (node_of w) true (nets_good true w h)) (net_rank w) (permit_rank (permits_of w) (net_rank w)) (kept_rank true w h) x t (live w x n)
