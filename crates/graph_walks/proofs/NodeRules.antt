-- The rules of node terms: nothing, parts one after another or side by side, one of several, turns, a tie that shows nothing, later tables.
use Rattle.std.specs.Prelude.{ℕ, ◌≤◌, Bool, true, List, [], ◌∷◌, ◌++◌, Option, Some, ◌≡◌, length}
use Rattle.std.specs.List.{slice_get}
use Rattle.std.proofs.Common.{ap, sym, ◌∙◌, refl, arith, subst}
use Rattle.msc_base.specs.declared.label.Label.{Label}
use Rattle.msc_base.specs.Patterns.{Mode, seq}
use Rattle.msc_unfolding.specs.Unfoldings.{Tag, Tie, Unfolding}
use Rattle.chart_term.specs.NormalForms.{join_all, choice_of}
use Rattle.chart_term.specs.Properties.{Each, MayHave}
use Rattle.chart_term.specs.Tables.{Tables, terms_over}
use Rattle.chart_term.specs.TermMeanings.{HasPattern, HasParts, HasChoice, PatternsOf, UpTo}
use Rattle.chart_term.specs.TermPatterns.{Both}
use Rattle.chart_term.specs.Terms.{Tree, Nil, Gap}
use Rattle.term_tables.specs.NetValues.{NetsValue}
use Rattle.term_laws.specs.ConstructorLaws.{NormalFormsKeepPatterns}
use Rattle.term_laws.specs.FullSoundness.{AreSoundNets, IsSoundNode, ConstructorsKeepSoundness, MustHave, fresh_loop}
use Rattle.term_laws.specs.LaterTables.{LaterTablesAgree}
use Rattle.term_laws.specs.Permission.{permits_of}
use Rattle.term_laws.specs.Placing.{AreEventsPlaced, IsPlaced}
use Rattle.term_laws.specs.Soundness.{AreTidyTables}
use Rattle.term_laws.proofs.FullSound.{tidy_of, tidy_tables}
use Rattle.term_laws.proofs.EveryPart.{fresh_part}
use Rattle.term_laws.proofs.Placed.{choice-placed, join-placed}
use Rattle.sound_terms.specs.TableLaws.{TablesStaySound}
use Rattle.term_meaning.specs.Extending.{Extends, as_it_is, one_more, IsLater, IsPortionFromNow}
use Rattle.term_meaning.specs.ItemPortions.{OfItems, OfOne}
use Rattle.term_meaning.specs.Portions.{Shown, shown_at, past_shown, IsPortion}
use Rattle.term_meaning.specs.UnfoldingSets.{OnlyEmpty, AreTied, AreSomeOften}
use Rattle.term_meaning.proofs.Extended.{extends_on, keeps_same, later_same, portion_from_now, portion_later_still}
use Rattle.term_meaning.proofs.PortionRules.{portion_nil, portion_sets, portion_wide, portion_pass, portion_choice_of, portion_join_all, portion_turns, portion_fresh_loop}
use Rattle.graph_walks.proofs.SharedNumbers.{hidden_choice, hidden_no_choice, hidden_no_part, hidden_part}
use Rattle.graph_walks.specs.NodeParts.{HaveGrown, AreParts, no_parts, parts_and}
use Rattle.graph_walks.specs.NodeTerms.{AreFitTables, IsNodeTerm}

-- what holds of what was made, where it was made
held : (P : Tree → Type 0) (r : Option Tree) (x : Tree) → r ≡ Some x → MustHave P r → P x
held P r x e h = subst (λ (q : Option Tree). MustHave P q) e h

-- where no tag is let through, none is to be seen
none_shown : (f : Tag → List Tag) → ((a : Tag) → f a ≡ []) → (sh : Shown) → past_shown f sh ≡ []
none_shown f none [] = refl
none_shown f none (p ∷ sh) = ap (λ (l : List Tag). shown_at p.0 l ++ past_shown f sh) (none p.1) ∙ none_shown f none sh

module _ (places : ℕ → List ℕ) (v : NetsValue) (names : List (List ℕ)) where
  abbrev IsNode : ℕ → ℕ → Tree → (Unfolding → Type 0) → Type 0
  IsNode = IsNodeTerm places v names

  -- ---- other sets, wider intervals, ties that show nothing

  pub node_sets : (lo hi : ℕ) (x : Tree) (U V : Unfolding → Type 0) → ((u : Unfolding) → Both (U u) (V u)) → IsNode lo hi x U → IsNode lo hi x V
  node_sets lo hi x U V sets p = record {
    means = record {
      tidy = p.means.tidy;
      portion = λ later others o l n h. portion_sets later.labels others lo hi [] (HasPattern (terms_over later.tables) o x) U V sets (p.means.portion later others o l n h);
    };
    sound = p.sound;
    placed = p.placed;
  }

  pub node_wide : (a b lo hi : ℕ) (x : Tree) (U : Unfolding → Type 0) → lo ≤ a → b ≤ hi → IsNode a b x U → IsNode lo hi x U
  node_wide a b lo hi x U l k p = record {
    means = record {
      tidy = p.means.tidy;
      portion = λ later others o i n h. portion_wide later.labels others a b lo hi [] (HasPattern (terms_over later.tables) o x) U l k (p.means.portion later others o i n h);
    };
    sound = p.sound;
    placed = p.placed;
  }

  pub node_tied : (lo hi : ℕ) (x : Tree) (t : Tie) (U : Unfolding → Type 0) → t.pairs ≡ [] → IsNode lo hi x U → IsNode lo hi x (AreTied U t)
  node_tied lo hi x t U none p = record {
    means = record {
      tidy = p.means.tidy;
      portion = λ later others o l n h. portion_pass later.labels others lo hi [] (HasPattern (terms_over later.tables) o x) t U none (p.means.portion later others o l n h);
    };
    sound = p.sound;
    placed = p.placed;
  }

  -- whatever tags are still to be seen of the term, above a tie that lets none through none are
  pub node_hidden : (lo hi : ℕ) (sh : Shown) (x : Tree) (t : Tie) (U : Unfolding → Type 0) → t.pairs ≡ [] → ((a : Tag) → t.past a ≡ []) → IsPortionFromNow v names lo hi sh x (λ o. U) → IsSoundNode (length v.labels) v.tables x → AreEventsPlaced places x
      → IsNode lo hi x (AreTied U t)
  node_hidden lo hi sh x t U none hides means sound placed = record {
    means = record {
      tidy = means.tidy;
      portion = λ later others o l n h. subst (λ (ti : Shown). IsPortion later.labels others lo hi ti (HasPattern (terms_over later.tables) o x) (AreTied U t)) (none_shown t.past hides sh)
          (portion_pass later.labels others lo hi sh (HasPattern (terms_over later.tables) o x) t U none (means.portion later others o l n h));
    };
    sound = sound;
    placed = placed;
  }

  -- one part more at the end
  pub parts_last : {Part : Type 0} (OfPart : Part → Unfolding → Type 0) (a b : ℕ) (xs : List Tree) (x : Tree) (is : List Part) (i : Part) → AreParts OfPart places v names a b xs is → IsNode a b x (OfPart i) → AreParts OfPart places v names a b (xs ++ x ∷ []) (is ++ i ∷ [])
  parts_last OfPart a b _ x _ i (no_parts l) p = parts_and p (no_parts l)
  parts_last OfPart a b _ x _ i (parts_and {x = y} {xs = ys} {i = j} {is = js} q r) p = parts_and q (parts_last OfPart a b ys x js i r p)

  pub parts_wide : {Part : Type 0} (OfPart : Part → Unfolding → Type 0) (a b lo hi : ℕ) (xs : List Tree) (is : List Part) → lo ≤ a → b ≤ hi → AreParts OfPart places v names a b xs is → AreParts OfPart places v names lo hi xs is
  parts_wide OfPart a b lo hi _ _ l k (no_parts e) = no_parts (omega (arith, l, k, e))
  parts_wide OfPart a b lo hi _ _ l k (parts_and {x = x} {xs = xs} {i = i} {is = is} p q) = parts_and (node_wide a b lo hi x (OfPart i) l k p) (parts_wide OfPart a b lo hi xs is l k q)

  -- the numbers of a node don't fall
  pub node_order : (lo hi : ℕ) (x : Tree) (U : Unfolding → Type 0) → AreFitTables places v names → IsNode lo hi x U → lo ≤ hi
  node_order lo hi x U fit p = (p.means.portion v names true (later_same v) (keeps_same names) (tidy_tables (length v.labels) v.tables fit.nets)).order

  module _ (keep : NormalFormsKeepPatterns) (agree : LaterTablesAgree) (constructors : ConstructorsKeepSoundness) (fit : AreFitTables places v names) where
    abbrev labels : ℕ
    labels = length v.labels

    abbrev w : Tables
    w = v.tables

    tables_tidy : AreTidyTables w
    tables_tidy = tidy_tables labels w fit.nets

    -- what a node term means now
    now : (lo hi : ℕ) (x : Tree) (U : Unfolding → Type 0) → IsNode lo hi x U → (o : Bool) → IsPortion v.labels names lo hi [] (HasPattern (terms_over w) o x) U
    now lo hi x U p o = p.means.portion v names o (later_same v) (keeps_same names) tables_tidy

    -- a sound term that means its unfoldings now
    from_now : (lo hi : ℕ) (x : Tree) (U : Unfolding → Type 0) → IsSoundNode labels w x → AreEventsPlaced places x → ((o : Bool) → IsPortion v.labels names lo hi [] (HasPattern (terms_over w) o x) U) → IsNode lo hi x U
    from_now lo hi x U sound placed p = record {
      means = portion_from_now agree v names lo hi [] x (λ o. U) (tidy_of labels w x fit.nets sound.sound) p;
      sound = sound;
      placed = placed;
    }

    pub node_nil : (n : ℕ) → IsNode n n Nil OnlyEmpty
    node_nil n = from_now n n Nil OnlyEmpty (constructors.join labels w seq [] fit.nets tt) tt (λ o. portion_nil v.labels names (terms_over w) o n)

    -- ---- lists of parts

    module _ {Part : Type 0} (OfPart : Part → Unfolding → Type 0) where
      abbrev Set : Part → Bool → Unfolding → Type 0
      Set i o = OfPart i

      pub parts_sound : (a b : ℕ) (xs : List Tree) (is : List Part) → AreParts OfPart places v names a b xs is → Each (IsSoundNode labels w) xs
      parts_sound a b _ _ (no_parts l) = tt
      parts_sound a b _ _ (parts_and {xs = xs} {is = is} p q) = (p.sound, parts_sound a b xs is q)

      parts_placed : (a b : ℕ) (xs : List Tree) (is : List Part) → AreParts OfPart places v names a b xs is → Each (AreEventsPlaced places) xs
      parts_placed a b _ _ (no_parts l) = tt
      parts_placed a b _ _ (parts_and {xs = xs} {is = is} p q) = (p.placed, parts_placed a b xs is q)

      -- the parts side by side or one after another
      joined_portion : (m : Mode) (a b : ℕ) (xs : List Tree) (is : List Part) → AreParts OfPart places v names a b xs is → (o : Bool) → IsPortion v.labels names a b [] (HasParts (terms_over w) o m xs) (OfItems Set m is o)
      joined_portion m a b _ _ (no_parts l) o = hidden_no_part v.labels names (terms_over w) o a b l m
      joined_portion m a b _ _ (parts_and {x = x} {xs = xs} {i = i} {is = is} p q) o =
          hidden_part v.labels names (terms_over w) o a b fit.once m x xs (OfPart i) (OfItems Set m is o) (now a b x (OfPart i) p o) (joined_portion m a b xs is q o)

      -- the parts joined: V is the set of their unfoldings, joined
      pub node_join : (m : Mode) (a b : ℕ) (xs : List Tree) (is : List Part) (V : Unfolding → Type 0) → ((o : Bool) (u : Unfolding) → Both (OfItems Set m is o u) (V u)) → AreParts OfPart places v names a b xs is → IsNode a b (join_all m xs) V
      node_join m a b xs is V sets p =
          from_now a b (join_all m xs) V (constructors.join labels w m xs fit.nets (parts_sound a b xs is p)) (join-placed places (permits_of []) m xs (parts_placed a b xs is p))
          (λ o. portion_sets v.labels names a b [] (HasPattern (terms_over w) o (join_all m xs)) (OfItems Set m is o) V (sets o)
          (portion_join_all v.labels names keep o w a b [] (OfItems Set m is o) m xs (joined_portion m a b xs is p o)))

      -- one of the parts
      choice_portion : (a b : ℕ) (xs : List Tree) (is : List Part) → AreParts OfPart places v names a b xs is → (o : Bool) → IsPortion v.labels names a b [] (HasChoice (terms_over w) o xs) (OfOne Set is o)
      choice_portion a b _ _ (no_parts l) o = hidden_no_choice v.labels names (terms_over w) o a b l
      choice_portion a b _ _ (parts_and {x = x} {xs = xs} {i = i} {is = is} p q) o =
          hidden_choice v.labels names (terms_over w) o a b x xs (OfPart i) (OfOne Set is o) (now a b x (OfPart i) p o) (choice_portion a b xs is q o)

      pub node_choice : (a b : ℕ) (xs : List Tree) (x : Tree) (is : List Part) (V : Unfolding → Type 0) → ((o : Bool) (u : Unfolding) → Both (OfOne Set is o u) (V u)) → choice_of xs ≡ Some x → AreParts OfPart places v names a b xs is → IsNode a b x V
      node_choice a b xs x is V sets e p =
          from_now a b x V (held (IsSoundNode labels w) (choice_of xs) x e (sound xs e (parts_sound a b xs is p))) (may (AreEventsPlaced places) (choice_of xs) e (choice-placed places (permits_of []) xs (parts_placed a b xs is p)))
          (λ o. portion_sets v.labels names a b [] (HasPattern (terms_over w) o x) (OfOne Set is o) V (sets o)
          (let P : Option Tree → Type 0 = λ r. IsPortion v.labels names a b [] (PatternsOf (terms_over w) o r) (OfOne Set is o) in
          subst P e (portion_choice_of v.labels names keep o w a b [] (OfOne Set is o) xs (choice_portion a b xs is p o))))
        where
          sound : (ys : List Tree) → choice_of ys ≡ Some x → Each (IsSoundNode labels w) ys → MustHave (IsSoundNode labels w) (choice_of ys)
          sound [] f h = absurd cc
          sound (y ∷ ys) f h = constructors.choice labels w y ys fit.nets h

          may : (P : Tree → Type 0) (r : Option Tree) → r ≡ Some x → MayHave P r → P x
          may P r f h = subst (λ (q : Option Tree). MayHave P q) f h

    -- turns of a part, as many as the bounds leave
    pub node_turns : (a b : ℕ) (x y : Tree) (lo : ℕ) (hi : Option ℕ) (U : Unfolding → Type 0) → UpTo hi lo → fresh_loop w x lo hi ≡ Some y → IsNode a b x U → IsNode a b y (AreSomeOften U lo hi)
    node_turns a b x y lo hi U l e p =
        from_now a b y (AreSomeOften U lo hi) (held (IsSoundNode labels w) (fresh_loop w x lo hi) y e (constructors.loop labels w x lo hi fit.nets p.sound l))
        (may (fresh_part (IsPlaced places) (λ y q. Unit {0}) (λ y. Unit {0}) (λ n f t. Unit {0}) (permits_of w) (λ n f g t u h s a. tt) (λ x q h. tt) (λ b x z e q h. tt) (λ x y z b e a p q h. tt) x lo hi (Gap [] ∷ []) p.placed tt tt))
        (λ o. let P : Option Tree → Type 0 = λ r. IsPortion v.labels names a b [] (PatternsOf (terms_over w) o r) (AreSomeOften U lo hi) in
        subst P e (portion_fresh_loop v.labels names keep o w a b [] (AreSomeOften U lo hi) x lo hi tables_tidy p.means.tidy l
        (portion_turns v.labels names (terms_over w) o fit.once a b [] x lo hi U (now a b x U p o))))
      where
        may : MayHave (AreEventsPlaced places) (fresh_loop w x lo hi) → AreEventsPlaced places y
        may h = subst (λ (q : Option Tree). MayHave (AreEventsPlaced places) q) e h

-- ---- later tables

module _ (agree : LaterTablesAgree) (stay : TablesStaySound) (places : ℕ → List ℕ) (names : List (List ℕ)) where
  sound_along : (many : ℕ) (w u : Tables) (x : Tree) → Extends w u → AreSoundNets many u → IsSoundNode many w x → IsSoundNode many u x
  sound_along many w _ x as_it_is h i = i
  sound_along many w _ x (one_more {v = u} e b) h i = stay.later_node many u e x h.0 (sound_along many w u x b h.0 i)

  pub later_of : (v w : NetsValue) → HaveGrown places v w names → IsLater v w
  later_of v w g = record { labels = λ i x h. subst (λ (ls : List Label). slice_get ls i ≡ Some x) (sym g.labels) h; tables = g.tables }

  pub node_later : (v w : NetsValue) (lo hi : ℕ) (x : Tree) (U : Unfolding → Type 0) → HaveGrown places v w names → IsNodeTerm places v names lo hi x U → IsNodeTerm places w names lo hi x U
  node_later v w lo hi x U g p = record {
    means = portion_later_still agree v w names names lo hi [] x (λ o. U) (later_of v w g) (keeps_same names) (tidy_tables (length w.labels) w.tables g.fit.nets) p.means;
    sound = sound_along (length w.labels) v.tables w.tables x g.tables g.fit.nets (subst (λ (ls : List Label). IsSoundNode (length ls) v.tables x) (sym g.labels) p.sound);
    placed = p.placed;
  }

  pub parts_later : {Part : Type 0} (OfPart : Part → Unfolding → Type 0) (v w : NetsValue) (a b : ℕ) (xs : List Tree) (is : List Part) → HaveGrown places v w names → AreParts OfPart places v names a b xs is → AreParts OfPart places w names a b xs is
  parts_later OfPart v w a b _ _ g (no_parts l) = no_parts l
  parts_later OfPart v w a b _ _ g (parts_and {x = x} {xs = xs} {i = i} {is = is} p q) = parts_and (node_later v w a b x (OfPart i) g p) (parts_later OfPart v w a b xs is g q)

module _ (places : ℕ → List ℕ) (names : List (List ℕ)) where
  pub grown_none : (v : NetsValue) → AreFitTables places v names → HaveGrown places v v names
  grown_none v f = record { labels = refl; tables = as_it_is; fit = f }

  pub grown_on : (v w u : NetsValue) → HaveGrown places v w names → HaveGrown places w u names → HaveGrown places v u names
  grown_on v w u f g = record { labels = g.labels ∙ f.labels; tables = extends_on v.tables w.tables u.tables f.tables g.tables; fit = g.fit }
