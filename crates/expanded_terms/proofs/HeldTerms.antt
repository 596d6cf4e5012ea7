-- The events that the term of an expansion holds, also in its nets, are the expansion's; and a walk is sound where its net is among sound
-- ones.
use Rattle.std.specs.Option.{unwrap_or}
use Rattle.std.specs.Prelude.{ℕ, zero, suc, ◌≤◌, Bool, true, false, not, ◌&&◌, List, [], ◌∷◌, ◌++◌, ◌≡◌, Option, None, Some}
use Rattle.std.proofs.Common.{refl, sym, subst, inl, inr, ◌⊎◌, arith}
use Rattle.msc_base.specs.Orders.{Among, first}
use Rattle.msc_base.specs.Patterns.{Mode, seq, par}
use Rattle.hmsc_graph.specs.declared.shape.Shape.{Shape}
use Rattle.hmsc_graph.specs.Graphs.{Start, End}
use Rattle.chart_term.specs.NormalForms.{join_all, choice_of, is_nil, numbers, tie_of}
use Rattle.chart_term.specs.Properties.{Each, MayHave}
use Rattle.chart_term.specs.TermMeanings.{HasPattern}
use Rattle.chart_term.specs.Tables.{NetEntry, Tables, net_count, node_of, nth_tree, terms_over}
use Rattle.chart_term.specs.Terms.{TermEvent, has, Tree, Nil, Event, Walk}
use Rattle.chart_term.specs.Views.{pairs_of}
use Rattle.sound_terms.specs.DrawnOrders.{NetHolds}
use Rattle.sound_terms.specs.TableLaws.{TablesStaySound}
use Rattle.sound_terms.specs.TermRanks.{Holds, HoldsOne, inside_event, inside_this, inside_that, inside_walk}
use Rattle.sound_terms.proofs.Ordering.{among_left, among_right}
use Rattle.sound_terms.proofs.RankedTerms.{has_at}
use Rattle.term_laws.specs.FullSoundness.{AreSoundNets, ConstructorsKeepSoundness, IsSoundNode, fresh_walk}
use Rattle.term_laws.specs.Soundness.{AreTidyTables, Lacks, NetLacks}
use Rattle.term_laws.proofs.FullSound.{tidy_tables}
use Rattle.expansion_tree.specs.Expansions.{Event as event, InRow, Aside, OneOf, Exception, Turns, Tied, Walk as walked, no_parts, part_and, is_exception}
use Rattle.expansion_tree.specs.Numbered.{Expansion, Expansions}
use Rattle.expansion_tree.specs.Walks.{EachWalk, EachWalkIn}
use Rattle.expansion_terms.specs.Constructors.{one_of, placed, leave_turn, turns_if, turns_of}
use Rattle.expansion_terms.specs.ExpansionTerms.{numbered_term, event_term, row_term, aside_term, part_terms}
use Rattle.expansion_terms.specs.MadeTerms.{IsWalkOf, net_of_shape}
use Rattle.term_laws.specs.OneResidual.{AreOnce}
use Rattle.expanded_terms.specs.BareTerms.{IsBare}
use Rattle.expanded_terms.specs.RankedTrees.{IsRankedTree}
use Rattle.expanded_terms.specs.SoundParts.{IsSoundPart, numbers_of}
use Rattle.expanded_terms.proofs.Bare.{bare_join, bare_choice, bare_tie, one_there}
use Rattle.expanded_terms.proofs.ExpansionEvents.{named, term_events, all_term_events, number_among}
use Rattle.expanded_terms.proofs.KeptParts.{choice_has, join_has, lacks_by_parts, lacks_outside, tie_has}
use Rattle.expanded_terms.proofs.LoopTurns.{bare_turns}
use Rattle.expanded_terms.proofs.NetParts.{net_lacks, node_there, sound_above, sound_below, walk_forms}
use Rattle.expanded_terms.proofs.NodeOrders.{node_orders, order_keys}
use Rattle.expanded_terms.proofs.RankedTrees.{join_held, choice_held, tie_held, turns_held}

-- the term has begun no turn; the events that it holds are among these, and it lacks the numbers that they lack
pub record IsHeldBy (w : Tables) (es : List TermEvent) (x : Tree) : Type 0 where
  pub bare : IsBare x
  pub held : (e : TermEvent) → Holds (NetHolds w) e x → Among e es
  pub lacks : (j : ℕ) → ((e : TermEvent) → Among e es → e.number ≡ j → ⊥) → Lacks (NetLacks w) j x

pub record AreHeldBy (w : Tables) (es : List TermEvent) (xs : List Tree) : Type 0 where
  pub bare : Each IsBare xs
  pub held : (e : TermEvent) → HoldsOne (NetHolds w) e xs → Among e es
  pub lacks : (j : ℕ) → ((e : TermEvent) → Among e es → e.number ≡ j → ⊥) → Each (Lacks (NetLacks w) j) xs

held_first : (N : ℕ → TermEvent → Type 0) (e : TermEvent) (x : Tree) (xs : List Tree) → HoldsOne N e (x ∷ xs) → Holds N e x ⊎ HoldsOne N e xs
held_first N e x xs (inside_this h) = inl h
held_first N e x xs (inside_that h) = inr h

nothing_held : (N : ℕ → TermEvent → Type 0) (e : TermEvent) → Holds N e Nil → ⊥
nothing_held N e h = elim h [ ]

through : (N : ℕ → TermEvent → Type 0) (e : TermEvent) (n : ℕ) (c : List ℕ) → Holds N e (Walk n Start End c) → N n e
through N e n c (inside_walk h) = h

module _ (w : Tables) where
  held_nothing : IsHeldBy w [] Nil
  held_nothing = record { bare = tt; held = λ e h. absurd (nothing_held (NetHolds w) e h); lacks = λ j f. tt }

  none_held : AreHeldBy w [] []
  none_held = record { bare = tt; held = λ e h. elim h [ ]; lacks = λ j f. tt }

  more_held : (es fs : List TermEvent) (x : Tree) (xs : List Tree) → IsHeldBy w es x → AreHeldBy w fs xs → AreHeldBy w (es ++ fs) (x ∷ xs)
  more_held es fs x xs p q = record {
    bare = (p.bare, q.bare);
    held = λ e h. elim (held_first (NetHolds w) e x xs h) [ inl i ↦ among_left es fs e (p.held e i) | inr i ↦ among_right es fs e (q.held e i) ];
    lacks = λ j f. (p.lacks j (λ e i. f e (among_left es fs e i)), q.lacks j (λ e i. f e (among_right es fs e i)));
  }

  lone : (es : List TermEvent) (x : Tree) → IsHeldBy w es x → AreHeldBy w es (x ∷ [])
  lone es x p = record {
    bare = (p.bare, tt);
    held = λ e h. elim (held_first (NetHolds w) e x [] h) [ inl i ↦ p.held e i | inr i ↦ elim i [ ] ];
    lacks = λ j f. (p.lacks j f, tt);
  }

  joined_held : (m : Mode) (es : List TermEvent) (xs : List Tree) → AreHeldBy w es xs → IsHeldBy w es (join_all m xs)
  joined_held m es xs p = record {
    bare = bare_join m xs p.bare;
    held = λ e h. p.held e (join_held (NetHolds w) e m xs h);
    lacks = λ j f. join_has (Lacks (NetLacks w) j) (lacks_by_parts (NetLacks w) j) m xs (p.lacks j f);
  }

  chosen_held : (es : List TermEvent) (x : Tree) (xs : List Tree) → AreHeldBy w es (x ∷ xs) → IsHeldBy w es (one_of (x ∷ xs))
  chosen_held es x xs p = record {
    bare = bare_choice (x ∷ xs) (one_of (x ∷ xs)) p.bare there;
    held = λ e h. p.held e (choice_held (NetHolds w) e (x ∷ xs) (one_of (x ∷ xs)) there h);
    lacks = λ j f. choice_has (Lacks (NetLacks w) j) (lacks_by_parts (NetLacks w) j) (x ∷ xs) (one_of (x ∷ xs)) (p.lacks j f) there;
  }
    where
      there : choice_of (x ∷ xs) ≡ Some (one_of (x ∷ xs))
      there = one_there x xs p.bare.0

  placed_held : (b : Bool) (es fs : List TermEvent) (x y : Tree) → IsHeldBy w es x → IsHeldBy w fs y → IsHeldBy w (es ++ fs) (placed b x y)
  placed_held true es fs x y p q = chosen_held (es ++ fs) x (y ∷ []) (more_held es fs x (y ∷ []) p (lone fs y q))
  placed_held false es fs x y p q = joined_held seq (es ++ fs) (x ∷ y ∷ []) (more_held es fs x (y ∷ []) p (lone fs y q))

  turned_held : (lower : ℕ) (upper : Option ℕ) (es : List TermEvent) (x : Tree) → IsHeldBy w es x → IsHeldBy w es (turns_of lower upper x)
  turned_held lower upper es x p = record {
    bare = bare_turns lower upper x p.bare;
    held = λ e h. p.held e (turns_held (NetHolds w) e lower upper x h);
    lacks = λ j f. each j (p.lacks j f) (leave_turn lower upper && not (is_nil (Some x)));
  }
    where
      each : (j : ℕ) → Lacks (NetLacks w) j x → (b : Bool) → Lacks (NetLacks w) j (turns_if b lower upper x)
      each j h true = (h, tt)
      each j h false = tt

  tied_held : (es : List TermEvent) (x : Tree) (q : List (ℕ × ℕ)) → IsHeldBy w es x → IsHeldBy w es (tie_of x q)
  tied_held es x q p = record {
    bare = bare_tie x q p.bare;
    held = λ e h. p.held e (tie_held (NetHolds w) e x q h);
    lacks = λ j f. tie_has (Lacks (NetLacks w) j) (lacks_by_parts (NetLacks w) j) x q (p.lacks j f);
  }

  event_held : (e : TermEvent) → IsHeldBy w (e ∷ []) (Event e)
  event_held e = record { bare = tt; held = held; lacks = λ j f q. f e first q }
    where
      held : (d : TermEvent) → Holds (NetHolds w) d (Event e) → Among d (e ∷ [])
      held _ inside_event = first

-- ---- walks

nth_held : (N : ℕ → TermEvent → Type 0) (e : TermEvent) (xs : List Tree) (m : ℕ) → Holds N e (nth_tree xs m) → HoldsOne N e xs
nth_held N e [] m h = absurd (nothing_held N e h)
nth_held N e (x ∷ xs) zero h = inside_this h
nth_held N e (x ∷ xs) (suc m) h = inside_that (nth_held N e xs m h)

module _ (labels : ℕ) (w : Tables) (nets : AreSoundNets labels w) (es : List TermEvent) (g : Shape) (nodes : List Tree) (p : AreHeldBy w es nodes) where
  abbrev entry : NetEntry
  entry = record { net = net_of_shape g; nodes = nodes }

  -- the events of the net are those of its node terms
  net_held : (newer older : Tables) → w ≡ newer ++ entry ∷ older → (e : TermEvent) → NetHolds w (net_count older) e → Among e es
  net_held newer older there e h = p.held e (nth_held (NetHolds w) e nodes h.node (subst (λ (d : TermEvent). Holds (NetHolds w) d (nth_tree nodes h.node)) h.is
      (has_at (terms_over w) true (NetHolds w) (λ n m t a i. record { node = m; pattern = t; has = a; position = i; is = refl }) (λ n m t a. ((λ j. 0), order_keys t (node_orders labels w nets n m t a)))
      (subst (λ (x : Tree). HasPattern (terms_over w) true x h.pattern) node h.has) h.position)))
    where
      node : node_of w (net_count older) h.node ≡ nth_tree nodes h.node
      node = subst (λ (t : Tables). node_of t (net_count older) h.node ≡ nth_tree nodes h.node) (sym there) (node_there entry older newer h.node)

  lacks_net : (newer older : Tables) → w ≡ newer ++ entry ∷ older → (j : ℕ) → ((e : TermEvent) → Among e es → e.number ≡ j → ⊥) → NetLacks w j (net_count older)
  lacks_net newer older there j f = subst (λ (t : Tables). NetLacks t j (net_count older)) (sym there)
      (net_lacks entry older j newer (subst (λ (t : Tables). AreTidyTables t) there (tidy_tables labels w nets)) (subst (λ (t : Tables). Each (Lacks (NetLacks t) j) nodes) there (p.lacks j f)))

  pub walk_held : (x : Tree) → IsWalkOf w g nodes x → IsHeldBy w es x
  walk_held x h = subst (λ (y : Tree). IsHeldBy w es y) (sym h.is) (walk_forms (IsHeldBy w es) (entry ∷ h.older) (net_count h.older) End (nil_held es) (λ c. record {
    bare = tt;
    held = λ e i. net_held h.newer h.older h.there e (through (NetHolds w) e (net_count h.older) c i);
    lacks = λ j f. lacks_net h.newer h.older h.there j f;
  }))
    where
      nil_held : (es : List TermEvent) → IsHeldBy w es Nil
      nil_held es = record { bare = tt; held = λ e i. absurd (nothing_held (NetHolds w) e i); lacks = λ j f. tt }

-- ---- expansions

module _ (labels : ℕ) (w : Tables) (nets : AreSoundNets labels w) (walk : ℕ → Tree) where
  abbrev AreWalks : Expansion → Type 0
  AreWalks x = EachWalk (λ m g xs. IsWalkOf w g (part_terms event_term walk xs) (walk m)) x

  abbrev AreWalksIn : Expansions → Type 0
  AreWalksIn xs = EachWalkIn (λ m g xs. IsWalkOf w g (part_terms event_term walk xs) (walk m)) xs

  one_held : (xs : Expansions) → AreHeldBy w (all_term_events xs) (part_terms event_term walk xs) → IsHeldBy w (all_term_events xs) (one_of (part_terms event_term walk xs))
  one_held no_parts h = held_nothing w
  one_held (part_and x xs) h = chosen_held w (all_term_events (part_and x xs)) (numbered_term walk x) (part_terms event_term walk xs) h

  mutual
    pub part_held : (x : Expansion) → AreWalks x → IsHeldBy w (term_events x) (numbered_term walk x)
    part_held (event e) v = event_held w (named e)
    part_held (InRow xs) v = row_held xs v
    part_held (Aside xs) v = aside_held xs v
    part_held (OneOf xs) v = one_held xs (parts_held xs v)
    part_held (Exception x) v = part_held x v
    part_held (Turns n lower upper x) v = turned_held w lower upper (term_events x) (numbered_term walk x) (part_held x v)
    part_held (Tied x ps) v = tied_held w (term_events x) (numbered_term walk x) (pairs_of ps) (part_held x v)
    part_held (walked m g xs) v = walk_held labels w nets (all_term_events xs) g (part_terms event_term walk xs) (parts_held xs v.1) (walk m) v.0

    row_held : (xs : Expansions) → AreWalksIn xs → IsHeldBy w (all_term_events xs) (row_term event_term walk xs)
    row_held no_parts v = held_nothing w
    row_held (part_and x xs) v = placed_held w (is_exception x) (term_events x) (all_term_events xs) (numbered_term walk x) (row_term event_term walk xs) (part_held x v.0) (row_held xs v.1)

    aside_held : (xs : Expansions) → AreWalksIn xs → IsHeldBy w (all_term_events xs) (aside_term event_term walk xs)
    aside_held no_parts v = held_nothing w
    aside_held (part_and x xs) v =
        joined_held w par (term_events x ++ all_term_events xs) (numbered_term walk x ∷ aside_term event_term walk xs ∷ [])
        (more_held w (term_events x) (all_term_events xs) (numbered_term walk x) (aside_term event_term walk xs ∷ []) (part_held x v.0) (lone w (all_term_events xs) (aside_term event_term walk xs) (aside_held xs v.1)))

    pub parts_held : (xs : Expansions) → AreWalksIn xs → AreHeldBy w (all_term_events xs) (part_terms event_term walk xs)
    parts_held no_parts v = none_held w
    parts_held (part_and x xs) v = more_held w (term_events x) (all_term_events xs) (numbered_term walk x) (part_terms event_term walk xs) (part_held x v.0) (parts_held xs v.1)

-- ---- a walk as a part: its events have one rank

module _ (keep : ConstructorsKeepSoundness) (stay : TablesStaySound) (labels : ℕ) (w : Tables) (nets : AreSoundNets labels w) (r : ℕ → ℕ) (c lo hi : ℕ) (es : List TermEvent) (g : Shape) (nodes : List Tree) where
  abbrev Part : Tree → Type 0
  Part x = IsSoundPart labels w r lo hi es (numbers_of es) x

  sound_node : (x : Tree) → IsWalkOf w g nodes x → IsSoundNode labels w x
  sound_node x h = subst (λ (y : Tree). IsSoundNode labels w y) (sym h.is)
      (subst (λ (t : Tables). IsSoundNode labels t made) (sym h.there) (sound_above e h.older stay labels h.newer made (subst (λ (t : Tables). AreSoundNets labels t) h.there nets)
      (there (fresh_walk (e ∷ h.older) (net_count h.older) End) (keep.walk labels (e ∷ h.older) (net_count h.older) End below (omega arith) tt tt))))
    where
      e : NetEntry
      e = record { net = net_of_shape g; nodes = nodes }

      made : Tree
      made = unwrap_or (fresh_walk (e ∷ h.older) (net_count h.older) End) Nil

      below : AreSoundNets labels (e ∷ h.older)
      below = sound_below e h.older labels h.newer (subst (λ (t : Tables). AreSoundNets labels t) h.there nets)

      there : (o : Option Tree) → MayHave (IsSoundNode labels (e ∷ h.older)) o → IsSoundNode labels (e ∷ h.older) (unwrap_or o Nil)
      there None i = keep.join labels (e ∷ h.older) seq [] below tt
      there (Some y) i = i

  pub walk_sound : (x : Tree) → IsWalkOf w g nodes x → AreHeldBy w es nodes → ((e : TermEvent) → Among e es → r e.number ≡ c) → lo ≤ hi → Part x
  walk_sound x h p one order = record {
    node = sound_node x h;
    bare = k.bare;
    ranked = ranks x h.is;
    held = k.held;
    lacks = k.lacks;
    outside = λ j f. lacks_outside (NetLacks w) j x (k.lacks j (λ e i q. f (subst (λ (n : ℕ). Among n (numbers_of es)) q (number_among es e i))));
    once = subst (λ (y : Tree). AreOnce (numbers y)) (sym h.is) (walk_forms (λ y. AreOnce (numbers y)) (e ∷ h.older) (net_count h.older) End tt (λ c. tt));
    inside = λ j i. absurd (none j (subst (λ (y : Tree). has (numbers y) j ≡ true) h.is i));
    order = order;
  }
    where
      e : NetEntry
      e = record { net = net_of_shape g; nodes = nodes }

      k : IsHeldBy w es x
      k = walk_held labels w nets es g nodes p x h

      none : (j : ℕ) → has (numbers (unwrap_or (fresh_walk (e ∷ h.older) (net_count h.older) End) Nil)) j ≡ true → ⊥
      none j = walk_forms (λ y. has (numbers y) j ≡ true → ⊥) (e ∷ h.older) (net_count h.older) End (λ i. absurd cc) (λ c i. absurd cc)

      ranks : (x : Tree) → x ≡ unwrap_or (fresh_walk (e ∷ h.older) (net_count h.older) End) Nil → IsRankedTree (NetHolds w) r x
      ranks x is = subst (λ (y : Tree). IsRankedTree (NetHolds w) r y) (sym is)
          (walk_forms (IsRankedTree (NetHolds w) r) (e ∷ h.older) (net_count h.older) End tt (λ b. (c, λ d i. one d (net_held labels w nets es g nodes p h.newer h.older h.there d i))))
