-- Permission and taking keep what is asked of each event, tie, loop operand and walk of a term.
use Rattle.std.specs.Prelude.{ℕ, ◌<◌, ◌==◌, Bool, true, false, List, [], ◌∷◌, ◌≡◌, Option, Some}
use Rattle.msc_base.specs.Patterns.{Mode}
use Rattle.hmsc_graph.specs.Graphs.{Spot, Goal}
use Rattle.chart_term.specs.NormalForms.{NetPermits, only, join_all, choice_of, tie_of, kept_pairs, numbers, loop_of, walk_of}
use Rattle.chart_term.specs.Properties.{Each, EachTurn, EveryOf, EveryRow, IsBelow, MayHave}
use Rattle.chart_term.specs.Tables.{NetEntry, Tables, net_count, choose}
use Rattle.chart_term.specs.Terms.{TermEvent, Block, Tree, Nil, Event, Join, Choice, Tied, Loop, Walk, Trees, none, more, Row, ends, gap, turn, items, trees, Part, Gap, Turn, parts, row_of}
use Rattle.term_laws.specs.FullSoundness.{EveryPart, EveryPartOf, EveryRowPart}
use Rattle.chart_term.specs.Spreads.{touch}
use Rattle.term_laws.specs.Permission.{permit, permit_nth, permits_of}
use Rattle.term_laws.specs.Soundness.{AreTidyTables}
use Rattle.term_laws.specs.Taking.{IsAfter}
use Rattle.term_laws.proofs.Keeping.{Kind, Begins, Aims, join_keeps, choice_keeps, tied_keeps, turns_keep, trail_keeps, permit_keeps, after_keeps, at_some}
use Rattle.term_laws.proofs.TermSentences.{kept_below, low_nth}
use Rattle.term_laws.proofs.TidyTables.{nth_has}

module _ (E : TermEvent → Type 0) (B : Tree → List (ℕ × ℕ) → Type 0) (L : Tree → Type 0) (N : ℕ → Spot → Goal → Type 0) where
  abbrev EP : Tree → Type 0
  EP x = EveryPart E B L N x

  pub part_in : (xs : List Tree) → Each EP xs → EveryPartOf E B L N (trees xs)
  part_in [] h = tt
  part_in (x ∷ xs) h = (h.0, part_in xs h.1)

  pub part_out : (xs : Trees) → EveryPartOf E B L N xs → Each EP (items xs)
  part_out none h = tt
  part_out (more x xs) h = (h.0, part_out xs h.1)

  pub row_in : (ps : List Part) → EachTurn EP ps → EveryRowPart E B L N (row_of ps)
  row_in [] h = tt
  row_in (Gap c ∷ ps) h = row_in ps h
  row_in (Turn x ∷ ps) h = (h.0, row_in ps h.1)

  pub row_out : (r : Row) → EveryRowPart E B L N r → EachTurn EP (parts r)
  row_out ends h = tt
  row_out (gap c r) h = row_out r h
  row_out (turn x r) h = (h.0, row_out r h.1)

  -- where walks that are left have it, ties with fewer pairs, and ties of what permission and taking leave
  module _ (k : NetPermits) (walk_left : (n : ℕ) (f g : Spot) (t u : Goal) → N n f t → Begins k n f g → Aims k n t u → N n g u)
      (tie_fewer : (x : Tree) (q : List (ℕ × ℕ)) → B x q → B x (kept_pairs (numbers x) q))
      (tie_permit : (b : Block) (x z : Tree) → permit k b x ≡ Some z → (q : List (ℕ × ℕ)) → B x q → B z q)
      (tie_taken : (x y z : Tree) (b : Block) (e : TermEvent) → IsAfter k x e y → permit k b y ≡ Some z → (q : List (ℕ × ℕ)) → B x q → B z q) where
    part_kind : Kind k EP EP (λ x lo hi ps. EP x × L x) (λ x z. (q : List (ℕ × ℕ)) → B x q → B z q)
    part_kind = record {
      nil = tt;
      join_in = λ m xs h. part_in xs h;
      join_out = λ m xs h. part_out xs h;
      choice_in = λ x y xs a b h. (a, (b, part_in xs h));
      choice_out = λ xs h. part_out xs h;
      bound_out = λ x q h. h.0;
      bound_in = λ x z q h d i. (i, d q h.1);
      bound_fewer = λ x q h. (h.0, tie_fewer x q h.1);
      turns_in = λ x lo hi ps h d g a. (h.0, h.1, row_in ps d);
      turns_out = λ x lo hi r h. ((h.0, h.1), row_out r h.2);
      release = λ x h. h;
      turn_permit = λ b x h i. i;
      turn_after = λ x y e h a i. i;
      new_turn = λ x y z c lo hi ps e h p a f. f h.0;
      sub = λ x lo hi ps qs s h. h;
      cuts = λ x lo hi ps h. h;
      low = λ x lo hi ps b h. h;
      wide = λ b x lo hi r qs e h. h;
      after_row = λ x lo hi r qs b e a hm h. h;
      trail_in = λ n f g t u c d h s a l. walk_left n f g t u h s a;
      permitted = λ b x z e. tie_permit b x z e;
      taken = λ x y z b e a p. tie_taken x y z b e a p;
    }

    pub permit_part : (b : Block) (x : Tree) → EP x → MayHave EP (permit k b x)
    permit_part = permit_keeps k EP EP (λ x lo hi ps. EP x × L x) (λ x z. (q : List (ℕ × ℕ)) → B x q → B z q) part_kind

    abbrev Operand : Tree → ℕ → Option ℕ → List Part → Type 0
    Operand x lo hi ps = EP x × L x

    abbrev Keeps : Tree → Tree → Type 0
    Keeps x z = (q : List (ℕ × ℕ)) → B x q → B z q

    pub join_part : (m : Mode) (xs : List Tree) → Each EP xs → EP (join_all m xs)
    join_part = join_keeps k EP EP Operand Keeps part_kind

    pub choice_part : (xs : List Tree) → Each EP xs → MayHave EP (choice_of xs)
    choice_part = choice_keeps k EP EP Operand Keeps part_kind

    pub bound_part : (x : Tree) (q : List (ℕ × ℕ)) → EP (Tied x q) → EP (tie_of x q)
    bound_part = tied_keeps k EP EP Operand Keeps part_kind

    pub fresh_part : (x : Tree) (lo : ℕ) (hi : Option ℕ) (ps : List Part) → EP x → L x → EachTurn EP ps → MayHave EP (loop_of (λ c. permit k (only c) x) (touch k.spread x) x lo hi ps)
    fresh_part x lo hi ps h l d = turns_keep k EP EP (λ x lo hi ps. EP x × L x) (λ x z. (q : List (ℕ × ℕ)) → B x q → B z q) part_kind x lo hi ps (h, l) d

    pub walk_part : (n : ℕ) (f g : Spot) (t u : Goal) (c d : List ℕ) → EP (Walk n f t c) → Begins k n f g → Aims k n t u → MayHave EP (walk_of k n g u d)
    walk_part = trail_keeps k EP EP Operand Keeps part_kind

    pub after_part : ((n m : ℕ) (d : List ℕ) (x : Tree) → k.kept n m d ≡ Some x → EP x) → {x y : Tree} {e : TermEvent} → IsAfter k x e y → EP x → EP y
    after_part kept = after_keeps k EP EP (λ x lo hi ps. EP x × L x) (λ x z. (q : List (ℕ × ℕ)) → B x q → B z q) part_kind (λ n m f t c d x h e. kept n m d x e)

-- where each walk is in a net below a number, the term names only nets below it
module _ (E : TermEvent → Type 0) (B : Tree → List (ℕ × ℕ) → Type 0) (L : Tree → Type 0) (N : ℕ → Spot → Goal → Type 0) (top : ℕ) (low : (n : ℕ) (f : Spot) (t : Goal) → N n f t → n < top) where
  mutual
    pub part_below : (x : Tree) → EveryPart E B L N x → IsBelow top x
    part_below Nil h = tt
    part_below (Event e) h = tt
    part_below (Join m xs) h = parts_below xs h
    part_below (Choice xs) h = parts_below xs h
    part_below (Tied x q) h = part_below x h.0
    part_below (Loop x lo hi r) h = (part_below x h.0, row_below r h.2)
    part_below (Walk n f t c) h = low n f t h

    parts_below : (xs : Trees) → EveryPartOf E B L N xs → EveryOf (λ e. Unit {0}) (λ m. m < top) xs
    parts_below none h = tt
    parts_below (more x xs) h = (part_below x h.0, parts_below xs h.1)

    row_below : (r : Row) → EveryRowPart E B L N r → EveryRow (λ e. Unit {0}) (λ m. m < top) r
    row_below ends h = tt
    row_below (gap c r) h = row_below r h
    row_below (turn x r) h = (part_below x h.0, row_below r h.1)

-- what is asked may change, for terms that name only nets below a number
module _ (E F : TermEvent → Type 0) (B C : Tree → List (ℕ × ℕ) → Type 0) (L M : Tree → Type 0) (N O : ℕ → Spot → Goal → Type 0) (top : ℕ)
    (event : (e : TermEvent) → E e → F e) (tie : (x : Tree) (q : List (ℕ × ℕ)) → IsBelow top x → B x q → C x q) (operand : (x : Tree) → IsBelow top x → L x → M x)
    (walk : (n : ℕ) (f : Spot) (t : Goal) → n < top → N n f t → O n f t) where
  mutual
    pub part_map : (x : Tree) → IsBelow top x → EveryPart E B L N x → EveryPart F C M O x
    part_map Nil b h = tt
    part_map (Event e) b h = event e h
    part_map (Join m xs) b h = parts_map xs b h
    part_map (Choice xs) b h = parts_map xs b h
    part_map (Tied x q) b h = (part_map x b h.0, tie x q b h.1)
    part_map (Loop x lo hi r) b h = (part_map x b.0 h.0, operand x b.0 h.1, row_map r b.1 h.2)
    part_map (Walk n f t c) b h = walk n f t b h

    parts_map : (xs : Trees) → EveryOf (λ e. Unit {0}) (λ m. m < top) xs → EveryPartOf E B L N xs → EveryPartOf F C M O xs
    parts_map none b h = tt
    parts_map (more x xs) b h = (part_map x b.0 h.0, parts_map xs b.1 h.1)

    row_map : (r : Row) → EveryRow (λ e. Unit {0}) (λ m. m < top) r → EveryRowPart E B L N r → EveryRowPart F C M O r
    row_map ends b h = tt
    row_map (gap c r) b h = row_map r b h
    row_map (turn x r) b h = (part_map x b.0 h.0, row_map r b.1 h.1)

-- the node terms of each net have a property over the older nets
abbrev pub NodesHave : (Tables → Tree → Type 0) → Tables → Type 0
NodesHave Q [] = Unit {0}
NodesHave Q (e ∷ es) = NodesHave Q es × Each (Q es) e.nodes

-- a property of the node terms, which permission keeps and which holds over later tables too
module _ (Q : Tables → Tree → Type 0) (up : (e : NetEntry) (es : Tables) → AreTidyTables es → (x : Tree) → IsBelow (net_count es) x → Q es x → Q (e ∷ es) x)
    (keeps : (es : Tables) → AreTidyTables es → (c : List ℕ) (x : Tree) → Q es x → MayHave (Q es) (permit (permits_of es) (only c) x)) where
  kept_step : (P : Tree → Type 0) (t : Bool) (a b : Option Tree) (x : Tree) → (a ≡ Some x → P x) → (b ≡ Some x → P x) → choose t a b ≡ Some x → P x
  kept_step P true a b x f g q = f q
  kept_step P false a b x f g q = g q

  pub kept_has_it : (es : Tables) → AreTidyTables es → NodesHave Q es → (n m : ℕ) (d : List ℕ) (x : Tree) → (permits_of es).kept n m d ≡ Some x → Q es x
  kept_has_it [] h g n m d x q = cc
  kept_has_it (e ∷ es) h g n m d x q =
      kept_step (Q (e ∷ es)) (n == net_count es) (permit_nth (permits_of es) (only d) e.nodes m) ((permits_of es).kept n m d) x
      (λ r. up e es h.0 x (low_nth true e es h m d x r) (at_some (Q es) (permit_nth (permits_of es) (only d) e.nodes m) x r (nth_has (Q es) (permits_of es) (only d) e.nodes (keeps es h.0 d) g.1 m)))
      (λ r. up e es h.0 x (kept_below true es h.0 n m d x r) (kept_has_it es h.0 g.0 n m d x r)) q
