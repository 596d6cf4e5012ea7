-- Soundness in full: what holds of the terms of accepted charts, and of all that permission and taking leave of them.
use Rattle.std.specs.Prelude.{ℕ, ◌+◌, ◌<◌, ◌≤◌, ◌==◌, true, false, List, [], ◌∷◌, ◌≡◌, Option, Some, None, cond, length}
use Rattle.std.proofs.Common.{get_or}
use Rattle.msc_base.specs.Patterns.{Mode, seq, par, empty, one, join, bind}
use Rattle.hmsc_graph.specs.Graphs.{Spot, Start, At, Goal, To, End, Any, WalkThrough}
use Rattle.msc_base.specs.Lists.{IsIn}
use Rattle.hmsc_graph.specs.Nets.{size_of}
use Rattle.chart_term.specs.NormalForms.{only, join_all, choice_of, tie_of, loop_of, walk_of}
use Rattle.chart_term.specs.Properties.{Each, IsBelow, MayHave}
use Rattle.chart_term.specs.Tables.{NetEntry, Tables, net_count, net_of, nodes_of, nth_tree, terms_over}
use Rattle.chart_term.specs.TermMeanings.{HasPattern, UpTo}
use Rattle.chart_term.specs.TermPatterns.{Shape, InPairs, pairs, Both}
use Rattle.chart_term.specs.Terms.{TermEvent, Block, Tree, Nil, Event, Join, Choice, Tied, Loop, Walk, Trees, none, more, Row, ends, gap, turn, Part, Gap, parts}
use Rattle.term_laws.specs.Laws.{Fits}
use Rattle.term_laws.specs.Normality.{IsNormalOver}
use Rattle.chart_term.specs.Spreads.{touch}
use Rattle.term_laws.specs.Permission.{permit, permits_of}
use Rattle.term_laws.specs.Sound.{HasOrder, IsSound}
use Rattle.term_laws.specs.Soundness.{NeverGrows, IsOutside, NetLacks, IsKnown, LeadsWithin}
use Rattle.term_laws.specs.Taking.{IsAfter}

-- what is asked of each event, of each tie, of each loop operand and of each walk of a term, in loop operands and begun turns too
module _ (E : TermEvent → Type 0) (B : Tree → List (ℕ × ℕ) → Type 0) (L : Tree → Type 0) (N : ℕ → Spot → Goal → Type 0) where
  abbrev mutual
    pub EveryPart : Tree → Type 0
    EveryPart Nil = Unit {0}
    EveryPart (Event e) = E e
    EveryPart (Join m xs) = EveryPartOf xs
    EveryPart (Choice xs) = EveryPartOf xs
    EveryPart (Tied x q) = EveryPart x × B x q
    EveryPart (Loop x lo hi r) = EveryPart x × L x × EveryRowPart r
    EveryPart (Walk n f t c) = N n f t

    pub EveryPartOf : Trees → Type 0
    EveryPartOf none = Unit {0}
    EveryPartOf (more x xs) = EveryPart x × EveryPartOf xs

    pub EveryRowPart : Row → Type 0
    EveryRowPart ends = Unit {0}
    EveryRowPart (gap c r) = EveryRowPart r
    EveryRowPart (turn x r) = EveryPart x × EveryRowPart r

-- what is asked of the counts and the row of each loop of a term, in loop operands and begun turns too
module _ (L : ℕ → Option ℕ → List Part → Type 0) where
  abbrev mutual
    pub EveryLoop : Tree → Type 0
    EveryLoop Nil = Unit {0}
    EveryLoop (Event e) = Unit {0}
    EveryLoop (Join m xs) = EveryLoopOf xs
    EveryLoop (Choice xs) = EveryLoopOf xs
    EveryLoop (Tied x q) = EveryLoop x
    EveryLoop (Loop x lo hi r) = EveryLoop x × L lo hi (parts r) × EveryRowLoop r
    EveryLoop (Walk n f t c) = Unit {0}

    pub EveryLoopOf : Trees → Type 0
    EveryLoopOf none = Unit {0}
    EveryLoopOf (more x xs) = EveryLoop x × EveryLoopOf xs

    pub EveryRowLoop : Row → Type 0
    EveryRowLoop ends = Unit {0}
    EveryRowLoop (gap c r) = EveryRowLoop r
    EveryRowLoop (turn x r) = EveryLoop x × EveryRowLoop r

-- the walk begins at the start, or at a node of the net
abbrev pub IsSpotOf : Tables → ℕ → Spot → Type 0
IsSpotOf w n Start = Unit {0}
IsSpotOf w n (At m) = IsIn m (nodes_of w n)

-- the walk goes to a node of the net, to an end, or to any node
abbrev pub IsGoalOf : Tables → ℕ → Goal → Type 0
IsGoalOf w n (To m) = IsIn m (nodes_of w n)
IsGoalOf w n End = Unit {0}
IsGoalOf w n Any = Unit {0}

-- all label, net and node numbers of the term are in the tables; there are so many labels
abbrev pub AreNumbersKnown : ℕ → Tables → Tree → Type 0
AreNumbersKnown labels w x = EveryPart (λ e. e.label < labels) (λ y q. Unit {0}) (λ y. Unit {0}) (λ n f t. IsKnown w n × IsSpotOf w n f × IsGoalOf w n t) x

-- how many events of the pattern have the number
abbrev pub times : ℕ → Shape → ℕ
times j empty = 0
times j (one e) = cond (e.number == j) 1 0
times j (join m x y) = times j x + times j y
times j (bind x q) = times j x

-- in each tie a number of the pairs stands at one event at most of any pattern
abbrev pub AreTiesOnce : Tables → Tree → Type 0
AreTiesOnce w x = EveryPart (λ e. Unit {0}) (λ y q. (j : ℕ) → InPairs j q → (s : Shape) → HasPattern (terms_over w) true y s → times j s ≤ 1) (λ y. Unit {0}) (λ n f t. Unit {0}) x

-- in each tie no number of the pairs is in a loop operand, a begun turn or a net
abbrev pub AreTiesOutside : Tables → Tree → Type 0
AreTiesOutside w x = EveryPart (λ e. Unit {0}) (λ y q. (j : ℕ) → InPairs j q → IsOutside (NetLacks w) j y) (λ y. Unit {0}) (λ n f t. Unit {0}) x

-- in each row the blocks never grow from left to right, as sets
abbrev pub DoBlocksFall : Tree → Type 0
DoBlocksFall x = EveryLoop (λ lo hi ps. NeverGrows ps) x

-- in each loop the lower count is at most the upper
abbrev pub AreCountsOrdered : Tree → Type 0
AreCountsOrdered x = EveryLoop (λ lo hi ps. UpTo hi lo) x

-- each pattern of the term has a linear order
abbrev pub HasOrders : Tables → Tree → Type 0
HasOrders w x = (s : Shape) → HasPattern (terms_over w) true x s → HasOrder s

-- and so has each pattern of each loop operand
abbrev pub HaveOperandsOrders : Tables → Tree → Type 0
HaveOperandsOrders w x = EveryPart (λ e. Unit {0}) (λ y q. Unit {0}) (HasOrders w) (λ n f t. Unit {0}) x

-- the walk doesn't go to any node
abbrev pub IsNotAny : Goal → Type 0
IsNotAny (To m) = Unit {0}
IsNotAny End = Unit {0}
IsNotAny Any = ⊥

-- no walk of the term goes to any node
abbrev pub HasNoOpenWalk : Tree → Type 0
HasNoOpenWalk x = EveryPart (λ e. Unit {0}) (λ y q. Unit {0}) (λ y. Unit {0}) (λ n f t. IsNotAny t) x

-- it is a walk, or holds none to any node
abbrev pub IsWalkOrClosed : Tree → Type 0
IsWalkOrClosed Nil = Unit {0}
IsWalkOrClosed (Event e) = Unit {0}
IsWalkOrClosed (Join m xs) = HasNoOpenWalk (Join m xs)
IsWalkOrClosed (Choice xs) = HasNoOpenWalk (Choice xs)
IsWalkOrClosed (Tied x q) = HasNoOpenWalk (Tied x q)
IsWalkOrClosed (Loop x lo hi r) = HasNoOpenWalk (Loop x lo hi r)
IsWalkOrClosed (Walk n f t c) = Unit {0}

-- only the last of the terms is a walk to any node
abbrev pub IsOpenWalkLastOf : Trees → Type 0
IsOpenWalkLastOf none = Unit {0}
IsOpenWalkLastOf (more x none) = IsWalkOrClosed x
IsOpenWalkLastOf (more x (more y xs)) = HasNoOpenWalk x × IsOpenWalkLastOf (more y xs)

-- a walk to any node stands alone, or as the last part of the outermost row
abbrev pub IsOpenWalkLast : Tree → Type 0
IsOpenWalkLast Nil = Unit {0}
IsOpenWalkLast (Event e) = Unit {0}
IsOpenWalkLast (Join seq xs) = IsOpenWalkLastOf xs
IsOpenWalkLast (Join par xs) = HasNoOpenWalk (Join par xs)
IsOpenWalkLast (Choice xs) = HasNoOpenWalk (Choice xs)
IsOpenWalkLast (Tied x q) = HasNoOpenWalk (Tied x q)
IsOpenWalkLast (Loop x lo hi r) = HasNoOpenWalk (Loop x lo hi r)
IsOpenWalkLast (Walk n f t c) = Unit {0}

-- what is asked of the term itself
pub record IsSoundOver (labels : ℕ) (w : Tables) (x : Tree) : Type 0 where
  pub normal : IsNormalOver w x
  pub known : AreNumbersKnown labels w x
  pub once : AreTiesOnce w x
  pub outside : AreTiesOutside w x
  pub falling : DoBlocksFall x
  pub counts : AreCountsOrdered x
  pub last : IsOpenWalkLast x
  pub ordered : HasOrders w x
  pub operands : HaveOperandsOrders w x

-- a node term is sound, and holds no walk to any node
pub record IsSoundNode (labels : ℕ) (w : Tables) (x : Tree) : Type 0 where
  pub sound : IsSoundOver labels w x
  pub closed : HasNoOpenWalk x

-- the term of an end is Nil
abbrev pub AreEndsNil : NetEntry → Type 0
AreEndsNil e = (m : ℕ) → get_or e.net.ends m false ≡ true → nth_tree e.nodes m ≡ Nil

-- the node terms of each net are sound over the older nets and name only those; its edges lead to its nodes, its ends are empty, and
-- its graph has as many nodes as there are terms
abbrev pub AreSoundNets : ℕ → Tables → Type 0
AreSoundNets labels [] = Unit {0}
AreSoundNets labels (e ∷ es) = AreSoundNets labels es × Each (IsSoundNode labels es) e.nodes × Each (IsBelow (net_count es)) e.nodes × LeadsWithin e × AreEndsNil e × (size_of e.net ≡ length e.nodes)

-- a sound term over sound nets; there are so many labels
pub record IsFullySound (labels : ℕ) (w : Tables) (x : Tree) : Type 0 where
  pub nets : AreSoundNets labels w
  pub term : IsSoundOver labels w x

-- what the laws ask of a term holds of a sound one; permission, by a block that fits, and taking keep terms sound
pub record FullSoundnessIsKept : Type 0 where
  pub suffices : (labels : ℕ) (w : Tables) (x : Tree) → IsFullySound labels w x → IsSound w x
  pub permit_keeps : (labels : ℕ) (w : Tables) (x y : Tree) (b : Block) → IsFullySound labels w x → Fits w b x → permit (permits_of w) b x ≡ Some y → IsFullySound labels w y
  pub after_keeps : (labels : ℕ) (w : Tables) (x y : Tree) (e : TermEvent) → IsFullySound labels w x → IsAfter (permits_of w) x e y → IsFullySound labels w y

-- a loop that no turn has begun, in normal form
abbrev pub fresh_loop : Tables → Tree → ℕ → Option ℕ → Option Tree
fresh_loop w x lo hi = loop_of (λ c. permit (permits_of w) (only c) x) (touch (permits_of w).spread x) x lo hi (Gap [] ∷ [])

-- a walk from the start, in normal form
abbrev pub fresh_walk : Tables → ℕ → Goal → Option Tree
fresh_walk w n t = walk_of (permits_of w) n Start t []

-- it doesn't fail, and the term has the property
abbrev pub MustHave : (Tree → Type 0) → Option Tree → Type 0
MustHave P None = ⊥
MustHave P (Some x) = P x

-- the loop of a sound operand without a walk to any node is there and sound, where its lower count is at most the upper; so is the
-- walk through a net of sound tables, which fails exactly where no walk leads from the start to the goal
pub record FreshTermsAreSound : Type 0 where
  pub loop : (labels : ℕ) (w : Tables) (x : Tree) (lo : ℕ) (hi : Option ℕ) → IsFullySound labels w x → HasNoOpenWalk x → UpTo hi lo → MustHave (IsFullySound labels w) (fresh_loop w x lo hi)
  pub walk : (labels : ℕ) (w : Tables) (n : ℕ) (t : Goal) → AreSoundNets labels w → IsKnown w n → IsGoalOf w n t → MayHave (IsFullySound labels w) (fresh_walk w n t)
  pub walk_fails : (labels : ℕ) (w : Tables) (n : ℕ) (t : Goal) → AreSoundNets labels w → IsKnown w n → IsNotAny t → Both (fresh_walk w n t ≡ None) (WalkThrough (net_of w n) (nodes_of w n) Start t → ⊥)
  pub open_walk : (w : Tables) (n : ℕ) → MustHave (λ x. Unit {0}) (fresh_walk w n Any)

-- the normalising constructors make such terms of such terms, as node terms and the terms of basic charts are: sound in full, without
-- a walk to any node. A tie needs what is asked of ties, no pair of a number with itself, and that its patterns have linear orders
pub record ConstructorsKeepSoundness : Type 0 where
  pub event : (labels : ℕ) (w : Tables) (e : TermEvent) → e.label < labels → IsSoundNode labels w (Event e)
  pub join : (labels : ℕ) (w : Tables) (m : Mode) (xs : List Tree) → AreSoundNets labels w → Each (IsSoundNode labels w) xs → IsSoundNode labels w (join_all m xs)
  pub choice : (labels : ℕ) (w : Tables) (x : Tree) (xs : List Tree) → AreSoundNets labels w → Each (IsSoundNode labels w) (x ∷ xs) → MustHave (IsSoundNode labels w) (choice_of (x ∷ xs))
  pub tied : (labels : ℕ) (w : Tables) (x : Tree) (q : List (ℕ × ℕ)) → AreSoundNets labels w → IsSoundNode labels w x → AreTiesOutside w (Tied x q) → AreTiesOnce w (Tied x q) → ((j : ℕ) → pairs q j j ≡ false) → HasOrders w (Tied x q)
      → IsSoundNode labels w (tie_of x q)
  pub loop : (labels : ℕ) (w : Tables) (x : Tree) (lo : ℕ) (hi : Option ℕ) → AreSoundNets labels w → IsSoundNode labels w x → UpTo hi lo → MustHave (IsSoundNode labels w) (fresh_loop w x lo hi)
  pub walk : (labels : ℕ) (w : Tables) (n : ℕ) (t : Goal) → AreSoundNets labels w → IsKnown w n → IsGoalOf w n t → IsNotAny t → MayHave (IsSoundNode labels w) (fresh_walk w n t)
