-- A net among the nets of tables: its graph, its node terms, and the numbers that it lacks.
use Rattle.std.specs.Option.{unwrap_or}
use Rattle.std.specs.Prelude.{ℕ, ◌<◌, ◌==◌, ◌≢◌, ◌++◌, Bool, true, false, List, [], ◌∷◌, ◌≡◌}
use Rattle.std.proofs.Common.{ap, sym, ◌∙◌, refl, arith, subst}
use Rattle.std.proofs.lemmas.Bool.Decides.{Decides-eqb}
use Rattle.hmsc_graph.specs.Graphs.{Start, Goal, To, End, Any, reach}
use Rattle.chart_term.specs.NormalForms.{allowed, are_nil, cut, walk_form}
use Rattle.chart_term.specs.Properties.{Each, Every, EveryOf, EveryRow, IsBelow}
use Rattle.chart_term.specs.Tables.{NetEntry, Tables, choose, net_count, net_of, node_of, nth_tree}
use Rattle.chart_term.specs.Terms.{TermEvent, Tree, Nil, Event, Join, Choice, Tied, Loop, Walk, Trees, none, more, Row, ends, gap, turn}
use Rattle.term_laws.specs.FullSoundness.{AreSoundNets, IsSoundNode, fresh_walk}
use Rattle.term_laws.specs.Permission.{permits_of}
use Rattle.term_laws.specs.Soundness.{AreTidyTables, NetLacks, PickType}
use Rattle.sound_terms.specs.TableLaws.{TablesStaySound}

not_equal : (m n : ℕ) → m < n → (m == n) ≡ false
not_equal m n l = by (m == n) refl
  where
    by : (b : Bool) → (m == n) ≡ b → b ≡ false
    by true e = absurd (omega (arith, l, (Decides-eqb m n).0 e))
    by false e = refl

equal : (n : ℕ) → (n == n) ≡ true
equal n = (Decides-eqb n n).1 refl

-- ---- a walk in normal form is Nil, or a walk through the net

formed : (P : Tree → Type 0) (b c : Bool) (x : Tree) → P Nil → P x → P (unwrap_or (walk_form b c x) Nil)
formed P false c x n h = n
formed P true true x n h = n
formed P true false x n h = h

pub walk_forms : (P : Tree → Type 0) (w : Tables) (n : ℕ) (t : Goal) → P Nil → ((c : List ℕ) → P (Walk n Start t c)) → P (unwrap_or (fresh_walk w n t) Nil)
walk_forms P w n Any m h = h (cut ((permits_of w).spread n) [])
walk_forms P w n End m h = let k = permits_of w in let c = cut (k.spread n) [] in let ks = allowed k n c in formed P (reach (k.net n) ks Start End) (are_nil k n Start End c ks) (Walk n Start End c) m (h c)
walk_forms P w n (To j) m h = let k = permits_of w in let c = cut (k.spread n) [] in let ks = allowed k n c in formed P (reach (k.net n) ks Start (To j)) (are_nil k n Start (To j) c ks) (Walk n Start (To j) c) m (h c)

-- ---- numbers that nets lack, over fewer tables

module _ (d : NetEntry) (ws : Tables) (j : ℕ) where
  abbrev Newest : Type 0
  Newest = Each (Every (λ f. f.number ≢ j) (NetLacks ws j)) d.nodes

  net_less : (i : ℕ) → i < net_count ws → NetLacks (d ∷ ws) j i → NetLacks ws j i
  net_less i l h = subst (λ (b : Bool). PickType b Newest (NetLacks ws j i)) (not_equal i (net_count ws) l) h

  net_more : (i : ℕ) → i < net_count ws → NetLacks ws j i → NetLacks (d ∷ ws) j i
  net_more i l h = subst (λ (b : Bool). PickType b Newest (NetLacks ws j i)) (sym (not_equal i (net_count ws) l)) h

-- what is so of each event and each net of a term is so by what follows of the nets that it names
module _ (E : TermEvent → Type 0) (N M : ℕ → Type 0) (top : ℕ) (f : (n : ℕ) → n < top → N n → M n) where
  mutual
    pub every_net : (x : Tree) → IsBelow top x → Every E N x → Every E M x
    every_net Nil b h = tt
    every_net (Event e) b h = h
    every_net (Join m xs) b h = every_nets xs b h
    every_net (Choice xs) b h = every_nets xs b h
    every_net (Tied x q) b h = every_net x b h
    every_net (Loop x lo hi r) b h = (every_net x b.0 h.0, every_row_net r b.1 h.1)
    every_net (Walk n s t c) b h = f n b h

    every_nets : (xs : Trees) → EveryOf (λ e. Unit {0}) (λ m. m < top) xs → EveryOf E N xs → EveryOf E M xs
    every_nets none b h = tt
    every_nets (more x xs) b h = (every_net x b.0 h.0, every_nets xs b.1 h.1)

    every_row_net : (r : Row) → EveryRow (λ e. Unit {0}) (λ m. m < top) r → EveryRow E N r → EveryRow E M r
    every_row_net ends b h = tt
    every_row_net (gap c r) b h = every_row_net r b h
    every_row_net (turn x r) b h = (every_net x b.0 h.0, every_row_net r b.1 h.1)

-- ---- a net with newer ones before it, and older ones behind

module _ (e : NetEntry) (older : Tables) where
  pub counted : (newer : Tables) → net_count older < net_count (newer ++ e ∷ older)
  counted [] = omega arith
  counted (d ∷ newer) = omega (arith, counted newer)

  pub net_there : (newer : Tables) → net_of (newer ++ e ∷ older) (net_count older) ≡ e.net
  net_there [] = ap (λ (b : Bool). choose b e.net (net_of older (net_count older))) (equal (net_count older))
  net_there (d ∷ newer) = ap (λ (b : Bool). choose b d.net (net_of (newer ++ e ∷ older) (net_count older))) (not_equal (net_count older) (net_count (newer ++ e ∷ older)) (counted newer)) ∙ net_there newer

  pub node_there : (newer : Tables) (m : ℕ) → node_of (newer ++ e ∷ older) (net_count older) m ≡ nth_tree e.nodes m
  node_there [] m = ap (λ (b : Bool). choose b (nth_tree e.nodes m) (node_of older (net_count older) m)) (equal (net_count older))
  node_there (d ∷ newer) m = ap (λ (b : Bool). choose b (nth_tree d.nodes m) (node_of (newer ++ e ∷ older) (net_count older) m)) (not_equal (net_count older) (net_count (newer ++ e ∷ older)) (counted newer)) ∙ node_there newer m

  pub tidy_below : (newer : Tables) → AreTidyTables (newer ++ e ∷ older) → AreTidyTables (e ∷ older)
  tidy_below [] h = h
  tidy_below (d ∷ newer) h = tidy_below newer h.0

  pub sound_below : (labels : ℕ) (newer : Tables) → AreSoundNets labels (newer ++ e ∷ older) → AreSoundNets labels (e ∷ older)
  sound_below labels [] h = h
  sound_below labels (d ∷ newer) h = sound_below labels newer h.0

  pub sound_above : TablesStaySound → (labels : ℕ) (newer : Tables) (x : Tree) → AreSoundNets labels (newer ++ e ∷ older) → IsSoundNode labels (e ∷ older) x → IsSoundNode labels (newer ++ e ∷ older) x
  sound_above stay labels [] x nets h = h
  sound_above stay labels (d ∷ newer) x nets h = stay.later_node labels (newer ++ e ∷ older) d x nets.0 (sound_above stay labels newer x nets.0 h)

  module _ (j : ℕ) where
    pub lacks_above : (newer : Tables) (i : ℕ) → i < net_count (e ∷ older) → NetLacks (e ∷ older) j i → NetLacks (newer ++ e ∷ older) j i
    lacks_above [] i l h = h
    lacks_above (d ∷ newer) i l h = net_more d (newer ++ e ∷ older) j i (let c = counted newer in omega (arith, c, l)) (lacks_above newer i l h)

    pub lacks_below : (newer : Tables) (i : ℕ) → i < net_count older → NetLacks (newer ++ e ∷ older) j i → NetLacks older j i
    lacks_below [] i l h = net_less e older j i l h
    lacks_below (d ∷ newer) i l h = lacks_below newer i l (net_less d (newer ++ e ∷ older) j i (let c = counted newer in omega (arith, c, l)) h)

    each_below : (newer : Tables) (xs : List Tree) → Each (IsBelow (net_count older)) xs → Each (Every (λ f. f.number ≢ j) (NetLacks (newer ++ e ∷ older) j)) xs → Each (Every (λ f. f.number ≢ j) (NetLacks older j)) xs
    each_below newer [] b h = tt
    each_below newer (x ∷ xs) b h = (
      every_net (λ f. f.number ≢ j) (NetLacks (newer ++ e ∷ older) j) (NetLacks older j) (net_count older) (lacks_below newer) x b.0 h.0,
      each_below newer xs b.1 h.1,
    )

    -- a number that the node terms lack the net lacks
    pub net_lacks : (newer : Tables) → AreTidyTables (newer ++ e ∷ older) → Each (Every (λ f. f.number ≢ j) (NetLacks (newer ++ e ∷ older) j)) e.nodes → NetLacks (newer ++ e ∷ older) j (net_count older)
    net_lacks newer tidy h =
        lacks_above newer (net_count older) (omega arith)
        (subst (λ (b : Bool). PickType b (Each (Every (λ f. f.number ≢ j) (NetLacks older j)) e.nodes) (NetLacks older j (net_count older))) (sym (equal (net_count older))) (each_below newer e.nodes (tidy_below newer tidy).2 h))
