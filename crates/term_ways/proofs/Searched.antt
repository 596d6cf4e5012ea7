-- The search for a way: where it has come to, and that nothing which it has passed leaves the goal.
use Rattle.std.specs.Prelude.{ℕ, ◌+◌, ◌<◌, ◌≤◌, ◌⊎◌, List, [], ◌∷◌, ◌++◌, ◌≡◌, Option, Some, refl}
use Rattle.std.proofs.Common.{ap, sym, ◌∙◌, subst, arith, inl, inr}
use Rattle.std.proofs.lemmas.Bool.{cases_lt}
use Rattle.std.proofs.lemmas.List.{same_from_push}
use Rattle.chart_term.specs.Tables.{Tables}
use Rattle.chart_term.specs.Terms.{TermEvent, Tree, Nil, Event, Join, Choice, Tied, Loop, Walk}
use Rattle.chart_term.specs.Views.{event_of}
use Rattle.list_facts.proofs.Joining.{not_nil}
use Rattle.term_laws.specs.Permission.{permits_of}
use Rattle.term_laws.specs.Taking.{IsAfter}
use Rattle.term_permission.specs.Ready.{IsReady, AreReadyTables}
use Rattle.term_step.proofs.ChildReady.{child-good}
use Rattle.term_step.proofs.Children.{in-child}
use Rattle.term_step.proofs.Rebuilding.{result-child, passed-none, front-ready, frames-more}
use Rattle.term_step.specs.Children.{child}
use Rattle.term_step.specs.Kept.{AreLinked, top}
use Rattle.term_step.specs.Searches.{AreReadyFrames, child_count, put_all, IsResult, IsPassed, IsStep}
use Rattle.term_step.specs.declared.ascent.Frame.{Frame}
use Rattle.term_step.specs.declared.descent.Step.{Step}
use Rattle.term_ways.proofs.Derived.{leads-after, linked-leads}
use Rattle.term_ways.specs.Searches.{IsWanted, Fits, FitsNot, IsWayWanted, LeavesNoWanted}
use Rattle.term_ways.specs.Ways.{Leads}
use Rattle.term_ways.specs.declared.way.Way.{Way}

module _ (w : Tables) (a : ℕ) (root : Tree) (goal : Option Tree) where
  -- no event of the term leaves a wanted one of the whole
  abbrev pub HasNone : List Frame → Tree → Type 0
  HasNone fs x = (z : Tree) → IsWanted goal z → IsResult w a fs x z → ⊥

  -- nor does one of the children before an index
  abbrev pub AreSearched : List Frame → Tree → ℕ → Type 0
  AreSearched fs x i = (p : ℕ) → p < i → (y : Tree) → child (permits_of w) x p ≡ Some y → HasNone (fs ++ record { parent = x; index = p } ∷ []) y

  -- the search has come to this index of the term to which the path leads from the root
  pub data IsSearched : List Frame → Tree → ℕ → Type 0 where
    at_root : {fs : List Frame} {x : Tree} {i : ℕ} → fs ≡ [] → x ≡ root → AreSearched fs x i → IsSearched fs x i
    below : {fs : List Frame} {x : Tree} {i : ℕ} (gs : List Frame) (g : Frame) → fs ≡ gs ++ g ∷ [] → child (permits_of w) g.parent g.index ≡ Some x → IsSearched gs g.parent g.index → AreSearched fs x i → IsSearched fs x i

  -- the same, with a path of terms that are ready
  pub record IsState (fs : List Frame) (x : Tree) (i : ℕ) : Type 0 where
    pub frames : AreReadyFrames w fs
    pub ready : IsReady w x
    pub searched : IsSearched fs x i

  none_before : (fs : List Frame) (x : Tree) → AreSearched fs x 0
  none_before fs x p l = absurd (omega arith)

  pub state-start : IsReady w root → IsState [] root 0
  state-start r = record { frames = tt; ready = r; searched = at_root refl refl (none_before [] root) }

  place_searched : {fs : List Frame} {x : Tree} {i : ℕ} → IsSearched fs x i → AreSearched fs x i
  place_searched (at_root e q h) = h
  place_searched (below gs g e c s h) = h

  further : {fs : List Frame} {x : Tree} {i j : ℕ} → IsSearched fs x i → AreSearched fs x j → IsSearched fs x j
  further (at_root e q h) m = at_root e q m
  further (below gs g e c s h) m = below gs g e c s m

  -- the path hangs together, and begins at the root
  top_snoc : (hs : List Frame) (g : Frame) (x : Tree) → top hs g.parent ≡ top (hs ++ g ∷ []) x
  top_snoc [] g x = refl
  top_snoc (h ∷ hs) g x = refl

  linked_snoc : (gs : List Frame) (g : Frame) (x : Tree) → AreLinked (permits_of w) gs g.parent → child (permits_of w) g.parent g.index ≡ Some x → AreLinked (permits_of w) (gs ++ g ∷ []) x
  linked_snoc [] g x h c = (c, tt)
  linked_snoc (f ∷ fs) g x h c = (h.0 ∙ ap (λ u. Some u) (top_snoc fs g x), linked_snoc fs g x h.1 c)

  linked_searched : (fs : List Frame) (x : Tree) (i : ℕ) → IsSearched fs x i → AreLinked (permits_of w) fs x
  linked_searched fs x i (at_root e q h) = subst (λ (gs : List Frame). AreLinked (permits_of w) gs x) (sym e) tt
  linked_searched fs x i (below gs g e c s h) = subst (λ (hs : List Frame). AreLinked (permits_of w) hs x) (sym e) (linked_snoc gs g x (linked_searched gs g.parent g.index s) c)

  top_searched : (fs : List Frame) (x : Tree) (i : ℕ) → IsSearched fs x i → top fs x ≡ root
  top_searched fs x i (at_root e q h) = ap (λ gs. top gs x) e ∙ q
  top_searched fs x i (below gs g e c s h) = ap (λ hs. top hs x) e ∙ (sym (top_snoc gs g x) ∙ top_searched gs g.parent g.index s)

  pub state-linked : (fs : List Frame) (x : Tree) (i : ℕ) → IsState fs x i → AreLinked (permits_of w) fs x
  state-linked fs x i h = linked_searched fs x i h.searched

  -- the way
  module _ (fs : List Frame) (x : Tree) (i : ℕ) (way : Way) (state : IsState fs x i) (fits : Fits w a fs x goal way.taken) (same : way.frames.items ≡ fs) where
    abbrev found : TermEvent
    found = event_of way.taken.event

    linked : AreLinked (permits_of w) fs (Event found)
    linked = subst (λ (y : Tree). AreLinked (permits_of w) fs y) fits.is (state-linked fs x i state)

    from_root : top fs (Event found) ≡ root
    from_root = ap (λ (y : Tree). top fs y) (sym fits.is) ∙ top_searched fs x i state.searched

    leads : Leads (permits_of w) found way.frames.items root fits.left
    leads =
        subst (λ (gs : List Frame). Leads (permits_of w) found gs root fits.left) (sym same)
        (subst (λ (y : Tree). Leads (permits_of w) found fs y fits.left) from_root (linked-leads (permits_of w) found fs fits.left linked fits.whole))

    pub state-found : IsWayWanted w a root goal way
    state-found = record {
      left = fits.left;
      wanted = fits.wanted;
      is_way = record {
        taken = fits.taken;
        labelled = fits.labelled;
        leads = leads;
        after = leads-after (permits_of w) found way.frames.items root fits.left leads;
        ready = subst (AreReadyFrames w) (sym same) state.frames;
      };
    }

  module _ (tables : AreReadyTables w) where
    -- down to a child
    pub state-down : (fs gs : List Frame) (x y : Tree) (i : ℕ) → IsState fs x i → (s : Step) → IsStep w a x i s → gs ≡ fs ++ record { parent = x; index = s.index } ∷ [] → y ≡ s.inner → IsState gs y 0
    state-down fs gs x y i h s t e q =
        let good = child-good w tables x s.index s.inner h.ready t.there in
        record {
          frames = subst (λ (hs : List Frame). AreReadyFrames w hs) (sym e) (frames-more w fs x s.index h.frames h.ready good.within);
          ready = subst (λ (u : Tree). IsReady w u) (sym q) good.ready;
          searched = below fs (record { parent = x; index = s.index }) e (t.there ∙ ap (λ u. Some u) (sym q)) (further h.searched here) (none_before gs y);
        }
      where
        cut_place : (j : ℕ) → (j < i) ⊎ (i ≤ j)
        cut_place j = grind arith

        here : AreSearched fs x s.index
        here j l u c z v r = elim (cut_place j) [
          | inl b ↦ place_searched h.searched j b u c z v r
          | inr b ↦ passed-none w a fs x j u z c (t.passed j b l) r
        ]

  event_or : (x : Tree) → ((e : TermEvent) × (x ≡ Event e)) ⊎ ((e : TermEvent) → x ≡ Event e → ⊥)
  event_or Nil = inr (λ e q. cc)
  event_or (Event f) = inl (f, refl)
  event_or (Join m xs) = inr (λ e q. cc)
  event_or (Choice xs) = inr (λ e q. cc)
  event_or (Tied y q) = inr (λ e q. cc)
  event_or (Loop y lo hi r) = inr (λ e q. cc)
  event_or (Walk n f t c) = inr (λ e q. cc)

  -- one event
  own_event : (e f : TermEvent) (y : Tree) → IsAfter (permits_of w) (Event e) f y → (e ≡ f) × (y ≡ Nil)
  own_event e f y h = elim (in-child (permits_of w) h) [
    | inl p ↦ (let q : Event e ≡ Event f = p.0 in cc, p.1)
    | inr i ↦ let g = i.there in cc
  ]

  -- one step up, or the end: nothing of the term leaves the goal
  module _ (fs : List Frame) (x : Tree) (i : ℕ) (state : IsState fs x i) (own : FitsNot w a fs x goal) (passed : (p : ℕ) → i ≤ p → IsPassed w a x p) where
    own_none : (e : TermEvent) → x ≡ Event e → HasNone fs x
    own_none e q z v r =
        let p = own_event e r.event r.left (subst (λ (y : Tree). IsAfter (permits_of w) y r.event r.left) q r.taken) in
        own e q (ap (λ (f : TermEvent). f.label) p.0 ∙ r.labelled) z v ((λ j. put_all (permits_of w) (p.0 j) fs (sym p.1 j)) ∙ r.whole)

    none_here : HasNone fs x
    none_here z v r = elim (event_or x) [
      | inl q ↦ own_none q.0 q.1 z v r
      | inr n ↦ child_here (result-child w a fs x z n r)
    ]
      where
        child_here : (p : ℕ) × (y : Tree) × (child (permits_of w) x p ≡ Some y) × IsResult w a (fs ++ record { parent = x; index = p } ∷ []) y z → ⊥
        child_here (p, y, c, s) = elim (cases_lt p i) [
          | inl b ↦ place_searched state.searched p b y c z v s
          | inr b ↦ passed-none w a fs x p y z c (passed p b) s
        ]

    pub state-end : fs ≡ [] → LeavesNoWanted w a root goal
    state-end e z v d l t = at_end e state.searched
      where
        result : IsResult w a [] root z
        result = record { event = d; labelled = l; left = z; taken = t; whole = refl }

        at_end : fs ≡ [] → IsSearched fs x i → ⊥
        at_end e (at_root f q h) = none_here z v (subst (λ (hs : List Frame). IsResult w a hs x z) (sym e) (subst (λ (y : Tree). IsResult w a [] y z) (sym q) result))
        at_end e (below hs g f c s h) = absurd (not_nil hs g [] (sym f ∙ e))

    pub state-up : (gs : List Frame) (f : Frame) (j : ℕ) → fs ≡ gs ++ f ∷ [] → j ≡ f.index + 1 → IsState gs f.parent j
    state-up gs f j e m = subst (λ (n : ℕ). IsState gs f.parent n) (sym m) (record { frames = ready.0; ready = ready.1; searched = one_more state.searched })
      where
        ready : AreReadyFrames w gs × IsReady w f.parent × (f.index < child_count w f.parent)
        ready = front-ready w gs f (subst (λ (hs : List Frame). AreReadyFrames w hs) e state.frames)

        there : child (permits_of w) f.parent f.index ≡ Some x → AreSearched gs f.parent f.index → AreSearched gs f.parent (f.index + 1)
        there c h p l u d z v r = elim (cases_lt p f.index) [
          | inl b ↦ h p b u d z v r
          | inr b ↦ none_here z v (moved (omega arith) r)
        ]
          where
            moved : p ≡ f.index → IsResult w a (gs ++ record { parent = f.parent; index = p } ∷ []) u z → IsResult w a fs x z
            moved m s =
                let o : Some u ≡ Some x = sym d ∙ (ap (child (permits_of w) f.parent) m ∙ c) in
                let q : u ≡ x = cc in
                subst (λ (hs : List Frame). IsResult w a hs x z) (sym e) (subst (λ (t : Tree). IsResult w a (gs ++ f ∷ []) t z) q (subst (λ (l : ℕ). IsResult w a (gs ++ record { parent = f.parent; index = l } ∷ []) u z) m s))

        one_more : IsSearched fs x i → IsSearched gs f.parent (f.index + 1)
        one_more (at_root r q h) = absurd (not_nil gs f [] (sym e ∙ r))
        one_more (below hs g r c s h) = turned (same_from_push hs gs g f (sym r ∙ e)) c s
          where
            turned : (hs ≡ gs) × (g ≡ f) → child (permits_of w) g.parent g.index ≡ Some x → IsSearched hs g.parent g.index → IsSearched gs f.parent (f.index + 1)
            turned (m, n) d v =
                let v1 : IsSearched hs f.parent f.index = subst (λ (h : Frame). IsSearched hs h.parent h.index) n v in
                let v2 : IsSearched gs f.parent f.index = subst (λ (ks : List Frame). IsSearched ks f.parent f.index) m v1 in
                let d1 : child (permits_of w) f.parent f.index ≡ Some x = subst (λ (h : Frame). child (permits_of w) h.parent h.index ≡ Some x) n d in
                further v2 (there d1 (place_searched v2))
