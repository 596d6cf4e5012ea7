-- The search: what it finds is what is left, and all of it.
use Rattle.std.specs.Prelude.{ℕ, ◌+◌, ◌<◌, ◌≤◌, ◌⊎◌, ◌↔◌, ◌||◌, not, IsTrue, Bool, true, false, List, [], ◌∷◌, ◌++◌, ◌≡◌, Option, Some, refl}
use Rattle.std.proofs.Common.{ap, sym, ◌∙◌, subst, arith, inl, inr}
use Rattle.std.proofs.lemmas.Bool.{true≢false, cases_lt}
use Rattle.std.proofs.lemmas.List.{same_from_push}
use Rattle.chart_term.specs.Properties.{MayHave}
use Rattle.chart_term.specs.Tables.{Tables}
use Rattle.chart_term.specs.Terms.{TermEvent, Tree, weight, Nil, Event, Join, Choice, Tied, Loop, Walk, has, ◌∪◌}
use Rattle.chart_term.proofs.Instances.{has_union}
use Rattle.term_step.specs.Children.{child}
use Rattle.term_laws.specs.Listing.{set_weight}
use Rattle.msc_base.specs.Lists.{IsAmong}
use Rattle.term_laws.specs.Permission.{permits_of}
use Rattle.term_permission.specs.Ready.{IsReady, AreReadyTables}
use Rattle.term_step.specs.Searches.{AreReadyFrames, child_count, put_all, IsResult, IsFinding, IsTally, IsBounded, Gains, Gathers, GathersOwn, AddsOne, IsTaken, IsPassed, IsStep, AreSearched, IsSearched, at_root, below, IsOther}
use Rattle.msc_base.specs.declared.label.Label.{Label}
use Rattle.term_tables.specs.NetValues.{NetsValue, label_number}
use Rattle.term_successors.specs.Successors.{IsSuccessor}
use Rattle.term_laws.specs.Taking.{IsAfter, after_event}
use Rattle.chart_term.specs.Facts.{instances}
use Rattle.chart_term.specs.Views.{event_of}
use Rattle.chart_term.specs.declared.event.Event.{Event as EventShown}
use Rattle.bit_sets.specs.Blocks.{BlockValue}
use Rattle.list_facts.proofs.Joining.{not_nil}
use Rattle.term_step.specs.declared.ascent.Frame.{Frame}
use Rattle.term_step.specs.declared.found.Found.{Found}
use Rattle.term_step.proofs.Children.{in-child}
use Rattle.term_successors.proofs.TermSets.{member_weight}
use Rattle.term_step.proofs.ChildReady.{child-good}
use Rattle.term_step.proofs.Rebuilding.{result-child, result-up, passed-none, front-ready, frames-more}
use Rattle.term_step.specs.declared.descent.Step.{Step}

-- terms that become more
gains_both : (P Q : Tree → Type 0) → ((x : Tree) → Q x → P x) → (old mid new : Found) → Gains P old mid → Gains Q mid new → Gains P old new
gains_both P Q f old mid new g h = record {
  tally = h.tally;
  most = h.most ∙ g.most;
  kept = λ z i. h.kept z (g.kept z i);
  each = λ z i. elim (h.each z i) [ inl m ↦ g.each z m | inr q ↦ inr (f z q) ];
}

pub gains_none : (P : Tree → Type 0) (old : Found) → IsTally old → Gains P old old
gains_none P old h = record { tally = h; most = refl; kept = λ z i. i; each = λ z i. inl i }

-- one event
pub own_event : (w : Tables) (e f : TermEvent) (y : Tree) → IsAfter (permits_of w) (Event e) f y → (e ≡ f) × (y ≡ Nil)
own_event w e f y h = elim (in-child (permits_of w) h) [
  | inl p ↦ (let q : Event e ≡ Event f = p.0 in cc, p.1)
  | inr i ↦ let g = i.there in cc
]

module _ (w : Tables) (a : ℕ) (fs : List Frame) (e : TermEvent) (old : Found) (tally : IsTally old) (within : set_weight old.terms.keys ≤ old.most) where
  only_this : (z : Tree) → IsResult w a fs (Event e) z → (e.label ≡ a) × (put_all (permits_of w) e fs Nil ≡ Some z)
  only_this z r =
      let p = own_event w e r.event r.left r.taken in
      (ap (λ (f : TermEvent). f.label) p.0 ∙ r.labelled, (λ i. put_all (permits_of w) (p.0 i) fs (sym p.1 i)) ∙ r.whole)

  pub one-rebuilt : (o : Option Tree) (t : Tree) (new : Found) (all : Bool) → o ≡ put_all (permits_of w) e fs Nil → o ≡ Some t → MayHave (IsReady w) o → e.label ≡ a → AddsOne t old new all → Gathers w a fs (Event e) old new all
  one-rebuilt o t new all h s r l g = record {
    gains = gains_both (IsFinding w a fs (Event e)) (λ x. x ≡ t) one old old new (gains_none (IsFinding w a fs (Event e)) old tally) g.gains;
    bounded = g.bounded;
    whole = λ b z q. subst (λ (y : Tree). IsAmong new.terms.keys y) (same z (only_this z q).1) g.among;
  }
    where
      ready : IsReady w t
      ready = subst (λ (p : Option Tree). MayHave (IsReady w) p) s r

      there : put_all (permits_of w) e fs Nil ≡ Some t
      there = sym h ∙ s

      same : (z : Tree) → put_all (permits_of w) e fs Nil ≡ Some z → t ≡ z
      same z q = let p : Some t ≡ Some z = sym there ∙ q in cc

      this : IsFinding w a fs (Event e) t
      this = record { result = record { event = e; labelled = l; left = Nil; taken = after_event; whole = there }; ready = ready }

      one : (x : Tree) → x ≡ t → IsFinding w a fs (Event e) x
      one x p = subst (λ (y : Tree). IsFinding w a fs (Event e) y) (sym p) this

-- a term that isn't an event with the label
pub own-other : (w : Tables) (a : ℕ) (fs : List Frame) (x : Tree) (old : Found) → IsTally old → set_weight old.terms.keys ≤ old.most → IsOther a x → GathersOwn w a fs x old old true
own-other w a fs x old h l n = record {
  gains = gains_none (IsFinding w a fs x) old h;
  bounded = record { within = λ b. l; beyond = λ b. cc };
  whole = λ b e q z r. absurd (other e q z (subst (λ (y : Tree). IsResult w a fs y z) q r));
}
  where
    other : (e : TermEvent) → x ≡ Event e → (z : Tree) → IsResult w a fs (Event e) z → ⊥
    other e q z r = n e q ((ap (λ (f : TermEvent). f.label) (own_event w e r.event r.left r.taken).0) ∙ r.labelled)

pub own-gathered : (w : Tables) (a : ℕ) (fs : List Frame) (x : Tree) (e : TermEvent) (old new : Found) (all : Bool) → x ≡ Event e → Gathers w a fs (Event e) old new all → GathersOwn w a fs x old new all
own-gathered w a fs x e old new all q g = record {
  gains = subst (λ (y : Tree). Gains (IsFinding w a fs y) old new) (sym q) g.gains;
  bounded = g.bounded;
  whole = λ b f r z h. g.whole b z (subst (λ (y : Tree). IsResult w a fs y z) q h);
}

-- the search: to which place it has come, what was found, and how deep it is
pub record IsState (w : Tables) (a : ℕ) (root : Tree) (old new : Found) (fs : List Frame) (x : Tree) (i : ℕ) : Type 0 where
  pub frames : AreReadyFrames w fs
  pub ready : IsReady w x
  pub searched : IsSearched w a root new.terms.keys fs x i
  pub gains : Gains (IsFinding w a [] root) old new
  pub within : set_weight new.terms.keys ≤ new.most

module _ (w : Tables) (tables : AreReadyTables w) (a : ℕ) (root : Tree) where
  none_before : (fs : List Frame) (x : Tree) (zs : List Tree) → AreSearched w a fs x 0 zs
  none_before fs x zs p l = absurd (omega arith)

  pub state-start : (old : Found) → IsReady w root → IsTally old → set_weight old.terms.keys ≤ old.most → IsState w a root old old [] root 0
  state-start old r h l = record {
    frames = tt;
    ready = r;
    searched = at_root refl refl (none_before [] root old.terms.keys);
    gains = gains_none (IsFinding w a [] root) old h;
    within = l;
  }

  -- more terms are found
  before_more : (zs ys : List Tree) → ((z : Tree) → IsAmong zs z → IsAmong ys z) → (fs : List Frame) (x : Tree) (i : ℕ) → AreSearched w a fs x i zs → AreSearched w a fs x i ys
  before_more zs ys f fs x i h p l y c z r = f z (h p l y c z r)

  more_found : (zs ys : List Tree) → ((z : Tree) → IsAmong zs z → IsAmong ys z) → {fs : List Frame} {x : Tree} {i : ℕ} → IsSearched w a root zs fs x i → IsSearched w a root ys fs x i
  more_found zs ys f (at_root {fs = fs} {x = x} {i = i} e q h) = at_root e q (before_more zs ys f fs x i h)
  more_found zs ys f (below {fs = fs} {x = x} {i = i} gs g e c s h) = below gs g e c (more_found zs ys f s) (before_more zs ys f fs x i h)

  -- a result of the place is one of the root
  to_root : (zs : List Tree) {fs : List Frame} {x : Tree} {i : ℕ} → IsSearched w a root zs fs x i → (z : Tree) → IsResult w a fs x z → IsResult w a [] root z
  to_root zs (at_root {x = x} e q h) z r = subst (λ (y : Tree). IsResult w a [] y z) q (subst (λ (gs : List Frame). IsResult w a gs x z) e r)
  to_root zs (below {x = x} gs g e c s h) z r = to_root zs s z (result-up w a gs g.parent g.index x z c (subst (λ (hs : List Frame). IsResult w a hs x z) e r))

  finding_root : (zs : List Tree) {fs : List Frame} {x : Tree} {i : ℕ} → IsSearched w a root zs fs x i → (z : Tree) → IsFinding w a fs x z → IsFinding w a [] root z
  finding_root zs s z f = record { result = to_root zs s z f.result; ready = f.ready }

  place_searched : {zs : List Tree} {fs : List Frame} {x : Tree} {i : ℕ} → IsSearched w a root zs fs x i → AreSearched w a fs x i zs
  place_searched (at_root e q k) = k
  place_searched (below hs g e c u k) = k

  -- down to a child
  pub state-down : (old new : Found) (fs gs : List Frame) (x y : Tree) (i p : ℕ) → IsState w a root old new fs x i → (s : Step) → IsStep w a x i s → gs ≡ fs ++ record { parent = x; index = s.index } ∷ [] → y ≡ s.inner → IsState w a root old new gs y 0
  state-down old new fs gs x y i p h s t e q =
      let good = child-good w tables x s.index s.inner h.ready t.there in
      record {
        frames = subst (λ (hs : List Frame). AreReadyFrames w hs) (sym e) (frames-more w fs x s.index h.frames h.ready good.within);
        ready = subst (λ (u : Tree). IsReady w u) (sym q) good.ready;
        searched = below fs (record { parent = x; index = s.index }) e (t.there ∙ ap Some (sym q)) (further h.searched (here (place_searched h.searched))) (none_before gs y new.terms.keys);
        gains = h.gains;
        within = h.within;
      }
    where
      cut_place : (j : ℕ) → (j < i) ⊎ (i ≤ j)
      cut_place j = grind arith

      here : AreSearched w a fs x i new.terms.keys → AreSearched w a fs x s.index new.terms.keys
      here k j l u c z r = elim (cut_place j) [
        | inl b ↦ k j b u c z r
        | inr b ↦ absurd (passed-none w a fs x j u z c (t.passed j b l) r)
      ]

      further : {i j : ℕ} → IsSearched w a root new.terms.keys fs x i → AreSearched w a fs x j new.terms.keys → IsSearched w a root new.terms.keys fs x j
      further (at_root e q k) m = at_root e q m
      further (below hs g e c u k) m = below hs g e c u m

  -- one step up, or the end: all children are searched, and so is the term itself where it is an event
  event_or : (x : Tree) → ((e : TermEvent) × (x ≡ Event e)) ⊎ ((e : TermEvent) → x ≡ Event e → ⊥)
  event_or Nil = inr (λ e q. cc)
  event_or (Event f) = inl (f, refl)
  event_or (Join m xs) = inr (λ e q. cc)
  event_or (Choice xs) = inr (λ e q. cc)
  event_or (Tied y q) = inr (λ e q. cc)
  event_or (Loop y lo hi r) = inr (λ e q. cc)
  event_or (Walk n f t c) = inr (λ e q. cc)

  module _ (old mid new : Found) (fs : List Frame) (x : Tree) (i : ℕ) (all : Bool) (state : IsState w a root old mid fs x i) (own : GathersOwn w a fs x mid new all) where
    both : Gains (IsFinding w a [] root) old new
    both = gains_both (IsFinding w a [] root) (IsFinding w a fs x) (λ z f. finding_root mid.terms.keys state.searched z f) old mid new state.gains own.gains

    pub state-cut : all ≡ false → Gathers w a [] root old new all
    state-cut e = record { gains = both; bounded = own.bounded; whole = λ b. absurd (clash (sym e ∙ b)) }
      where
        clash : false ≡ true → ⊥
        clash q = cc

    module _ (passed : (p : ℕ) → i ≤ p → IsPassed w a x p) (yes : all ≡ true) where
      kept : IsSearched w a root new.terms.keys fs x i
      kept = more_found mid.terms.keys new.terms.keys own.gains.kept state.searched

      all_here : (z : Tree) → IsResult w a fs x z → IsAmong new.terms.keys z
      all_here z r = elim (event_or x) [
        | inl q ↦ own.whole yes q.0 q.1 z r
        | inr n ↦ child_here z (result-child w a fs x z n r)
      ]
        where
          child_here : (z : Tree) → (p : ℕ) × (y : Tree) × (child (permits_of w) x p ≡ Some y) × IsResult w a (fs ++ record { parent = x; index = p } ∷ []) y z → IsAmong new.terms.keys z
          child_here z (p, y, c, s) = elim (cases_lt p i) [
            | inl b ↦ place_searched kept p b y c z s
            | inr b ↦ absurd (passed-none w a fs x p y z c (passed p b) s)
          ]

      pub state-end : fs ≡ [] → Gathers w a [] root old new true
      state-end e = record { gains = both; bounded = subst (λ (b : Bool). IsBounded new.most new.terms.keys b) yes own.bounded; whole = λ b z r. root_all e kept z r }
        where
          root_all : fs ≡ [] → IsSearched w a root new.terms.keys fs x i → (z : Tree) → IsResult w a [] root z → IsAmong new.terms.keys z
          root_all e (at_root f q k) z r = all_here z (subst (λ (hs : List Frame). IsResult w a hs x z) (sym e) (subst (λ (y : Tree). IsResult w a [] y z) (sym q) r))
          root_all e (below hs g f c u k) z r = absurd (not_nil hs g [] (sym f ∙ e))

      pub state-up : (gs : List Frame) (f : Frame) → fs ≡ gs ++ f ∷ [] → IsState w a root old new gs f.parent (f.index + 1)
      state-up gs f e = record { frames = ready.0; ready = ready.1; searched = one_more kept; gains = both; within = own.bounded.within yes }
        where
          ready : AreReadyFrames w gs × IsReady w f.parent × (f.index < child_count w f.parent)
          ready = front-ready w gs f (subst (λ (hs : List Frame). AreReadyFrames w hs) e state.frames)

          there : child (permits_of w) f.parent f.index ≡ Some x → AreSearched w a gs f.parent f.index new.terms.keys → AreSearched w a gs f.parent (f.index + 1) new.terms.keys
          there c k p l u d z r = elim (cases_lt p f.index) [
            | inl b ↦ k p b u d z r
            | inr b ↦ all_here z (moved (omega arith) r)
          ]
            where
              moved : p ≡ f.index → IsResult w a (gs ++ record { parent = f.parent; index = p } ∷ []) u z → IsResult w a fs x z
              moved m s =
                  let o : Some u ≡ Some x = sym d ∙ (ap (child (permits_of w) f.parent) m ∙ c) in
                  let v : u ≡ x = cc in
                  subst (λ (hs : List Frame). IsResult w a hs x z) (sym e) (subst (λ (t : Tree). IsResult w a (gs ++ f ∷ []) t z) v (subst (λ (l : ℕ). IsResult w a (gs ++ record { parent = f.parent; index = l } ∷ []) u z) m s))

          further : {hs : List Frame} {t : Tree} {l m : ℕ} → IsSearched w a root new.terms.keys hs t l → AreSearched w a hs t m new.terms.keys → IsSearched w a root new.terms.keys hs t m
          further (at_root e q k) n = at_root e q n
          further (below hs g e c u k) n = below hs g e c u n

          one_more : IsSearched w a root new.terms.keys fs x i → IsSearched w a root new.terms.keys gs f.parent (f.index + 1)
          one_more (at_root r q k) = absurd (not_nil gs f [] (sym e ∙ r))
          one_more (below hs g r c u k) = turned (same_from_push hs gs g f (sym r ∙ e)) c u
            where
              turned : (hs ≡ gs) × (g ≡ f) → child (permits_of w) g.parent g.index ≡ Some x → IsSearched w a root new.terms.keys hs g.parent g.index → IsSearched w a root new.terms.keys gs f.parent (f.index + 1)
              turned (m, n) d v =
                  let v1 : IsSearched w a root new.terms.keys hs f.parent f.index = subst (λ (h : Frame). IsSearched w a root new.terms.keys hs h.parent h.index) n v in
                  let v2 : IsSearched w a root new.terms.keys gs f.parent f.index = subst (λ (ks : List Frame). IsSearched w a root new.terms.keys ks f.parent f.index) m v1 in
                  let d1 : child (permits_of w) f.parent f.index ≡ Some x = subst (λ (h : Frame). child (permits_of w) h.parent h.index ≡ Some x) n d in
                  further v2 (there d1 (place_searched v2))

-- an event that a look shows
pub taken-is : (x : Tree) (v : EventShown) (empty stored own : BlockValue) → x ≡ Event (event_of v) → ((n : ℕ) → has stored.instances n ≡ has (instances x) n) → empty ≡ record { instances = []; events = [] } → own ≡ record { instances = empty.instances ∪ stored.instances; events = [] }
    → IsTaken (record { event = v; at = own })
taken-is x v empty stored own e h n o = record {
  same = λ m. ap (λ (b : BlockValue). has b.instances m) o ∙ (has_union empty.instances stored.instances m ∙ ((λ i. has (ap (λ (b : BlockValue). b.instances) n i) m || h m i) ∙ ap (λ y. has (instances y) m) e));
  alone = ap (λ (b : BlockValue). b.events) o;
}

-- whether anything was found from the whole term

pub some_weight : (x : Tree) → 1 ≤ weight x
some_weight Nil = omega arith
some_weight (Event e) = omega arith
some_weight (Join m xs) = omega arith
some_weight (Choice xs) = omega arith
some_weight (Tied x q) = omega arith
some_weight (Loop x lo hi r) = omega arith
some_weight (Walk n f t c) = omega arith

module _ (v : NetsValue) (label : Label) (x : Tree) (a : ℕ) (labelled : label_number v.labels label ≡ Some a) (old new : Found) (empty : old.terms.keys ≡ []) (nothing : old.most ≡ 0) (all : Bool) (h : Gathers v.tables a [] x old new all) where
  successor : (z : Tree) → IsFinding v.tables a [] x z → IsSuccessor v label x z
  successor z f =
      let same : f.result.left ≡ z = let p = f.result.whole in cc in
      record {
        event = f.result.event;
        labelled = labelled ∙ ap Some (sym f.result.labelled);
        after = subst (λ (y : Tree). IsAfter (permits_of v.tables) x f.result.event y) same f.result.taken;
      }

  finding : (z : Tree) → IsSuccessor v label x z → IsResult v.tables a [] x z
  finding z s =
      let p : Some s.event.label ≡ Some a = sym s.labelled ∙ labelled in
      record { event = s.event; labelled = cc; left = z; taken = s.after; whole = refl }

  -- a term that was found weighs something
  none_found : all ≡ true → (z : Tree) → IsSuccessor v label x z → ⊥
  none_found t z s =
      let m = member_weight z new.terms.keys (h.whole t z (finding z s)) in
      let w = some_weight z in
      let b = h.bounded.within t in
      let e = h.gains.most in
      omega arith

  some_found : all ≡ false → (z : Tree) × IsSuccessor v label x z
  some_found t = go new.terms.keys refl (h.bounded.beyond t)
    where
      go : (zs : List Tree) → new.terms.keys ≡ zs → new.most < set_weight zs → (z : Tree) × IsSuccessor v label x z
      go [] e l = absurd (omega arith)
      go (z ∷ zs) e l = elim (h.gains.each z (subst (λ (us : List Tree). IsAmong us z) (sym e) (inl refl))) [
        | inl i ↦ absurd (subst (λ (us : List Tree). IsAmong us z) empty i)
        | inr f ↦ (z, successor z f)
      ]

  pub found_any : IsTrue (not all) ↔ ((z : Tree) × IsSuccessor v label x z)
  found_any = go all refl
    where
      go : (b : Bool) → all ≡ b → IsTrue (not b) ↔ ((z : Tree) × IsSuccessor v label x z)
      go true t = (λ no. absurd (true≢false (sym no)), λ s. absurd (none_found t s.0 s.1))
      go false t = (λ yes. some_found t, λ s. refl)

pub ruleset searching = (own-other)
