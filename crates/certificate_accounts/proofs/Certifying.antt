-- From an account of a chart's term, and the way of a log, to a certificate that holds.
use Rattle.std.specs.Prelude.{ℕ, zero, suc, ◌+◌, ◌<◌, ◌≤◌, true, false, List, [], ◌∷◌, ◌≡◌, ◌⊎◌, Option, Some, refl, length, slice_get}
use Rattle.std.proofs.Common.{ap, ap₂, sym, ◌∙◌, arith, inl, inr, get_or}
use Rattle.std.specs.List.{range_with_len}
use Rattle.std.proofs.lemmas.List.FromFn.{length-range_with_len, get_or-range_with_len}
use Rattle.std.proofs.lemmas.Option.{slice_get_within, get_or_from_slice_get}
use Rattle.msc_base.specs.Patterns.{Mode, seq, Position, event_at, Before, empty, one, join, bind}
use Rattle.hmsc_graph.specs.Graphs.{Spot, Start, Goal, End}
use Rattle.chart_term.specs.NormalForms.{NetPermits}
use Rattle.chart_term.specs.Properties.{Each}
use Rattle.chart_term.specs.TermMeanings.{NetTerms, UpTo, aim, terms_of}
use Rattle.chart_term.specs.TermPatterns.{Shape, numbered, HasNoEvent, earlier}
use Rattle.chart_term.specs.TermRuns.{Runs, run_end, run_take, label_of}
use Rattle.chart_term.specs.Terms.{TermEvent, Tree, Nil, Tied, Loop, Walk, Row, parts, Part, Gap, ends, gap}
use Rattle.chart_term.proofs.Running.{runs_same}
use Rattle.term_laws.specs.Taking.{IsAfter}
use Rattle.term_laws.proofs.Permitting.{IsRegular, Fits}
use Rattle.term_laws.proofs.TakingSound.{IsClosed}
use Rattle.term_laws.proofs.TermLaws.{runs_are_linear_orders}
use Rattle.certificates.specs.Certificates.{Certificate, Empty, EventAt, Parts, Branch, Inner, Turns, Nodes, Certificates, no_certificates, certificate_and, Stops, no_stops, stop_and, count, PlacedShape, placed, place_at, label_at, HasEmpty, Shows, shows_empty, shows_event, shows_parts, shows_branch, shows_inner, shows_turns, shows_nodes, ShowsParts, shows_no_part, shows_part, ShowsBranch, shows_this, shows_that, ShowsTurns, shows_no_turn, shows_turn, ShowsNodes, shows_end, shows_node, Holds}
use Rattle.certificates.specs.CertificateLaws.{IsUnbegun, HasCertificate}
use Rattle.certificate_accounts.specs.Accounts.{Account, Accounts, RowAccount, Visits, Tells, tells_nothing, tells_event, tells_parts, tells_branch, tells_tie, tells_row, tells_walk, TellsAll, tells_none, tells_part, TellsOne, tells_this, tells_that, TellsRow, tells_over, tells_turn, tells_shut, tells_more, TellsWalk, tells_arrived, tells_visit}
use Rattle.certificate_accounts.specs.StepsBack.{NodeAccounts}
use Rattle.certificate_accounts.specs.Paths.{Path, path_end, path_step, AreAt, account_back}
use Rattle.certificates.proofs.OtherEvents.{into, out_of, into_out, out_into, event_into, before_into}
use Rattle.certificates.proofs.Places.{ArePlaces, places_of}
use Rattle.certificates.proofs.Unbegun.{rest_is, each_unbegun, as_end, empty_node}
use Rattle.certificate_accounts.proofs.MarkedShapes.{mark, marked, marked_alike, AreEvents, event_is}
use Rattle.certificate_accounts.proofs.StepsBack.{AreNodesTold, step_told}

module _ (w : NetTerms) (ev : ℕ → TermEvent) (over : (n m : ℕ) → get_or (w.net n).ends m false ≡ true → w.node n m ≡ Nil) (nodes : (n m : ℕ) → IsUnbegun (w.node n m)) where
  -- a certificate that shows what an account tells
  pub record Certifies (x : Tree) (s : Shape) : Type 0 where
    pub certificate : Certificate
    pub pattern : PlacedShape
    pub shows : Shows w x certificate pattern
    pub marks : marked pattern ≡ s
    pub events : AreEvents ev pattern

  record CertifiesAll (m : Mode) (xs : List Tree) (s : Shape) : Type 0 where
    certificates : Certificates
    pattern : PlacedShape
    shows : ShowsParts w m xs certificates pattern
    marks : marked pattern ≡ s
    events : AreEvents ev pattern

  record CertifiesOne (xs : List Tree) (s : Shape) : Type 0 where
    index : ℕ
    certificate : Certificate
    pattern : PlacedShape
    shows : ShowsBranch w xs index certificate pattern
    marks : marked pattern ≡ s
    events : AreEvents ev pattern

  record CertifiesTurns (x : Tree) (n : ℕ) (s : Shape) : Type 0 where
    certificates : Certificates
    pattern : PlacedShape
    shows : ShowsTurns w x certificates pattern
    counted : count certificates ≡ n
    marks : marked pattern ≡ s
    events : AreEvents ev pattern

  record CertifiesNodes (n : ℕ) (f : Spot) (s : Shape) : Type 0 where
    stops : Stops
    pattern : PlacedShape
    shows : ShowsNodes w n f stops pattern
    marks : marked pattern ≡ s
    events : AreEvents ev pattern

  loop_as : (x : Tree) (lo : ℕ) (hi : Option ℕ) (r : Row) (s : Shape) → r ≡ gap [] ends → Certifies (Loop x lo hi (gap [] ends)) s → Certifies (Loop x lo hi r) s
  loop_as x lo hi r s e h = rw e h

  walk_as : (n : ℕ) (f : Spot) (t : Goal) (c : List ℕ) (s : Shape) → f ≡ Start → c ≡ [] → Certifies (Walk n Start t []) s → Certifies (Walk n f t c) s
  walk_as n f t c s e g h = rw (e, g) h

  nodes_as : (n : ℕ) (f : Spot) (s : Shape) → f ≡ Start → CertifiesNodes n f s → CertifiesNodes n Start s
  nodes_as n f s e h = rw e at h

  of_turns : (x : Tree) (lo : ℕ) (hi : Option ℕ) (n : ℕ) (s : Shape) → UpTo hi n → (lo ≤ n) ⊎ HasEmpty w x → CertifiesTurns x n s → Certifies (Loop x lo hi (gap [] ends)) s
  of_turns x lo hi n s g l c = record { certificate = Turns c.certificates; pattern = c.pattern; shows = shows_turns c.shows (rw c.counted g) (rw c.counted l); marks = c.marks; events = c.events }

  mutual
    pub certified : {x : Tree} {a : Account} {s : Shape} → IsUnbegun x → Tells w ev x a s → Certifies x s
    certified u (tells_nothing h) = record { certificate = Empty; pattern = empty; shows = shows_empty h; marks = refl; events = tt }
    certified u (tells_event {e = e} {n = n} h) = record { certificate = EventAt n; pattern = one (record { event = e; place = n }); shows = shows_event; marks = refl; events = h }
    certified u (tells_parts {xs = xs} h) = let c = all_certified (each_unbegun xs u) h in record { certificate = Parts c.certificates; pattern = c.pattern; shows = shows_parts c.shows; marks = c.marks; events = c.events }
    certified u (tells_branch {xs = xs} h) = let c = one_certified (each_unbegun xs u) h in record { certificate = Branch (suc c.index) c.certificate; pattern = c.pattern; shows = shows_branch c.shows; marks = c.marks; events = c.events }
    certified u (tells_tie {q = q} h) = let c = certified u h in record { certificate = Inner c.certificate; pattern = bind c.pattern q; shows = shows_inner c.shows; marks = ap (λ s. bind s q) c.marks; events = c.events }
    certified u (tells_row {x = x} {lo = lo} {hi = hi} {r = r} {s = s} n v h g l) =
        loop_as x lo hi r s u.1 (of_turns x lo hi n s g (elim l [ inl i ↦ inl i | inr i ↦ inr i.1 ]) (row_certified (parts r) (ap parts u.1) u.0 h))
    certified u (tells_walk {n = n} {f = f} {t = t} {c = c} {s = s} h) =
        let d = nodes_as n f s u.0 (walk_certified t u.1 h) in
        walk_as n f t c s u.0 u.2 (record { certificate = Nodes d.stops; pattern = d.pattern; shows = shows_nodes u.1 d.shows; marks = d.marks; events = d.events })

    all_certified : {m : Mode} {xs : List Tree} {us : Accounts} {s : Shape} → Each IsUnbegun xs → TellsAll w ev m xs us s → CertifiesAll m xs s
    all_certified u tells_none = record { certificates = no_certificates; pattern = empty; shows = shows_no_part; marks = refl; events = tt }
    all_certified u (tells_part {m = m} h r) =
        let c = certified u.0 h in
        let d = all_certified u.1 r in
        record { certificates = certificate_and c.certificate d.certificates; pattern = join m c.pattern d.pattern; shows = shows_part c.shows d.shows; marks = ap₂ (λ s t. join m s t) c.marks d.marks; events = (c.events, d.events) }

    one_certified : {xs : List Tree} {i : ℕ} {a : Account} {s : Shape} → Each IsUnbegun xs → TellsOne w ev xs i a s → CertifiesOne xs s
    one_certified u (tells_this h) = let c = certified u.0 h in record { index = zero; certificate = c.certificate; pattern = c.pattern; shows = shows_this c.shows; marks = c.marks; events = c.events }
    one_certified u (tells_that h) = let c = one_certified u.1 h in record { index = suc c.index; certificate = c.certificate; pattern = c.pattern; shows = shows_that c.shows; marks = c.marks; events = c.events }

    row_certified : {x : Tree} {b : RowAccount} {n : ℕ} {s : Shape} (ps : List Part) → ps ≡ Gap [] ∷ [] → IsUnbegun x → TellsRow w ev x ps b n s → CertifiesTurns x n s
    row_certified _ e u tells_over = cc
    row_certified _ e u (tells_turn h r) = cc
    row_certified _ e u (tells_shut {c = c} {ps = ps} r) = end_certified ps (rest_is c ps e) r
    row_certified _ e u (tells_more {c = c} {ps = ps} h av r) =
        let d = certified u h in
        let i = row_certified (Gap c ∷ ps) e u r in
        record { certificates = certificate_and d.certificate i.certificates; pattern = join seq d.pattern i.pattern; shows = shows_turn d.shows i.shows; counted = ap suc i.counted; marks = ap₂ (λ s t. join seq s t) d.marks i.marks; events = (d.events, i.events) }

    end_certified : {x : Tree} {b : RowAccount} {n : ℕ} {s : Shape} (ps : List Part) → ps ≡ [] → TellsRow w ev x ps b n s → CertifiesTurns x n s
    end_certified _ e tells_over = record { certificates = no_certificates; pattern = empty; shows = shows_no_turn; counted = refl; marks = refl; events = tt }
    end_certified _ e (tells_turn h r) = cc
    end_certified _ e (tells_shut r) = cc
    end_certified _ e (tells_more h av r) = cc

    walk_certified : {n : ℕ} {f : Spot} {c : List ℕ} {v : Visits} {s : Shape} (t : Goal) → aim t ≡ End → TellsWalk w ev n f t c v s → CertifiesNodes n f s
    walk_certified t g (tells_arrived {n = n} m i a) = let e = as_end w t n m g a in record { stops = stop_and m Empty no_stops; pattern = empty; shows = shows_end i e (shows_empty (empty_node w (w.node n m) (over n m e))); marks = refl; events = tt }
    walk_certified t g (tells_visit {n = n} m i h av r) =
        let c = certified (nodes n m) h in
        let d = walk_certified t g r in
        record { stops = stop_and m c.certificate d.stops; pattern = join seq c.pattern d.pattern; shows = shows_node i c.shows d.shows; marks = ap₂ (λ s t. join seq s t) c.marks d.marks; events = (c.events, d.events) }

  -- the places of a log, one after another
  at_range : (i n k l : ℕ) → slice_get (range_with_len i n) k ≡ Some l → l ≡ i + k
  at_range i n k l e =
      let b = slice_get_within (range_with_len i n) k l e in
      sym (get_or_from_slice_get (range_with_len i n) k l 0 e) ∙ get_or-range_with_len i n k 0 (rw (length-range_with_len i n) at b)

  -- the labels of the log are those of the events at its places
  abbrev pub AreLabels : List ℕ → Type 0
  AreLabels run = (k : ℕ) → k < length run → slice_get run k ≡ Some (ev (suc k)).label

  held : (x : Tree) (s : Shape) (run : List ℕ) → (c : Certifies x s) → (place : Position (marked c.pattern) → ℕ)
      → ArePlaces place (λ i. label_of (event_at numbered (marked c.pattern) i)) (Before numbered (marked c.pattern)) (range_with_len 1 (length run)) → AreLabels run → Holds w x run c.certificate
  held x s run c place a labels = record {
    pattern = c.pattern;
    shows = c.shows;
    labelled = λ i. let (k, e, l) = a.labelled (into c.pattern mark i) in (k, place_is i k l, label_is i k l);
    once = λ i j e. sym (out_into c.pattern mark i) ∙ ap (out_of c.pattern mark) (a.once (into c.pattern mark i) (into c.pattern mark j) (sym (as_place i) ∙ e ∙ as_place j)) ∙ out_into c.pattern mark j;
    every = λ k l. let (i, e) = a.every k (rw (← length-range_with_len 1 (length run)) at l) in (out_of c.pattern mark i, as_place (out_of c.pattern mark i) ∙ ap place (into_out c.pattern mark i) ∙ e);
    forward = λ i j b. let r = a.forward (into c.pattern mark i) (into c.pattern mark j) (before_into placed numbered c.pattern mark (marked_alike c.pattern) i j b) in let e = as_place i in let f = as_place j in omega (arith, r, e, f);
  }
    where
      place_of_label : (i : Position c.pattern) → label_of (event_at numbered (marked c.pattern) (into c.pattern mark i)) ≡ place_at c.pattern i
      place_of_label i = ap label_of (event_into placed numbered c.pattern mark (marked_alike c.pattern) i)

      place_is : (i : Position c.pattern) (k : ℕ) → slice_get (range_with_len 1 (length run)) k ≡ Some (label_of (event_at numbered (marked c.pattern) (into c.pattern mark i))) → place_at c.pattern i ≡ suc k
      place_is i k l = let e = at_range 1 (length run) k (label_of (event_at numbered (marked c.pattern) (into c.pattern mark i))) l in sym (place_of_label i) ∙ e ∙ one_more k
        where
          one_more : (k : ℕ) → 1 + k ≡ suc k
          one_more k = omega arith

      as_place : (i : Position c.pattern) → place_at c.pattern i ≡ place (into c.pattern mark i)
      as_place i = let (k, e, l) = a.labelled (into c.pattern mark i) in place_is i k l ∙ sym e

      label_is : (i : Position c.pattern) (k : ℕ) → slice_get (range_with_len 1 (length run)) k ≡ Some (label_of (event_at numbered (marked c.pattern) (into c.pattern mark i))) → slice_get run k ≡ Some (label_at c.pattern i)
      label_is i k l =
          let b = slice_get_within (range_with_len 1 (length run)) k (label_of (event_at numbered (marked c.pattern) (into c.pattern mark i))) l in
          labels k (rw (length-range_with_len 1 (length run)) at b) ∙ ap (λ n. Some (ev n).label) (sym (place_is i k l)) ∙ ap (λ e. Some e.label) (event_is ev c.pattern c.events i)

  pub run_held : (x : Tree) (a : Account) (s : Shape) (run : List ℕ) → IsUnbegun x → Tells w ev x a s → Runs s (range_with_len 1 (length run)) → AreLabels run → HasCertificate w x run
  run_held x a s run u h r labels =
      let c = certified u h in
      let o = (runs_are_linear_orders.exact (marked c.pattern) (range_with_len 1 (length run))).to (rw (← c.marks) at r) in
      let p = places_of (λ i. label_of (event_at numbered (marked c.pattern) i)) (Before numbered (marked c.pattern)) o.order o.linear (range_with_len 1 (length run)) o.are in
      record { certificate = c.certificate; holds = held x s run c p.0 p.1 labels }

-- the account at the start of a way
module _ (k : NetPermits) (node : ℕ → ℕ → Tree) (ev : ℕ → TermEvent) (nodes : NodeAccounts) (IsGood : Tree → Type 0) (closed : IsClosed k node false IsGood)
    (fits : (x y : Tree) (q : List (ℕ × ℕ)) (e : TermEvent) → IsGood (Tied x q) → IsAfter k x e y → IsRegular k node false y × Fits k node false (earlier q e) y)
    (told_nodes : (place : ℕ) → AreNodesTold k node ev nodes place) (goes : (x y : Tree) (e : TermEvent) → IsAfter k x e y → IsGood x → IsGood y) where
  pub path_told : {x z : Tree} {es : List TermEvent} (h : Path k x es z) → IsGood x → (i : ℕ) → AreAt ev i es → (a : Account) (s : Shape) → Tells (terms_of k node) ev z a s → HasNoEvent s
      → (t : Shape) × Tells (terms_of k node) ev x (account_back k nodes h i a) t × Runs t (range_with_len i (length es))
  path_told path_end g i at a s t n = (s, t, run_end n)
  path_told (path_step {x = x} {y = y} {e = e} h r) g i at a s t n =
      let j = path_told r (goes x y e h g) (i + 1) at.1 a s t n in
      let o = step_told k node ev nodes i IsGood closed fits (told_nodes i) h g at.0 (account_back k nodes r (i + 1) a) j.0 j.1 in
      (o.before, o.tells, run_take o.takes (runs_same j.2 o.same_as))
