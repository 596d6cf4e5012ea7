-- The readers of charts and documents in the form that the code has are those of the productions.
use Rattle.std.proofs.Common.{ℕ, ◌≡◌, ◌++◌, if◌then◌else◌, Bool, true, false, cond, List, [], ◌∷◌, length, refl, Option, Some, None, Ok, Err, codes}
use Rattle.msc_base.specs.declared.place.Place.{Place}
use Rattle.msc_tokens.specs.declared.token.Token.{Token}
use Rattle.msc_tree.specs.declared.chart.Heading.{Heading}
use Rattle.msc_tree.specs.Charts.{Chart, Content, Document}
use Rattle.token_grammar.specs.Languages.{Read, ◌>>=◌, starts, just, seq_at, map_at, until_at, each_at, chain_at, tail_at, word_at}
use Rattle.token_grammar.specs.PartReaders.{name_at, ending_at}
use Rattle.token_grammar.proofs.Optionals.{mapped, paired}
use Rattle.msc_events.specs.Declarations.{Head, declared_by}
use Rattle.msc_events.specs.declared.head_parts.Heads.{Heads}
use Rattle.msc_events.specs.DeclarationReaders.{heading_at, head_at, head_words, heads_at}
use Rattle.msc_document.specs.DocumentGrammar.{chart_of}
use Rattle.msc_document.specs.DocumentReaders.{parts_of, headed, unheaded, ended, content_at, chart_at, parts_at, document_end_at, document_at}
use Rattle.msc_document.specs.ChartReaders.{chart_parts_at, charts_at, some_end_at, headed_at, unheaded_at, some_document_at}

-- ---- a chart

abbrev Inside : Type 0
Inside = Place × (List ℕ × (Unit {0} × (Heads × Content)))

abbrev Plain : Type 0
Plain = Place × (List ℕ × (Unit {0} × (List Head × Content)))

abbrev chart_from : Inside → Chart
chart_from p = chart_of p.0 p.1.0 p.1.1.1.0 p.1.1.1.1

abbrev chart_by : Plain → Chart
chart_by p = chart_of p.0 p.1.0 (declared_by p.1.1.1.0) p.1.1.1.1

module _ (n : ℕ) where
  abbrev with_content : Read Heads → Read (Heads × Content)
  with_content r = paired r (content_at n)

  behind_ending : (x : Token × List Token) (y : List ℕ × List Token) (z : Unit {0} × List Token) (r : Read Content) (h : List Head)
      → mapped chart_from (mapped (λ (p : Token × (List ℕ × (Unit {0} × (Heads × Content)))). (p.0.place, p.1)) (mapped (λ (b : List ℕ × (Unit {0} × (Heads × Content))). (x.0, b)) (mapped (λ (b : Unit {0} × (Heads × Content)). (y.0, b)) (mapped (λ (b : Heads × Content). (z.0, b)) (mapped (λ (c : Content). (declared_by h, c)) r)))))
      ≡ mapped chart_by (mapped (λ (p : Token × (List ℕ × (Unit {0} × (List Head × Content)))). (p.0.place, p.1)) (mapped (λ (b : List ℕ × (Unit {0} × (List Head × Content))). (x.0, b)) (mapped (λ (b : Unit {0} × (List Head × Content)). (y.0, b)) (mapped (λ (b : List Head × Content). (z.0, b)) (mapped (λ (c : Content). (h, c)) r)))))
  behind_ending x y z (Ok c) h = refl
  behind_ending x y z (Err e) h = refl

  behind_heads : (x : Token × List Token) (y : List ℕ × List Token) (z : Unit {0} × List Token) (r : Read (List Head))
      → mapped chart_from (mapped (λ (p : Token × (List ℕ × (Unit {0} × (Heads × Content)))). (p.0.place, p.1)) (mapped (λ (b : List ℕ × (Unit {0} × (Heads × Content))). (x.0, b)) (mapped (λ (b : Unit {0} × (Heads × Content)). (y.0, b)) (mapped (λ (b : Heads × Content). (z.0, b)) (paired (mapped declared_by r) (content_at n))))))
      ≡ mapped chart_by (mapped (λ (p : Token × (List ℕ × (Unit {0} × (List Head × Content)))). (p.0.place, p.1)) (mapped (λ (b : List ℕ × (Unit {0} × (List Head × Content))). (x.0, b)) (mapped (λ (b : Unit {0} × (List Head × Content)). (y.0, b)) (mapped (λ (b : List Head × Content). (z.0, b)) (paired r (content_at n))))))
  behind_heads x y z (Ok h) = behind_ending x y z (content_at n h.1) h.0
  behind_heads x y z (Err e) = refl

  behind_name : (x : Token × List Token) (y : List ℕ × List Token) (r : Read (Unit {0}))
      → mapped chart_from (mapped (λ (p : Token × (List ℕ × (Unit {0} × (Heads × Content)))). (p.0.place, p.1)) (mapped (λ (b : List ℕ × (Unit {0} × (Heads × Content))). (x.0, b)) (mapped (λ (b : Unit {0} × (Heads × Content)). (y.0, b)) (paired r (seq_at heads_at (content_at n))))))
      ≡ mapped chart_by (mapped (λ (p : Token × (List ℕ × (Unit {0} × (List Head × Content)))). (p.0.place, p.1)) (mapped (λ (b : List ℕ × (Unit {0} × (List Head × Content))). (x.0, b)) (mapped (λ (b : Unit {0} × (List Head × Content)). (y.0, b)) (paired r (until_at head_words head_at (content_at n))))))
  behind_name x y (Ok z) = behind_heads x y z (each_at head_words head_at (length z.1) z.1)
  behind_name x y (Err e) = refl

  behind_word : (x : Token × List Token) (r : Read (List ℕ))
      → mapped chart_from (mapped (λ (p : Token × (List ℕ × (Unit {0} × (Heads × Content)))). (p.0.place, p.1)) (mapped (λ (b : List ℕ × (Unit {0} × (Heads × Content))). (x.0, b)) (paired r (seq_at ending_at (seq_at heads_at (content_at n))))))
      ≡ mapped chart_by (mapped (λ (p : Token × (List ℕ × (Unit {0} × (List Head × Content)))). (p.0.place, p.1)) (mapped (λ (b : List ℕ × (Unit {0} × (List Head × Content))). (x.0, b)) (paired r (seq_at ending_at (until_at head_words head_at (content_at n))))))
  behind_word x (Ok y) = behind_name x y (ending_at y.1)
  behind_word x (Err e) = refl

  from_word : (r : Read Token)
      → mapped chart_from (mapped (λ (p : Token × (List ℕ × (Unit {0} × (Heads × Content)))). (p.0.place, p.1)) (paired r (seq_at name_at (seq_at ending_at (seq_at heads_at (content_at n))))))
      ≡ mapped chart_by (mapped (λ (p : Token × (List ℕ × (Unit {0} × (List Head × Content)))). (p.0.place, p.1)) (paired r (seq_at name_at (seq_at ending_at (until_at head_words head_at (content_at n))))))
  from_word (Ok x) = behind_word x (name_at x.1)
  from_word (Err e) = refl

  pub chart_is : (ts : List Token) → chart_parts_at n ts ≡ chart_at n ts
  chart_is ts = from_word (word_at (just (codes "msc")) ts)

  -- ---- a document with at least one token

  abbrev with_end : {A : Type 0} → Read A → Read (A × Option (Unit {0}))
  with_end r = r >>= λ x. if starts (just (codes "endmscdocument")) x.1 then (document_end_at x.1 >>= λ y. Ok ((x.0, Some y.0), y.1)) else Ok ((x.0, None), x.1)

  abbrev document_with : Heading × (List Chart × Unit {0}) → Document
  document_with p = record { heading = Some p.0; charts = p.1.0 }

  abbrev document_without : List Chart × Unit {0} → Document
  document_without p = record { heading = None; charts = p.0 }

  headed_end : (h : Heading) (cs : List Chart) (ts : List Token) (b : Bool) (r : Read (Unit {0}))
      → mapped document_with (mapped (λ (x : List Chart × Unit {0}). (h, x)) (mapped (λ (e : Unit {0}). (cs, e)) (cond b (r >>= λ e. Ok (tt, e.1)) (Ok (tt, ts)))))
      ≡ mapped parts_of (mapped headed (cond b (r >>= λ y. Ok (((h, cs), Some y.0), y.1)) (Ok (((h, cs), None), ts))))
  headed_end h cs ts true (Ok e) = refl
  headed_end h cs ts true (Err e) = refl
  headed_end h cs ts false r = refl

  headed_charts : (h : Heading) (r : Read (List Chart))
      → mapped document_with (mapped (λ (x : List Chart × Unit {0}). (h, x)) (paired (mapped (λ l. [] ++ l) r) some_end_at)) ≡ mapped parts_of (mapped headed (with_end (mapped (λ (l : List Chart). (h, l)) r)))
  headed_charts h (Ok cs) = headed_end h cs.0 cs.1 (starts (just (codes "endmscdocument")) cs.1) (document_end_at cs.1)
  headed_charts h (Err e) = refl

  from_heading : (r : Read Heading)
      → mapped document_with (paired r (seq_at (charts_at n) some_end_at)) ≡ mapped parts_of (mapped headed (with_end (r >>= λ x. each_at (just (codes "msc")) (chart_at n) (length x.1) x.1 >>= λ y. Ok ((x.0, y.0), y.1))))
  from_heading (Ok h) = headed_charts h.0 (each_at (just (codes "msc")) (chart_at n) (length h.1) h.1)
  from_heading (Err e) = refl

  unheaded_end : (c : Chart) (cs : List Chart) (ts : List Token) (b : Bool) (r : Read (Unit {0}))
      → mapped document_without (mapped (λ (e : Unit {0}). (c ∷ cs, e)) (cond b (r >>= λ e. Ok (tt, e.1)) (Ok (tt, ts))))
      ≡ mapped parts_of (mapped unheaded (cond b (r >>= λ y. Ok (((c, cs), Some y.0), y.1)) (Ok (((c, cs), None), ts))))
  unheaded_end c cs ts true (Ok e) = refl
  unheaded_end c cs ts true (Err e) = refl
  unheaded_end c cs ts false r = refl

  unheaded_charts : (c : Chart) (r : Read (List Chart))
      → mapped document_without (paired (mapped (λ l. (c ∷ []) ++ l) r) some_end_at) ≡ mapped parts_of (mapped unheaded (with_end (mapped (λ (l : List Chart). (c, l)) r)))
  unheaded_charts c (Ok cs) = unheaded_end c cs.0 cs.1 (starts (just (codes "endmscdocument")) cs.1) (document_end_at cs.1)
  unheaded_charts c (Err e) = refl

  from_chart : (r : Read Chart)
      → mapped document_without (paired (r >>= λ c. each_at (just (codes "msc")) (chart_at n) (length c.1) c.1 >>= λ y. Ok ((c.0 ∷ []) ++ y.0, y.1)) some_end_at)
      ≡ mapped parts_of (mapped unheaded (with_end (r >>= λ x. each_at (just (codes "msc")) (chart_at n) (length x.1) x.1 >>= λ y. Ok ((x.0, y.0), y.1))))
  from_chart (Ok c) = unheaded_charts c.0 (each_at (just (codes "msc")) (chart_at n) (length c.1) c.1)
  from_chart (Err e) = refl

  from_end : (r : Read (Unit {0})) → mapped (λ (e : Unit {0}). (let d : Document = record { heading = None; charts = [] } in d)) r ≡ mapped parts_of (mapped ended r)
  from_end (Ok e) = refl
  from_end (Err e) = refl

  pub document_is : (ts : List Token) → some_document_at n ts ≡ map_at parts_of (parts_at n) ts
  document_is ts = pick (starts (just (codes "mscdocument")) ts) (starts (just (codes "msc")) ts)
    where
      pick : (a b : Bool) → cond a (headed_at n ts) (cond b (unheaded_at n ts) (mapped (λ (e : Unit {0}). (let d : Document = record { heading = None; charts = [] } in d)) (document_end_at ts)))
          ≡ mapped parts_of (cond a (map_at headed (tail_at (just (codes "endmscdocument")) (chain_at (just (codes "msc")) heading_at (chart_at n)) document_end_at) ts)
          (cond b (map_at unheaded (tail_at (just (codes "endmscdocument")) (chain_at (just (codes "msc")) (chart_at n) (chart_at n)) document_end_at) ts) (map_at ended document_end_at ts)))
      pick true b = from_heading (heading_at ts)
      pick false true = from_chart (chart_at n ts)
      pick false false = from_end (document_end_at ts)

  pub some_is : (t : Token) (ts behind : List Token) → ts ≡ t ∷ behind → some_document_at n ts ≡ document_at n ts
  some_is t [] behind e = cc
  some_is t (u ∷ ts) behind e = document_is (u ∷ ts)
